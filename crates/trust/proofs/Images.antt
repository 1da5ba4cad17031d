-- The image of an accepted rule keeps to its ranges, and its words fit: an accepted term is a rule, in a rule's ranges. So no rule has more than fifteen
-- arguments anywhere, and no image more than sixteen; a worked rule has fifteen.
-- Assumes nothing.
use Prim.Native.Nat.{◌+◌, ◌≤◌}
use mathlib.Core.Path.{refl}
use native.Mathlib.Omega.{arith}
use Rattle.language.specs.Term.{Lang, rules, images, Term, Terms, Arms, size}
use Rattle.language.specs.Kinds.{most_arguments, oldest, known, head_of}
use Rattle.language.specs.Setting.{in_version}
use Rattle.language.specs.Words.{added}
use Rattle.language.specs.Limits.{Ranged, Rangedᵗ, Rangedᵃ, r_var, r_kvar, r_fun, r_call, r_bind, r_con, r_cases, r_num, r_op, r_nil, r_cons, r_none, r_arm}
use Rattle.language.specs.Run.{atom}
use Rattle.language.specs.Image.{downto, passing, image}
use Rattle.language.specs.Read.{then, made, second, many, opened, term, closed, ended, read}
use Rattle.language.specs.Cases.{passes_fifteen}
use Rattle.trust.specs.Promises.{AcceptedImagesFit, widest, widestᵗ, widestᵃ, FifteenAndSixteen}
use Rattle.trust.proofs.Accepted.{accepted_rule}
use Rattle.trust.proofs.Ranges.{words_fit, images_in_range}

pub accepted_images_fit : AcceptedImagesFit
accepted_images_fit S ws t f e = let r = images_in_range t (accepted_rule S ws t f e).ranged in (r, words_fit images (image t) r)

-- the ranges of a language bound the arguments
module _ (L : Lang) where
  mutual
    unfolding widest

    wide : {t : Term} → Ranged L t → widest L t ≤ most_arguments + added L
    wide (r_var l) = omega arith
    wide (r_kvar k l) = omega arith
    wide (r_fun p l u x) = omega (arith, wide x)
    wide (r_call l u x y) = omega (arith, wide x, wideᵗ y)
    wide (r_bind x y) = omega (arith, wide x, wide y)
    wide (r_con l u y) = omega (arith, wideᵗ y)
    wide (r_cases l u x y) = omega (arith, wide x, wideᵃ y)
    wide (r_num l) = omega arith
    wide (r_op l u y) = omega (arith, wideᵗ y)

    wideᵗ : {ts : Terms} → Rangedᵗ L ts → widestᵗ L ts ≤ most_arguments + added L
    wideᵗ r_nil = omega arith
    wideᵗ (r_cons x y) = omega (arith, wide x, wideᵗ y)

    wideᵃ : {ps : Arms} → Rangedᵃ L ps → widestᵃ L ps ≤ most_arguments + added L
    wideᵃ r_none = omega arith
    wideᵃ (r_arm l u x y) = omega (arith, wide x, wideᵃ y)

pub fifteen_and_sixteen : FifteenAndSixteen
unfolding read known closed ended term then made second many opened head_of passing downto atom size image widest
fifteen_and_sixteen = record {
  most = λ S ws t f e. (wide rules (accepted_rule S ws t f e).ranged, wide images (accepted_images_fit S ws t f e).0);
  reached = (in_version oldest, passes_fifteen.rule, _, refl, refl, refl);
}
