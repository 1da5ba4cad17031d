-- What is accepted is exactly the words of its term, and the term is a rule: it is what the readers find, and that is good.
-- Assumes nothing.
use Prim.Native.Nat.{ℕ, ◌≤◌}
use mathlib.Core.Path.{◌≡◌, refl, ap, ◌∙◌, subst}
use mathlib.Core.Bool.{Bool, true, false, cond}
use mathlib.Core.List.{List, ◌++◌, append-nil}
use native.Mathlib.Omega.{arith}
use lib.Dec.{ltb, eqb}
use lib.ListN.{length, drop_of_length-le}
use borrow.Author.Tests.{ltb-false}
use Rattle.language.specs.Term.{rules, Term}
use Rattle.language.specs.Setting.{Setting}
use Rattle.language.specs.Kinds.{known, Has}
use Rattle.language.specs.Words.{words}
use Rattle.language.specs.Scope.{Scoped}
use Rattle.language.specs.Limits.{deepest, most_words, Kinded, Rule}
use Rattle.language.specs.Read.{no_place, Got, found, fault, term, accepted, reading, closed, ended, read}
use Rattle.trust.specs.Promises.{Fit, AcceptedAreRules, ArmsCanBeTaken}
use Rattle.trust.proofs.Good.{Holds, held, left, Good, term_good, holds_then}

-- what was accepted: good, in few enough words, in a known version
record Whole (S : Setting) (s : List ℕ) (t : Term) (to : ℕ) : Type 0 where
  good : Good S s deepest 0 0 t to
  short : length s ≤ most_words
  versed : known S.version ≡ true

closed_good : (S : Setting) (s : List ℕ) → Holds (Whole S s) (closed S s 0)
unfolding closed
closed_good S s = go (known S.version) refl (eqb (length s) 0) (ltb most_words (length s)) (ltb-false most_words (length s))
  where
    whole : {g : Got Term} → Holds (Good S s deepest 0 0) g → known S.version ≡ true → length s ≤ most_words → Holds (Whole S s) g
    whole (held x) k l = held record { good = x; short = l; versed = k }
    whole left k l = left

    go : (a : Bool) → known S.version ≡ a → (b c : Bool) → (c ≡ false → length s ≤ most_words)
        → Holds (Whole S s) (cond a (cond b (fault 1 no_place) (cond c (fault 2 no_place) (term S s deepest 0 0))) (fault 11 no_place))
    go true k true c few = left
    go true k false true few = left
    go true k false false few = whole (term_good S s deepest 0 0) k (few refl)
    go false k b c few = left

ended_taken : (S : Setting) (s : List ℕ) (t : Term) (to : ℕ) → Whole S s t to → Holds (λ t to. (i : ℕ) × (length s ≤ i) × Whole S s t i) (ended s t to)
unfolding ended
ended_taken S s t to x = go (ltb to (length s)) refl
  where
    go : (b : Bool) → ltb to (length s) ≡ b → Holds (λ t to. (i : ℕ) × (length s ≤ i) × Whole S s t i) (cond b (fault 8 to) (found t to))
    go true e = left
    go false e = held (to, ltb-false to (length s) e, x)

reading_accepted : {g : Got Term} {Q : Term → Type 0} {t : Term} → Holds (λ u to. Q u) g → reading g ≡ accepted t → Q t
reading_accepted {Q} {t} (held {a} q) e = let z : a ≡ t = cc in subst Q z q
reading_accepted left e = let z : ◌≡◌ {A = ℕ} 0 1 = cc in absurd (omega arith)

whole : (S : Setting) (ws : List ℕ) (t : Term) → read S ws ≡ accepted t → (to : ℕ) × (length ws ≤ to) × Whole S ws t to
unfolding read
whole S ws t e = reading_accepted (holds_then (ended ws) (closed_good S ws) (λ u to x. ended_taken S ws u to x)) e

-- an accepted term is closed, of the kinds of its version, and has as many words as were given, whether or not these fit
pub accepted_closed : (S : Setting) (ws : List ℕ) (t : Term) → read S ws ≡ accepted t → Scoped rules 0 0 t
accepted_closed S ws t e = (whole S ws t e).2.good.scoped 0

pub accepted_kinds : (S : Setting) (ws : List ℕ) (t : Term) → read S ws ≡ accepted t → Kinded (Has S.version) t
accepted_kinds S ws t e = (whole S ws t e).2.good.kinds

pub accepted_length : (S : Setting) (ws : List ℕ) (t : Term) → read S ws ≡ accepted t → (length ws ≡ length (words rules t)) × (length ws ≤ most_words)
accepted_length S ws t e = let (to, l, x) = whole S ws t e in let h = x.good.held in (omega (arith, h.past, h.within), x.short)

pub arms_can_be_taken : ArmsCanBeTaken
arms_can_be_taken S ws t e = (whole S ws t e).2.good.live

pub accepted_are_rules : AcceptedAreRules
accepted_are_rules S ws t f e =
    let (to, l, x) = whole S ws t e in
    let g = x.good in
    let q : ws ≡ words rules t
    = g.held.words f ∙ ap (λ (r : List ℕ). words rules t ++ r) (drop_of_length-le ws l) ∙ append-nil (words rules t) in (
      q,
      record {
        versed = x.versed;
        kinds = g.kinds;
        closed = g.scoped 0;
        ranged = g.ranged f;
        shallow = g.shallow;
        short = rw (← q) x.short;
        live = g.live;
      },
    )

pub accepted_rule : (S : Setting) (ws : List ℕ) (t : Term) → Fit ws → read S ws ≡ accepted t → Rule S t
accepted_rule S ws t f e = (accepted_are_rules S ws t f e).1
