-- Marks stand for tags and arities: two marks are one exactly where tag and arity are, and the front of a table of marks, with one more stored behind
-- it, stands for one arm more.
-- Assumes nothing.
use Prim.Native.Nat.{ℕ, ◌+◌, ◌/◌, ◌%◌, ◌<◌}
use mathlib.Core.Path.{◌≡◌, refl, ap, ◌∙◌}
use mathlib.Core.Bool.{Bool, true, false}
use mathlib.Core.List.{List, [], ◌∷◌, ◌++◌, map-append}
use native.Mathlib.Omega.{arith}
use native.Mathlib.Numerals.{add-one}
use lib.Dec.{eqb}
use borrow.Author.Tests.{eq-eqb, ne_eqb}
use lib.ListN.{length, take, set}
use lib.Seq.{take-suc-set}
use Rattle.std.specs.List.{list_any}
use Rattle.language.specs.Run.{both}
use Rattle.language.specs.Dead.{dead}
use Rattle.language.proofs.Clash.{never}
use Rattle.language.proofs.Forms.{both_same, same_both}
use Rattle.arities.specs.Marks.{mark_of, unmark, unmarked}

-- a mark is another exactly where tag and arity are
same_mark : (x y : ℕ) → eqb y x ≡ both (x / 256) (x % 256) (y / 256) (y % 256)
same_mark x y = go (both (x / 256) (x % 256) (y / 256) (y % 256)) refl
  where
    go : (e : Bool) → both (x / 256) (x % 256) (y / 256) (y % 256) ≡ e → eqb y x ≡ e
    go true e = let p = same_both (x / 256) (x % 256) (y / 256) (y % 256) e in eq-eqb y x (omega (arith, p.0, p.1))
    go false e = ne_eqb y x (λ q. let p = rw q at e in let s = both_same (x / 256) (x % 256) in never cc)

any_mark : (x : ℕ) (marks : List ℕ) → list_any (λ y. eqb y x) marks ≡ dead (x / 256) (x % 256) (unmarked marks)
unfolding unmarked dead
any_mark x [] = refl
any_mark x (y ∷ marks) = rw (same_mark x y, any_mark x marks)

pub among : (x : ℕ) (marks : List ℕ) {b : Bool} → b ≡ list_any (λ y. eqb y x) marks → b ≡ dead (x / 256) (x % 256) (unmarked marks)
among x marks e = e ∙ any_mark x marks

-- one mark more
unmark_mark : (w m : ℕ) → m < 256 → unmark (mark_of w m) ≡ (w % 256, m)
unmark_mark w m l =
    let t : mark_of w m / 256 ≡ w % 256 = omega arith in
    let n : mark_of w m % 256 ≡ m = omega arith in
    rw (t, n)

pub marked_more : (ms : List ℕ) (k w m : ℕ) → k < length ms → m < 256
    → unmarked (take (k + 1) (set ms k (mark_of w m))) ≡ unmarked (take k ms) ++ ((w % 256, m) ∷ [])
unfolding unmarked
marked_more ms k w m h l = simp add-one (ap unmarked (take-suc-set ms k (mark_of w m) h)
    ∙ map-append unmark (take k ms) (mark_of w m ∷ []) ∙ ap (λ x. unmarked (take k ms) ++ (x ∷ [])) (unmark_mark w m l))
