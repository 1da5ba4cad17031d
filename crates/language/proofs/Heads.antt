-- The ways out of a head's tests, in the words of the code: one law for each. At the end, the way of a head that is given by its kind and its low
-- byte.
-- Assumes nothing.
use Prim.Native.Nat.{ℕ, zero, suc, ◌/◌, ◌%◌, ◌<◌, ◌≤◌}
use mathlib.Core.Path.{◌≡◌, refl, sym, ap, ◌∙◌}
use native.Mathlib.Omega.{arith}
use lib.ListN.{get_or-eq_default}
use borrow.Author.Tests.{lt-ltb, le-ltb, le-leb, lt-leb, eq-eqb, ne_eqb}
use Rattle.language.specs.Kinds.{most_byte, no_row, kinds, row_at, Has, row_of, allowed, tested, Head, Refused, Opens, head_of}
use Rattle.language.specs.Words.{head}
use Rattle.language.specs.declared.Row.{Row}

module _ (v q w : ℕ) {r : Row} (e : r ≡ row_of w) where
  of_row : {h : Head} → h ≡ tested r v q (w % 256) → h ≡ head_of v q w
  unfolding head_of
  of_row k = k ∙ ap (λ x. tested x v q (w % 256)) e

  pub wrong_kind : (r.stands ≡ q → ⊥) → Refused 4 ≡ head_of v q w
  unfolding tested allowed
  wrong_kind n = of_row (simp (ne_eqb _ _ n))

  pub too_early : r.stands ≡ q → v < r.first → Refused 4 ≡ head_of v q w
  unfolding tested allowed
  too_early s f = of_row (simp (eq-eqb _ _ s, lt-leb _ _ f))

  pub too_late : r.stands ≡ q → r.first ≤ v → r.last < v → Refused 4 ≡ head_of v q w
  unfolding tested allowed
  too_late s f l = of_row (simp (eq-eqb _ _ s, le-leb _ _ f, lt-leb _ _ l))

  module _ (s : r.stands ≡ q) (f : r.first ≤ v) (u : v ≤ r.last) where
    pub too_low : w % 256 < r.low → Refused 5 ≡ head_of v q w
    unfolding tested allowed
    too_low l = of_row (simp (eq-eqb _ _ s, le-leb _ _ f, le-leb _ _ u, lt-ltb _ _ l))

    pub too_high : r.low ≤ w % 256 → r.high < w % 256 → Refused 5 ≡ head_of v q w
    unfolding tested allowed
    too_high l h = of_row (simp (eq-eqb _ _ s, le-leb _ _ f, le-leb _ _ u, le-ltb _ _ l, lt-ltb _ _ h))

    pub opens : r.low ≤ w % 256 → w % 256 ≤ r.high → Opens r ≡ head_of v q w
    unfolding tested allowed
    opens l h = of_row (simp (eq-eqb _ _ s, le-leb _ _ f, le-leb _ _ u, le-ltb _ _ l, le-ltb _ _ h))

pub ruleset ways = (wrong_kind, too_early, too_late, too_low, too_high, opens)

-- the row of a word of the kind k
pub row_of_kind : (w k : ℕ) {r : Row} → w / 256 ≡ k → row_at k ≡ r → r ≡ row_of w
unfolding row_of
row_of_kind w k e q = rw (e, q)

-- k is none of 1 to n, as a match says of what is left; and so the row of a word of none of the kinds from 1 on
abbrev pub Rest : ℕ → ℕ → Type 0
Rest zero k = Unit {0}
Rest (suc n) k = Rest n k × (k ≡ suc n → ⊥)

past : (n k : ℕ) → Rest n k → 0 < k → n < k
past zero k h l = l
past (suc n) k h l = let m = past n k h.0 l in let d : k ≡ suc n → ⊥ = h.1 in omega arith

pub row_of_rest : (w : ℕ) → Rest 11 (w / 256) → no_row ≡ row_of w
unfolding row_of
row_of_rest w h = go (w / 256) h
  where
    go : (k : ℕ) → Rest 11 k → no_row ≡ row_at k
    go zero h = refl
    go (suc k) h = let l = past 11 (suc k) h (omega arith) in sym (get_or-eq_default kinds no_row {n = suc k} (omega arith))

-- the row of the kind k, where a head of that kind stands
pub of_kind : (w k a : ℕ) {r : Row} → w ≡ head k a → a ≤ most_byte → row_at k ≡ r → r ≡ row_of w
unfolding row_of
of_kind w k a e l q = let d : w / 256 ≡ k = omega arith in rw (d, q)

-- a head of a kind that stands in the version and whose low byte is in its range opens its row
pub head_opens : (v q w k a : ℕ) {r : Row} → Has v k → w ≡ head k a → a ≤ most_byte → row_at k ≡ r → r.stands ≡ q → r.low ≤ a → a ≤ r.high
    → Opens r ≡ head_of v q w
head_opens v q w k a {r} x e l i s lo hi =
    let m : w % 256 ≡ a = omega arith in
    opens v q w (of_kind w k a e l i) s (rw (← i) x.since) (rw (← i) x.until) (rw m lo) (rw m hi)
