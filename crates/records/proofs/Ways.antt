-- A variable's binding, and the way to it: where none is to be passed the binding is there, and past one it is found from the next.
-- Assumes nothing.
use Prim.Native.Nat.{ℕ, zero, suc, ◌+◌, ◌≤◌}
use mathlib.Core.Path.{◌≡◌, ◌∙◌}
use mathlib.Core.List.{List}
use native.Mathlib.Omega.{arith}
use Rattle.records.specs.Links.{link_at, found_from}

module _ (m : List ℕ) (h : ℕ) where
  pub l_found : (i : ℕ) {g x : ℕ} → i ≤ 0 → x ≡ link_at m h 0 → found_from m h i ≡ g → x ≡ g
  unfolding found_from
  l_found zero z q e = q ∙ e
  l_found (suc i) z q e = absurd (omega arith)

  pub l_next : (i j : ℕ) {g h' : ℕ} → i ≡ j + 1 → h' ≡ link_at m h 2 → found_from m h i ≡ g → found_from m h' j ≡ g
  unfolding found_from
  l_next zero j z q e = absurd (omega arith)
  l_next (suc i) j z q e = let k : j ≡ i = omega arith in rw (q, k) e
