-- From 0 ≡ 1, which `cc` proves of two constructors that are taken for one, anything follows.
-- Assumes nothing.
use Prim.Native.Nat.{ℕ}
use mathlib.Core.Path.{◌≡◌}
use native.Mathlib.Omega.{arith}

pub never : {C : Type 0} → ◌≡◌ {A = ℕ} 0 1 → C
never z = absurd (omega arith)
