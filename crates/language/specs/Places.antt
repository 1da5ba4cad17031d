-- Words that stand in a table of words, from one place up to another: what the readers' and the writers' contracts are made of.
use Rattle.std.specs.Prelude.{ℕ, ◌+◌, ◌≡◌, List, ◌++◌, length, drop}

-- the words ws stand in s from the place `at` up to the place `to`
pub record Held (s ws : List ℕ) (at to : ℕ) : Type 0 where
  pub words : drop at s ≡ ws ++ drop to s
  pub past : to ≡ at + length ws
