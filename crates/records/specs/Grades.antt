-- What a record tells of a value without a walk over it, as parts may be shared: whether it holds a function, or is deeper than 64; and how many
-- words it is written in. Both are capped.
use Rattle.std.specs.Prelude.{ℕ, ◌+◌, ◌-◌, ◌^◌, max, min, cond, leb}
use Rattle.language.specs.Limits.{deepest}
use Rattle.ticks.specs.Tick.{Closure, Closures, c_fun, c_con, c_num, c_nil, c_cons}

-- A value's grade: its depth up to the deepest that is written; one more for all that are deeper; two more for all that hold a function
abbrev pub too_deep : ℕ
too_deep = deepest + 1

abbrev pub holding : ℕ
holding = deepest + 2

-- the grade of a constructor whose arguments have grades up to g
unfoldable pub raised : ℕ → ℕ
raised g = cond (leb holding g) holding (cond (leb deepest g) too_deep (g + 1))

unfoldable mutual
  unfolding raised

  pub grade : Closure → ℕ
  grade (c_fun o a b ks xs) = holding
  grade (c_con t cs) = raised (grades 0 cs)
  grade (c_num n) = 1

  -- the highest of g and of the grades of cs
  pub grades : ℕ → Closures → ℕ
  grades g c_nil = g
  grades g (c_cons c cs) = grades (max g (grade c)) cs

-- The place of a value's last word, counted from 0, up to the highest number of 64 bits. A function is not written
abbrev pub highest : ℕ
highest = 2 ^ 64 - 1

abbrev pub capped : ℕ → ℕ
capped n = min n highest

unfoldable mutual
  pub last : Closure → ℕ
  last (c_fun o a b ks xs) = 0
  last (c_con t cs) = lasts 1 cs
  last (c_num n) = 2

  -- behind a word at the place n there follow the words of cs
  pub lasts : ℕ → Closures → ℕ
  lasts n c_nil = n
  lasts n (c_cons c cs) = lasts (capped (n + last c + 1)) cs
