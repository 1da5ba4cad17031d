-- What the contracts of the builder are made of: what records tell of the values in them, and a constructor's record built.
use Rattle.std.specs.Prelude.{ℕ, ◌+◌, ◌<◌, ◌≡◌, List, length, Option, Some, None}
use Rattle.ticks.specs.Tick.{Closure, Closures, c_con}
use Rattle.records.specs.Links.{record_words, Grown}
use Rattle.records.specs.Grades.{grade, grades, last, lasts}
use Rattle.records.specs.Memory.{Val, Vals}
use Rattle.records.specs.declared.Records.{Records}

-- of whatever value the records m hold at v, g is the grade, and l the place of the last word
pub record Tells (m : List ℕ) (v g l : ℕ) : Type 0 where
  pub graded : (s : List ℕ) (n : ℕ) (c : Closure) → Val s m n v c → g ≡ grade c
  pub ended : (s : List ℕ) (n : ℕ) (c : Closure) → Val s m n v c → l ≡ last c

-- of a constructor with the values at vs for arguments: g is the highest of their grades, and l the place of its last word. Its head and its count
-- stand at 0 and 1, and then its arguments
pub record Summed (m vs : List ℕ) (g l : ℕ) : Type 0 where
  pub graded : (s : List ℕ) (n : ℕ) (cs : Closures) → Vals s m n vs cs → g ≡ grades 0 cs
  pub ended : (s : List ℕ) (n : ℕ) (cs : Closures) → Vals s m n vs cs → l ≡ lasts 1 cs

-- the record at n, behind all that are in use, holds the constructor with the tag t and the values at vs for arguments, and nothing else changed
pub record Built (m m' : List ℕ) (n t : ℕ) (vs : List ℕ) : Type 0 where
  pub grown : Grown m m' n (n + record_words)
  pub says : (s : List ℕ) (cs : Closures) → Vals s m n vs cs → Val s m' (n + record_words) n (c_con t cs)

-- it was built in the first free record, at n, and the next is at n'; or there is none, and nothing changed
pub data BuiltOr (m m' : List ℕ) (n n' t : ℕ) (vs : List ℕ) : Option ℕ → Type 0 where
  is_built : {r : ℕ} → r ≡ n → n' ≡ n + record_words → Built m m' n t vs → BuiltOr m m' n n' t vs (Some r)
  not_built : length m < n + record_words → m' ≡ m → n' ≡ n → BuiltOr m m' n n' t vs None

-- a run's records after that: they are over the same lent memory
pub record Builds (o o' : Records) (t : ℕ) (vs : List ℕ) (r : Option ℕ) : Type 0 where
  pub same : o'.words.ghost_name ≡ o.words.ghost_name
  pub built : BuiltOr o.words.now o'.words.now o.free o'.free t vs r
