-- Taking an atom's words as a value: what stands there, and what is then in the records. Document 02, Wish 2: "for each function or constructor whenever
-- its words are taken as a value".
use Rattle.std.specs.Prelude.{ℕ, ◌+◌, ◌*◌, ◌/◌, ◌%◌, ◌≤◌, ◌<◌, ◌≡◌, ◌≢◌, List, length, Option, Some, None}
use Rattle.language.specs.Term.{Term, Terms, size}
use Rattle.ticks.specs.Flat.{FlatAtom}
use Rattle.ticks.specs.Tick.{Closure, Closures, sizeᶜ, value, values, takes, takesᵗ}
use Rattle.records.specs.Links.{record_words, Grown}
use Rattle.records.specs.Memory.{Laid, Laidᵗ, Val, Vals, Env}
use Rattle.taking.specs.declared.Bound.{Bound}
use Rattle.records.specs.declared.Records.{Records}
use Rattle.taking.specs.declared.Taker.{Taker}
use Rattle.taking.specs.declared.Atom.{Atom}
use Rattle.taking.specs.declared.Atom.TheVariants.{Source, Continuation, Constructor, Number, Function}

-- the values that b refers to, where the words up to n of the records m are in use
pub record Bounds (s m : List ℕ) (n : ℕ) (b : Bound) : Type 0 where
  pub ks : Closures
  pub xs : Closures
  pub continuations : Env s m n b.continuations ks
  pub sources : Env s m n b.sources xs
  pub room : n ≤ length m

-- an atom stands in the image s at `at`, where that is bound
pub record Taking (s m : List ℕ) (n at : ℕ) (b : Bound) : Type 0 where
  pub bounds : Bounds s m n b
  pub t : Term
  pub to : ℕ
  pub laid : Laid FlatAtom s at to (sizeᶜ bounds.ks) (sizeᶜ bounds.xs) t

-- k atoms stand there
pub record Takingᵗ (s m : List ℕ) (n at k : ℕ) (b : Bound) : Type 0 where
  pub bounds : Bounds s m n b
  pub ts : Terms
  pub to : ℕ
  pub laid : Laidᵗ s at to (sizeᶜ bounds.ks) (sizeᶜ bounds.xs) ts
  pub many : size ts ≡ k

-- x records were taken behind those in use, and the value c is in the records; or there are not so many
pub data TookOne (s m m' : List ℕ) (n n' x : ℕ) (c : Closure) : Option ℕ → Type 0 where
  taken : {r : ℕ} → n' ≡ n + record_words * x → Grown m m' n n' → Val s m' n' r c → TookOne s m m' n n' x c (Some r)
  full : length m < n + record_words * x → TookOne s m m' n n' x c None

-- the same of values, whose records are vs
pub data TookAll (s m m' : List ℕ) (n n' x : ℕ) (vs : List ℕ) (cs : Closures) : Option (Unit {0}) → Type 0 where
  taken : {u : Unit {0}} → n' ≡ n + record_words * x → Grown m m' n n' → Vals s m' n' vs cs → TookAll s m m' n n' x vs cs (Some u)
  full : length m < n + record_words * x → TookAll s m m' n n' x vs cs None

pub record TookSays (s m m' : List ℕ) (n n' at : ℕ) (b : Bound) (r : Option ℕ) : Type 0 where
  pub long : length m' ≡ length m
  pub says : (q : Taking s m n at b) → TookOne s m m' n n' (takes q.t) (value q.t q.bounds.ks q.bounds.xs) r

pub record TookAllSays (s m m' vs vs' : List ℕ) (n n' at : ℕ) (b : Bound) (r : Option (Unit {0})) : Type 0 where
  pub long : length m' ≡ length m
  pub kept : length vs' ≡ length vs
  pub says : (q : Takingᵗ s m n at (length vs) b) → TookAll s m m' n n' (takesᵗ q.ts) vs' (values q.ts q.bounds.ks q.bounds.xs) r

-- the same of a run's records, and of the image and what is bound: the records are over the same lent memory, and where there are not so many those
-- that were free are free
pub record Took (t : Taker) (at : ℕ) (o o' : Records) (r : Option ℕ) : Type 0 where
  pub same : o'.words.ghost_name ≡ o.words.ghost_name
  pub freed : r ≡ None → o'.free ≡ o.free
  pub took : TookSays t.image.now o.words.now o'.words.now o.free o'.free at t.bound r

pub record TookEach (t : Taker) (at : ℕ) (o o' : Records) (vs vs' : List ℕ) (r : Option (Unit {0})) : Type 0 where
  pub same : o'.words.ghost_name ≡ o.words.ghost_name
  pub freed : r ≡ None → o'.free ≡ o.free
  pub took : TookAllSays t.image.now o.words.now o'.words.now vs vs' o.free o'.free at t.bound r

-- the atom that the head word w says
abbrev pub Heads : ℕ → Atom → Type 0
Heads w (Source i) = (w / 256 ≡ 1) × (i ≡ w % 256)
Heads w (Continuation i) = (w / 256 ≡ 9) × (i ≡ w % 256)
Heads w (Constructor t) = (w / 256 ≡ 6) × (t ≡ w % 256)
Heads w Number = w / 256 ≡ 10
Heads w Function = (w / 256 ≢ 1) × (w / 256 ≢ 9) × (w / 256 ≢ 6) × (w / 256 ≢ 10)
