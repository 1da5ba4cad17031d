-- One law for each way out of taking an atom: a variable is found, a function, a number or a constructor is put into a record.
-- Assumes nothing.
use Prim.Native.Nat.{ℕ, suc, ◌+◌, ◌*◌, ◌/◌, ◌%◌, ◌≤◌}
use mathlib.Core.Path.{◌≡◌, refl, sym, ap, ◌∙◌}
use mathlib.Core.List.{List, [], ◌∷◌}
use native.Mathlib.Omega.{arith}
use lib.ListN.{length, get_or, take}
use Rattle.std.proofs.lemmas.List.{length-take-le}
use Rattle.std.specs.Prelude.{Option, Some, None}
use lib.Seq.{length-sets}
use borrow.Author.Rules.{rules}
use Rattle.language.specs.Term.{images, Term, Terms, con, size}
use Rattle.language.specs.Words.{word_end, words}
use Rattle.language.specs.Scope.{Scoped, s_var, s_kvar, s_con}
use Rattle.language.specs.Limits.{Ranged, r_con}
use Rattle.language.proofs.Clash.{never}
use Rattle.language.proofs.Places.{first_word, next_words}
use Rattle.ticks.specs.Flat.{FlatAtom}
use Rattle.ticks.specs.Tick.{Closure, Closures, sizeᶜ, value, values, takes, takesᵗ}
use Rattle.records.specs.Links.{low, high, found_from}
use Rattle.records.specs.Kept.{Kept, kept, not_kept}
use Rattle.records.specs.Memory.{Laid, Laidᵗ, a_function, a_number}
use Rattle.records.proofs.Memory.{not_grown, grown_on, put_grown, closes, numbers, finds}
use Rattle.taking.specs.Standing.{Constructed, Counts}
use Rattle.building.specs.Built.{BuiltOr, is_built, not_built}
use Rattle.taking.specs.Taking.{Bounds, Taking, TookOne, TookAll, taken, full, TookSays, TookAllSays}
use Rattle.taking.specs.declared.Bound.{Bound}
use Rattle.taking.proofs.Inside.{inside, short_place, numbered, constructed}
use Rattle.taking.proofs.Heads.{low_of, told, Atom, is_var, is_kvar, is_con, is_num, is_fun, known}

kept_long : {ws m m' : List ℕ} {n n' : ℕ} {r : Option ℕ} → Kept ws m m' n n' r → length m' ≡ length m
kept_long {ws} {m} (kept i h p q) = ap length p.holds ∙ length-sets m _ ws
kept_long (not_kept h e i) = ap length e

-- where none is left, those that were free are free
pub kept_freed : {ws m m' : List ℕ} {n n' : ℕ} {r : Option ℕ} → Kept ws m m' n n' r → r ≡ None → n' ≡ n
kept_freed (kept i h p q) e = never cc
kept_freed (not_kept h e i) z = i

pub some_taken : {A : Type 0} {x : A} {n n' : ℕ} → Some x ≡ None → n' ≡ n
some_taken e = never cc

-- what is to be shown of the term that stands there
abbrev One : {s m : List ℕ} {n : ℕ} {b : Bound} → List ℕ → ℕ → Option ℕ → Bounds s m n b → Term → Type 0
One {s} {m} {n} m' n' r B t = TookOne s m m' n n' (takes t) (value t B.ks B.xs) r

abbrev Here : {s m : List ℕ} {n : ℕ} {b : Bound} → Bounds s m n b → ℕ → ℕ → Term → Type 0
Here {s} B at to t = Laid FlatAtom s at to (sizeᶜ B.ks) (sizeᶜ B.xs) t

built_long : {m m' vs : List ℕ} {n n' t : ℕ} {r : Option ℕ} → BuiltOr m m' n n' t vs r → length m' ≡ length m
built_long (is_built i e u) = u.grown.long
built_long (not_built h e i) = ap length e

module _ {s m : List ℕ} {n at : ℕ} {b : Bound} where
  -- that there are not so many says nothing of the first free record
  pub t_freed : {m' : List ℕ} {n' n'' : ℕ} {r : Option ℕ} → r ≡ None → TookSays s m m' n n' at b r → TookSays s m m' n n'' at b None
  t_freed {m'} {n'} {n''} e h = record { long = h.long; says = λ q. go (rw e at (h.says q)) }
    where
      go : {x : ℕ} {c : Closure} → TookOne s m m' n n' x c None → TookOne s m m' n n'' x c None
      go (full l) = full l

  -- a variable takes no record
  pub t_source : {j r : ℕ} → (get_or s at 0 / 256 ≡ 1) × (j ≡ get_or s at 0 % 256) → r ≡ found_from m b.sources j → TookSays s m m n n at b (Some r)
  unfolding takes value low_of
  t_source {j} {r} k f = record { long = refl; says = λ q. go q.bounds (known q.laid k.0) q.laid q.laid.scoped }
    where
      go : (B : Bounds s m n b) {t : Term} {to : ℕ} → Atom 1 t → Here B at to t → Scoped images (sizeᶜ B.ks) (sizeᶜ B.xs) t → One m n (Some r) B t
      go B (is_var {i}) l (s_var h) =
          let y : j ≡ i = omega (arith, k.1, told l.ranged l.held) in
          taken {r = r} (omega arith) (not_grown B.room) (rw (f, y) (finds i B.sources h))
      go B (is_fun z y) l c = absurd (omega arith)

  pub t_continuation : {j r : ℕ} → (get_or s at 0 / 256 ≡ 9) × (j ≡ get_or s at 0 % 256) → r ≡ found_from m b.continuations j → TookSays s m m n n at b (Some r)
  unfolding takes value low_of
  t_continuation {j} {r} k f = record { long = refl; says = λ q. go q.bounds (known q.laid k.0) q.laid q.laid.scoped }
    where
      go : (B : Bounds s m n b) {t : Term} {to : ℕ} → Atom 9 t → Here B at to t → Scoped images (sizeᶜ B.ks) (sizeᶜ B.xs) t → One m n (Some r) B t
      go B (is_kvar {i}) l (s_kvar x h) =
          let y : j ≡ i = omega (arith, k.1, told l.ranged l.held) in
          taken {r = r} (omega arith) (not_grown B.room) (rw (f, y) (finds i B.continuations h))
      go B (is_fun z y) l c = absurd (omega arith)

  -- a number takes one, and so does a function
  pub t_number : {x n' : ℕ} {m' : List ℕ} {r : Option ℕ} → get_or s at 0 / 256 ≡ 10 → x ≡ get_or s (at + 1) 0 * word_end + get_or s (at + 2) 0
      → Kept (a_number ∷ x ∷ []) m m' n n' r → TookSays s m m' n n' at b r
  unfolding takes value words
  t_number {x} {n'} {m'} {r} k f g = record { long = kept_long g; says = λ q. go q.bounds (known q.laid k) q.laid g }
    where
      go : (B : Bounds s m n b) {t : Term} {to : ℕ} {r : Option ℕ} → Atom 10 t → Here B at to t → Kept (a_number ∷ x ∷ []) m m' n n' r → One m' n' r B t
      go B (is_num {n = i}) l (kept {r} j h p q) =
          let k₁ = next_words l.held in
          let z : at + 1 + 1 ≡ at + 2 = omega arith in
          let v : get_or s (at + 2) 0 ≡ i % word_end = rw z at (first_word (next_words k₁)) in
          let y : x ≡ i = omega (arith, f, v, first_word k₁) in
          rw (j, q) (taken {r = n} (omega arith) (put_grown p h (omega arith)) (rw (← y) (numbers h p)))
      go B is_num l (not_kept h e i) = full (omega arith)
      go B (is_fun z y) l c = absurd (omega arith)

  pub t_function : {m' : List ℕ} {n' : ℕ} {r : Option ℕ} → (get_or s at 0 / 256 ≡ 1 → ⊥) × (get_or s at 0 / 256 ≡ 9 → ⊥) × (get_or s at 0 / 256 ≡ 6 → ⊥) × (get_or s at 0 / 256 ≡ 10 → ⊥)
      → Kept (a_function ∷ at ∷ low b.continuations ∷ high b.continuations ∷ low b.sources ∷ high b.sources ∷ []) m m' n n' r
      → TookSays s m m' n n' at b r
  unfolding takes value
  t_function {m'} {n'} {r} k g = record { long = kept_long g; says = λ q. go q.bounds (known q.laid refl) refl q.laid g }
    where
      go : (B : Bounds s m n b) {t : Term} {to : ℕ} {r : Option ℕ} {j : ℕ} → Atom j t → j ≡ get_or s at 0 / 256 → Here B at to t
          → Kept (a_function ∷ at ∷ low b.continuations ∷ high b.continuations ∷ low b.sources ∷ high b.sources ∷ []) m m' n n' r → One m' n' r B t
      go B is_var x l c = absurd (k.0 (sym x))
      go B is_kvar x l c = absurd (k.1 (sym x))
      go B is_num x l c = absurd (k.3 (sym x))
      go B (is_con f) x l c = absurd (k.2 (sym x))
      go B (is_fun z y) x l (kept i h p q) =
          rw (i, q) (taken {r = n} (omega arith) (put_grown p h (omega arith)) (closes h p l B.continuations B.sources))
      go B (is_fun z y) x l (not_kept h e i) = full (omega arith)

-- the arguments of the constructor that stands there
record Arguments (s : List ℕ) (at c d : ℕ) (t : Term) : Type 0 where
  pub ps : Terms
  pub to : ℕ
  pub is : t ≡ con (get_or s at 0 % 256) ps
  pub many : size ps ≡ get_or s (at + 1) 0
  pub laid : Laidᵗ s (at + 2) to c d ps

arguments : {s : List ℕ} {at to c d : ℕ} {t : Term} → Atom 6 t → Laid FlatAtom s at to c d t → Ranged images t → Scoped images c d t → Arguments s at c d t
unfolding words low_of
arguments {at = at} {to = to} (is_con {t} {ps} f) l (r_con h g rs) (s_con c) =
    let k = next_words l.held in
    let z : at + 1 + 1 ≡ at + 2 = omega arith in
    record {
      ps = ps;
      to = to;
      is = ap (λ (i : ℕ). con i ps) (sym (told l.ranged l.held).1);
      many = sym (first_word k);
      laid = record { held = rw z at (next_words k); ranged = rs; flat = f; scoped = c };
    }
arguments (is_fun z y) l r c = absurd (omega arith)

-- what was taken of them, where their records are vs
record Inner (s m m₁ vs : List ℕ) (n n₁ at : ℕ) (b : Bound) (q : Taking s m n at b) (o : Option (Unit {0})) : Type 0 where
  pub args : Arguments s at (sizeᶜ q.bounds.ks) (sizeᶜ q.bounds.xs) q.t
  pub all : TookAll s m m₁ n n₁ (takesᵗ args.ps) vs (values args.ps q.bounds.ks q.bounds.xs) o

-- a constructor takes one record, behind those of its arguments
module _ {s m m₁ vs : List ℕ} {n n₁ at k : ℕ} {b : Bound} {o : Option (Unit {0})} (us : List ℕ) (e : Constructed s at) (j : Counts s at k) (l : k ≤ length us)
    (h : TookAllSays s m m₁ (take k us) vs n n₁ (at + 2) b o) where
  inner : (q : Taking s m n at b) {w : Option (Unit {0})} → o ≡ w → Inner s m m₁ vs n n₁ at b q w
  inner q z =
      let a = arguments (known q.laid e.kind) q.laid q.laid.ranged q.laid.scoped in
      record { args = a; all = rw z at (h.says record { bounds = q.bounds; ts = a.ps; to = a.to; laid = a.laid; many = a.many ∙ sym j.is ∙ sym (length-take-le k us l) }) }

  -- the arguments have none
  pub b_none : {w : Option ℕ} → o ≡ None → w ≡ None → TookSays s m m₁ n n₁ at b w
  unfolding takes
  b_none z y = rw y record { long = h.long; says = λ q. let i = inner q z in go q i.args i.all }
    where
      go : (q : Taking s m n at b) (a : Arguments s at (sizeᶜ q.bounds.ks) (sizeᶜ q.bounds.xs) q.t) {vs : List ℕ} {cs : Closures}
          → TookAll s m m₁ n n₁ (takesᵗ a.ps) vs cs None → TookOne s m m₁ n n₁ (takes q.t) (value q.t q.bounds.ks q.bounds.xs) None
      go q a (full l) = full (let y : takes q.t ≡ suc (takesᵗ a.ps) = ap takes a.is in omega arith)

  -- the constructor has one, or none
  pub b_kept : {t n₂ : ℕ} {m₂ : List ℕ} {u : Unit {0}} {w : Option ℕ} → t ≡ get_or s at 0 % 256 → o ≡ Some u → BuiltOr m₁ m₂ n₁ n₂ t vs w
      → TookSays s m m₂ n n₂ at b w
  unfolding takes value
  b_kept {t} {n₂} {m₂} {u} f z x = record { long = built_long x ∙ h.long; says = λ q. let i = inner q z in go q i.args i.all x }
    where
      go : (q : Taking s m n at b) (a : Arguments s at (sizeᶜ q.bounds.ks) (sizeᶜ q.bounds.xs) q.t) {w : Option ℕ}
          → TookAll s m m₁ n n₁ (takesᵗ a.ps) vs (values a.ps q.bounds.ks q.bounds.xs) (Some u)
          → BuiltOr m₁ m₂ n₁ n₂ t vs w
          → TookOne s m m₂ n n₂ (takes q.t) (value q.t q.bounds.ks q.bounds.xs) w
      go q a (taken i g v) (is_built k j u) =
          let y : q.t ≡ con t a.ps = a.is ∙ ap (λ (w : ℕ). con w a.ps) (sym f) in
          rw (y, k, j) (taken {r = n₁} (omega arith) (grown_on g u.grown) (u.says s (values a.ps q.bounds.ks q.bounds.xs) v))
      go q a (taken i g v) (not_built l e k) = full (let y : takes q.t ≡ suc (takesᵗ a.ps) = ap takes a.is in omega (arith, g.long, g.room))

pub ruleset ways = (t_source, t_continuation, t_number, t_function, kept_freed, some_taken, inside, short_place, numbered, constructed, rules)
