-- Taking some atoms one after the other: what was taken, with what is still to be taken, is the whole.
-- Assumes nothing.
use Prim.Native.Nat.{ℕ, suc, ◌+◌, ◌-◌, ◌*◌, ◌≤◌, ◌<◌}
use mathlib.Core.Path.{◌≡◌, refl, sym, ap, ◌∙◌}
use mathlib.Core.List.{List, [], ◌∷◌, ◌++◌}
use native.Mathlib.Omega.{arith}
use lib.ListN.{length, set, take, length-set}
use lib.Seq.{take_all, take-suc-set}
use borrow.Author.Rules.{rules}
use Rattle.language.specs.Term.{images, Term, Terms, nil, cons, size}
use Rattle.language.specs.Words.{words, wordsᵗ}
use Rattle.language.specs.Scope.{Scopedᵗ, s_cons}
use Rattle.language.specs.Limits.{Rangedᵗ, r_cons}
use Rattle.language.proofs.Places.{first_run, second_run}
use Rattle.ticks.specs.Flat.{FlatAtom, FlatAtoms, f_cons}
use Rattle.ticks.specs.Tick.{Closure, Closures, c_nil, c_cons, sizeᶜ, value, values, takes, takesᵗ}
use Rattle.records.specs.Links.{record_words, Grown}
use Rattle.records.specs.Memory.{Laid, Laidᵗ, Val, Vals, v_nil, v_cons}
use Rattle.std.specs.Prelude.{Option, Some, None}
use Rattle.records.proofs.Memory.{not_grown, grown_on, env_grown, vals_grown}
use Rattle.taking.specs.Standing.{Stands, Standᵗ, Ends}
use Rattle.taking.specs.Taking.{Bounds, Takingᵗ, TookOne, TookAll, taken, full, TookSays, TookAllSays}
use Rattle.taking.specs.declared.Bound.{Bound}
use Rattle.taking.proofs.Inside.{stand_first, stand_next}

-- some closures, and others behind them
unfoldable pub joined : Closures → Closures → Closures
joined c_nil ds = ds
joined (c_cons c cs) ds = c_cons c (joined cs ds)

joined_on : (cs : Closures) (c : Closure) (ds : Closures) → joined (joined cs (c_cons c c_nil)) ds ≡ joined cs (c_cons c ds)
unfolding joined
joined_on c_nil c ds = refl
joined_on (c_cons d cs) c ds = ap (c_cons d) (joined_on cs c ds)

joined_none : (cs : Closures) → joined cs c_nil ≡ cs
unfolding joined
joined_none c_nil = refl
joined_none (c_cons c cs) = ap (c_cons c) (joined_none cs)

vals_on : {s m : List ℕ} {n r : ℕ} {vs : List ℕ} {cs : Closures} {c : Closure} → Vals s m n vs cs → Val s m n r c
    → Vals s m n (vs ++ (r ∷ [])) (joined cs (c_cons c c_nil))
unfolding joined
vals_on v_nil v = v_cons v v_nil
vals_on (v_cons w vs) v = v_cons w (vals_on vs v)

-- what is bound stays bound
unfoldable pub bounds_grown : {s m m' : List ℕ} {n n' : ℕ} {b : Bound} → Grown m m' n n' → Bounds s m n b → Bounds s m' n' b
bounds_grown g B = record { ks = B.ks; xs = B.xs; continuations = env_grown g B.continuations; sources = env_grown g B.sources; room = omega (arith, g.long, g.room) }

-- i of the k atoms were taken, in x records, and the next stands at p
pub record Left (s m₀ m vs : List ℕ) (n₀ n k i p : ℕ) (b : Bound) (B : Bounds s m₀ n₀ b) (ts : Terms) : Type 0 where
  pub rest : Terms
  pub to : ℕ
  pub done : Closures
  pub x : ℕ
  pub laid : i < k → Laidᵗ s p to (sizeᶜ B.ks) (sizeᶜ B.xs) rest
  pub many : size rest ≡ k - i
  pub used : n ≡ n₀ + record_words * x
  pub sum : takesᵗ ts ≡ x + takesᵗ rest
  pub grown : Grown m₀ m n₀ n
  pub vals : Vals s m n (take i vs) done
  pub whole : values ts B.ks B.xs ≡ joined done (values rest B.ks B.xs)

pub record Going (s m₀ m vs₀ vs : List ℕ) (n₀ n at i p : ℕ) (b : Bound) : Type 0 where
  pub here : i < length vs₀ → Standᵗ s p (length vs₀ - i)
  pub further : at ≤ p
  pub few : i ≤ length vs₀
  pub long : length m ≡ length m₀
  pub kept : length vs ≡ length vs₀
  pub says : (q : Takingᵗ s m₀ n₀ at (length vs₀) b) → Left s m₀ m vs n₀ n (length vs₀) i p b q.bounds q.ts

pub g_start : {s m : List ℕ} (vs : List ℕ) {n at : ℕ} {b : Bound} → Standᵗ s at (length vs) → Going s m m vs vs n n at 0 at b
unfolding takes joined
g_start {s} {m} vs {n} {at} {b} h = record {
  here = λ l. let z : length vs ≡ length vs - 0 = omega arith in rw z at h;
  further = omega arith;
  few = omega arith;
  long = refl;
  kept = refl;
  says = λ q. record {
    rest = q.ts;
    to = q.to;
    done = c_nil;
    x = 0;
    laid = λ l. q.laid;
    many = omega (arith, q.many);
    used = omega arith;
    sum = omega arith;
    grown = not_grown q.bounds.room;
    vals = v_nil;
    whole = refl;
  };
}

-- the first of the atoms that are left, and the others
record First (s : List ℕ) (p to c d : ℕ) (ts : Terms) : Type 0 where
  pub t : Term
  pub us : Terms
  pub end : ℕ
  pub are : ts ≡ cons t us
  pub laid : Laid FlatAtom s p end c d t
  pub others : Laidᵗ s end to c d us

first : {s : List ℕ} {p to c d : ℕ} (ts : Terms) → 0 < size ts → Laidᵗ s p to c d ts → FlatAtoms ts → Rangedᵗ images ts → Scopedᵗ images c d ts
    → First s p to c d ts
unfolding size wordsᵗ
first nil z l f r c = absurd (omega arith)
first {p = p} (cons t us) z l (f_cons f fs) (r_cons r rs) (s_cons c cs) = record {
  t = t;
  us = us;
  end = p + length (words images t);
  are = refl;
  laid = record { held = first_run (words images t) (wordsᵗ images us) l.held; ranged = r; flat = f; scoped = c };
  others = record { held = second_run (words images t) (wordsᵗ images us) l.held; ranged = rs; flat = fs; scoped = cs };
}

module _ {s m₀ m vs₀ vs : List ℕ} {n₀ n at i p : ℕ} {b : Bound} (g : Going s m₀ m vs₀ vs n₀ n at i p b) (l : i < length vs₀) where
  pub g_stands : Stands s p
  g_stands = stand_first (omega arith) (g.here l)

  module _ {m' : List ℕ} {n' : ℕ} {r : Option ℕ} (h : TookSays s m m' n n' p b r) where
    -- what was taken of the next atom
    record Step (q : Takingᵗ s m₀ n₀ at (length vs₀) b) (w : Option ℕ) : Type 0 where
      pub left : Left s m₀ m vs n₀ n (length vs₀) i p b q.bounds q.ts
      pub next : First s p left.to (sizeᶜ q.bounds.ks) (sizeᶜ q.bounds.xs) left.rest
      pub took : TookOne s m m' n n' (takes next.t) (value next.t q.bounds.ks q.bounds.xs) w

    step : (q : Takingᵗ s m₀ n₀ at (length vs₀) b) {w : Option ℕ} → r ≡ w → Step q w
    unfolding bounds_grown
    step q e =
        let L = g.says q in
        let a = L.laid l in
        let f = first L.rest (omega (arith, L.many)) a a.flat a.ranged a.scoped in
        record { left = L; next = f; took = rw e at (h.says record { bounds = bounds_grown L.grown q.bounds; t = f.t; to = f.end; laid = f.laid }) }

    sums : {q : Takingᵗ s m₀ n₀ at (length vs₀) b} {w : Option ℕ} (z : Step q w) → takesᵗ q.ts ≡ z.left.x + (takes z.next.t + takesᵗ z.next.us)
    unfolding takes
    sums z = z.left.sum ∙ ap (λ (ts : Terms). z.left.x + takesᵗ ts) z.next.are

    pub g_full : {vs' : List ℕ} {n'' : ℕ} {w : Option (Unit {0})} → r ≡ None → w ≡ None → length vs' ≡ length vs → TookAllSays s m₀ m' vs₀ vs' n₀ n'' at b w
    g_full {vs'} {n''} e o y = rw o record { long = h.long ∙ g.long; kept = y ∙ g.kept; says = λ q. let z = step q e in go q z z.took }
      where
        go : (q : Takingᵗ s m₀ n₀ at (length vs₀) b) (z : Step q None) {c : Closure} → TookOne s m m' n n' (takes z.next.t) c None
            → TookAll s m₀ m' n₀ n'' (takesᵗ q.ts) vs' (values q.ts q.bounds.ks q.bounds.xs) None
        go q z (full y) = full (omega (arith, sums z, z.left.used, z.left.grown.long))

    -- the next atom is taken, and what is left of them stands at p'
    on : (v p' : ℕ) → r ≡ Some v → p ≤ p' → (i + 1 < length vs₀ → Standᵗ s p' (length vs₀ - (i + 1))) → (i + 1 < length vs₀ → Ends s p p')
        → Going s m₀ m' vs₀ (set vs i v) n₀ n' at (i + 1) p' b
    unfolding size values joined
    on v p' e o u w = record {
      here = u;
      further = omega (arith, g.further);
      few = omega arith;
      long = h.long ∙ g.long;
      kept = length-set vs i v ∙ g.kept;
      says = λ q. let z = step q e in go q z z.took;
    }
      where
        go : (q : Takingᵗ s m₀ n₀ at (length vs₀) b) (z : Step q (Some v))
            → TookOne s m m' n n' (takes z.next.t) (value z.next.t q.bounds.ks q.bounds.xs) (Some v)
            → Left s m₀ m' (set vs i v) n₀ n' (length vs₀) (i + 1) p' b q.bounds q.ts
        go q z (taken y f x) = record {
          rest = z.next.us;
          to = z.left.to;
          done = joined z.left.done (c_cons (value z.next.t q.bounds.ks q.bounds.xs) c_nil);
          x = z.left.x + takes z.next.t;
          laid = λ c. let d = (w c).end z.next.t z.next.end z.next.laid.held z.next.laid.ranged in rw d z.next.others;
          many = let c = ap size z.next.are in omega (arith, c, z.left.many);
          used = omega (arith, z.left.used);
          sum = omega (arith, sums z);
          grown = grown_on z.left.grown f;
          vals =
              let c : suc i ≡ i + 1 = omega arith in
              let d : i < length vs = omega (arith, g.kept) in
              rw (← c, take-suc-set vs i v d) (vals_on (vals_grown f z.left.vals) x);
          whole = z.left.whole ∙ ap (λ (ts : Terms). joined z.left.done (values ts q.bounds.ks q.bounds.xs)) z.next.are
              ∙ sym (joined_on z.left.done (value z.next.t q.bounds.ks q.bounds.xs) (values z.next.us q.bounds.ks q.bounds.xs));
        }

    -- it was the last; or there are more, behind it
    pub g_last : (v : ℕ) → r ≡ Some v → length vs₀ ≤ i + 1 → Going s m₀ m' vs₀ (set vs i v) n₀ n' at (i + 1) p b
    g_last v e c = on v p e (omega arith) (λ x. absurd (omega arith)) (λ x. absurd (omega arith))

    pub g_more : (v : ℕ) {p' : ℕ} → r ≡ Some v → i + 1 < length vs₀ → Ends s p p' → Going s m₀ m' vs₀ (set vs i v) n₀ n' at (i + 1) p' b
    g_more v {p'} e c x =
        let y = x.end g_stands.term g_stands.to g_stands.held g_stands.ranged in
        on v p' e (omega (arith, y, g_stands.held.past))
        (λ z. let d : length vs₀ - i - 1 ≡ length vs₀ - (i + 1) = omega arith in rw d at (stand_next (omega arith) (g.here l) x)) (λ z. x)

-- all were taken
pub g_done : {s m₀ m vs₀ vs : List ℕ} {n₀ n at i p : ℕ} {b : Bound} {u : Unit {0}} → Going s m₀ m vs₀ vs n₀ n at i p b → length vs₀ ≤ i
    → TookAllSays s m₀ m vs₀ vs n₀ n at b (Some u)
unfolding takes values size
g_done {s} {m₀} {m} {vs₀} {vs} {n₀} {n} {at} {i} {p} {b} {u} g l = record { long = g.long; kept = g.kept; says = λ q. let L = g.says q in go q L L.rest refl }
  where
    go : (q : Takingᵗ s m₀ n₀ at (length vs₀) b) (L : Left s m₀ m vs n₀ n (length vs₀) i p b q.bounds q.ts) (ts : Terms) → L.rest ≡ ts
        → TookAll s m₀ m n₀ n (takesᵗ q.ts) vs (values q.ts q.bounds.ks q.bounds.xs) (Some u)
    go q L nil e =
        let c : take i vs ≡ vs = take_all i vs (omega (arith, g.kept)) in
        let x : takesᵗ q.ts ≡ L.x + takesᵗ nil = rw e at L.sum in
        let y : values q.ts q.bounds.ks q.bounds.xs ≡ L.done =
        L.whole ∙ ap (λ (us : Terms). joined L.done (values us q.bounds.ks q.bounds.xs)) e ∙ joined_none L.done in
        rw y (taken {u = u} (omega (arith, x, L.used)) L.grown (rw c at L.vals))
    go q L (cons t us) e = absurd (let z = ap size e in omega (arith, z, L.many))

pub ruleset alls = (g_start, g_stands, g_full, g_last, g_more, g_done, rules)
