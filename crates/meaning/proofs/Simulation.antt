-- A run of a closed rule is a run of its image: lemma 5 of Dargaye and Leroy, with counts. The passing form of a term, given a closed
-- continuation, goes on as what the continuation is when it is given the carried form of the term's value. One lemma for each rule of the relation,
-- each over what is known of the parts' runs; then an induction on the run. Assumes nothing.
use Prim.Native.Nat.{ℕ, suc, ◌+◌, ◌≤◌}
use mathlib.Core.Bool.{false}
use mathlib.Core.Path.{◌≡◌, refl}
use mathlib.Core.Option.{some}
use native.Mathlib.Omega.{arith}
use Rattle.language.specs.Term.{rules, images, Term, Terms, Arms, kvar, fun, call, bind, con, cases, op, nil, cons, size}
use Rattle.language.specs.Scope.{Scoped, Scopedᵗ, Scopedᵃ, s_fun, s_call, s_bind, s_con, s_cases, s_op, s_nil, s_cons}
use Rattle.language.specs.Sub.{sub}
use Rattle.language.specs.Run.{atoms, Value, Values, v_fun, Gives, enters, rev, itself, took, Counts, uses, ◌⊕◌, count, counts}
use Rattle.language.specs.Run.{Run, Runs, taken, built, bound, called, matched, operated, done, then}
use Rattle.language.specs.Image.{lam, to, calling, making, working, passing, carried, carrieds, chain, passingᵃ, image}
use Rattle.language.proofs.Forms.{passing_build, counted_is}
use Rattle.meaning.specs.Promises.{applications, Comes}
use Rattle.meaning.proofs.Scopes.{sub_scoped}
use Rattle.meaning.proofs.Compose.{join, sub_twice}
use Rattle.meaning.proofs.Forms.{letting, matching, k_scoped, calling_scoped, making_scoped, working_scoped, letting_scoped, matching_scoped}
use Rattle.meaning.proofs.Forms.{carried_value, carried_scoped, passing_scoped, passingᵃ_scoped, chain_scoped}
use Rattle.meaning.proofs.Values.{run_value, runs_values, runs_size, in_values}
use Rattle.meaning.proofs.Values.{let_scoped, arm_scoped, call_scoped, run_scoped, runs_scoped}
use Rattle.meaning.proofs.Steps.{Leads, onward, recount, stays, adjust, stay, enter, on_value, end_built, end_operated, end_called, end_bound, end_matched}

-- the image of a run of t to v with the counts c: t's passing form, given a continuation `lam p`, goes on as what the continuation is when it is
-- given v's carried form
pub record Simulated (t v : Term) (c : Counts) : Type 0 where
  pub given : (p : Term) → Scoped images 1 0 p
      → Leads (to (passing t) (lam p)) (sub 0 0 (cons (carried v) nil) nil p) (applications c) c.lets c.matches

-- the image of runs of ts to vs: the chain over ts goes on as its ending z, with the values' carried forms in for z's first continuation variables
pub record Simulatedᵗ (ts vs : Terms) (c : Counts) : Type 0 where
  pub given : (ks : Terms) (z : Term) (i : ℕ) → Scopedᵗ images 0 0 ks → Scoped images i 0 z → i ≤ size ts + size ks
      → Leads (sub 0 0 ks nil (chain ts z)) (sub 0 0 (rev (carrieds vs) ks) nil z) (applications c) c.lets c.matches

-- the continuation that a chain hands to its first term names nothing but that term's value
pub chain_k : {ks ts : Terms} {z : Term} {i : ℕ} → Scopedᵗ images 0 0 ks → Scopedᵗ rules 0 0 ts → Scoped images i 0 z → i ≤ suc (size ts) + size ks
    → Scoped images 1 0 (sub 1 0 ks nil (chain ts z))
unfolding size
chain_k {ks} hk hs hz h = sub_scoped hk s_nil (chain_scoped hs hz (1 + size ks) 0 (omega arith) (omega arith)) 1 0 (λ l. omega arith) (omega arith)

-- given that value, it goes on with the rest of the chain
pub chain_next : (v z : Term) (ts : Terms) {ks : Terms} → Scopedᵗ images 0 0 ks
    → sub 0 0 (cons v nil) nil (sub 1 0 ks nil (chain ts z)) ≡ sub 0 0 (cons v ks) nil (chain ts z)
unfolding join size
chain_next v z ts hk = sub_twice (cons v nil) nil hk s_nil (chain ts z) 0 0 1 0 refl refl

-- the first term of a chain
pub chain_step : {t v : Term} {ts ks : Terms} {c : Counts} {z : Term} {i : ℕ} → Scoped rules 0 0 t → Scopedᵗ rules 0 0 ts → Simulated t v c
    → Scopedᵗ images 0 0 ks → Scoped images i 0 z → i ≤ suc (size ts) + size ks
    → Leads (sub 0 0 ks nil (chain (cons t ts) z)) (sub 0 0 (cons (carried v) ks) nil (chain ts z)) (applications c) c.lets c.matches
unfolding chain sub
chain_step {v} {ts} {ks} {z} ht hs s hk hz h =
    rw (stay ht ks nil 0 0 (omega arith), ← (chain_next (carried v) z ts hk)) (s.given (sub 1 0 ks nil (chain ts z)) (chain_k hk hs hz h))

-- no terms, and one before others
sim_done : Simulatedᵗ nil nil (uses 0 0 0 0 0)
unfolding chain rev carrieds
sim_done = record { given = λ ks z i hk hz h. stays (sub 0 0 ks nil z) }

sim_then : {t v : Term} {ts vs : Terms} {c d : Counts} → Scoped rules 0 0 t → Scopedᵗ rules 0 0 ts → Scoped rules 0 0 v
    → Simulated t v c → Simulatedᵗ ts vs d → Simulatedᵗ (cons t ts) (cons v vs) (c ⊕ d)
unfolding rev carrieds size
sim_then {v} ht hs hv s ss = record {
  given = λ ks z i hk hz h.
      recount (onward (chain_step ht hs s hk hz (omega arith))
      (ss.given (cons (carried v) ks) z i (s_cons (carried_scoped hv 0 0 (omega arith)) hk) hz (omega arith))) (omega arith);
}

-- `Linked t ts z`: t's passing form is the chain over its parts ts with the ending z, which names the chain's variables and the continuation alone
pub record Linked (t : Term) (ts : Terms) (z : Term) : Type 0 where
  pub passes : passing t ≡ lam (chain ts z)
  pub ends : Scoped images (suc (size ts)) 0 z

pub linked_build : (t : ℕ) {ps : Terms} → atoms ps ≡ false → Linked (con t ps) ps (making t (size ps))
linked_build t {ps} e = record { passes = passing_build t ps e; ends = making_scoped t (size ps) }

pub linked_let : (m : Term) {b : Term} → Scoped rules 0 1 b → Linked (bind m b) (cons m nil) (letting (passing b))
unfolding passing size
linked_let m hb = record { passes = refl; ends = letting_scoped 0 0 (passing_scoped hb 2 1 (omega arith)) }

pub linked_call : (f : Term) (ps : Terms) → Linked (call f ps) (cons f ps) (calling (size ps))
unfolding passing size
linked_call f ps = record { passes = refl; ends = calling_scoped (size ps) }

pub linked_match : (m : Term) {ps : Arms} → Scopedᵃ rules 0 0 ps → Linked (cases m ps) (cons m nil) (matching (passingᵃ ps))
unfolding passing size
linked_match m hs = record { passes = refl; ends = matching_scoped 0 0 (passingᵃ_scoped hs 0 0 (omega arith)) }

pub linked_op : (o : ℕ) (ps : Terms) → Linked (op o ps) ps (working o (size ps))
unfolding passing
linked_op o ps = record { passes = refl; ends = working_scoped o (size ps) }

-- the passing form is given the continuation, the parts come to values, and the ending is left
pub through : {t z p : Term} {ts vs : Terms} {c : Counts} → Linked t ts z → Simulatedᵗ ts vs c → Scoped images 1 0 p
    → Leads (to (passing t) (lam p)) (sub 0 0 (rev (carrieds vs) (cons (lam p) nil)) nil z) (suc (applications c)) c.lets c.matches
unfolding size
through {z} {p} {ts} k ss hp =
    rw k.passes
    (recount (onward (enter v_fun) (ss.given (cons (lam p) nil) z (suc (size ts)) (s_cons (s_fun hp) s_nil) k.ends (omega arith))) (omega arith))

-- the rules of the relation, one by one
sim_taken : {v : Term} → Value v → Scoped rules 0 0 v → Simulated v v (uses 1 0 0 0 0)
sim_taken x h = record { given = λ p hp. on_value x h }

sim_built : {t : ℕ} {ps vs : Terms} {c : Counts} → atoms ps ≡ false → size vs ≡ size ps → Values vs
    → Simulatedᵗ ps vs c → Simulated (con t ps) (con t vs) (uses 0 0 0 0 1 ⊕ c)
sim_built {t} {vs} e q vv ss = record { given = λ p hp. recount (onward (through (linked_build t e) ss hp) (end_built p t vs q vv)) (omega arith) }

sim_operated : {o : ℕ} {v : Term} {ps vs : Terms} {c : Counts} → size vs ≡ size ps → Values vs → Gives o vs v
    → Simulatedᵗ ps vs c → Simulated (op o ps) v (uses 0 0 0 0 1 ⊕ c)
sim_operated {o} {ps = ps} {vs} q vv g ss = record { given = λ p hp. recount (onward (through (linked_op o ps) ss hp) (end_operated p o vs q vv g)) (omega arith) }

sim_bound : {m b v w : Term} {c d : Counts} → Scoped rules 0 0 m → Scoped rules 0 1 b → Scoped rules 0 0 v → Value v
    → Simulated m v c → Simulated (sub 0 0 nil (cons v nil) b) w d → Simulated (bind m b) w (uses 0 0 1 0 0 ⊕ c ⊕ d)
unfolding rev carrieds
sim_bound {m} hm hb hv x s s' = record {
  given = λ p hp.
      recount (onward (onward (through (linked_let m hb) (sim_then hm s_nil hv s sim_done) hp) (end_bound x hb (s_fun hp))) (s'.given p hp)) (omega arith);
}

sim_called : {f b w : Term} {o a : ℕ} {ps vs : Terms} {c d e : Counts} → Scoped rules 0 0 f → Scopedᵗ rules 0 0 ps → Scoped rules 0 0 (fun o a b)
    → Values vs → size vs ≡ size ps → size vs ≡ a → Simulated f (fun o a b) c → Simulatedᵗ ps vs d
    → Simulated (sub 0 0 nil (rev vs (itself o (fun o a b))) b) w e → Simulated (call f ps) w (uses 0 1 0 0 0 ⊕ c ⊕ d ⊕ e)
unfolding rev carrieds
sim_called {f} {ps} {vs} hf hs hb vv q q' s ss s' = record {
  given = λ p hp.
      recount (onward (onward (through (linked_call f ps) (sim_then hf hs hb s ss) hp) (end_called vs q q' v_fun vv hb)) (s'.given p hp)) (omega arith);
}

sim_matched : {m b w : Term} {t : ℕ} {vs : Terms} {ps : Arms} {c d : Counts} → Scoped rules 0 0 m → Scopedᵃ rules 0 0 ps → Scoped rules 0 0 (con t vs)
    → Values vs → took t (size vs) ps ≡ some b → Simulated m (con t vs) c → Simulated (sub 0 0 nil (rev vs nil) b) w d
    → Simulated (cases m ps) w (uses 0 0 0 1 0 ⊕ c ⊕ d)
unfolding rev carrieds
sim_matched {m} {t} {vs} {ps} hm hs hv vv y s s' = record {
  given = λ p hp.
      recount (onward (onward (through (linked_match m hs) (sim_then hm s_nil hv s sim_done) hp) (end_matched t vs ps y vv hs (s_fun hp))) (s'.given p hp)) (omega arith);
}

mutual
  unfolding count enters

  pub simulated : {t v : Term} (r : Run rules t v) → Scoped rules 0 0 t → Simulated t v (count r)
  simulated (taken x) h = sim_taken x h
  simulated (built e r) (s_con hs) = sim_built e (runs_size r) (runs_values r) (simulatedᵗ r hs)
  simulated (bound r s) (s_bind hm hb) =
      let hv = run_scoped r hm in
      sim_bound hm hb hv (run_value r) (simulated r hm) (simulated s (let_scoped hb hv))
  simulated {v} (called {o} {a} {b} {vs} f r e s) (s_call hf hs) =
      let hb = run_scoped f hf in
      let (n, k, x) = counted_is a nil vs e in
      sim_called hf hs hb (runs_values r) (runs_size r) n (simulated f hf) (simulatedᵗ r hs)
      (rw (k, x) (simulated s (call_scoped hb (runs_scoped r hs) e)))
  simulated (matched r k s) (s_cases hm hs) =
      let hv = run_scoped r hm in
      sim_matched hm hs hv (in_values (run_value r)) k (simulated r hm) (simulated s (arm_scoped k hs hv))
  simulated (operated r g) (s_op hs) = sim_operated (runs_size r) (runs_values r) g (simulatedᵗ r hs)

  pub simulatedᵗ : {ts vs : Terms} (r : Runs rules ts vs) → Scopedᵗ rules 0 0 ts → Simulatedᵗ ts vs (counts r)
  simulatedᵗ done s_nil = sim_done
  simulatedᵗ (then r s) (s_cons ht hs) = sim_then ht hs (run_scoped r ht) (simulated r ht) (simulatedᵗ s hs)

-- the image gives the passing form the continuation that returns its argument
pub image_comes : {t v : Term} (r : Run rules t v) → Scoped rules 0 0 t
    → Comes (image t) (carried v) (applications (count r)) (count r).lets (count r).matches
unfolding image sub count
image_comes {v} r h =
    adjust (((simulated r h).given (kvar 0) (k_scoped 0 1 0 (omega arith))).ahead (carried v) (taken (carried_value (run_value r)))) (omega arith)
