-- Where the image of a closed rule comes to a value, the rule does: the other half of demand 3, document 02, Wish 10. By induction on the number of
-- calls of the image's run, case by case over the term. Its passing form is given a continuation, by a call; so the parts have fewer calls left,
-- and by induction they come to values. By the simulation the image's run goes on with the chain's ending, which runs only where the rule for the term
-- applies; then the body has fewer calls left too, and by induction comes to a value. Assumes nothing.
use Prim.Native.Nat.{ℕ, zero, suc, ◌+◌, ◌≤◌, ◌<◌}
use mathlib.Core.Bool.{Bool, true, false, false≢true, and-eq-true_iff}
use mathlib.Core.Path.{◌≡◌, refl, sym, ◌∙◌, subst}
use mathlib.Core.Option.{Option, some, none as nothing}
use native.Mathlib.Omega.{arith}
use Rattle.language.specs.Term.{rules, images, Term, Terms, Arms, var, kvar, fun, call, bind, con, cases, num, op, nil, cons, size}
use Rattle.language.specs.Scope.{Scoped, Scopedᵗ, Scopedᵃ, s_var, s_kvar, s_fun, s_call, s_bind, s_con, s_cases, s_num, s_op, s_nil, s_cons}
use Rattle.language.specs.Sub.{sub, subᵃ}
use Rattle.language.specs.Run.{atom, atoms, Value, Values, v_fun, v_con, v_num, v_nil, v_cons, Gives, adds, subtracts, less, enters, rev, took, count}
use Rattle.language.specs.Run.{Run, Runs, taken, built, bound, called, matched, operated, done, then}
use Rattle.language.specs.Image.{lam, to, calling, working, passing, carried, carrieds, chain, passingᵃ, image}
use Rattle.language.proofs.Forms.{size_carrieds, counted_fits}
use Rattle.language.proofs.Back.{uncalled, argument_comes, entered_fits, no_call, no_call_num, Chosen, unmatched, no_match, no_match_num, unoperated}
use Rattle.language.proofs.Eval.{Ran, Rans, Given}
use Rattle.meaning.proofs.Forms.{letting, matching, k_scoped, carrieds_values, carried_scoped}
use Rattle.meaning.proofs.Values.{run_value, runs_values, runs_size}
use Rattle.meaning.proofs.Values.{let_scoped, arm_scoped, call_scoped, run_scoped, runs_scoped}
use Rattle.meaning.proofs.Steps.{Leads, fewer, stay, enter, calling_sub, working_sub, took_image, end_called, end_bound, end_matched}
use Rattle.meaning.proofs.Simulation.{chain_k, chain_step, Linked, linked_build, linked_let, linked_call, linked_match, linked_op, through, simulated, simulatedᵗ}

-- the image t comes to w by fewer than g calls
record Under (t w : Term) (g : ℕ) : Type 0 where
  run : Run images t w
  below : (count run).calls < g

-- what it goes on as has fewer
follow : {t t' w : Term} {n l m g g' : ℕ} → Leads t t' n l m → Under t w g → g ≤ n + g' → Under t' w g'
follow {w} p u h = record { run = p.back w u.run; below = omega (arith, fewer p u.run, u.below) }

-- a closed atom is a value
mutual
  unfolding atom

  closed_value : {c d : ℕ} {t : Term} → Scoped rules c d t → d ≡ 0 → atom t ≡ true → Value t
  closed_value (s_var h) z e = absurd (omega arith)
  closed_value (s_kvar l h) z e = absurd l
  closed_value (s_fun b) z e = v_fun
  closed_value (s_call f ps) z e = absurd (false≢true e)
  closed_value (s_bind m b) z e = absurd (false≢true e)
  closed_value (s_con ps) z e = v_con (closed_values ps z e)
  closed_value (s_cases m ps) z e = absurd (false≢true e)
  closed_value s_num z e = v_num
  closed_value (s_op ps) z e = absurd (false≢true e)

  closed_values : {c d : ℕ} {ts : Terms} → Scopedᵗ rules c d ts → d ≡ 0 → atoms ts ≡ true → Values ts
  closed_values s_nil z e = v_nil
  closed_values (s_cons {t} {ts} h hs) z e =
      let p = (and-eq-true_iff (atom t) (atoms ts)).0 e in
      v_cons (closed_value h z p.0) (closed_values hs z p.1)

-- what is to be shown for fewer than g calls
abbrev Back : ℕ → Type 0
Back g = (t p w : Term) → Scoped rules 0 0 t → Scoped images 1 0 p → Under (to (passing t) (lam p)) w g → Ran rules t

-- a chain's first term has come to a value, so the rest of the chain runs, and its terms come to theirs
rest_back : {t z w : Term} {ts ks : Terms} {i g : ℕ} → Scoped rules 0 0 t → Scopedᵗ rules 0 0 ts → Scopedᵗ images 0 0 ks → Scoped images i 0 z
    → i ≤ suc (size ts) + size ks → Under (sub 0 0 ks nil (chain (cons t ts) z)) w g → Ran rules t
    → ((v : Term) → Scoped images 0 0 (carried v) → Under (sub 0 0 (cons (carried v) ks) nil (chain ts z)) w g → Rans rules ts) → Rans rules (cons t ts)
rest_back ht hs hk hz h u x f =
    let step = chain_step ht hs (simulated x.run ht) hk hz h in
    let xs = f x.value (carried_scoped (run_scoped x.run ht) 0 0 (omega arith)) (follow step u (omega arith)) in
    record { values = cons x.value xs.values; runs = then x.run xs.runs }

chain_back : {g : ℕ} → Back g → {ts ks : Terms} {z w : Term} {i : ℕ} → Scopedᵗ rules 0 0 ts → Scopedᵗ images 0 0 ks → Scoped images i 0 z
    → i ≤ size ts + size ks → Under (sub 0 0 ks nil (chain ts z)) w g → Rans rules ts
unfolding size chain sub
chain_back back s_nil hk hz h u = record { values = nil; runs = done }
chain_back back {ks} {z} {w} (s_cons {t} {ts} ht hs) hk hz h u =
    rest_back ht hs hk hz h u
    (back t (sub 1 0 ks nil (chain ts z)) w ht (chain_k hk hs hz h) (rw (stay ht ks nil 0 0 (omega arith)) at u))
    (λ v hv x. chain_back back hs (s_cons hv hk) hz (omega arith) x)

-- the parts of a term come to values, and the ending runs
parts_back : {g : ℕ} → Back g → {t z p w : Term} {ts : Terms} → Linked t ts z → Scopedᵗ rules 0 0 ts → Scoped images 1 0 p
    → Under (to (passing t) (lam p)) w (suc g) → (r : Rans rules ts) × Under (sub 0 0 (rev (carrieds r.values) (cons (lam p) nil)) nil z) w g
unfolding size
parts_back back k hs hp u =
    let r = chain_back back hs (s_cons (s_fun hp) s_nil) k.ends (omega arith) (follow (enter v_fun) (rw k.passes at u) (omega arith)) in
    (r, follow (through k (simulatedᵗ r.runs hs) hp) u (omega arith))

-- what the body comes to, the term comes to
last : {t t' : Term} → ((v : Term) → Run rules t' v → Run rules t v) → Ran rules t' → Ran rules t
last f x = record { value = x.value; run = f x.value x.run }

-- the terms, case by case, once their parts have come to values
let_back : {m b p w : Term} {vs : Terms} {g : ℕ} → Back g → Scoped rules 0 0 m → Scoped rules 0 1 b → Scoped images 1 0 p → Runs rules (cons m nil) vs
    → Under (sub 0 0 (rev (carrieds vs) (cons (lam p) nil)) nil (letting (passing b))) w g → Ran rules (bind m b)
unfolding rev carrieds
let_back {b} {p} {w} back hm hb hp (then {v} r done) u =
    last (λ x s. bound r s)
    (back (sub 0 0 nil (cons v nil) b) p w (let_scoped hb (run_scoped r hm)) hp (follow (end_bound (run_value r) hb (s_fun hp)) u (omega arith)))

call_back : {f p w : Term} {ps vs : Terms} {g : ℕ} → Back g → Scoped rules 0 0 f → Scopedᵗ rules 0 0 ps → Scoped images 1 0 p → Runs rules (cons f ps) vs
    → Under (sub 0 0 (rev (carrieds vs) (cons (lam p) nil)) nil (calling (size ps))) w g → Ran rules (call f ps)
unfolding rev carrieds enters
call_back {f} {p} {w} {ps} {g} back hf hs hp (then {vs} r rs) u = go (run_value r) r (run_scoped r hf) u
  where
    ending : (v : Term) → sub 0 0 (rev (carrieds vs) (cons (carried v) (cons (lam p) nil))) nil (calling (size ps)) ≡ call (carried v) (cons (lam p) (carrieds vs))
    ending v = rw (← (runs_size rs), ← (size_carrieds vs)) (calling_sub (carrieds vs) (carried v) (lam p))

    go : {v : Term} → Value v → Run rules f v → Scoped rules 0 0 v
        → Under (sub 0 0 (rev (carrieds vs) (cons (carried v) (cons (lam p) nil))) nil (calling (size ps))) w g → Ran rules (call f ps)
    go (v_con {t} {ps = qs} vv) r hv u = absurd (no_call (carrieds_values vv) (rw (ending (con t qs)) at u.run))
    go (v_num {n}) r hv u = absurd (no_call_num (rw (ending (num n)) at u.run))
    go (v_fun {o} {a} {b}) r hv u =
        let entered = uncalled (v_cons v_fun (carrieds_values (runs_values rs))) (rw (ending (fun o a b)) at u.run) in
        let n : size vs ≡ a = sym (size_carrieds vs) ∙ entered_fits images o (to (passing b) (kvar 0)) w a (cons (lam p) nil) (carrieds vs) entered in
        let fits = counted_fits a nil vs n in
        last (λ x s. called r rs fits s)
        (back _ p w (call_scoped hv (runs_scoped rs hs) fits) hp (follow (end_called vs (runs_size rs) n v_fun (runs_values rs) hv) u (omega arith)))

match_back : {m p w : Term} {vs : Terms} {ps : Arms} {g : ℕ} → Back g → Scoped rules 0 0 m → Scopedᵃ rules 0 0 ps → Scoped images 1 0 p → Runs rules (cons m nil) vs
    → Under (sub 0 0 (rev (carrieds vs) (cons (lam p) nil)) nil (matching (passingᵃ ps))) w g → Ran rules (cases m ps)
unfolding rev carrieds sub
match_back {m} {p} {w} {ps} {g} back hm hs hp (then r done) u = go (run_value r) r (run_scoped r hm) u
  where
    arm_back : {t : ℕ} {vs : Terms} → Values vs → Run rules m (con t vs) → Scoped rules 0 0 (con t vs)
        → Under (sub 0 0 (cons (carried (con t vs)) (cons (lam p) nil)) nil (matching (passingᵃ ps))) w g
        → (x : Option Term) → took t (size vs) ps ≡ x → Ran rules (cases m ps)
    arm_back {t} {vs} vv r hv u nothing y =
        let arms = subᵃ 0 0 (cons (con t (carrieds vs)) (cons (lam p) nil)) nil (passingᵃ ps) in
        let no_arm : took t (size (carrieds vs)) arms ≡ nothing
        = rw (size_carrieds vs, took_image (con t (carrieds vs)) (lam p) t (size vs) hs, y) refl in
        absurd (subst (Chosen images (carrieds vs) w) no_arm (unmatched (carrieds_values vv) u.run))
    arm_back {t} {vs} vv r hv u (some b) y =
        last (λ x s. matched r y s)
        (back (sub 0 0 nil (rev vs nil) b) p w (arm_scoped y hs hv) hp (follow (end_matched t vs ps y vv hs (s_fun hp)) u (omega arith)))

    go : {v : Term} → Value v → Run rules m v → Scoped rules 0 0 v
        → Under (sub 0 0 (cons (carried v) (cons (lam p) nil)) nil (matching (passingᵃ ps))) w g → Ran rules (cases m ps)
    go v_fun r hv u = absurd (no_match u.run)
    go v_num r hv u = absurd (no_match_num u.run)
    go (v_con {t} {ps = vs} vv) r hv u = arm_back vv r hv u (took t (size vs) ps) refl

-- a constructor is a value, or is built of what its parts come to
con_back : {p w : Term} {t : ℕ} {ps : Terms} {g : ℕ} → Back g → (e : Bool) → atoms ps ≡ e → Scopedᵗ rules 0 0 ps → Scoped images 1 0 p
    → Under (to (passing (con t ps)) (lam p)) w (suc g) → Ran rules (con t ps)
con_back back true e hs hp u = record { value = _; run = taken (v_con (closed_values hs refl e)) }
con_back {t} back false e hs hp u = let r = (parts_back back (linked_build t e) hs hp u).0 in record { value = con t r.values; run = built e r.runs }

-- an operation on carried forms is the operation on the values
ungive : {o : ℕ} {vs : Terms} {w : Term} → Values vs → Gives o (carrieds vs) w → Given o vs
unfolding carried
ungive (v_cons v_num (v_cons v_num v_nil)) adds = record { result = _; gives = adds }
ungive (v_cons v_num (v_cons v_num v_nil)) subtracts = record { result = _; gives = subtracts }
ungive (v_cons v_num (v_cons v_num v_nil)) less = record { result = _; gives = less }
ungive v_nil y = elim y [ ]
ungive (v_cons v_fun _) y = elim y [ ]
ungive (v_cons (v_con _) _) y = elim y [ ]
ungive (v_cons v_num v_nil) y = elim y [ ]
ungive (v_cons v_num (v_cons v_fun _)) y = elim y [ ]
ungive (v_cons v_num (v_cons (v_con _) _)) y = elim y [ ]
ungive (v_cons v_num (v_cons v_num (v_cons _ _))) y = elim y [ ]

-- the ending hands the operation on the carried forms to the continuation, so that it gives something
op_back : (p : Term) {w : Term} {o : ℕ} {ps vs : Terms} → Runs rules ps vs → Run images (sub 0 0 (rev (carrieds vs) (cons (lam p) nil)) nil (working o (size ps))) w
    → Ran rules (op o ps)
op_back p {w} {o} {ps} {vs} rs u =
    let ending : sub 0 0 (rev (carrieds vs) (cons (lam p) nil)) nil (working o (size ps)) ≡ to (lam p) (op o (carrieds vs))
    = rw (← (runs_size rs), ← (size_carrieds vs)) (working_sub o (carrieds vs) (lam p)) in
    let (v, r) = argument_comes (rw ending at u) in
    let x = ungive (runs_values rs) (unoperated (carrieds_values (runs_values rs)) r) in
    record { value = x.result; run = operated rs x.gives }

back : (g : ℕ) → Back g
back zero t p w h hp u = absurd (omega (arith, u.below))
back (suc g) (var i) p w (s_var h) hp u = absurd (omega arith)
back (suc g) (kvar i) p w (s_kvar l h) hp u = absurd l
back (suc g) (fun o a b) p w h hp u = record { value = fun o a b; run = taken v_fun }
back (suc g) (call f ps) p w (s_call hf hs) hp u = let (r, k) = parts_back (back g) (linked_call f ps) (s_cons hf hs) hp u in call_back (back g) hf hs hp r.runs k
back (suc g) (bind m b) p w (s_bind hm hb) hp u = let (r, k) = parts_back (back g) (linked_let m hb) (s_cons hm s_nil) hp u in let_back (back g) hm hb hp r.runs k
back (suc g) (con t ps) p w (s_con hs) hp u = con_back (back g) (atoms ps) refl hs hp u
back (suc g) (cases m ps) p w (s_cases hm hs) hp u = let (r, k) = parts_back (back g) (linked_match m hs) (s_cons hm s_nil) hp u in match_back (back g) hm hs hp r.runs k
back (suc g) (num n) p w h hp u = record { value = num n; run = taken v_num }
back (suc g) (op o ps) p w (s_op hs) hp u = let (r, k) = parts_back (back g) (linked_op o ps) hs hp u in op_back p r.runs k.run

-- the image gives the passing form the continuation that returns its argument
pub rule_comes : {t w : Term} → Scoped rules 0 0 t → Run images (image t) w → Ran rules t
unfolding image
rule_comes {t} {w} h r = back (suc (count r).calls) t (kvar 0) w h (k_scoped 0 1 0 (omega arith)) record { run = r; below = omega arith }
