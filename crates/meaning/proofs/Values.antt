-- What a run comes to, in either language: a value, and a closed one where the term is closed. By induction on the run. Assumes nothing.
use Prim.Native.Nat.{ℕ, zero, suc, ◌+◌, ◌≤◌}
use mathlib.Core.Path.{◌≡◌, refl, ap}
use mathlib.Core.Bool.{Bool, true, false, cond}
use mathlib.Core.Option.{some, some-injective, none-ne-some}
use native.Mathlib.Omega.{arith}
use Rattle.language.specs.Term.{Lang, rules, images, Term, Terms, Arms, fun, con, nil, cons, size}
use Rattle.language.specs.Scope.{HasK, Scoped, Scopedᵗ, Scopedᵃ, s_fun, s_call, s_bind, s_con, s_cases, s_num, s_op, s_nil, s_cons, s_none, s_arm}
use Rattle.language.specs.Sub.{sub}
use Rattle.language.specs.Run.{Value, Values, v_con, v_num, v_nil, v_cons, Gives, adds, subtracts, less, enters, rev, itself, both, took}
use Rattle.language.specs.Run.{Run, Runs, taken, built, bound, called, matched, operated, done, then}
use Rattle.language.specs.Image.{carried, carrieds}
use Rattle.language.proofs.Forms.{size_itself, same_both, counted_is}
use Rattle.meaning.proofs.Scopes.{sub_scoped}

-- what an operation gives: a value, closed, and given by the operation on the carried forms as its carried form
pub gives_value : {o : ℕ} {vs : Terms} {v : Term} → Gives o vs v → Value v
gives_value adds = v_num
gives_value subtracts = v_num
gives_value less = v_con v_nil

pub gives_scoped : {L : Lang} {c d o : ℕ} {vs : Terms} {v : Term} → Gives o vs v → Scoped L c d v
gives_scoped adds = s_num
gives_scoped subtracts = s_num
gives_scoped less = s_con s_nil

pub gives_carried : {o : ℕ} {vs : Terms} {v : Term} → Gives o vs v → Gives o (carrieds vs) (carried v)
unfolding carried
gives_carried adds = adds
gives_carried subtracts = subtracts
gives_carried less = less

mutual
  pub run_value : {L : Lang} {t v : Term} → Run L t v → Value v
  run_value (taken x) = x
  run_value (built n r) = v_con (runs_values r)
  run_value (bound r s) = run_value s
  run_value (called f r e s) = run_value s
  run_value (matched r k s) = run_value s
  run_value (operated r g) = gives_value g

  pub runs_values : {L : Lang} {ts vs : Terms} → Runs L ts vs → Values vs
  runs_values done = v_nil
  runs_values (then r s) = v_cons (run_value r) (runs_values s)

pub runs_size : {L : Lang} {ts vs : Terms} → Runs L ts vs → size vs ≡ size ts
unfolding size
runs_size done = refl
runs_size (then r s) = ap suc (runs_size s)

-- arguments last first, before a function's names for itself
pub rev_values : {xs acc : Terms} → Values xs → Values acc → Values (rev xs acc)
unfolding rev
rev_values v_nil h = h
rev_values (v_cons v vs) h = rev_values vs (v_cons v h)

pub rev_scoped : {L : Lang} {c d : ℕ} {xs acc : Terms} → Scopedᵗ L c d xs → Scopedᵗ L c d acc → Scopedᵗ L c d (rev xs acc)
unfolding rev
rev_scoped s_nil h = h
rev_scoped (s_cons v vs) h = rev_scoped vs (s_cons v h)

pub size_rev : (xs acc : Terms) → size (rev xs acc) ≡ size xs + size acc
unfolding rev size
size_rev nil acc = omega arith
size_rev (cons x xs) acc = rw (size_rev xs (cons x acc)) (omega arith)

pub carrieds_rev : (xs acc : Terms) → carrieds (rev xs acc) ≡ rev (carrieds xs) (carrieds acc)
unfolding rev carrieds
carrieds_rev nil acc = refl
carrieds_rev (cons x xs) acc = carrieds_rev xs (cons x acc)

pub itself_scoped : (o : ℕ) {L : Lang} {c d : ℕ} {f : Term} → Scoped L c d f → Scopedᵗ L c d (itself o f)
unfolding itself
itself_scoped zero h = s_nil
itself_scoped (suc o) h = s_cons h (itself_scoped o h)

pub carrieds_itself : (o : ℕ) (f : Term) → carrieds (itself o f) ≡ itself o (carried f)
unfolding itself carrieds
carrieds_itself zero f = refl
carrieds_itself (suc o) f = ap (cons (carried f)) (carrieds_itself o f)

-- what the parts of a closed term and of a value are
pub in_fun : {L : Lang} {c d o a : ℕ} {b : Term} → Scoped L c d (fun o a b) → Scoped L (suc c) (d + a + o) b
in_fun (s_fun b) = b

pub in_con : {L : Lang} {c d t : ℕ} {ps : Terms} → Scoped L c d (con t ps) → Scopedᵗ L c d ps
in_con (s_con ps) = ps

pub in_values : {t : ℕ} {ps : Terms} → Value (con t ps) → Values ps
in_values (v_con vs) = vs

pub in_arms : {L : Lang} {c d : ℕ} (t n : ℕ) {ps : Arms} {b : Term} → took t n ps ≡ some b → Scopedᵃ L c d ps → Scoped L c (d + n) b
unfolding took
in_arms t n {b} k s_none = absurd (none-ne-some b k)
in_arms {L} {c} {d} t n {b} k (s_arm {t = t'} {n = n'} {b = b'} {ps} hb hs) = chosen (both t n t' n') refl k (λ k. in_arms t n k hs)
  where
    chosen : (e : Bool) → both t n t' n' ≡ e → cond e (some b') (took t n ps) ≡ some b → (took t n ps ≡ some b → Scoped L c (d + n) b)
        → Scoped L c (d + n) b
    chosen true e k more = rw ((same_both t n t' n' e).1, ← (some-injective b' b k)) hb
    chosen false e k more = more k

-- a body is closed once closed terms are in for all its variables
pub body_scoped : {L : Lang} {c d : ℕ} {b : Term} {ks xs acc : Terms} → Scoped L c d b → Scopedᵗ L 0 0 ks → Scopedᵗ L 0 0 xs → Scopedᵗ L 0 0 acc
    → (HasK L → c ≤ size ks) → d ≤ size xs + size acc → Scoped L 0 0 (sub 0 0 ks (rev xs acc) b)
body_scoped {xs} {acc} hb hk hx ha p q =
    sub_scoped hk (rev_scoped hx ha) hb 0 0 (λ l. omega (arith, p l)) (rw (size_rev xs acc) (omega arith))

pub let_scoped : {L : Lang} {v b : Term} → Scoped L 0 1 b → Scoped L 0 0 v → Scoped L 0 0 (sub 0 0 nil (cons v nil) b)
unfolding size rev
let_scoped hb hv = body_scoped {xs = cons _ nil} {acc = nil} hb s_nil (s_cons hv s_nil) s_nil (λ l. omega arith) (omega arith)

pub arm_scoped : {L : Lang} {vs : Terms} {t : ℕ} {b : Term} {ps : Arms} → took t (size vs) ps ≡ some b → Scopedᵃ L 0 0 ps → Scoped L 0 0 (con t vs)
    → Scoped L 0 0 (sub 0 0 nil (rev vs nil) b)
unfolding size
arm_scoped {vs} {t} k ps hv = body_scoped (in_arms t (size vs) k ps) s_nil (in_con hv) s_nil (λ l. omega arith) (omega arith)

pub call_scoped : {L : Lang} {o a : ℕ} {b : Term} {vs ks xs : Terms} → Scoped L 0 0 (fun o a b) → Scopedᵗ L 0 0 vs → enters L a vs ≡ some (ks, xs)
    → Scoped L 0 0 (sub 0 0 ks (rev xs (itself o (fun o a b))) b)
unfolding enters size
call_scoped {L = rules} {o} {a} {b} {vs} hf hs e =
    let (n, k, x) = counted_is a nil vs e in
    rw (← k, ← x) (body_scoped (in_fun hf) s_nil hs (itself_scoped o hf) (λ l. absurd l) (rw (size_itself o (fun o a b)) (omega arith)))
call_scoped {L = images} {vs = nil} {ks} {xs} hf s_nil e = absurd (none-ne-some (ks, xs) e)
call_scoped {L = images} {o} {a} {b} {vs = cons v vs} hf (s_cons hk hs) e =
    let (n, k, x) = counted_is a (cons v nil) vs e in
    rw (← k, ← x) (body_scoped (in_fun hf) (s_cons hk s_nil) hs (itself_scoped o hf) (λ l. omega arith) (rw (size_itself o (fun o a b)) (omega arith)))

mutual
  pub run_scoped : {L : Lang} {t v : Term} → Run L t v → Scoped L 0 0 t → Scoped L 0 0 v
  run_scoped (taken x) h = h
  run_scoped (built n r) (s_con ps) = s_con (runs_scoped r ps)
  run_scoped (bound r s) (s_bind m b) = run_scoped s (let_scoped b (run_scoped r m))
  run_scoped (called f r e s) (s_call hf hs) = run_scoped s (call_scoped (run_scoped f hf) (runs_scoped r hs) e)
  run_scoped (matched r k s) (s_cases hm hs) = run_scoped s (arm_scoped k hs (run_scoped r hm))
  run_scoped (operated r g) (s_op hs) = gives_scoped g

  pub runs_scoped : {L : Lang} {ts vs : Terms} → Runs L ts vs → Scopedᵗ L 0 0 ts → Scopedᵗ L 0 0 vs
  runs_scoped done h = s_nil
  runs_scoped (then r s) (s_cons t ts) = s_cons (run_scoped r t) (runs_scoped s ts)
