-- The carried and the passing form of a term: a value's carried form is a value, and both forms name the source variables that the term
-- names and no continuation variable from outside. By induction on the term's scope. Assumes nothing.
use Prim.Native.Nat.{ℕ, zero, suc, ◌+◌, ◌≤◌, ◌<◌}
use mathlib.Core.Bool.{Bool, true, false, cond}
use native.Mathlib.Omega.{arith}
use Rattle.language.specs.Term.{Lang, rules, images, Term, Terms, Arms, kvar, fun, bind, cases, size}
use Rattle.language.specs.Scope.{Scoped, Scopedᵗ, Scopedᵃ, s_var, s_kvar, s_fun, s_call, s_bind, s_con, s_cases, s_num, s_op, s_nil, s_cons, s_none, s_arm}
use Rattle.language.specs.Run.{atoms, Value, Values, v_fun, v_con, v_num, v_nil, v_cons}
use Rattle.language.specs.Image.{to, downto, calling, making, working, passing, carried, carrieds, chain, passingᵃ}
use Rattle.meaning.proofs.Scopes.{widen}

mutual
  unfolding carried

  pub carried_value : {v : Term} → Value v → Value (carried v)
  carried_value v_fun = v_fun
  carried_value (v_con vs) = v_con (carrieds_values vs)
  carried_value v_num = v_num

  pub carrieds_values : {vs : Terms} → Values vs → Values (carrieds vs)
  carrieds_values v_nil = v_nil
  carrieds_values (v_cons v vs) = v_cons (carried_value v) (carrieds_values vs)

-- k_i, where it is bound
pub k_scoped : (i c d : ℕ) → i < c → Scoped images c d (kvar i)
k_scoped i c d h = s_kvar tt h

-- a call with one argument
pub to_scoped : {c d : ℕ} {f p : Term} → Scoped images c d f → Scoped images c d p → Scoped images c d (to f p)
to_scoped f p = s_call f (s_cons p s_nil)

-- the endings of chains name the continuation variables that the chain binds, and nothing else
downto_scoped : (n c : ℕ) → n ≤ c → Scopedᵗ images c 0 (downto n)
unfolding downto
downto_scoped zero c h = s_nil
downto_scoped (suc n) c h = s_cons (k_scoped n c 0 h) (downto_scoped n c (omega arith))

pub calling_scoped : (n : ℕ) → Scoped images (suc (suc n)) 0 (calling n)
calling_scoped n =
    s_call (k_scoped n (suc (suc n)) 0 (omega arith))
    (s_cons (k_scoped (suc n) (suc (suc n)) 0 (omega arith)) (downto_scoped n (suc (suc n)) (omega arith)))

pub making_scoped : (t n : ℕ) → Scoped images (suc n) 0 (making t n)
making_scoped t n = to_scoped (k_scoped n (suc n) 0 (omega arith)) (s_con (downto_scoped n (suc n) (omega arith)))

pub working_scoped : (o n : ℕ) → Scoped images (suc n) 0 (working o n)
working_scoped o n = to_scoped (k_scoped n (suc n) 0 (omega arith)) (s_op (downto_scoped n (suc n) (omega arith)))

-- how the passing form of a let ends, x being the body's; of a match, ps being the arms
abbrev pub letting : Term → Term
letting x = bind (kvar 0) (to x (kvar 1))

abbrev pub matching : Arms → Term
matching ps = cases (kvar 0) ps

pub letting_scoped : (c d : ℕ) {x : Term} → Scoped images (suc (suc c)) (suc d) x → Scoped images (suc (suc c)) d (letting x)
letting_scoped c d h = s_bind (k_scoped 0 (suc (suc c)) d (omega arith)) (to_scoped h (k_scoped 1 (suc (suc c)) (suc d) (omega arith)))

pub matching_scoped : (c d : ℕ) {ps : Arms} → Scopedᵃ images (suc (suc c)) d ps → Scoped images (suc (suc c)) d (matching ps)
matching_scoped c d h = s_cases (k_scoped 0 (suc (suc c)) d (omega arith)) h

-- the carried form of a function, x being its body's passing form
carrying_scoped : (c d o a : ℕ) {x : Term} → Scoped images (suc c) (d + a + o) x → Scoped images c d (fun o a (to x (kvar 0)))
carrying_scoped c d o a h = s_fun (to_scoped h (k_scoped 0 (suc c) (d + a + o) (omega arith)))

-- the passing form of an atom, x being its carried form
handing_scoped : (c d : ℕ) {x : Term} → Scoped images (suc c) d x → Scoped images (suc c) d (to (kvar 0) x)
handing_scoped c d h = to_scoped (k_scoped 0 (suc c) d (omega arith)) h

cond_scoped : {L : Lang} {c d : ℕ} (b : Bool) {x y : Term} → Scoped L c d x → Scoped L c d y → Scoped L c d (cond b x y)
cond_scoped true p q = p
cond_scoped false p q = q

-- so many source variables are bound under an added function, which binds none
abbrev same : ℕ → ℕ
same d = d + 0 + 0

mutual
  unfolding passing size

  pub passing_scoped : {c d : ℕ} {t : Term} → Scoped rules c d t → (c' d' : ℕ) → d ≤ d' → Scoped images c' d' (passing t)
  passing_scoped (s_var {i} h) c' d' e = s_fun (handing_scoped c' (same d') (s_var {d = same d'} {i = i} (omega arith)))
  passing_scoped (s_kvar l h) c' d' e = absurd l
  passing_scoped (s_fun {o} {a} b) c' d' e =
      s_fun (handing_scoped c' (same d') (carrying_scoped (suc c') (same d') o a (passing_scoped b (suc (suc c')) (same d' + a + o) (omega arith))))
  passing_scoped (s_call {ps} f hs) c' d' e =
      s_fun (to_scoped (passing_scoped f (suc c') (same d') (omega arith))
      (s_fun (chain_scoped hs (calling_scoped (size ps)) (suc (suc c')) (same (same d')) (omega arith) (omega arith))))
  passing_scoped (s_bind m b) c' d' e =
      s_fun (to_scoped (passing_scoped m (suc c') (same d') (omega arith))
      (s_fun (letting_scoped c' (same (same d')) (passing_scoped b (suc (suc c')) (suc (same (same d'))) (omega arith)))))
  passing_scoped (s_con {t} {ps} hs) c' d' e =
      s_fun (cond_scoped (atoms ps) (handing_scoped c' (same d') (s_con (carrieds_scoped hs (suc c') (same d') (omega arith))))
      (chain_scoped hs (making_scoped t (size ps)) (suc c') (same d') (omega arith) (omega arith)))
  passing_scoped (s_cases m ps) c' d' e =
      s_fun (to_scoped (passing_scoped m (suc c') (same d') (omega arith))
      (s_fun (matching_scoped c' (same (same d')) (passingᵃ_scoped ps c' (same (same d')) (omega arith)))))
  passing_scoped s_num c' d' e = s_fun (handing_scoped c' (same d') s_num)
  passing_scoped (s_op {o} {ps} hs) c' d' e = s_fun (chain_scoped hs (working_scoped o (size ps)) (suc c') (same d') (omega arith) (omega arith))

  pub carried_scoped : {c d : ℕ} {t : Term} → Scoped rules c d t → (c' d' : ℕ) → d ≤ d' → Scoped images c' d' (carried t)
  carried_scoped (s_var {i} h) c' d' e = s_var {d = d'} {i = i} (omega arith)
  carried_scoped (s_kvar l h) c' d' e = absurd l
  carried_scoped (s_fun {o} {a} b) c' d' e = carrying_scoped c' d' o a (passing_scoped b (suc c') (d' + a + o) (omega arith))
  carried_scoped (s_call f ps) c' d' e = s_con s_nil
  carried_scoped (s_bind m b) c' d' e = s_con s_nil
  carried_scoped (s_con ps) c' d' e = s_con (carrieds_scoped ps c' d' e)
  carried_scoped (s_cases m ps) c' d' e = s_con s_nil
  carried_scoped s_num c' d' e = s_num
  carried_scoped (s_op ps) c' d' e = s_con s_nil

  pub carrieds_scoped : {c d : ℕ} {ts : Terms} → Scopedᵗ rules c d ts → (c' d' : ℕ) → d ≤ d' → Scopedᵗ images c' d' (carrieds ts)
  carrieds_scoped s_nil c' d' e = s_nil
  carrieds_scoped (s_cons t ts) c' d' e = s_cons (carried_scoped t c' d' e) (carrieds_scoped ts c' d' e)

  -- the chain binds a continuation variable for each of its terms
  pub chain_scoped : {c d : ℕ} {ts : Terms} → Scopedᵗ rules c d ts → {n : ℕ} {z : Term} → Scoped images n 0 z → (c' d' : ℕ)
      → n ≤ size ts + c' → d ≤ d' → Scoped images c' d' (chain ts z)
  chain_scoped s_nil z c' d' h e = widen z c' d' (omega arith) (omega arith)
  chain_scoped (s_cons t ts) z c' d' h e =
      to_scoped (passing_scoped t c' d' e) (s_fun (chain_scoped ts z (suc c') (same d') (omega arith) (omega arith)))

  pub passingᵃ_scoped : {c d : ℕ} {ps : Arms} → Scopedᵃ rules c d ps → (c' d' : ℕ) → d ≤ d' → Scopedᵃ images (suc (suc c')) d' (passingᵃ ps)
  passingᵃ_scoped s_none c' d' e = s_none
  passingᵃ_scoped (s_arm {n} b ps) c' d' e =
      s_arm (to_scoped (passing_scoped b (suc (suc c')) (d' + n) (omega arith)) (k_scoped 1 (suc (suc c')) (d' + n) (omega arith)))
      (passingᵃ_scoped ps c' d' e)
