-- The transformation commutes with putting values in for source variables: the passing form of a term with values put in is the term's
-- passing form with their carried forms put in. By induction on the term's scope, which says that a rule has no continuation variables.
-- Depths that are equal in number only (`d + 0`) are kept apart, with an equation. Assumes nothing.
use Prim.Native.Nat.{ℕ, zero, suc, ◌+◌, ◌≤◌}
use mathlib.Core.Bool.{Bool, true, false, cond, ◌&&◌}
use mathlib.Core.Path.{◌≡◌, refl, ap, ap₂}
use native.Mathlib.Omega.{arith}
use Rattle.language.specs.Term.{rules, images, Term, Terms, Arms, var, kvar, fun, call, bind, con, cases, num, op, nil, cons, arm, size}
use Rattle.language.specs.Scope.{Scoped, Scopedᵗ, Scopedᵃ, s_var, s_kvar, s_fun, s_call, s_bind, s_con, s_cases, s_num, s_op, s_nil, s_cons, s_none, s_arm}
use Rattle.language.specs.Sub.{look, sub, subᵗ, subᵃ}
use Rattle.language.specs.Run.{atom, atoms, Values, v_nil, v_cons}
use Rattle.language.specs.Image.{lam, to, passing, carried, carrieds, chain, passingᵃ}
use Rattle.language.proofs.Forms.{value_atom, passing_atom}
use Rattle.meaning.proofs.Scopes.{keep}
use Rattle.meaning.proofs.Forms.{calling_scoped, making_scoped, working_scoped, letting, matching}

pub size_sub : (dk dx : ℕ) (ks xs ts : Terms) → size (subᵗ dk dx ks xs ts) ≡ size ts
unfolding size subᵗ
size_sub dk dx ks xs nil = refl
size_sub dk dx ks xs (cons t ts) = ap suc (size_sub dk dx ks xs ts)

-- what goes in for a variable is an atom as the variable is
look_atom : {xs : Terms} → Values xs → (d i : ℕ) (e : Term) → atom e ≡ true → atom (look d xs i e) ≡ true
unfolding look
look_atom v_nil zero i e h = h
look_atom (v_cons v vs) zero zero e h = value_atom v
look_atom (v_cons v vs) zero (suc i) e h = look_atom vs zero i e h
look_atom vs (suc d) zero e h = h
look_atom vs (suc d) (suc i) e h = look_atom vs d i e h

look_carried : (xs : Terms) (d i : ℕ) (e : Term) → carried (look d xs i e) ≡ look d (carrieds xs) i (carried e)
unfolding look carried
look_carried nil zero i e = refl
look_carried (cons x xs) zero zero e = refl
look_carried (cons x xs) zero (suc i) e = look_carried xs zero i e
look_carried xs (suc d) zero e = refl
look_carried xs (suc d) (suc i) e = look_carried xs d i e

-- an atom stays an atom and what is none stays none
mutual
  unfolding atom sub

  pub atom_sub : (t : Term) {xs : Terms} → Values xs → (dk dx : ℕ) → atom (sub dk dx nil xs t) ≡ atom t
  atom_sub (var i) xv dk dx = look_atom xv dx i (var i) refl
  atom_sub (kvar i) xv dk dx = look_atom v_nil dk i (kvar i) refl
  atom_sub (fun o a b) xv dk dx = refl
  atom_sub (call f ps) xv dk dx = refl
  atom_sub (bind m b) xv dk dx = refl
  atom_sub (con t ps) xv dk dx = atoms_sub ps xv dk dx
  atom_sub (cases m ps) xv dk dx = refl
  atom_sub (num n) xv dk dx = refl
  atom_sub (op o ps) xv dk dx = refl

  pub atoms_sub : (ts : Terms) {xs : Terms} → Values xs → (dk dx : ℕ) → atoms (subᵗ dk dx nil xs ts) ≡ atoms ts
  atoms_sub nil xv dk dx = refl
  atoms_sub (cons t ts) xv dk dx = ap₂ ◌&&◌ (atom_sub t xv dk dx) (atoms_sub ts xv dk dx)

cond_ap : (φ : Term → Term) {b b' : Bool} {x y x' y' : Term} → b' ≡ b → φ x ≡ x' → φ y ≡ y' → φ (cond b x y) ≡ cond b' x' y'
cond_ap φ {b} {b'} {x} {y} {x'} {y'} e p q = rw e (go b)
  where
    go : (b : Bool) → φ (cond b x y) ≡ cond b x' y'
    go true = p
    go false = q

passing_look : {xs : Terms} → Values xs → (i dx dx' : ℕ) → dx' ≡ dx
    → lam (to (kvar 0) (look dx' (carrieds xs) i (var i))) ≡ passing (look dx xs i (var i))
unfolding carried atom
passing_look {xs} xv i dx dx' e = rw (e, passing_atom _ (look_atom xv dx i (var i) refl), look_carried xs dx i (var i))

-- the passing form of a function, x being its body's; of a term whose passing form is x, before what comes after it
abbrev function : ℕ → ℕ → Term → Term
function o a x = lam (to (kvar 0) (fun o a (to x (kvar 0))))

abbrev before : Term → Term → Term
before x y = to x (lam y)

module _ (ks xs : Terms) (xv : Values xs) where
  mutual
    unfolding sub passing size

    pub passing_sub : {c d : ℕ} {t : Term} → Scoped rules c d t → (dk dx dk' dx' : ℕ) → dx' ≡ dx
        → sub dk' dx' ks (carrieds xs) (passing t) ≡ passing (sub dk dx nil xs t)
    passing_sub (s_var {i} h) dk dx dk' dx' e = passing_look xv i dx (dx' + 0 + 0) (omega arith)
    passing_sub (s_kvar l h) dk dx dk' dx' e = absurd l
    passing_sub (s_fun {o} {a} b) dk dx dk' dx' e =
        ap (function o a) (passing_sub b (suc dk) (dx + a + o) (suc (suc dk')) (dx' + 0 + 0 + a + o) (omega arith))
    passing_sub (s_call {ps} f hs) dk dx dk' dx' e =
        ap₂ (λ x y. lam (before x y)) (passing_sub f dk dx (suc dk') (dx' + 0 + 0) (omega arith))
        (rw (size_sub dk dx nil xs ps)
        (chain_sub hs (calling_scoped (size ps)) dk dx (suc (suc dk')) (dx' + 0 + 0 + 0 + 0) (omega arith) (omega arith)))
    passing_sub (s_bind m b) dk dx dk' dx' e =
        ap₂ (λ x y. lam (before x (letting y))) (passing_sub m dk dx (suc dk') (dx' + 0 + 0) (omega arith))
        (passing_sub b dk (suc dx) (suc (suc dk')) (suc (dx' + 0 + 0 + 0 + 0)) (omega arith))
    passing_sub (s_con {t} {ps} hs) dk dx dk' dx' e =
        ap lam (cond_ap (sub (suc dk') (dx' + 0 + 0) ks (carrieds xs)) (atoms_sub ps xv dk dx)
        (ap (λ x. to (kvar 0) (con t x)) (carrieds_sub hs dk dx (suc dk') (dx' + 0 + 0) (omega arith)))
        (rw (size_sub dk dx nil xs ps) (chain_sub hs (making_scoped t (size ps)) dk dx (suc dk') (dx' + 0 + 0) (omega arith) (omega arith))))
    passing_sub (s_cases m ps) dk dx dk' dx' e =
        ap₂ (λ x y. lam (before x (matching y))) (passing_sub m dk dx (suc dk') (dx' + 0 + 0) (omega arith))
        (passingᵃ_sub ps dk dx dk' (dx' + 0 + 0 + 0 + 0) (omega arith))
    passing_sub s_num dk dx dk' dx' e = refl
    passing_sub (s_op {o} {ps} hs) dk dx dk' dx' e =
        ap lam (rw (size_sub dk dx nil xs ps) (chain_sub hs (working_scoped o (size ps)) dk dx (suc dk') (dx' + 0 + 0) (omega arith) (omega arith)))

    pub carried_sub : {c d : ℕ} {t : Term} → Scoped rules c d t → (dk dx dk' dx' : ℕ) → dx' ≡ dx
        → sub dk' dx' ks (carrieds xs) (carried t) ≡ carried (sub dk dx nil xs t)
    carried_sub (s_var {i} h) dk dx dk' dx' e = rw (e, look_carried xs dx i (var i))
    carried_sub (s_kvar l h) dk dx dk' dx' e = absurd l
    carried_sub (s_fun {o} {a} b) dk dx dk' dx' e =
        ap (λ x. fun o a (to x (kvar 0))) (passing_sub b (suc dk) (dx + a + o) (suc dk') (dx' + a + o) (omega arith))
    carried_sub (s_call f ps) dk dx dk' dx' e = refl
    carried_sub (s_bind m b) dk dx dk' dx' e = refl
    carried_sub (s_con {t} ps) dk dx dk' dx' e = ap (con t) (carrieds_sub ps dk dx dk' dx' e)
    carried_sub (s_cases m ps) dk dx dk' dx' e = refl
    carried_sub s_num dk dx dk' dx' e = refl
    carried_sub (s_op ps) dk dx dk' dx' e = refl

    pub carrieds_sub : {c d : ℕ} {ts : Terms} → Scopedᵗ rules c d ts → (dk dx dk' dx' : ℕ) → dx' ≡ dx
        → subᵗ dk' dx' ks (carrieds xs) (carrieds ts) ≡ carrieds (subᵗ dk dx nil xs ts)
    carrieds_sub s_nil dk dx dk' dx' e = refl
    carrieds_sub (s_cons t ts) dk dx dk' dx' e = ap₂ cons (carried_sub t dk dx dk' dx' e) (carrieds_sub ts dk dx dk' dx' e)

    -- the ending names nothing that is put in for
    pub chain_sub : {c d : ℕ} {ts : Terms} → Scopedᵗ rules c d ts → {n : ℕ} {z : Term} → Scoped images n 0 z → (dk dx dk' dx' : ℕ)
        → n ≤ size ts + dk' → dx' ≡ dx → sub dk' dx' ks (carrieds xs) (chain ts z) ≡ chain (subᵗ dk dx nil xs ts) z
    chain_sub s_nil z dk dx dk' dx' h e = keep ks (carrieds xs) z dk' dx' (omega arith) (omega arith)
    chain_sub (s_cons t ts) z dk dx dk' dx' h e =
        ap₂ before (passing_sub t dk dx dk' dx' e) (chain_sub ts z dk dx (suc dk') (dx' + 0 + 0) (omega arith) (omega arith))

    pub passingᵃ_sub : {c d : ℕ} {ps : Arms} → Scopedᵃ rules c d ps → (dk dx dk' dx' : ℕ) → dx' ≡ dx
        → subᵃ (suc (suc dk')) dx' ks (carrieds xs) (passingᵃ ps) ≡ passingᵃ (subᵃ dk dx nil xs ps)
    passingᵃ_sub s_none dk dx dk' dx' e = refl
    passingᵃ_sub (s_arm {t} {n} b ps) dk dx dk' dx' e =
        ap₂ (λ x y. arm t n (to x (kvar 1)) y) (passing_sub b dk (dx + n) (suc (suc dk')) (dx' + n) (omega arith)) (passingᵃ_sub ps dk dx dk' dx' e)
