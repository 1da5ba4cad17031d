-- What putting closed terms in does to a term that names few variables: nothing, if it names none of those put in for; else the result
-- names only those that are left. By induction on the term's scope. Assumes nothing.
use Prim.Native.Nat.{ℕ, zero, suc, ◌+◌, ◌≤◌, ◌<◌}
use mathlib.Core.Path.{◌≡◌, refl, ap, ap₂}
use native.Mathlib.Omega.{arith}
use Rattle.language.specs.Term.{Lang, Term, Terms, Arms, var, kvar, fun, call, bind, con, cases, op, cons, arm, size}
use Rattle.language.specs.Scope.{HasK, Scoped, Scopedᵗ, Scopedᵃ, s_var, s_kvar, s_fun, s_call, s_bind, s_con, s_cases, s_num, s_op, s_nil, s_cons, s_none, s_arm}
use Rattle.language.specs.Sub.{look, sub, subᵗ, subᵃ}

-- a term may stand where more variables are bound
mutual
  pub widen : {L : Lang} {c d : ℕ} {t : Term} → Scoped L c d t → (c' d' : ℕ) → c ≤ c' → d ≤ d' → Scoped L c' d' t
  widen (s_var {i} h) c' d' p q = s_var {d = d'} {i = i} (omega arith)
  widen (s_kvar {i} l h) c' d' p q = s_kvar {c = c'} {i = i} l (omega arith)
  widen (s_fun {o} {a} b) c' d' p q = s_fun (widen b (suc c') (d' + a + o) (omega arith) (omega arith))
  widen (s_call f ps) c' d' p q = s_call (widen f c' d' p q) (widenᵗ ps c' d' p q)
  widen (s_bind m b) c' d' p q = s_bind (widen m c' d' p q) (widen b c' (suc d') p (omega arith))
  widen (s_con ps) c' d' p q = s_con (widenᵗ ps c' d' p q)
  widen (s_cases m ps) c' d' p q = s_cases (widen m c' d' p q) (widenᵃ ps c' d' p q)
  widen s_num c' d' p q = s_num
  widen (s_op ps) c' d' p q = s_op (widenᵗ ps c' d' p q)

  pub widenᵗ : {L : Lang} {c d : ℕ} {ts : Terms} → Scopedᵗ L c d ts → (c' d' : ℕ) → c ≤ c' → d ≤ d' → Scopedᵗ L c' d' ts
  widenᵗ s_nil c' d' p q = s_nil
  widenᵗ (s_cons t ts) c' d' p q = s_cons (widen t c' d' p q) (widenᵗ ts c' d' p q)

  pub widenᵃ : {L : Lang} {c d : ℕ} {ps : Arms} → Scopedᵃ L c d ps → (c' d' : ℕ) → c ≤ c' → d ≤ d' → Scopedᵃ L c' d' ps
  widenᵃ s_none c' d' p q = s_none
  widenᵃ (s_arm {n} b ps) c' d' p q = s_arm (widen b c' (d' + n) p (omega arith)) (widenᵃ ps c' d' p q)

-- a bound variable stays as it is
look_below : (d : ℕ) (xs : Terms) (i : ℕ) (e : Term) → i < d → look d xs i e ≡ e
unfolding look
look_below zero xs i e h = absurd (omega arith)
look_below (suc d) xs zero e h = refl
look_below (suc d) xs (suc i) e h = look_below d xs i e (omega arith)

-- a term is not changed by putting terms in for variables that it does not name
module _ (ks xs : Terms) where
  mutual
    unfolding sub

    pub keep : {L : Lang} {c d : ℕ} {t : Term} → Scoped L c d t → (dk dx : ℕ) → c ≤ dk → d ≤ dx → sub dk dx ks xs t ≡ t
    keep (s_var {i} h) dk dx p q = look_below dx xs i (var i) (omega arith)
    keep (s_kvar {i} l h) dk dx p q = look_below dk ks i (kvar i) (omega arith)
    keep (s_fun {o} {a} b) dk dx p q = ap (fun o a) (keep b (suc dk) (dx + a + o) (omega arith) (omega arith))
    keep (s_call f ps) dk dx p q = ap₂ call (keep f dk dx p q) (keepᵗ ps dk dx p q)
    keep (s_bind m b) dk dx p q = ap₂ bind (keep m dk dx p q) (keep b dk (suc dx) p (omega arith))
    keep (s_con {t} ps) dk dx p q = ap (con t) (keepᵗ ps dk dx p q)
    keep (s_cases m ps) dk dx p q = ap₂ cases (keep m dk dx p q) (keepᵃ ps dk dx p q)
    keep s_num dk dx p q = refl
    keep (s_op {o} ps) dk dx p q = ap (op o) (keepᵗ ps dk dx p q)

    pub keepᵗ : {L : Lang} {c d : ℕ} {ts : Terms} → Scopedᵗ L c d ts → (dk dx : ℕ) → c ≤ dk → d ≤ dx → subᵗ dk dx ks xs ts ≡ ts
    keepᵗ s_nil dk dx p q = refl
    keepᵗ (s_cons t ts) dk dx p q = ap₂ cons (keep t dk dx p q) (keepᵗ ts dk dx p q)

    pub keepᵃ : {L : Lang} {c d : ℕ} {ps : Arms} → Scopedᵃ L c d ps → (dk dx : ℕ) → c ≤ dk → d ≤ dx → subᵃ dk dx ks xs ps ≡ ps
    keepᵃ s_none dk dx p q = refl
    keepᵃ (s_arm {t} {n} b ps) dk dx p q = ap₂ (arm t n) (keep b dk (dx + n) p (omega arith)) (keepᵃ ps dk dx p q)

-- what goes in for the variable i < d + size xs is closed, or it is the variable itself and i < d
look_scoped : {L : Lang} {c x : ℕ} {xs : Terms} {e : Term} → Scopedᵗ L 0 0 xs → (d i : ℕ) → i < d + size xs
    → (i < d → Scoped L c x e) → Scoped L c x (look d xs i e)
unfolding look size
look_scoped s_nil zero i h g = absurd (omega arith)
look_scoped {c} {x} (s_cons t ts) zero zero h g = widen t c x (omega arith) (omega arith)
look_scoped (s_cons t ts) zero (suc i) h g = look_scoped ts zero i (omega arith) (λ l. g (omega arith))
look_scoped ts (suc d) zero h g = g (omega arith)
look_scoped ts (suc d) (suc i) h g = look_scoped ts d i (omega arith) (λ l. g (omega arith))

-- with ks and xs put in, a term names only the variables under them; a rule has no continuation variables to speak of
module _ {L : Lang} {ks xs : Terms} (kc : Scopedᵗ L 0 0 ks) (xc : Scopedᵗ L 0 0 xs) where
  mutual
    unfolding sub

    pub sub_scoped : {c d : ℕ} {t : Term} → Scoped L c d t → (dk dx : ℕ) → (HasK L → c ≤ dk + size ks) → d ≤ dx + size xs
        → Scoped L dk dx (sub dk dx ks xs t)
    sub_scoped (s_var {i} h) dk dx p q = look_scoped xc dx i (omega arith) (λ h. s_var h)
    sub_scoped (s_kvar {i} l h) dk dx p q = look_scoped kc dk i (omega (arith, p l)) (λ h. s_kvar l h)
    sub_scoped (s_fun {o} {a} b) dk dx p q = s_fun (sub_scoped b (suc dk) (dx + a + o) (λ l. omega (arith, p l)) (omega arith))
    sub_scoped (s_call f ps) dk dx p q = s_call (sub_scoped f dk dx p q) (subᵗ_scoped ps dk dx p q)
    sub_scoped (s_bind m b) dk dx p q = s_bind (sub_scoped m dk dx p q) (sub_scoped b dk (suc dx) p (omega arith))
    sub_scoped (s_con ps) dk dx p q = s_con (subᵗ_scoped ps dk dx p q)
    sub_scoped (s_cases m ps) dk dx p q = s_cases (sub_scoped m dk dx p q) (subᵃ_scoped ps dk dx p q)
    sub_scoped s_num dk dx p q = s_num
    sub_scoped (s_op ps) dk dx p q = s_op (subᵗ_scoped ps dk dx p q)

    pub subᵗ_scoped : {c d : ℕ} {ts : Terms} → Scopedᵗ L c d ts → (dk dx : ℕ) → (HasK L → c ≤ dk + size ks) → d ≤ dx + size xs
        → Scopedᵗ L dk dx (subᵗ dk dx ks xs ts)
    subᵗ_scoped s_nil dk dx p q = s_nil
    subᵗ_scoped (s_cons t ts) dk dx p q = s_cons (sub_scoped t dk dx p q) (subᵗ_scoped ts dk dx p q)

    pub subᵃ_scoped : {c d : ℕ} {ps : Arms} → Scopedᵃ L c d ps → (dk dx : ℕ) → (HasK L → c ≤ dk + size ks) → d ≤ dx + size xs
        → Scopedᵃ L dk dx (subᵃ dk dx ks xs ps)
    subᵃ_scoped s_none dk dx p q = s_none
    subᵃ_scoped (s_arm {n} b ps) dk dx p q = s_arm (sub_scoped b dk (dx + n) p (omega arith)) (subᵃ_scoped ps dk dx p q)
