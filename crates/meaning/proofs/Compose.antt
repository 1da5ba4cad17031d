-- Closed terms put in twice are put in once: first those for the outer variables, then those for the inner ones, or all together. One law
-- for both kinds of variables, by induction on the term. Assumes nothing.
use Prim.Native.Nat.{ℕ, zero, suc, ◌+◌}
use mathlib.Core.Path.{◌≡◌, refl, ap, ap₂}
use native.Mathlib.Omega.{arith}
use Rattle.language.specs.Term.{Lang, Term, Terms, Arms, var, kvar, fun, call, bind, con, cases, num, op, nil, cons, none, arm, size}
use Rattle.language.specs.Scope.{Scoped, Scopedᵗ, s_nil, s_cons}
use Rattle.language.specs.Sub.{nth, look, sub, subᵗ, subᵃ}
use Rattle.meaning.proofs.Scopes.{keep}

-- the terms inner, and behind them the terms outer
unfoldable pub join : Terms → Terms → Terms
join nil outer = outer
join (cons t inner) outer = cons t (join inner outer)

-- φ is what the second putting in does to a term: nothing to a closed one, and to the variable e what it does to a variable
module _ (φ : Term → Term) {L : Lang} (same : (t : Term) → Scoped L 0 0 t → φ t ≡ t) where
  nth_twice : {outer : Terms} → Scopedᵗ L 0 0 outer → (i : ℕ) (e : Term) → φ e ≡ e → φ (nth outer i e) ≡ nth outer i e
  unfolding nth
  nth_twice s_nil i e h = h
  nth_twice (s_cons t ts) zero e h = same _ t
  nth_twice (s_cons t ts) (suc i) e h = nth_twice ts i e h

  look_twice : {outer : Terms} → Scopedᵗ L 0 0 outer → (d : ℕ) (inner : Terms) (d' i : ℕ) (e : Term) → d' ≡ d + size inner
      → φ e ≡ look d inner i e → φ (look d' outer i e) ≡ look d (join inner outer) i e
  unfolding look join size
  look_twice oc zero nil zero i e z h = nth_twice oc i e h
  look_twice oc zero nil (suc d') i e z h = absurd (omega arith)
  look_twice oc zero (cons t ts) zero i e z h = absurd (omega arith)
  look_twice oc zero (cons t ts) (suc d') zero e z h = h
  look_twice oc zero (cons t ts) (suc d') (suc i) e z h = look_twice oc zero ts d' i e (omega arith) h
  look_twice oc (suc d) ts zero i e z h = absurd (omega arith)
  look_twice oc (suc d) ts (suc d') zero e z h = h
  look_twice oc (suc d) ts (suc d') (suc i) e z h = look_twice oc d ts d' i e (omega arith) h

module _ (ks xs : Terms) {L : Lang} {ls ys : Terms} (lc : Scopedᵗ L 0 0 ls) (yc : Scopedᵗ L 0 0 ys) where
  mutual
    unfolding sub

    pub sub_twice : (t : Term) (dk dx dk' dx' : ℕ) → dk' ≡ dk + size ks → dx' ≡ dx + size xs
        → sub dk dx ks xs (sub dk' dx' ls ys t) ≡ sub dk dx (join ks ls) (join xs ys) t
    sub_twice (var i) dk dx dk' dx' p q =
        look_twice (sub dk dx ks xs) (λ t h. keep ks xs h dk dx (omega arith) (omega arith)) yc dx xs dx' i (var i) q refl
    sub_twice (kvar i) dk dx dk' dx' p q =
        look_twice (sub dk dx ks xs) (λ t h. keep ks xs h dk dx (omega arith) (omega arith)) lc dk ks dk' i (kvar i) p refl
    sub_twice (fun o a b) dk dx dk' dx' p q = ap (fun o a) (sub_twice b (suc dk) (dx + a + o) (suc dk') (dx' + a + o) (omega arith) (omega arith))
    sub_twice (call f ps) dk dx dk' dx' p q = ap₂ call (sub_twice f dk dx dk' dx' p q) (subᵗ_twice ps dk dx dk' dx' p q)
    sub_twice (bind m b) dk dx dk' dx' p q = ap₂ bind (sub_twice m dk dx dk' dx' p q) (sub_twice b dk (suc dx) dk' (suc dx') p (omega arith))
    sub_twice (con t ps) dk dx dk' dx' p q = ap (con t) (subᵗ_twice ps dk dx dk' dx' p q)
    sub_twice (cases m ps) dk dx dk' dx' p q = ap₂ cases (sub_twice m dk dx dk' dx' p q) (subᵃ_twice ps dk dx dk' dx' p q)
    sub_twice (num n) dk dx dk' dx' p q = refl
    sub_twice (op o ps) dk dx dk' dx' p q = ap (op o) (subᵗ_twice ps dk dx dk' dx' p q)

    pub subᵗ_twice : (ts : Terms) (dk dx dk' dx' : ℕ) → dk' ≡ dk + size ks → dx' ≡ dx + size xs
        → subᵗ dk dx ks xs (subᵗ dk' dx' ls ys ts) ≡ subᵗ dk dx (join ks ls) (join xs ys) ts
    subᵗ_twice nil dk dx dk' dx' p q = refl
    subᵗ_twice (cons t ts) dk dx dk' dx' p q = ap₂ cons (sub_twice t dk dx dk' dx' p q) (subᵗ_twice ts dk dx dk' dx' p q)

    pub subᵃ_twice : (ps : Arms) (dk dx dk' dx' : ℕ) → dk' ≡ dk + size ks → dx' ≡ dx + size xs
        → subᵃ dk dx ks xs (subᵃ dk' dx' ls ys ps) ≡ subᵃ dk dx (join ks ls) (join xs ys) ps
    subᵃ_twice none dk dx dk' dx' p q = refl
    subᵃ_twice (arm t n b ps) dk dx dk' dx' p q =
        ap₂ (arm t n) (sub_twice b dk (dx + n) dk' (dx' + n) p (omega arith)) (subᵃ_twice ps dk dx dk' dx' p q)
