-- Two runs of one term, in either language, come to the same value by the same rules: at each term one rule fits, and what it goes on with
-- is decided by what came before. By induction on the first run. Assumes nothing.
use Prim.Native.Nat.{ℕ}
use mathlib.Core.Bool.{false, false≢true}
use mathlib.Core.Option.{some, some-injective}
use mathlib.Core.Path.{◌≡◌, refl, ap, ap₂, sym, ◌∙◌, subst}
use Rattle.language.specs.Term.{Lang, Term, Terms, Arms, fun, con, nil, cons, size}
use Rattle.language.specs.Sub.{sub}
use Rattle.language.specs.Run.{atoms, Values, v_fun, v_con, v_num, Gives, adds, subtracts, less, enters, rev, itself, took}
use Rattle.language.specs.Run.{Run, Runs, taken, built, bound, called, matched, operated, done, then, uses, ◌⊕◌, count, counts}
use Rattle.language.proofs.Forms.{values_atoms}

-- values are atoms, so a constructor that is no value is not built of them
pub no_atoms : {vs : Terms} → Values vs → atoms vs ≡ false → ⊥
no_atoms h e = false≢true (sym e ∙ values_atoms h)

-- the bodies that two calls, or two matches, go on with
pub call_same : (L : Lang) {vs vs' ks ks' xs xs' : Terms} {b b' : Term} {o o' a a' : ℕ} → enters L a vs ≡ some (ks, xs) → enters L a' vs' ≡ some (ks', xs')
    → fun o a b ≡ fun o' a' b' → vs ≡ vs' → sub 0 0 ks (rev xs (itself o (fun o a b))) b ≡ sub 0 0 ks' (rev xs' (itself o' (fun o' a' b'))) b'
call_same L {ks} {ks'} {xs} {xs'} {b} {b'} {o} {o'} {a} {a'} e e' p q =
    let y : o ≡ o' = cc in
    let z : b ≡ b' = cc in
    let x : a ≡ a' = cc in
    let same = some-injective (ks, xs) (ks', xs') (sym e ∙ ap₂ (enters L) x q ∙ e') in
    let k : ks ≡ ks' = ap (λ g. g.0) same in
    let l : xs ≡ xs' = ap (λ g. g.1) same in
    cc

pub match_same : {vs vs' : Terms} {b b' : Term} {t t' : ℕ} (ps : Arms) → took t (size vs) ps ≡ some b → took t' (size vs') ps ≡ some b'
    → con t vs ≡ con t' vs' → sub 0 0 nil (rev vs nil) b ≡ sub 0 0 nil (rev vs' nil) b'
match_same {vs} {vs'} {t} {t'} ps k k' p = let x : t ≡ t' = cc in let y : vs ≡ vs' = cc in cc

-- what two operations give that are the same
gives_same : {o : ℕ} {vs vs' : Terms} {v v' : Term} → Gives o vs v → Gives o vs' v' → vs ≡ vs' → v ≡ v'
gives_same adds adds e = cc
gives_same subtracts subtracts e = cc
gives_same (less {a} {b}) (less {a = a'} {b = b'}) e = let p : a ≡ a' = cc in let q : b ≡ b' = cc in rw (p, q)

-- the value and the counts of the run s are those of the run r, which may be of another term
abbrev Same : {L : Lang} {t t' v v' : Term} → Run L t v → Run L t' v' → Type 0
Same {v} {v'} s r = (v ≡ v') × (count s ≡ count r)

-- what holds of every run of one term holds of every run of an equal one
along : {L : Lang} {t t' v v' : Term} (s : Run L t v) → t ≡ t' → ((r : Run L t v') → Same s r) → (r : Run L t' v') → Same s r
along {L} {v'} s p h = subst (λ x. (r : Run L x v') → Same s r) p h

mutual
  unfolding count

  pub same_run : {L : Lang} {t v v' : Term} (r : Run L t v) (r' : Run L t v') → Same r r'
  same_run (taken v_fun) (taken y) = (refl, refl)
  same_run (taken (v_con vs)) (taken y) = (refl, refl)
  same_run (taken v_num) (taken y) = (refl, refl)
  same_run (taken (v_con vs)) (built e r) = absurd (no_atoms vs e)
  same_run (built e r) (taken (v_con vs)) = absurd (no_atoms vs e)
  same_run (built {t} e r) (built e' r') = let (p, q) = same_runs r r' in (ap (con t) p, λ i. uses 0 0 0 0 1 ⊕ q i)
  same_run (bound {b} r s) (bound r' s') =
      let (p, q) = same_run r r' in
      let (p', q') = along s (ap (λ x. sub 0 0 nil (cons x nil) b) p) (λ x. same_run s x) s' in
      (p', λ i. uses 0 0 1 0 0 ⊕ q i ⊕ q' i)
  same_run {L} (called f r e s) (called f' r' e' s') =
      let (p, q) = same_run f f' in
      let (p', q') = same_runs r r' in
      let (p'', q'') = along s (call_same L e e' p p') (λ x. same_run s x) s' in
      (p'', λ i. uses 0 1 0 0 0 ⊕ q i ⊕ q' i ⊕ q'' i)
  same_run (matched {ps} r k s) (matched r' k' s') =
      let (p, q) = same_run r r' in
      let (p', q') = along s (match_same ps k k' p) (λ x. same_run s x) s' in
      (p', λ i. uses 0 0 0 1 0 ⊕ q i ⊕ q' i)
  same_run (operated r g) (operated r' g') = let (p, q) = same_runs r r' in (gives_same g g' p, λ i. uses 0 0 0 0 1 ⊕ q i)
  same_run (bound r s) (taken y) = elim y [ ]
  same_run (called f r e s) (taken y) = elim y [ ]
  same_run (matched r k s) (taken y) = elim y [ ]
  same_run (operated r g) (taken y) = elim y [ ]

  pub same_runs : {L : Lang} {ts vs vs' : Terms} (r : Runs L ts vs) (r' : Runs L ts vs') → (vs ≡ vs') × (counts r ≡ counts r')
  same_runs done done = (refl, refl)
  same_runs (then r s) (then r' s') =
      let (p, q) = same_run r r' in
      let (p', q') = same_runs s s' in
      (ap₂ cons p p', λ i. q i ⊕ q' i)
