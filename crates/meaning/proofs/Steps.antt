-- The steps that an image makes: a passing form is given its continuation, and a chain's ending runs once the chain's terms have come to
-- values. Each step says how many calls, lets and matches it makes, and is read both ways: what the later term comes to, the earlier one comes to
-- as well; and the other way round. Assumes nothing.
use Prim.Native.Nat.{ℕ, suc, ◌+◌, ◌≤◌}
use mathlib.Core.Bool.{Bool, true, false, cond}
use mathlib.Core.Option.{some, map}
use mathlib.Core.Path.{◌≡◌, refl, ap, ap₂, ◌∙◌, subst}
use native.Mathlib.Omega.{arith}
use Rattle.language.specs.Term.{Lang, rules, images, Term, Terms, Arms, kvar, fun, call, bind, con, cases, op, nil, cons, size}
use Rattle.language.specs.Scope.{Scoped, Scopedᵃ, s_none, s_arm}
use Rattle.language.specs.Sub.{look, sub, subᵗ, subᵃ}
use Rattle.language.specs.Run.{Value, Values, v_fun, v_con, v_nil, v_cons, Gives, enters, rev, itself, both, took}
use Rattle.language.specs.Run.{Run, taken, bound, called, matched, operated, done, then, Counts, count, counts}
use Rattle.language.specs.Image.{lam, to, downto, calling, making, working, passing, carried, carrieds, passingᵃ}
use Rattle.language.proofs.Forms.{value_atom, size_carrieds, passing_atom, itself_values, counted_fits}
use Rattle.language.proofs.Determinism.{same_run}
use Rattle.language.proofs.Back.{taken_all, Entered, uncalled_by, uncalled, unbound, Chosen, unmatched}
use Rattle.meaning.specs.Promises.{Comes}
use Rattle.meaning.proofs.Scopes.{keep}
use Rattle.meaning.proofs.Forms.{carried_value, carrieds_values, carried_scoped, passing_scoped, letting, matching}
use Rattle.meaning.proofs.Commute.{passing_sub}
use Rattle.meaning.proofs.Values.{gives_carried, rev_values, carrieds_rev, carrieds_itself, in_fun, in_arms}

-- so many calls, lets and matches
abbrev Counted : Counts → ℕ → ℕ → ℕ → Type 0
Counted c n l m = (c.calls ≡ n) × (c.lets ≡ l) × (c.matches ≡ m)

pub comes : {t w : Term} {n l m : ℕ} (r : Run images t w) → Counted (count r) n l m → Comes t w n l m
comes r e = record { run = r; in_calls = e.0; in_lets = e.1; in_matches = e.2 }

pub adjust : {t w : Term} {n l m n' l' m' : ℕ} → Comes t w n l m → (n ≡ n') × (l ≡ l') × (m ≡ m') → Comes t w n' l' m'
adjust r e = comes r.run (omega arith)

-- values are taken whole, by no call, let or match
taken_free : (L : Lang) {vs : Terms} (h : Values vs) → Counted (counts (taken_all {L = L} h)) 0 0 0
unfolding taken_all count
taken_free L v_nil = (refl, refl, refl)
taken_free L (v_cons v vs) = omega (arith, taken_free L vs)

-- `Leads t t' n l m`: the image t goes on as the image t', by n calls, l lets and m matches.
-- ahead: what t' comes to, t comes to, by so many more. back: what t comes to, t' comes to
pub record Leads (t t' : Term) (n l m : ℕ) : Type 0 where
  pub ahead : (w : Term) (s : Run images t' w) → Comes t w (n + (count s).calls) (l + (count s).lets) (m + (count s).matches)
  pub back : (w : Term) → Run images t w → Run images t' w

-- one step after another
pub onward : {t t' t'' : Term} {n l m n' l' m' : ℕ} → Leads t t' n l m → Leads t' t'' n' l' m' → Leads t t'' (n + n') (l + l') (m + m')
onward p q = record {
  ahead = λ w s. let r = q.ahead w s in adjust (p.ahead w r.run) (omega (arith, r.in_calls, r.in_lets, r.in_matches));
  back = λ w r. q.back w (p.back w r);
}

pub recount : {t t' : Term} {n l m n' l' m' : ℕ} → Leads t t' n l m → (n ≡ n') × (l ≡ l') × (m ≡ m') → Leads t t' n' l' m'
recount p e = record { ahead = λ w s. adjust (p.ahead w s) (omega arith); back = p.back }

-- no step
pub stays : (t : Term) → Leads t t 0 0 0
stays t = record { ahead = λ w s. comes s (omega arith); back = λ w r. r }

-- the run that goes on has so many calls fewer
pub fewer : {t t' w : Term} {n l m : ℕ} (p : Leads t t' n l m) (r : Run images t w) → (count r).calls ≡ n + (count (p.back w r)).calls
fewer {w} p r =
    let s = p.ahead w (p.back w r) in
    ap (λ c. c.calls) (same_run r s.run).1 ∙ s.in_calls

-- the rules of the relation, where all that is to come to a value is one already: a function is called with a continuation and values
applying : {o a : ℕ} {b k : Term} {ws : Terms} → Value k → Values ws → size ws ≡ a
    → Leads (call (fun o a b) (cons k ws)) (sub 0 0 (cons k nil) (rev ws (itself o (fun o a b))) b) 1 0 0
unfolding enters count
applying {o} {a} {b} {k} {ws} kv wv e = record {
  ahead = λ w s. comes (called (taken v_fun) (then (taken kv) (taken_all wv)) (counted_fits a (cons k nil) ws e) s) (omega (arith, taken_free images wv));
  back = λ w r. subst (Entered images o a b w) (counted_fits a (cons k nil) ws e) (uncalled (v_cons kv wv) r);
}

-- a value is bound
binding : {v b : Term} → Value v → Leads (bind v b) (sub 0 0 nil (cons v nil) b) 0 1 0
unfolding count
binding x = record { ahead = λ w s. comes (bound (taken x) s) (refl, refl, refl); back = λ w r. unbound x r }

-- a constructor value takes an arm
taking : {t : ℕ} {b : Term} {vs : Terms} {ps : Arms} → Values vs → took t (size vs) ps ≡ some b → Leads (cases (con t vs) ps) (sub 0 0 nil (rev vs nil) b) 0 0 1
unfolding count
taking {vs} vv y = record {
  ahead = λ w s. comes (matched (taken (v_con vv)) y s) (refl, refl, refl);
  back = λ w r. subst (Chosen images vs w) y (unmatched vv r);
}

-- a function that wants only a continuation is given it
pub enter : {b k : Term} → Value k → Leads (to (lam b) k) (sub 0 0 (cons k nil) nil b) 1 0 0
unfolding size rev itself
enter kv = applying {ws = nil} kv v_nil refl

-- or is given what an operation on values gives
operating : {b v : Term} {o : ℕ} {vs : Terms} → Values vs → Gives o vs v → Leads (to (lam b) (op o vs)) (sub 0 0 (cons v nil) nil b) 1 0 0
unfolding enters count size rev itself
operating {b} {v} vv g = record {
  ahead = λ w s. comes (called (taken v_fun) (then (operated (taken_all vv) g) done) (counted_fits 0 (cons v nil) nil refl) s) (omega (arith, taken_free images vv));
  back = λ w r. subst (Entered images 0 0 b w) (counted_fits 0 (cons v nil) nil refl) (uncalled_by (then (operated (taken_all vv) g) done) r);
}

-- what is closed stays as it is; so does the passing form of a term that names no variable put in for
pub shut : {t : Term} → Scoped images 0 0 t → (ks xs : Terms) (dk dx : ℕ) → sub dk dx ks xs t ≡ t
shut h ks xs dk dx = keep ks xs h dk dx (omega arith) (omega arith)

pub stay : {d : ℕ} {t : Term} → Scoped rules 0 d t → (ks xs : Terms) (dk dx : ℕ) → d ≤ dx → sub dk dx ks xs (passing t) ≡ passing t
stay {d} h ks xs dk dx e = keep ks xs (passing_scoped h 0 d (omega arith)) dk dx (omega arith) e

-- the passing form of a body, with the carried forms of values put in
pub put_in : {b : Term} {c d : ℕ} {xs acc : Terms} (ks : Terms) → Values xs → Values acc → Scoped rules c d b
    → sub 0 0 ks (rev (carrieds xs) (carrieds acc)) (passing b) ≡ passing (sub 0 0 nil (rev xs acc) b)
put_in {xs} {acc} ks xv av hb = rw (← (carrieds_rev xs acc)) (passing_sub ks (rev xs acc) (rev_values xv av) hb 0 0 0 0 refl)

-- a value: its passing form is given the continuation `lam p`, which is given its carried form
pub on_value : {v p : Term} → Value v → Scoped rules 0 0 v → Leads (to (passing v) (lam p)) (sub 0 0 (cons (carried v) nil) nil p) 2 0 0
unfolding sub
on_value {v} {p} x h =
    let handed : Leads (to (lam p) (sub 0 0 (cons (lam p) nil) nil (carried v))) (sub 0 0 (cons (carried v) nil) nil p) 1 0 0
    = rw (shut (carried_scoped h 0 0 (omega arith)) (cons (lam p) nil) nil 0 0) (enter (carried_value x)) in
    rw (passing_atom v (value_atom x)) (onward (enter v_fun) handed)

-- of terms put in last first, before acc: those past ws are acc's; and k_(n-1) down to k_0 are the n terms ws in their order
look_rev : (ws acc : Terms) (i j : ℕ) (e : Term) → i ≡ size ws + j → look 0 (rev ws acc) i e ≡ look 0 acc j e
unfolding look rev size
look_rev nil acc i j e h = ap (λ x. look 0 acc x e) (omega arith)
look_rev (cons w ws) acc i j e h = look_rev ws (cons w acc) i (suc j) e (omega arith)

downto_sub : (ws acc : Terms) → subᵗ 0 0 (rev ws acc) nil (downto (size ws)) ≡ ws
unfolding rev size subᵗ downto
downto_sub nil acc = refl
downto_sub (cons w ws) acc = ap₂ cons (look_rev ws (cons w acc) (size ws) 0 (kvar (size ws)) (omega arith)) (downto_sub ws (cons w acc))

-- what the endings of a call, of a constructor and of an operation become
pub calling_sub : (ws : Terms) (f k : Term) → sub 0 0 (rev ws (cons f (cons k nil))) nil (calling (size ws)) ≡ call f (cons k ws)
unfolding sub
calling_sub ws f k =
    ap₂ call (look_rev ws (cons f (cons k nil)) (size ws) 0 (kvar (size ws)) (omega arith))
    (ap₂ cons (look_rev ws (cons f (cons k nil)) (suc (size ws)) 1 (kvar (suc (size ws))) (omega arith)) (downto_sub ws (cons f (cons k nil))))

pub making_sub : (t : ℕ) (ws : Terms) (k : Term) → sub 0 0 (rev ws (cons k nil)) nil (making t (size ws)) ≡ to k (con t ws)
unfolding sub
making_sub t ws k = ap₂ (λ x y. to x (con t y)) (look_rev ws (cons k nil) (size ws) 0 (kvar (size ws)) (omega arith)) (downto_sub ws (cons k nil))

pub working_sub : (o : ℕ) (ws : Terms) (k : Term) → sub 0 0 (rev ws (cons k nil)) nil (working o (size ws)) ≡ to k (op o ws)
unfolding sub
working_sub o ws k = ap₂ (λ x y. to x (op o y)) (look_rev ws (cons k nil) (size ws) 0 (kvar (size ws)) (omega arith)) (downto_sub ws (cons k nil))

-- the ending of a constructor: the continuation is given the constructor of the values
pub end_built : (p : Term) (t : ℕ) (vs : Terms) {i : ℕ} → size vs ≡ i → Values vs
    → Leads (sub 0 0 (rev (carrieds vs) (cons (lam p) nil)) nil (making t i)) (sub 0 0 (cons (carried (con t vs)) nil) nil p) 1 0 0
unfolding carried
end_built p t vs e vv = rw (← e, ← (size_carrieds vs), making_sub t (carrieds vs) (lam p)) (enter (v_con (carrieds_values vv)))

-- the ending of an operation: the continuation is given what the operation gives
pub end_operated : (p : Term) (o : ℕ) (vs : Terms) {v : Term} {i : ℕ} → size vs ≡ i → Values vs → Gives o vs v
    → Leads (sub 0 0 (rev (carrieds vs) (cons (lam p) nil)) nil (working o i)) (sub 0 0 (cons (carried v) nil) nil p) 1 0 0
end_operated p o vs e vv g = rw (← e, ← (size_carrieds vs), working_sub o (carrieds vs) (lam p)) (operating (carrieds_values vv) (gives_carried g))

-- the ending of a call: the function is given the continuation and the values
pub end_called : {o a i : ℕ} {b k : Term} (vs : Terms) → size vs ≡ i → size vs ≡ a → Value k → Values vs → Scoped rules 0 0 (fun o a b)
    → Leads (sub 0 0 (rev (carrieds vs) (cons (carried (fun o a b)) (cons k nil))) nil (calling i))
    (to (passing (sub 0 0 nil (rev vs (itself o (fun o a b))) b)) k) 1 0 0
unfolding carried sub
end_called {o} {a} {b} {k} vs e e' kv vv hf =
    let fits : size (carrieds vs) ≡ a = rw (size_carrieds vs) e' in
    let names : Values (itself o (fun o a b)) = itself_values o v_fun in
    let inside : sub 0 0 (cons k nil) (rev (carrieds vs) (itself o (carried (fun o a b)))) (to (passing b) (kvar 0))
    ≡ to (passing (sub 0 0 nil (rev vs (itself o (fun o a b))) b)) k
    = rw (← (carrieds_itself o (fun o a b)), put_in (cons k nil) vv names (in_fun hf)) refl in
    rw (← e, ← (size_carrieds vs), calling_sub (carrieds vs) (carried (fun o a b)) k)
    (subst (λ x. Leads (call (carried (fun o a b)) (cons k (carrieds vs))) x 1 0 0) inside (applying kv (carrieds_values vv) fits))

-- the ending of a let: the value goes in for x_0 of the body's passing form
pub end_bound : {v b k : Term} → Value v → Scoped rules 0 1 b → Scoped images 0 0 k
    → Leads (sub 0 0 (cons (carried v) (cons k nil)) nil (letting (passing b))) (to (passing (sub 0 0 nil (cons v nil) b)) k) 0 1 0
unfolding sub carrieds rev
end_bound {v} {b} {k} x hb hk =
    let inside : sub 0 0 nil (cons (carried v) nil) (to (passing b) k) ≡ to (passing (sub 0 0 nil (cons v nil) b)) k
    = rw (put_in {xs = cons v nil} {acc = nil} nil (v_cons x v_nil) v_nil hb, shut hk nil (cons (carried v) nil) 0 0) refl in
    rw (stay hb (cons (carried v) (cons k nil)) nil 0 1 (omega arith))
    (subst (λ y. Leads (bind (carried v) (to (passing b) k)) y 0 1 0) inside (binding (carried_value x)))

-- the image takes the arm that the rule takes, and none where the rule takes none
pub took_image : (v k : Term) (t n : ℕ) {ps : Arms} → Scopedᵃ rules 0 0 ps
    → took t n (subᵃ 0 0 (cons v (cons k nil)) nil (passingᵃ ps)) ≡ map (λ b. to (passing b) k) (took t n ps)
unfolding sub passingᵃ took
took_image v k t n s_none = refl
took_image v k t n (s_arm {t = t'} {n = n'} {b} {ps} hb hs) =
    rw (stay hb (cons v (cons k nil)) nil 0 (0 + n') (omega arith), took_image v k t n hs) (either (both t n t' n'))
  where
    either : (e : Bool) → cond e (some (to (passing b) k)) (map (λ c. to (passing c) k) (took t n ps))
        ≡ map (λ c. to (passing c) k) (cond e (some b) (took t n ps))
    either true = refl
    either false = refl

-- the ending of a match: the constructor's arguments go in for the variables of the arm's passing form
pub end_matched : (t : ℕ) {b k : Term} (vs : Terms) (ps : Arms) → took t (size vs) ps ≡ some b → Values vs → Scopedᵃ rules 0 0 ps → Scoped images 0 0 k
    → Leads (sub 0 0 (cons (carried (con t vs)) (cons k nil)) nil (matching (passingᵃ ps))) (to (passing (sub 0 0 nil (rev vs nil) b)) k) 0 0 1
unfolding sub carried
end_matched t {b} {k} vs ps y vv hs hk =
    let inside : sub 0 0 nil (rev (carrieds vs) nil) (to (passing b) k) ≡ to (passing (sub 0 0 nil (rev vs nil) b)) k
    = rw (put_in nil vv v_nil (in_arms t (size vs) y hs), shut hk nil (rev (carrieds vs) nil) 0 0) refl in
    let arms = subᵃ 0 0 (cons (con t (carrieds vs)) (cons k nil)) nil (passingᵃ ps) in
    let arm : took t (size (carrieds vs)) arms ≡ some (to (passing b) k)
    = rw (size_carrieds vs, took_image (con t (carrieds vs)) k t (size vs) hs, y) refl in
    subst (λ x. Leads (cases (con t (carrieds vs)) arms) x 0 0 1) inside (taking (carrieds_values vv) arm)
