-- Points read backwards, where a term's parts are values: the only points at which a call comes next, or no rule applies, are the term's own and
-- those of the body that its rule goes on with. As runs are determined, it does not matter how the values were come to. Assumes nothing.
use Prim.Native.Nat.{ℕ, suc, ◌+◌}
use mathlib.Core.Option.{Option, some, none as nothing, none-ne-some}
use mathlib.Core.Path.{◌≡◌, refl, sym, ap, ap₂, subst, ◌∙◌}
use native.Mathlib.Omega.{arith}
use Rattle.language.specs.Term.{Lang, images, Term, Terms, Arms, fun, call, bind, con, cases, op, nil, cons, size}
use Rattle.language.specs.Sub.{sub}
use Rattle.language.specs.Run.{Value, Values, v_fun, v_con, v_num, v_nil, v_cons, Gives, enters, rev, itself, took}
use Rattle.language.specs.Run.{Run, Runs, taken, called, operated, done, then, count, counts}
use Rattle.language.proofs.Clash.{never}
use Rattle.language.proofs.Determinism.{no_atoms, call_same, match_same, same_run, same_runs}
use Rattle.language.proofs.Back.{taken_all}
use Rattle.ticks.specs.Upto.{Next, a_value, a_build, a_let, a_call, a_match, rule_none, Upto, Uptos, used}
use Rattle.ticks.specs.Upto.{at_value, in_build, at_build, in_operands, at_operation, operated_unfit, in_bound, at_let, past_let}
use Rattle.ticks.specs.Upto.{in_applied, in_arguments, called_con, called_num, called_unfit, at_call, past_call}
use Rattle.ticks.specs.Upto.{in_subject, matched_fun, matched_num, matched_none, at_match, past_match, in_first, in_later}
use Rattle.ticks.specs.Promises.{ComesIn, Reaches}

-- where a run under a ration may stop: before a call, or where no rule applies
abbrev pub Stops : Next → Type 0
Stops a_value = ⊥
Stops a_build = ⊥
Stops a_let = ⊥
Stops a_call = Unit {0}
Stops a_match = ⊥
Stops rule_none = Unit {0}

-- not in a value
pub no_stop : {L : Lang} {v : Term} {s : Next} → Value v → Upto L v s → Stops s → ⊥
no_stop v_fun (at_value x) h = h
no_stop (v_con vs) (at_value x) h = h
no_stop (v_con vs) (in_build e u) h = no_atoms vs e
no_stop (v_con vs) (at_build e r) h = h
no_stop v_num (at_value x) h = h

no_stops : {L : Lang} {vs : Terms} {s : Next} → Values vs → Uptos L vs s → Stops s → ⊥
no_stops (v_cons v vs) (in_first u) h = no_stop v u h
no_stops (v_cons v vs) (in_later r u) h = no_stops vs u h
no_stops v_nil y h = elim y [ ]

-- values are taken whole, without a call
pub no_calls : (L : Lang) {vs : Terms} (vv : Values vs) → (counts (taken_all {L = L} vv)).calls ≡ 0
unfolding taken_all counts
no_calls L v_nil = refl
no_calls L (v_cons v vv) = omega (arith, no_calls L vv)

value_calls : {L : Lang} {v w : Term} → Value v → (r : Run L v w) → (count r).calls ≡ 0
unfolding count
value_calls x r = ap (λ c. c.calls) (same_run r (taken x)).1

values_calls : {L : Lang} {vs ws : Terms} → Values vs → (r : Runs L vs ws) → (counts r).calls ≡ 0
values_calls {L} vv r = ap (λ c. c.calls) (same_runs r (taken_all vv)).1 ∙ no_calls L vv

-- what a call or a match of values goes on with
enters_same : {L : Lang} {o a o' a' : ℕ} {b b' : Term} {vs vs' : Terms} → Values vs → Run L (fun o a b) (fun o' a' b') → Runs L vs vs'
    → enters L a' vs' ≡ enters L a vs
enters_same {L} {a} {a'} vv f r = let p = (same_run f (taken v_fun)).0 in let x : a' ≡ a = cc in ap₂ (enters L) x (same_runs r (taken_all vv)).0

took_same : {L : Lang} {t t' : ℕ} {vs vs' : Terms} (ps : Arms) → Values vs → Run L (con t vs) (con t' vs')
    → took t' (size vs') ps ≡ took t (size vs) ps
took_same {t} {t'} {vs} {vs'} ps vv r = let p = (same_run r (taken (v_con vv))).0 in let x : t' ≡ t = cc in let y : vs' ≡ vs = cc in rw (x, y) refl

-- a point of the body, in a run that has made no call more
abbrev at : {t : Term} {s : Next} (n : ℕ) (u : Upto images t s) → (used u).calls ≡ n → Reaches t s n
at n u e = record { point = u; in_calls = e }

pub stop_let : {v b : Term} {s : Next} → Value v → (u : Upto images (bind v b) s) → Stops s → Reaches (sub 0 0 nil (cons v nil) b) s (used u).calls
unfolding used
stop_let x (in_bound u) h = absurd (no_stop x u h)
stop_let x (at_let r) h = absurd h
stop_let {b} {s} x (past_let r u) h =
    subst (λ y. Reaches (sub 0 0 nil (cons y nil) b) s (0 + (count r).calls + (used u).calls)) (same_run r (taken x)).0
    (at (0 + (count r).calls + (used u).calls) u (omega (arith, value_calls x r)))
stop_let x (at_value y) h = elim y [ ]

pub stop_match : {t : ℕ} {vs : Terms} {ps : Arms} {b : Term} {s : Next} → Values vs → took t (size vs) ps ≡ some b
    → (u : Upto images (cases (con t vs) ps) s) → Stops s
    → Reaches (sub 0 0 nil (rev vs nil) b) s (used u).calls
unfolding used
stop_match vv k (in_subject u) h = absurd (no_stop (v_con vv) u h)
stop_match vv k (matched_fun r) h = let p = (same_run r (taken (v_con vv))).0 in never cc
stop_match vv k (matched_num r) h = let p = (same_run r (taken (v_con vv))).0 in never cc
stop_match {ps} {b} vv k (matched_none r k') h = absurd (none-ne-some b (sym k' ∙ took_same ps vv r ∙ k))
stop_match vv k (at_match r k') h = absurd h
stop_match {ps} {s} vv k (past_match r k' u) h =
    subst (λ y. Reaches y s (0 + (count r).calls + (used u).calls)) (match_same ps k' k (same_run r (taken (v_con vv))).0)
    (at (0 + (count r).calls + (used u).calls) u (omega (arith, value_calls (v_con vv) r)))
stop_match vv k (at_value y) h = elim y [ ]

-- the call itself, or a point of the body that it goes on with
pub data Past (t : Term) : Next → ℕ → Type 0 where
  here : {m : ℕ} → m ≡ 0 → Past t a_call m
  past : {s : Next} {m : ℕ} (n : ℕ) → Reaches t s n → m ≡ suc n → Past t s m

pub stop_call : {o a : ℕ} {b : Term} {vs ks xs : Terms} {s : Next} → Values vs → enters images a vs ≡ some (ks, xs)
    → (u : Upto images (call (fun o a b) vs) s) → Stops s
    → Past (sub 0 0 ks (rev xs (itself o (fun o a b))) b) s (used u).calls
unfolding used
stop_call vv e (in_applied u) h = absurd (no_stop v_fun u h)
stop_call vv e (in_arguments f u) h = absurd (no_stops vv u h)
stop_call vv e (called_con f r) h = let p = (same_run f (taken v_fun)).0 in never cc
stop_call vv e (called_num f r) h = let p = (same_run f (taken v_fun)).0 in never cc
stop_call {ks} {xs} vv e (called_unfit f r e') h = absurd (none-ne-some (ks, xs) (sym e' ∙ enters_same vv f r ∙ e))
stop_call vv e (at_call f r e') h = here {m = (count f).calls + (counts r).calls} (omega (arith, value_calls v_fun f, values_calls vv r))
stop_call {s} vv e (past_call f r e' u) h =
    past {m = 1 + (count f).calls + (counts r).calls + (used u).calls} (used u).calls
    (subst (λ y. Reaches y s (used u).calls) (call_same images e' e (same_run f (taken v_fun)).0 (same_runs r (taken_all vv)).0)
    (at (used u).calls u refl))
    (omega (arith, value_calls v_fun f, values_calls vv r))
stop_call vv e (at_value y) h = elim y [ ]

-- `Parts ps vs`: the arguments ps come to the values vs without a call, and nowhere on the way is a call next, or applies no rule
pub record Parts (ps vs : Terms) : Type 0 where
  pub runs : Runs images ps vs
  pub free : (counts runs).calls ≡ 0
  pub still : {s : Next} → Uptos images ps s → Stops s → ⊥

pub of_values : {vs : Terms} → Values vs → Parts vs vs
of_values vv = record { runs = taken_all vv; free = no_calls images vv; still = λ u h. no_stops vv u h }

-- an operation on values comes to what it gives
operation_same : {o : ℕ} {vs vs' : Terms} {v : Term} → Values vs → Runs images vs vs' → Gives o vs' v → Gives o vs v
operation_same {o} {v} vv r g = subst (λ x. Gives o x v) (same_runs r (taken_all vv)).0 g

operation_back : {o : ℕ} {vs vs' : Terms} {v : Term} → Values vs → Runs images vs vs' → Gives o vs v → Gives o vs' v
operation_back {o} {v} vv r g = subst (λ x. Gives o x v) (sym (same_runs r (taken_all vv)).0) g

operation_still : {o : ℕ} {vs : Terms} {v : Term} {s : Next} → Values vs → Gives o vs v → Upto images (op o vs) s → Stops s → ⊥
operation_still vv g (in_operands u) h = no_stops vv u h
operation_still vv g (at_operation r g') h = h
operation_still {v} vv g (operated_unfit r k) h = k v (operation_back vv r g)
operation_still vv g (at_value y) h = elim y [ ]

first_still : {t : Term} {s : Next} → (Upto images t s → Stops s → ⊥) → Uptos images (cons t nil) s → Stops s → ⊥
first_still k (in_first u) h = k u h
first_still k (in_later _ y) h = elim y [ ]

pub of_operation : {o : ℕ} {vs : Terms} {v : Term} → Values vs → Gives o vs v → Parts (cons (op o vs) nil) (cons v nil)
unfolding count
of_operation vv g = record {
  runs = then (operated (taken_all vv) g) done;
  free = omega (arith, no_calls images vv);
  still = λ u h. first_still (operation_still vv g) u h;
}

-- a call is the same whichever of two lists that come to the same values so are its arguments: what it comes to, and where it stops
parts_calls : {ps vs ws : Terms} → Parts ps vs → (r : Runs images ps ws) → (counts r).calls ≡ 0
parts_calls a r = ap (λ c. c.calls) (same_runs r a.runs).1 ∙ a.free

parts_enters : (n : ℕ) {ps vs ws : Terms} {e : Option (Terms × Terms)} → Parts ps vs → Runs images ps ws → enters images n ws ≡ e
    → enters images n vs ≡ e
parts_enters n a r q = sym (ap (enters images n) (same_runs r a.runs).0) ∙ q

pub swap_comes : {f w : Term} {ps qs vs : Terms} → Parts ps vs → Parts qs vs → (r : Run images (call f ps) w) → ComesIn (call f qs) w (count r).calls
unfolding count
swap_comes a b (called {a = n} f r e s) =
    record { run = called f b.runs (parts_enters n a r e) s; in_calls = omega (arith, parts_calls a r, b.free) }
swap_comes a b (taken y) = elim y [ ]

pub swap_stop : {f : Term} {ps qs vs : Terms} {s : Next} → Parts ps vs → Parts qs vs → (u : Upto images (call f ps) s) → Stops s
    → Reaches (call f qs) s (used u).calls
unfolding used
swap_stop a b (in_applied u) h = record { point = in_applied u; in_calls = refl }
swap_stop a b (in_arguments f u) h = absurd (a.still u h)
swap_stop a b (called_con f r) h = record { point = called_con f b.runs; in_calls = omega (arith, parts_calls a r, b.free) }
swap_stop a b (called_num f r) h = record { point = called_num f b.runs; in_calls = omega (arith, parts_calls a r, b.free) }
swap_stop a b (called_unfit {a = n} f r e) h =
    record { point = called_unfit f b.runs (parts_enters n a r e); in_calls = omega (arith, parts_calls a r, b.free) }
swap_stop a b (at_call {a = n} f r e) h =
    record { point = at_call f b.runs (parts_enters n a r e); in_calls = omega (arith, parts_calls a r, b.free) }
swap_stop a b (past_call {a = n} f r e u) h =
    record { point = past_call f b.runs (parts_enters n a r e) u; in_calls = omega (arith, parts_calls a r, b.free) }
swap_stop a b (at_value y) h = elim y [ ]

-- where no rule applies, no call comes next: what is called is no function
pub stuck_called : {v : Term} {vs : Terms} → Value v → ((o a : ℕ) (b : Term) → v ≡ fun o a b → ⊥) → Values vs → Upto images (call v vs) a_call → ⊥
stuck_called x k vv (in_applied u) = no_stop x u tt
stuck_called x k vv (in_arguments f u) = no_stops vv u tt
stuck_called x k vv (at_call {o} {a} {b} f r e) = k o a b (sym (same_run f (taken x)).0)
stuck_called x k vv (past_call {o} {a} {b} f r e u) = k o a b (sym (same_run f (taken x)).0)

pub stuck_unfit : {o a : ℕ} {b : Term} {vs : Terms} → Values vs → enters images a vs ≡ nothing → Upto images (call (fun o a b) vs) a_call → ⊥
stuck_unfit vv e (in_applied u) = no_stop v_fun u tt
stuck_unfit vv e (in_arguments f u) = no_stops vv u tt
stuck_unfit vv e (at_call {ks} {xs} f r e') = none-ne-some (ks, xs) (sym e ∙ (sym (enters_same vv f r) ∙ e'))
stuck_unfit vv e (past_call {ks} {xs} f r e' u) = none-ne-some (ks, xs) (sym e ∙ (sym (enters_same vv f r) ∙ e'))

-- an operation has no value
not_given : {o : ℕ} {vs ws : Terms} → Values vs → ((v : Term) → Gives o vs v → ⊥) → Runs images (cons (op o vs) nil) ws → ⊥
not_given vv k (then {v} (operated r g) s) = k v (operation_same vv r g)
not_given vv k (then (taken y) s) = elim y [ ]

unfit_still : {o : ℕ} {vs : Terms} → Values vs → Upto images (op o vs) a_call → ⊥
unfit_still vv (in_operands u) = no_stops vv u tt

pub stuck_operation : {f : Term} {o : ℕ} {vs : Terms} → Value f → Values vs → ((v : Term) → Gives o vs v → ⊥)
    → Upto images (call f (cons (op o vs) nil)) a_call → ⊥
stuck_operation x vv k (in_applied u) = no_stop x u tt
stuck_operation x vv k (in_arguments f u) = first_still (λ y h. unfit_still vv y) u tt
stuck_operation x vv k (at_call f r e) = not_given vv k r
stuck_operation x vv k (past_call f r e u) = not_given vv k r

-- what is matched is no constructor
pub stuck_matched : {v : Term} {ps : Arms} → Value v → ((t : ℕ) (vs : Terms) → v ≡ con t vs → ⊥) → Upto images (cases v ps) a_call → ⊥
stuck_matched x k (in_subject u) = no_stop x u tt
stuck_matched x k (past_match {t} {vs} r q u) = k t vs (sym (same_run r (taken x)).0)

pub stuck_none : {t : ℕ} {vs : Terms} {ps : Arms} → Values vs → took t (size vs) ps ≡ nothing → Upto images (cases (con t vs) ps) a_call → ⊥
stuck_none vv k (in_subject u) = no_stop (v_con vv) u tt
stuck_none {ps} vv k (past_match {b} r k' u) = none-ne-some b (sym k ∙ (sym (took_same ps vv r) ∙ k'))
