-- The rules of the relation, read backwards, where what is to come to a value is one already: a call goes on with the function's body, if the
-- arguments are as many as the function has, and a match with the arm that is taken, if one is; nothing else is called or matched; an operation is
-- what it gives. As runs are determined, it does not matter how the values were come to. Assumes nothing.
use Prim.Native.Nat.{ℕ}
use mathlib.Core.Option.{Option, some, none as nothing}
use mathlib.Core.Path.{◌≡◌, refl, sym, ap₂, subst, ◌∙◌}
use Rattle.language.specs.Term.{Lang, Term, Terms, Arms, fun, call, bind, con, cases, num, op, nil, cons, size}
use Rattle.language.specs.Sub.{sub}
use Rattle.language.specs.Run.{Value, Values, v_fun, v_con, v_num, v_nil, v_cons, Gives, adds, subtracts, less, counted, enters, rev, itself, took}
use Rattle.language.specs.Run.{Run, Runs, taken, bound, called, matched, operated, done, then}
use Rattle.language.proofs.Clash.{never}
use Rattle.language.proofs.Forms.{counted_is}
use Rattle.language.proofs.Determinism.{call_same, match_same, same_run, same_runs}

-- values are taken whole
unfoldable pub taken_all : {L : Lang} {vs : Terms} → Values vs → Runs L vs vs
taken_all v_nil = done
taken_all (v_cons v vs) = then (taken v) (taken_all vs)

-- what is left to run of a function that was called with values, by what goes in; nothing where nothing goes in
abbrev pub Entered : Lang → ℕ → ℕ → Term → Term → Option (Terms × Terms) → Type 0
Entered L o a b w nothing = ⊥
Entered L o a b w (some (ks, xs)) = Run L (sub 0 0 ks (rev xs (itself o (fun o a b))) b) w

-- with arguments that come to values; and with values
pub uncalled_by : {L : Lang} {o a : ℕ} {b w : Term} {ps vs : Terms} → Runs L ps vs → Run L (call (fun o a b) ps) w → Entered L o a b w (enters L a vs)
uncalled_by {L} {o} {a} {b} {w} {vs = vs} rs (called {a = a'} {ks} {xs} f r e s) =
    let p = (same_run f (taken v_fun)).0 in
    let q = (same_runs r rs).0 in
    let x : a' ≡ a = cc in
    let e' : enters L a vs ≡ some (ks, xs) = sym (ap₂ (enters L) x q) ∙ e in
    subst (Entered L o a b w) (sym e') (subst (λ y. Run L y w) (call_same L e e' p q) s)
uncalled_by rs (taken y) = elim y [ ]

pub uncalled : {L : Lang} {o a : ℕ} {b w : Term} {vs : Terms} → Values vs → Run L (call (fun o a b) vs) w → Entered L o a b w (enters L a vs)
uncalled vv r = uncalled_by (taken_all vv) r

-- what a call's one argument comes to
pub argument_comes : {L : Lang} {f p w : Term} → Run L (call f (cons p nil)) w → (v : Term) × Run L p v
argument_comes (called f (then {v} r done) e s) = (v, r)
argument_comes (taken y) = elim y [ ]

-- where something goes in, the arguments are as many as the function has
pub entered_fits : (L : Lang) (o : ℕ) (b w : Term) (a : ℕ) (ks xs : Terms) → Entered L o a b w (counted a ks xs) → size xs ≡ a
entered_fits L o b w a ks xs = go (counted a ks xs) refl
  where
    go : (x : Option (Terms × Terms)) → counted a ks xs ≡ x → Entered L o a b w x → size xs ≡ a
    go nothing q r = absurd r
    go (some (ks', xs')) q r = (counted_is a ks xs q).0

pub no_call : {L : Lang} {t : ℕ} {w : Term} {vs ps : Terms} → Values vs → Run L (call (con t vs) ps) w → ⊥
no_call vv (called f r q s) = let p = (same_run f (taken (v_con vv))).0 in never cc
no_call vv (taken y) = elim y [ ]

pub no_call_num : {L : Lang} {n : ℕ} {w : Term} {ps : Terms} → Run L (call (num n) ps) w → ⊥
no_call_num (called f r q s) = let p = (same_run f (taken v_num)).0 in never cc
no_call_num (taken y) = elim y [ ]

pub unbound : {L : Lang} {v b w : Term} → Value v → Run L (bind v b) w → Run L (sub 0 0 nil (cons v nil) b) w
unbound {L} {b} {w} x (bound r s) = subst (λ y. Run L (sub 0 0 nil (cons y nil) b) w) (same_run r (taken x)).0 s
unbound x (taken y) = elim y [ ]

-- what is left to run of a match of a constructor value, by the arm that it takes; nothing where it takes none
abbrev pub Chosen : Lang → Terms → Term → Option Term → Type 0
Chosen L vs w nothing = ⊥
Chosen L vs w (some b) = Run L (sub 0 0 nil (rev vs nil) b) w

pub unmatched : {L : Lang} {t : ℕ} {w : Term} {vs : Terms} {ps : Arms} → Values vs → Run L (cases (con t vs) ps) w → Chosen L vs w (took t (size vs) ps)
unmatched {L} {t} {w} {vs} {ps} vv (matched {b} {t = t'} {vs = vs'} r k s) =
    let p = (same_run r (taken (v_con vv))).0 in
    let x : t' ≡ t = cc in
    let y : vs' ≡ vs = cc in
    let k' : took t (size vs) ps ≡ some b = rw (x, y) at k in
    subst (Chosen L vs w) (sym k') (subst (λ z. Run L z w) (match_same ps k k' p) s)
unmatched vv (taken y) = elim y [ ]

pub no_match : {L : Lang} {o a : ℕ} {b w : Term} {ps : Arms} → Run L (cases (fun o a b) ps) w → ⊥
no_match (matched r k s) = let p = (same_run r (taken v_fun)).0 in never cc
no_match (taken y) = elim y [ ]

pub no_match_num : {L : Lang} {n : ℕ} {w : Term} {ps : Arms} → Run L (cases (num n) ps) w → ⊥
no_match_num (matched r k s) = let p = (same_run r (taken v_num)).0 in never cc
no_match_num (taken y) = elim y [ ]

-- "An operation on anything but numbers has no value."
pub gives_numbers : {o : ℕ} {vs : Terms} {w : Term} → Gives o vs w → (a : ℕ) × (b : ℕ) × (vs ≡ cons (num a) (cons (num b) nil))
gives_numbers (adds {a} {b}) = (a, b, refl)
gives_numbers (subtracts {a} {b}) = (a, b, refl)
gives_numbers (less {a} {b}) = (a, b, refl)

-- what an operation on values comes to is what it gives
pub unoperated : {L : Lang} {o : ℕ} {w : Term} {vs : Terms} → Values vs → Run L (op o vs) w → Gives o vs w
unoperated {o} {w} vv (operated r g) = subst (λ x. Gives o x w) (same_runs r (taken_all vv)).0 g
unoperated vv (taken y) = elim y [ ]
