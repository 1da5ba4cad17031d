-- A turn is a piece of the definition's run: with what is bound put in, the term goes on as the definition has it to the value, to a point at
-- which no rule applies, or by one call to the body that is to run next. By induction on the flat term. Assumes nothing.
use Prim.Native.Nat.{ℕ, zero, suc, ◌+◌}
use mathlib.Core.Bool.{Bool, true, false, cond}
use mathlib.Core.Option.{Option, some, none as nothing}
use mathlib.Core.Path.{◌≡◌, refl, subst, ◌∙◌}
use native.Mathlib.Omega.{arith}
use lib.Dec.{eqb}
use borrow.Author.Tests.{eqb-true}
use Rattle.language.specs.Term.{images, Term, Terms, Arms, fun, call, bind, con, cases, num, op, nil, cons, size}
use Rattle.language.specs.Scope.{Scoped, Scopedᵃ, s_call, s_bind, s_cases, s_op, s_nil, s_cons, s_arm}
use Rattle.language.specs.Sub.{sub, subᵃ}
use Rattle.language.specs.Run.{Value, Values, v_fun, v_con, v_num, v_nil, v_cons, Gives, adds, subtracts, less, counted, enters, rev, itself}
use Rattle.language.specs.Run.{both, took}
use Rattle.language.specs.Run.{taken, bound, called, matched, operated as operates, count}
use Rattle.language.proofs.Forms.{size_itself, same_both, counted_fits}
use Rattle.language.proofs.Clash.{never}
use Rattle.language.proofs.Determinism.{same_run}
use Rattle.language.proofs.Back.{taken_all, gives_numbers}
use Rattle.meaning.proofs.Scopes.{widen}
use Rattle.meaning.proofs.Values.{size_rev}
use Rattle.meaning.proofs.Compose.{join, sub_twice}
use Rattle.ticks.specs.Upto.{Next, a_call, rule_none, used, operated_unfit, past_let, in_arguments, called_con, called_num, called_unfit}
use Rattle.ticks.specs.Upto.{at_call, past_call}
use Rattle.ticks.specs.Upto.{matched_fun, matched_num, matched_none, past_match, in_first}
use Rattle.ticks.specs.Flat.{FlatAtom, FlatAtoms, f_var, f_kvar, f_fun, f_con, f_num, f_nil, f_cons}
use Rattle.ticks.specs.Flat.{Flat, f_atom, f_call, f_hand, f_bind, f_cases, Flatᵃ, f_none, f_arm}
use Rattle.ticks.specs.Tick.{Closure, Closures, c_fun, c_con, c_num, c_nil, c_cons, as_term, as_terms, sizeᶜ, revᶜ, itselfᶜ, value, values}
use Rattle.ticks.specs.Tick.{End, comes, stuck, goes}
use Rattle.ticks.specs.Tick.{Turn, apply, given, on_numbers, operated, operation, sole, handed, passed, turn, turnᵃ}
use Rattle.ticks.specs.Promises.{ComesIn, Reaches, OperatesAsDefined}
use Rattle.ticks.proofs.Stops.{Stops, no_calls, stop_let, stop_match, Past, stop_call}
use Rattle.ticks.proofs.Stops.{Parts, of_values, of_operation, swap_comes, swap_stop, stuck_called, stuck_unfit, stuck_operation}
use Rattle.ticks.proofs.Stops.{stuck_matched, stuck_none}
use Rattle.ticks.proofs.Closures.{put, Good, Goods, g_fun, g_con, g_num, g_nil, g_cons, Fits, size_as_terms, as_term_value, as_terms_values}
use Rattle.ticks.proofs.Closures.{as_terms_scoped}
use Rattle.ticks.proofs.Closures.{as_terms_rev, as_terms_itself, rev_join, rev_size, itself_size, rev_good, itself_good, value_is}
use Rattle.ticks.proofs.Closures.{values_are, value_good, values_good}

-- `Goes f t t'`: the run of t is that of t' with some rules used before, and stops where that does; f says what this makes of the calls
pub record Goes (f : ℕ → ℕ) (t t' : Term) : Type 0 where
  pub comes_in : {w : Term} {m : ℕ} → ComesIn t' w m → ComesIn t w (f m)
  pub reaches : {s : Next} {m : ℕ} → Stops s → Reaches t' s m → Reaches t s (f m)

-- no call is made, and t stops only where t' does
pub record Free (t t' : Term) : Type 0 where
  pub forth : Goes (λ m. m) t t'
  pub back : {s : Next} (m : ℕ) → Stops s → Reaches t s m → Reaches t' s m

-- a call is made; t stops there, and else only where t' does
pub record Calls (t t' : Term) : Type 0 where
  pub point : Reaches t a_call 0
  pub forth : Goes suc t t'
  pub back : {s : Next} (m : ℕ) → Stops s → Reaches t s m → Past t' s m

stay : {t : Term} → Free t t
stay = record { forth = record { comes_in = λ c. c; reaches = λ h p. p }; back = λ m h p. p }

go_on : {f g : ℕ → ℕ} {t t' t'' : Term} → Goes f t t' → Goes g t' t'' → Goes (λ m. f (g m)) t t''
go_on h k = record { comes_in = λ c. h.comes_in (k.comes_in c); reaches = λ x p. h.reaches x (k.reaches x p) }

-- one use of a rule, where its parts are values
go_let : {v b : Term} → Value v → Free (bind v b) (sub 0 0 nil (cons v nil) b)
unfolding count used
go_let x = record {
  forth = record {
    comes_in = λ c. record { run = bound (taken x) c.run; in_calls = omega arith };
    reaches = λ h p. record { point = past_let (taken x) p.point; in_calls = omega arith };
  };
  back = λ m h p. rw p.in_calls at (stop_let x p.point h);
}

go_call : {o a : ℕ} {b : Term} {vs ks xs : Terms} → Values vs → enters images a vs ≡ some (ks, xs)
    → Calls (call (fun o a b) vs) (sub 0 0 ks (rev xs (itself o (fun o a b))) b)
unfolding count used
go_call vv e = record {
  point = record { point = at_call (taken v_fun) (taken_all vv) e; in_calls = omega (arith, no_calls images vv) };
  forth = record {
    comes_in = λ c. record { run = called (taken v_fun) (taken_all vv) e c.run; in_calls = omega (arith, no_calls images vv) };
    reaches = λ h p. record { point = past_call (taken v_fun) (taken_all vv) e p.point; in_calls = omega (arith, no_calls images vv) };
  };
  back = λ m h p. rw p.in_calls at (stop_call vv e p.point h);
}

go_match : {t : ℕ} {vs : Terms} {b : Term} {ps : Arms} → Values vs → took t (size vs) ps ≡ some b
    → Free (cases (con t vs) ps) (sub 0 0 nil (rev vs nil) b)
unfolding count used
go_match vv k = record {
  forth = record {
    comes_in = λ c. record { run = matched (taken (v_con vv)) k c.run; in_calls = omega arith };
    reaches = λ h p. record { point = past_match (taken (v_con vv)) k p.point; in_calls = omega arith };
  };
  back = λ m h p. rw p.in_calls at (stop_match vv k p.point h);
}

-- the arguments are exchanged for others that come to the same values without a call
go_parts : {f : Term} {ps qs vs : Terms} → Parts ps vs → Parts qs vs → Free (call f ps) (call f qs)
go_parts a b = record {
  forth = record {
    comes_in = λ c. rw c.in_calls at (swap_comes b a c.run);
    reaches = λ h p. rw p.in_calls at (swap_stop b a p.point h);
  };
  back = λ m h p. rw p.in_calls at (swap_stop a b p.point h);
}

-- how a turn ends, of the closed term t
pub data Turned (t : Term) : End → Type 0 where
  t_comes : {c : Closure} → Free t (as_term c) → Turned t (comes c)
  t_stuck : Reaches t rule_none 0 → ((m : ℕ) → Reaches t a_call m → ⊥) → Turned t stuck
  t_goes : {n : ℕ} {ks xs : Closures} {b : Term} → Calls t (put ks xs b) → Fits ks xs b → Turned t (goes n ks xs b)

turned_from : {t t' : Term} {e : End} → Free t t' → Turned t' e → Turned t e
turned_from g (t_comes h) = t_comes record { forth = go_on g.forth h.forth; back = λ m x p. h.back m x (g.back m x p) }
turned_from g (t_stuck p q) = t_stuck (g.forth.reaches tt p) (λ m x. q m (g.back m tt x))
turned_from g (t_goes h f) =
    t_goes record { point = g.forth.reaches tt h.point; forth = go_on g.forth h.forth; back = λ m x p. h.back m x (g.back m x p) } f

-- what holds on either side of a test
by_test : {A : Type 0} (P : A → Type 0) (e : Bool) {x y : A} → (e ≡ true → P x) → (e ≡ false → P y) → P (cond e x y)
by_test P true p q = p refl
by_test P false p q = q refl

-- "exactly that many arguments", or not
counted_not : (a : ℕ) (ks xs : Terms) → eqb (size xs) a ≡ false → counted a ks xs ≡ nothing
unfolding counted
counted_not a ks xs e = rw e

-- what a call, a let and a match bind is what goes in
call_binds : (o a : ℕ) (b : Term) {ks xs : Closures} (k : Closure) (us : Closures) → Goods ks → Goods xs → sizeᶜ us ≡ a
    → let f = c_fun o a b ks xs in
    sub 0 0 (cons (as_term k) nil) (rev (as_terms us) (itself o (as_term f))) (sub 1 (0 + a + o) (as_terms ks) (as_terms xs) b)
    ≡ put (c_cons k ks) (revᶜ us (itselfᶜ o f xs)) b
unfolding as_terms join size
call_binds o a b {ks} {xs} k us hk hx e =
    let f = c_fun o a b ks xs in
    let n : size (rev (as_terms us) (itself o (as_term f))) ≡ a + o
    = rw (size_rev (as_terms us) (itself o (as_term f)), size_itself o (as_term f), size_as_terms us) (omega arith) in
    sub_twice (cons (as_term k) nil) (rev (as_terms us) (itself o (as_term f))) (as_terms_scoped hk) (as_terms_scoped hx) b 0 0 1 (0 + a + o)
    (omega arith) (omega arith)
    ∙ rw (as_terms_rev us (itselfᶜ o f xs), as_terms_itself o f xs, rev_join (as_terms us) (itself o (as_term f)) (as_terms xs)) refl

let_binds : (b : Term) {ks xs : Closures} (c : Closure) → Goods ks → Goods xs
    → sub 0 0 nil (cons (as_term c) nil) (sub 0 1 (as_terms ks) (as_terms xs) b) ≡ put ks (c_cons c xs) b
unfolding as_terms join size
let_binds b c hk hx = sub_twice nil (cons (as_term c) nil) (as_terms_scoped hk) (as_terms_scoped hx) b 0 0 0 1 (omega arith) (omega arith)

match_binds : (n : ℕ) (b : Term) {ks xs : Closures} (cs : Closures) → Goods ks → Goods xs → sizeᶜ cs ≡ n
    → sub 0 0 nil (rev (as_terms cs) nil) (sub 0 (0 + n) (as_terms ks) (as_terms xs) b) ≡ put ks (revᶜ cs xs) b
unfolding as_terms join size
match_binds n b {ks} {xs} cs hk hx e =
    let m : size (rev (as_terms cs) nil) ≡ n = rw (size_rev (as_terms cs) nil, size_as_terms cs) (omega arith) in
    sub_twice nil (rev (as_terms cs) nil) (as_terms_scoped hk) (as_terms_scoped hx) b 0 0 0 (0 + n) (omega arith) (omega arith)
    ∙ rw (as_terms_rev cs xs, rev_join (as_terms cs) nil (as_terms xs)) refl

-- a call of values
unfit : {o a : ℕ} {b : Term} {vs : Terms} → Values vs → enters images a vs ≡ nothing → Turned (call (fun o a b) vs) stuck
unfolding used count
unfit vv e =
    t_stuck record { point = called_unfit (taken v_fun) (taken_all vv) e; in_calls = omega (arith, no_calls images vv) }
    (λ m p. stuck_unfit vv e p.point)

apply_is : {c : Closure} {cs : Closures} → Good c → Goods cs → Turned (call (as_term c) (as_terms cs)) (apply c cs)
unfolding apply as_term sub enters used count sizeᶜ
apply_is {cs = us} (g_con {cs} hs) gs =
    t_stuck record {
      point = called_con (taken (v_con (as_terms_values cs))) (taken_all (as_terms_values us));
      in_calls = omega (arith, no_calls images (as_terms_values us));
    }
    (λ m p. stuck_called (v_con (as_terms_values cs)) (λ o a b q. never cc) (as_terms_values us) p.point)
apply_is {cs = us} g_num gs =
    t_stuck record { point = called_num (taken v_num) (taken_all (as_terms_values us)); in_calls = omega (arith, no_calls images (as_terms_values us)) }
    (λ m p. stuck_called v_num (λ o a b q. never cc) (as_terms_values us) p.point)
apply_is (g_fun f h hk hx) g_nil = unfit v_nil refl
apply_is (g_fun {o} {a} {b} {ks} {xs} f h hk hx) (g_cons {c = k} {cs = us} gk gs) =
    by_test (Turned (call (fun o a (sub 1 (0 + a + o) (as_terms ks) (as_terms xs) b)) (cons (as_term k) (as_terms us)))) (eqb (sizeᶜ us) a)
    (λ q.
    let n = eqb-true (sizeᶜ us) a q in
    let e = counted_fits a (cons (as_term k) nil) (as_terms us) (size_as_terms us ∙ n) in
    let i = itself_size o (c_fun o a b ks xs) xs in
    let j = rev_size us (itselfᶜ o (c_fun o a b ks xs) xs) in
    t_goes (rw (call_binds o a b k us hk hx n) at (go_call {o = o} {b = sub 1 (0 + a + o) (as_terms ks) (as_terms xs) b} vv e))
    record {
      flat = f;
      scoped = widen h _ _ (omega arith) (omega arith);
      good_k = g_cons gk hk;
      good_x = rev_good gs (itself_good o (g_fun f h hk hx) hx);
    })
    (λ q. unfit vv (counted_not a (cons (as_term k) nil) (as_terms us) (rw (size_as_terms us) q)))
  where
    vv : Values (cons (as_term k) (as_terms us))
    vv = v_cons (as_term_value k) (as_terms_values us)

-- what an operation on closures gives is what it gives on the terms that they stand for
abbrev Given : ℕ → Closures → Option Closure → Type 0
Given o cs nothing = (v : Term) → Gives o (as_terms cs) v → ⊥
Given o cs (some v) = Gives o (as_terms cs) (as_term v) × Good v

no_more : {o a b : ℕ} {v : Term} → Gives (suc (suc (suc o))) (cons (num a) (cons (num b) nil)) v → ⊥
no_more {o} g = by g refl
  where
    by : {o' : ℕ} {vs : Terms} {v : Term} → Gives o' vs v → o' ≡ suc (suc (suc o)) → ⊥
    by adds e = never cc
    by subtracts e = never cc
    by less e = never cc

given_is : (o a b : ℕ) → Given o (c_cons (c_num a) (c_cons (c_num b) c_nil)) (given o a b)
unfolding given as_term
given_is zero a b = (adds, g_num)
given_is (suc zero) a b = (subtracts, g_num)
given_is (suc (suc zero)) a b = (less, g_con g_nil)
given_is (suc (suc (suc o))) a b = λ v g. no_more g

numbers_given : (o : ℕ) (c d : Closure) → Given o (c_cons c (c_cons d c_nil)) (on_numbers o c d)
unfolding on_numbers as_term sub
numbers_given o (c_num a) (c_num b) = given_is o a b
numbers_given o (c_num a) (c_con t cs) = λ v g. let (x, y, e) = gives_numbers g in never cc
numbers_given o (c_num a) (c_fun o' a' b ks xs) = λ v g. let (x, y, e) = gives_numbers g in never cc
numbers_given o (c_con t cs) d = λ v g. let (x, y, e) = gives_numbers g in never cc
numbers_given o (c_fun o' a b ks xs) d = λ v g. let (x, y, e) = gives_numbers g in never cc

operated_is : (o : ℕ) (cs : Closures) → Given o cs (operated o cs)
unfolding operated as_terms
operated_is o c_nil = λ v g. let (x, y, e) = gives_numbers g in never cc
operated_is o (c_cons c c_nil) = λ v g. let (x, y, e) = gives_numbers g in never cc
operated_is o (c_cons c (c_cons d c_nil)) = numbers_given o c d
operated_is o (c_cons c (c_cons d (c_cons e cs))) = λ v g. let (x, y, q) = gives_numbers g in never cc

pub operates_as_defined : OperatesAsDefined
operates_as_defined o cs v =
    ((λ g. by (operated o cs) refl (operated_is o cs) g), (λ (c, e, p). subst (Gives o (as_terms cs)) p (rw e at (operated_is o cs)).0))
  where
    by : (d : Option Closure) → operated o cs ≡ d → Given o cs d → Gives o (as_terms cs) v → (c : Closure) × (operated o cs ≡ some c) × (as_term c ≡ v)
    by nothing e k g = absurd (k v g)
    by (some c) e (h, gc) g =
        let all = taken_all (as_terms_values cs) in (c, e, (same_run {L = images} (operates all h) (operates all g)).0)

-- a call of a value that is handed an operation on values
hand_by : (o : ℕ) {c : Closure} (cs : Closures) (d : Option Closure) → Good c → Given o cs d
    → Turned (call (as_term c) (cons (op o (as_terms cs)) nil)) (handed c d).end
unfolding handed used count as_terms
hand_by o {c} cs nothing g k =
    t_stuck record {
      point = in_arguments (taken (as_term_value c)) (in_first (operated_unfit (taken_all (as_terms_values cs)) k));
      in_calls = omega (arith, no_calls images (as_terms_values cs));
    } (λ m p. stuck_operation (as_term_value c) (as_terms_values cs) k p.point)
hand_by o cs (some v) g (h, gv) =
    turned_from (go_parts (of_operation (as_terms_values cs) h) (of_values (v_cons (as_term_value v) v_nil))) (apply_is g (g_cons gv g_nil))

-- an atom's words are taken as a value
atom_ends : {t : Term} → FlatAtom t → (ks xs : Closures) → (turn t ks xs).end ≡ comes (value t ks xs)
unfolding turn
atom_ends f_var ks xs = refl
atom_ends f_kvar ks xs = refl
atom_ends (f_fun b) ks xs = refl
atom_ends (f_con fs) ks xs = refl
atom_ends f_num ks xs = refl

-- arguments that are atoms are no operation
no_operation : {p : Term} → FlatAtom p → operation p ≡ nothing
unfolding operation
no_operation f_var = refl
no_operation f_kvar = refl
no_operation (f_fun b) = refl
no_operation (f_con fs) = refl
no_operation f_num = refl

no_sole : {ps : Terms} → FlatAtoms ps → sole ps ≡ nothing
unfolding sole
no_sole f_nil = refl
no_sole (f_cons f f_nil) = no_operation f
no_sole (f_cons f (f_cons g fs)) = refl

atom_is : {t : Term} → FlatAtom t → (ks xs : Closures) → Scoped images (sizeᶜ ks) (sizeᶜ xs) t → Turned (put ks xs t) (turn t ks xs).end
atom_is f ks xs h = rw (atom_ends f ks xs, ← (value_is ks xs f h)) (t_comes stay)

-- the arms qs take the value c as the arms ps do
abbrev Alike : Closure → Arms → Arms → Type 0
Alike (c_fun o a b ks xs) qs ps = Unit {0}
Alike (c_num n) qs ps = Unit {0}
Alike (c_con t cs) qs ps = took t (sizeᶜ cs) qs ≡ took t (sizeᶜ cs) ps

alike_same : (c : Closure) (ps : Arms) → Alike c ps ps
alike_same (c_fun o a b ks xs) ps = tt
alike_same (c_num n) ps = tt
alike_same (c_con t cs) ps = refl

-- a match of a value that is no constructor, or for which there is no arm; and of one that takes an arm
match_fun : (o a : ℕ) (b : Term) (ks xs : Closures) (qs : Arms) → Turned (cases (as_term (c_fun o a b ks xs)) qs) stuck
unfolding as_term sub used count
match_fun o a b ks xs qs =
    t_stuck record { point = matched_fun (taken v_fun); in_calls = refl } (λ m p. stuck_matched v_fun (λ t vs q. never cc) p.point)

match_num : (n : ℕ) (qs : Arms) → Turned (cases (as_term (c_num n)) qs) stuck
unfolding as_term used count
match_num n qs = t_stuck record { point = matched_num (taken v_num); in_calls = refl } (λ m p. stuck_matched v_num (λ t vs q. never cc) p.point)

match_none : (t : ℕ) (cs : Closures) (qs : Arms) → took t (sizeᶜ cs) qs ≡ nothing → Turned (cases (as_term (c_con t cs)) qs) stuck
unfolding as_term used count
match_none t cs qs k =
    let k' : took t (size (as_terms cs)) qs ≡ nothing = rw (size_as_terms cs) k in
    t_stuck record { point = matched_none (taken (v_con (as_terms_values cs))) k'; in_calls = refl }
    (λ m p. stuck_none (as_terms_values cs) k' p.point)

match_some : (t : ℕ) (cs : Closures) {ks xs : Closures} {qs : Arms} (b : Term) {e : End} → Goods ks → Goods xs
    → took t (sizeᶜ cs) qs ≡ some (sub 0 (0 + sizeᶜ cs) (as_terms ks) (as_terms xs) b)
    → Turned (put ks (revᶜ cs xs) b) e → Turned (cases (as_term (c_con t cs)) qs) e
unfolding as_term
match_some t cs {ks} {xs} {qs} b hk hx k h =
    let k' : took t (size (as_terms cs)) qs ≡ some (sub 0 (0 + sizeᶜ cs) (as_terms ks) (as_terms xs) b) = rw (size_as_terms cs) k in
    turned_from (go_match (as_terms_values cs) k') (rw (match_binds (sizeᶜ cs) b cs hk hx refl) h)

good_parts : {t : ℕ} {cs : Closures} → Good (c_con t cs) → Goods cs
good_parts (g_con cs) = cs

mutual
  unfolding turn passed sole operation sub as_terms sizeᶜ took

  turn_is : {t : Term} → Flat t → (ks xs : Closures) → Scoped images (sizeᶜ ks) (sizeᶜ xs) t → Goods ks → Goods xs
      → Turned (put ks xs t) (turn t ks xs).end
  turn_is (f_atom f) ks xs h hk hx = atom_is f ks xs h
  turn_is (f_call f fs) ks xs (s_call hf hs) hk hx =
      rw (no_sole fs, ← (value_is ks xs f hf), ← (values_are ks xs fs hs)) (apply_is (value_good hk hx f hf) (values_good hk hx fs hs))
  turn_is (f_hand {o} {ps} f fs) ks xs (s_call hf (s_cons (s_op hs) s_nil)) hk hx =
      let cs = values ps ks xs in
      rw (← (value_is ks xs f hf), ← (values_are ks xs fs hs)) (hand_by o cs (operated o cs) (value_good hk hx f hf) (operated_is o cs))
  turn_is (f_bind {m} {b} f fb) ks xs (s_bind hm hb) hk hx =
      let c = value m ks xs in
      let h = turn_is fb ks (c_cons c xs) hb hk (g_cons (value_good hk hx f hm) hx) in
      rw (← (value_is ks xs f hm)) (turned_from (go_let (as_term_value c)) (rw (let_binds b c hk hx) h))
  turn_is (f_cases {m} {ps} f fs) ks xs (s_cases hm hs) hk hx =
      rw (← (value_is ks xs f hm))
      (let qs = subᵃ 0 0 (as_terms ks) (as_terms xs) ps in
      turnᵃ_is fs ks xs hs hk hx (value m ks xs) (value_good hk hx f hm) qs (alike_same (value m ks xs) qs))

  turnᵃ_is : {ps : Arms} → Flatᵃ ps → (ks xs : Closures) → Scopedᵃ images (sizeᶜ ks) (sizeᶜ xs) ps → Goods ks → Goods xs → (c : Closure) → Good c
      → (qs : Arms)
      → Alike c qs (subᵃ 0 0 (as_terms ks) (as_terms xs) ps) → Turned (cases (as_term c) qs) (turnᵃ ps ks xs c).end
  turnᵃ_is f_none ks xs hs hk hx (c_fun o a b' js ys) g qs z = match_fun o a b' js ys qs
  turnᵃ_is f_none ks xs hs hk hx (c_num i) g qs z = match_num i qs
  turnᵃ_is f_none ks xs hs hk hx (c_con t cs) g qs z = match_none t cs qs z
  turnᵃ_is (f_arm fb fs) ks xs hs hk hx (c_fun o a b' js ys) g qs z = match_fun o a b' js ys qs
  turnᵃ_is (f_arm fb fs) ks xs hs hk hx (c_num i) g qs z = match_num i qs
  turnᵃ_is (f_arm {t} {n} {b} {ps} fb fs) ks xs (s_arm hb hs) hk hx (c_con t' cs) g qs z =
      by_test (λ (s : Turn). Turned (cases (as_term (c_con t' cs)) qs) s.end) (both t' (sizeᶜ cs) t n)
      (λ q.
      let m = (same_both t' (sizeᶜ cs) t n q).1 in
      match_some t' cs b hk hx (z ∙ rw (q, m) refl)
      (turn_is fb ks (revᶜ cs xs) (widen hb _ _ (omega arith) (rw (rev_size cs xs) (omega arith))) hk (rev_good (good_parts g) hx)))
      (λ q. turnᵃ_is fs ks xs hs hk hx (c_con t' cs) g qs (z ∙ rw q refl))

pub turn_fits : {ks xs : Closures} {t : Term} → Fits ks xs t → Turned (put ks xs t) (turn t ks xs).end
turn_fits {ks} {xs} f = turn_is f.flat ks xs f.scoped f.good_k f.good_x
