-- A value is known by its carried form, as the plain transformation can be undone: a passing form is taken apart as it was made, the terms of its
-- chain one by one, and then its ending, which tells what the term was. What an image's term can have come from is found from what its parts can
-- have come from; that it is found again is shown by induction on the rule's term. Assumes nothing.
use Prim.Native.Nat.{ℕ}
use mathlib.Core.Bool.{Bool, true, false, cond, false≢true, and-eq-true_iff}
use mathlib.Core.Path.{◌≡◌, refl, sym, ap, ap₂, ◌∙◌}
use Rattle.language.specs.Term.{Term, Terms, Arms, var, kvar, fun, call, bind, con, cases, num, op, nil, cons, none, arm, size}
use Rattle.language.specs.Run.{atom, atoms, Value, rev}
use Rattle.language.specs.Image.{calling, making, working, passing, carried, carrieds, chain, passingᵃ}
use Rattle.language.proofs.Forms.{value_atom}

-- what stands where nothing can have been
abbrev nought : Term
nought = con 0 nil

abbrev noughts : Term → Terms → Term
noughts f acc = nought

-- the rule's term that a term of an image can have come from.
-- opens: it is a function. atom: it is the term's carried form. passed: the term's passing form. along: a function in which a chain goes on, whose first
-- term was f and whose others, last first, acc. ending: the first argument in that chain's ending. whole and rest: the same as passed and along, for
-- the body of the function. given: the term's passing form, given a continuation
record Origin : Type 0 where
  opens : Bool
  atom : Term
  passed : Term
  along : Term → Terms → Term
  ending : Term → Terms → Term
  whole : Term
  rest : Term → Terms → Term
  given : Term

-- variables and constructors; functions; and what stands in a function's body
leaf : Term → (Term → Terms → Term) → Origin
leaf x e = record { opens = false; atom = x; passed = nought; along = noughts; ending = e; whole = nought; rest = noughts; given = nought }

inside : Term → (Term → Terms → Term) → Term → Origin
inside w r g = record { opens = false; atom = nought; passed = nought; along = noughts; ending = noughts; whole = w; rest = r; given = g }

under : ℕ → ℕ → Origin → Origin
under o a b = record { opens = true; atom = fun o a b.given; passed = b.whole; along = b.rest; ending = noughts; whole = nought; rest = noughts; given = nought }

applied : Origin → Origin → Origin
unfolding inside
applied f p = inside (cond f.opens (p.along f.passed nil) p.atom) (λ g acc. cond f.opens (p.along g (cons f.passed acc)) (p.ending g acc)) f.passed

mutual
  unfolding leaf inside under applied rev

  origin : Term → Origin
  origin (var i) = leaf (var i) noughts
  origin (kvar i) = leaf (kvar i) (λ f acc. call f (rev acc nil))
  origin (fun o a b) = under o a (origin b)
  origin (call f ps) = applied (origin f) (origin_of_first ps)
  origin (bind m b) = inside nought (λ f acc. bind f (origin b).given) nought
  origin (con t ps) = leaf (con t (atoms_from ps)) (λ f acc. con t (cons f (rev acc nil)))
  origin (cases m ps) = inside nought (λ f acc. cases f (arms_from ps)) nought
  origin (num n) = leaf (num n) noughts
  origin (op o ps) = leaf (op o nil) (λ f acc. op o (cons f (rev acc nil)))

  origin_of_first : Terms → Origin
  origin_of_first nil = leaf nought noughts
  origin_of_first (cons t ts) = origin t

  atoms_from : Terms → Terms
  atoms_from nil = nil
  atoms_from (cons t ts) = cons (origin t).atom (atoms_from ts)

  arms_from : Arms → Arms
  arms_from none = none
  arms_from (arm t n b ps) = arm t n (origin b).given (arms_from ps)

-- a passing form is a function
opens_is : (t : Term) → (origin (passing t)).opens ≡ true
unfolding passing origin
opens_is (var i) = refl
opens_is (kvar i) = refl
opens_is (fun o a b) = refl
opens_is (call f ps) = refl
opens_is (bind m b) = refl
opens_is (con t ps) = refl
opens_is (cases m ps) = refl
opens_is (num n) = refl
opens_is (op o ps) = refl

-- terms turned round twice
rev_rev : (ts acc : Terms) → rev (rev ts acc) nil ≡ rev acc ts
unfolding rev
rev_rev nil acc = refl
rev_rev (cons t ts) acc = rev_rev ts (cons t acc)

-- a constructor that is an atom, or not, by what is known of its arguments
either : (t : ℕ) (p : Term) (ps : Terms) (e : Bool) → atoms (cons p ps) ≡ e → (atom p ≡ true → (origin (carried p)).atom ≡ p)
    → (atoms ps ≡ true → atoms_from (carrieds ps) ≡ ps) → (origin (passing p)).passed ≡ p
    → ((z : Term) → (origin (chain ps z)).rest p nil ≡ (origin z).rest p (rev ps nil)) → (origin (passing (con t (cons p ps)))).passed ≡ con t (cons p ps)
unfolding origin passing rev atom size
either t p ps true e x xs y ys = let q = (and-eq-true_iff (atom p) (atoms ps)).0 e in rw (e, x q.0, xs q.1) refl
either t p ps false e x xs y ys = rw (e, opens_is p, y, ys (making t (size (cons p ps))), rev_rev ps nil) refl

mutual
  unfolding origin passing rev atom size

  passed_is : (t : Term) → (origin (passing t)).passed ≡ t
  passed_is (var i) = refl
  passed_is (kvar i) = refl
  passed_is (fun o a b) = ap (fun o a) (passed_is b)
  passed_is (call f ps) = rw (opens_is f, passed_is f, rest_is ps (calling (size ps)) f nil, rev_rev ps nil) refl
  passed_is (bind m b) = rw (opens_is m, passed_is m, passed_is b) refl
  passed_is (con t ps) = con_is ps t
  passed_is (cases m ps) = rw (opens_is m, passed_is m, arms_is ps) refl
  passed_is (num n) = refl
  passed_is (op o ps) = op_is ps o

  con_is : (ps : Terms) (t : ℕ) → (origin (passing (con t ps))).passed ≡ con t ps
  con_is nil t = refl
  con_is (cons p ps) t = either t p ps (atoms (cons p ps)) refl (λ e. atom_is p e) (λ e. atoms_are ps e) (passed_is p) (λ z. rest_is ps z p nil)

  op_is : (ps : Terms) (o : ℕ) → (origin (passing (op o ps))).passed ≡ op o ps
  op_is nil o = refl
  op_is (cons p ps) o = rw (opens_is p, passed_is p, rest_is ps (working o (size (cons p ps))) p nil, rev_rev ps nil) refl

  atom_is : (t : Term) → atom t ≡ true → (origin (carried t)).atom ≡ t
  atom_is (var i) e = refl
  atom_is (kvar i) e = refl
  atom_is (fun o a b) e = ap (fun o a) (passed_is b)
  atom_is (call f ps) e = absurd (false≢true e)
  atom_is (bind m b) e = absurd (false≢true e)
  atom_is (con t ps) e = ap (con t) (atoms_are ps e)
  atom_is (cases m ps) e = absurd (false≢true e)
  atom_is (num n) e = refl
  atom_is (op o ps) e = absurd (false≢true e)

  atoms_are : (ts : Terms) → atoms ts ≡ true → atoms_from (carrieds ts) ≡ ts
  atoms_are nil e = refl
  atoms_are (cons t ts) e = let p = (and-eq-true_iff (atom t) (atoms ts)).0 e in ap₂ cons (atom_is t p.0) (atoms_are ts p.1)

  rest_is : (ts : Terms) (z f : Term) (acc : Terms) → (origin (chain ts z)).rest f acc ≡ (origin z).rest f (rev ts acc)
  rest_is nil z f acc = refl
  rest_is (cons t ts) z f acc = rw (opens_is t, passed_is t) (rest_is ts z f (cons t acc))

  arms_is : (ps : Arms) → arms_from (passingᵃ ps) ≡ ps
  arms_is none = refl
  arms_is (arm t n b ps) = ap₂ (arm t n) (passed_is b) (arms_is ps)

-- two values with one carried form are one
pub same_carried : {v v' : Term} → Value v → Value v' → carried v ≡ carried v' → v ≡ v'
same_carried {v} {v'} x y e = sym (atom_is v (value_atom x)) ∙ ap (λ z. (origin z).atom) e ∙ atom_is v' (value_atom y)
