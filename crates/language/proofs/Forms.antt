-- Values are atoms. The passing form of an atom, and of a constructor that is none: document 01's two cases for a constructor, each as an equation. The carried
-- forms of a list are as many as its terms, the variables that a chain's end names are as many as it says, and the arms of a match stay as many. Copies
-- of a value are values, as many as they are, an arm has both the tag and the arity exactly where the numbers are the same,
-- and arguments go in exactly where they are as many as the function has.
-- Assumes nothing.
use Prim.Native.Nat.{ℕ, zero, suc}
use mathlib.Core.Path.{◌≡◌, refl, ap}
use mathlib.Core.Bool.{Bool, true, false, cond, false≢true, and-eq-true_iff}
use mathlib.Core.Option.{Option, some, none as nothing, some-injective, none-ne-some}
use lib.Dec.{eqb}
use borrow.Author.Tests.{eq-eqb, eqb-true}
use Rattle.language.specs.Term.{Term, Terms, Arms, var, kvar, fun, call, bind, con, cases, num, op, nil, cons, none, arm, size, sizeᵃ}
use Rattle.language.specs.Run.{atom, atoms, Value, Values, v_fun, v_con, v_num, v_nil, v_cons, counted, itself, both}
use Rattle.language.specs.Image.{lam, to, downto, making, passing, carried, carrieds, chain, passingᵃ}

-- values are atoms
mutual
  unfolding atom

  pub value_atom : {v : Term} → Value v → atom v ≡ true
  value_atom v_fun = refl
  value_atom (v_con vs) = values_atoms vs
  value_atom v_num = refl

  pub values_atoms : {vs : Terms} → Values vs → atoms vs ≡ true
  values_atoms v_nil = refl
  values_atoms (v_cons v vs) = rw (value_atom v) (values_atoms vs)

-- "Atom: 0201 0401 0900, then its carried form."
pub passing_atom : (t : Term) → atom t ≡ true → passing t ≡ lam (to (kvar 0) (carried t))
unfolding atom passing
passing_atom (var i) e = refl
passing_atom (kvar i) e = refl
passing_atom (fun o a b) e = refl
passing_atom (call f ps) e = absurd (false≢true e)
passing_atom (bind m b) e = absurd (false≢true e)
passing_atom (con t ps) e = rw e
passing_atom (cases m ps) e = absurd (false≢true e)
passing_atom (num n) e = refl
passing_atom (op o ps) e = absurd (false≢true e)

-- "Constructor with n arguments, not an atom: the chain over the arguments"
pub passing_build : (t : ℕ) (ps : Terms) → atoms ps ≡ false → passing (con t ps) ≡ lam (chain ps (making t (size ps)))
unfolding passing
passing_build t ps e = rw e

-- the carried forms of the arguments are as many
pub size_carrieds : (ts : Terms) → size (carrieds ts) ≡ size ts
unfolding size carrieds
size_carrieds nil = refl
size_carrieds (cons t ts) = ap suc (size_carrieds ts)

-- "k_(n-1) down to k_0" are n
pub size_downto : (n : ℕ) → size (downto n) ≡ n
unfolding downto size
size_downto zero = refl
size_downto (suc n) = ap suc (size_downto n)

-- a match's passing form has as many arms
pub size_passingᵃ : (ps : Arms) → sizeᵃ (passingᵃ ps) ≡ sizeᵃ ps
unfolding passingᵃ sizeᵃ
size_passingᵃ none = refl
size_passingᵃ (arm t n b ps) = ap suc (size_passingᵃ ps)

-- copies of a value
pub itself_values : (o : ℕ) {f : Term} → Value f → Values (itself o f)
unfolding itself
itself_values zero h = v_nil
itself_values (suc o) h = v_cons h (itself_values o h)

pub size_itself : (o : ℕ) (f : Term) → size (itself o f) ≡ o
unfolding itself size
size_itself zero f = refl
size_itself (suc o) f = ap suc (size_itself o f)

-- "both the tag and the arity"
pub both_same : (t n : ℕ) → both t n t n ≡ true
both_same t n = simp (eq-eqb t t refl, eq-eqb n n refl)

pub same_both : (t n t' n' : ℕ) → both t n t' n' ≡ true → (t ≡ t') × (n ≡ n')
same_both t n t' n' e = let p = (and-eq-true_iff (eqb t t') (eqb n n')).0 e in (eqb-true t t' p.0, eqb-true n n' p.1)

-- "exactly that many arguments"
pub counted_fits : (a : ℕ) (ks xs : Terms) → size xs ≡ a → counted a ks xs ≡ some (ks, xs)
unfolding counted
counted_fits a ks xs e = rw (eq-eqb (size xs) a e)

pub counted_is : (a : ℕ) (ks xs : Terms) {ks' xs' : Terms} → counted a ks xs ≡ some (ks', xs') → (size xs ≡ a) × (ks ≡ ks') × (xs ≡ xs')
unfolding counted
counted_is a ks xs {ks'} {xs'} e = go (eqb (size xs) a) refl e
  where
    go : (b : Bool) → eqb (size xs) a ≡ b → cond {A = Option (Terms × Terms)} b (some (ks, xs)) nothing ≡ some (ks', xs') → (size xs ≡ a) × (ks ≡ ks') × (xs ≡ xs')
    go true q e =
        let p = some-injective (ks, xs) (ks', xs') e in
        (eqb-true (size xs) a q, ap (λ x. x.0) p, ap (λ x. x.1) p)
    go false q e = absurd (none-ne-some (ks', xs') e)
