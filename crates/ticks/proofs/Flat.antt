-- Every image is flat: the plain transformation calls passing forms and continuation variables alone, and passes on, binds and matches
-- nothing but atoms, or an operation on atoms at the end of a chain. By induction on the term. Assumes nothing.
use Prim.Native.Nat.{ℕ, zero, suc}
use mathlib.Core.Bool.{Bool, true, false, cond}
use Rattle.language.specs.Term.{Term, Terms, Arms, var, kvar, fun, call, bind, con, cases, num, op, nil, cons, none, arm, size}
use Rattle.language.specs.Run.{atoms}
use Rattle.language.specs.Image.{to, downto, passing, carried, carrieds, chain, passingᵃ, image}
use Rattle.ticks.specs.Flat.{FlatAtom, FlatAtoms, f_var, f_kvar, f_fun, f_con, f_num, f_nil, f_cons, Flat, f_atom, f_call, f_hand, f_bind}
use Rattle.ticks.specs.Flat.{f_cases, Flatᵃ, f_none, f_arm}

to_flat : {f p : Term} → FlatAtom f → FlatAtom p → Flat (to f p)
to_flat f p = f_call f (f_cons p f_nil)

downto_flat : (n : ℕ) → FlatAtoms (downto n)
unfolding downto
downto_flat zero = f_nil
downto_flat (suc n) = f_cons f_kvar (downto_flat n)

cond_flat : (b : Bool) {x y : Term} → Flat x → Flat y → Flat (cond b x y)
cond_flat true x y = x
cond_flat false x y = y

mutual
  unfolding passing

  passing_flat : (t : Term) → FlatAtom (passing t)
  passing_flat (var i) = f_fun (to_flat f_kvar f_var)
  passing_flat (kvar i) = f_fun (to_flat f_kvar f_kvar)
  passing_flat (fun o a b) = f_fun (to_flat f_kvar (f_fun (to_flat (passing_flat b) f_kvar)))
  passing_flat (call f ps) = f_fun (to_flat (passing_flat f) (f_fun (chain_flat ps (f_call f_kvar (f_cons f_kvar (downto_flat (size ps)))))))
  passing_flat (bind m b) = f_fun (to_flat (passing_flat m) (f_fun (f_bind f_kvar (to_flat (passing_flat b) f_kvar))))
  passing_flat (con t ps) =
      f_fun (cond_flat (atoms ps) (to_flat f_kvar (f_con (carrieds_flat ps))) (chain_flat ps (to_flat f_kvar (f_con (downto_flat (size ps))))))
  passing_flat (cases m ps) = f_fun (to_flat (passing_flat m) (f_fun (f_cases f_kvar (passingᵃ_flat ps))))
  passing_flat (num n) = f_fun (to_flat f_kvar f_num)
  passing_flat (op o ps) = f_fun (chain_flat ps (f_hand f_kvar (downto_flat (size ps))))

  carried_flat : (t : Term) → FlatAtom (carried t)
  carried_flat (var i) = f_var
  carried_flat (kvar i) = f_kvar
  carried_flat (fun o a b) = f_fun (to_flat (passing_flat b) f_kvar)
  carried_flat (call f ps) = f_con f_nil
  carried_flat (bind m b) = f_con f_nil
  carried_flat (con t ps) = f_con (carrieds_flat ps)
  carried_flat (cases m ps) = f_con f_nil
  carried_flat (num n) = f_num
  carried_flat (op o ps) = f_con f_nil

  carrieds_flat : (ts : Terms) → FlatAtoms (carrieds ts)
  carrieds_flat nil = f_nil
  carrieds_flat (cons t ts) = f_cons (carried_flat t) (carrieds_flat ts)

  chain_flat : (ts : Terms) {z : Term} → Flat z → Flat (chain ts z)
  chain_flat nil z = z
  chain_flat (cons t ts) z = to_flat (passing_flat t) (f_fun (chain_flat ts z))

  passingᵃ_flat : (ps : Arms) → Flatᵃ (passingᵃ ps)
  passingᵃ_flat none = f_none
  passingᵃ_flat (arm t n b ps) = f_arm (to_flat (passing_flat b) f_kvar) (passingᵃ_flat ps)

pub image_flat : (t : Term) → Flat (image t)
unfolding image
image_flat t = to_flat (passing_flat t) (f_fun (f_atom f_kvar))
