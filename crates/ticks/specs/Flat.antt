-- Why an image runs without a stack: what it calls, passes on, binds and matches are atoms, so that only a function's body, a let's or an
-- arm's is ever left to run. An operation is no atom; in an image one stands as a call's only argument, on atoms (document 02, Wish 13).
use Rattle.std.specs.Prelude.{ℕ}
use Rattle.language.specs.Term.{Term, Terms, Arms, var, kvar, fun, call, bind, con, cases, num, op, nil, cons, none, arm}

-- `FlatAtom t`: t is an atom, and the bodies of its functions are flat. `Flat t`: t is such an atom, or all its parts but bodies are; or it hands an
-- operation on.
mutual
  pub data FlatAtom : Term → Type 0 where
    f_var : {i : ℕ} → FlatAtom (var i)
    f_kvar : {i : ℕ} → FlatAtom (kvar i)
    f_fun : {o a : ℕ} {b : Term} → Flat b → FlatAtom (fun o a b)
    f_con : {t : ℕ} {ps : Terms} → FlatAtoms ps → FlatAtom (con t ps)
    f_num : {n : ℕ} → FlatAtom (num n)

  pub data FlatAtoms : Terms → Type 0 where
    f_nil : FlatAtoms nil
    f_cons : {t : Term} {ts : Terms} → FlatAtom t → FlatAtoms ts → FlatAtoms (cons t ts)

  pub data Flat : Term → Type 0 where
    f_atom : {t : Term} → FlatAtom t → Flat t
    f_call : {f : Term} {ps : Terms} → FlatAtom f → FlatAtoms ps → Flat (call f ps)
    f_hand : {f : Term} {o : ℕ} {ps : Terms} → FlatAtom f → FlatAtoms ps → Flat (call f (cons (op o ps) nil))
    f_bind : {m b : Term} → FlatAtom m → Flat b → Flat (bind m b)
    f_cases : {m : Term} {ps : Arms} → FlatAtom m → Flatᵃ ps → Flat (cases m ps)

  pub data Flatᵃ : Arms → Type 0 where
    f_none : Flatᵃ none
    f_arm : {t n : ℕ} {b : Term} {ps : Arms} → Flat b → Flatᵃ ps → Flatᵃ (arm t n b ps)
