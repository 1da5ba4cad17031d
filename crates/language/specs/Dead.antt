-- Dead arms: document 02, Wish 4. "After Wish 3 a second arm with the same tag and arity can never be taken, and twice now an engineer has edited the
-- dead one. Refuse such rules."
use Rattle.std.specs.Prelude.{ℕ, Bool, false, ◌||◌, List, [], ◌∷◌, ◌≡◌}
use Rattle.std.proofs.Math.Option.{some, none as nothing}
use Rattle.language.specs.Term.{Term, Terms, Arms, var, kvar, fun, call, bind, con, cases, num, op, nil, cons, none, arm, size}
use Rattle.language.specs.Run.{Value, both, took}

-- whether an arm with the tag t and the arity n is dead: one of the arms before it in its match, whose tags and arities are `before`, has "the same tag
-- and arity"
unfoldable pub dead : ℕ → ℕ → List (ℕ × ℕ) → Bool
dead t n [] = false
dead t n (a ∷ before) = both t n a.0 a.1 || dead t n before

-- the arms `before`, then the arms ps
unfoldable pub behind : Arms → Arms → Arms
behind none ps = ps
behind (arm t n b before) ps = arm t n b (behind before ps)

-- the arm with the tag t, the arity n and the body b, behind the arms `before`, can be taken: there is a constructor value that none of these takes
-- and this arm does
pub record Taken (before : Arms) (t n : ℕ) (b : Term) : Type 0 where
  pub tag : ℕ
  pub arguments : Terms
  pub value : Value (con tag arguments)
  pub passes : took tag (size arguments) before ≡ nothing
  pub takes : took tag (size arguments) (arm t n b none) ≡ some b

-- each of the arms ps can be taken
abbrev pub EachTaken : Arms → Type 0
EachTaken ps = (before after : Arms) (t n : ℕ) (b : Term) → ps ≡ behind before (arm t n b after) → Taken before t n b

-- `Live t`: every arm of every match in t can be taken
mutual
  pub data Live : Term → Type 0 where
    l_var : {i : ℕ} → Live (var i)
    l_kvar : {i : ℕ} → Live (kvar i)
    l_fun : {o a : ℕ} {b : Term} → Live b → Live (fun o a b)
    l_call : {f : Term} {ps : Terms} → Live f → Liveᵗ ps → Live (call f ps)
    l_bind : {m b : Term} → Live m → Live b → Live (bind m b)
    l_con : {t : ℕ} {ps : Terms} → Liveᵗ ps → Live (con t ps)
    l_cases : {m : Term} {ps : Arms} → EachTaken ps → Live m → Liveᵃ ps → Live (cases m ps)
    l_num : {n : ℕ} → Live (num n)
    l_op : {o : ℕ} {ps : Terms} → Liveᵗ ps → Live (op o ps)

  pub data Liveᵗ : Terms → Type 0 where
    l_nil : Liveᵗ nil
    l_cons : {t : Term} {ts : Terms} → Live t → Liveᵗ ts → Liveᵗ (cons t ts)

  pub data Liveᵃ : Arms → Type 0 where
    l_none : Liveᵃ none
    l_arm : {t n : ℕ} {b : Term} {ps : Arms} → Live b → Liveᵃ ps → Liveᵃ (arm t n b ps)
