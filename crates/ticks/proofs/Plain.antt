-- A value and its carried form: the one holds a function exactly where the other does, and where none does they are the same. By induction on the
-- value. Assumes nothing.
use mathlib.Core.Bool.{Bool, true, false, ◌||◌, false≢true}
use mathlib.Core.Path.{◌≡◌, refl, sym}
use Rattle.language.specs.Term.{Term, Terms}
use Rattle.language.specs.Run.{Value, Values, v_fun, v_con, v_num, v_nil, v_cons}
use Rattle.language.specs.Image.{carried, carrieds}
use Rattle.meaning.specs.Promises.{Plain, Plainᵗ, p_con, p_num, p_nil, p_cons}
use Rattle.meaning.proofs.Promises.{plain_is_carried as carried_plain}
use Rattle.ticks.specs.Value.{holds, holdsᵗ}
use Rattle.ticks.specs.Promises.{PlainIsCarried}

mutual
  unfolding holds carried

  holds_carried : {v : Term} → Value v → holds (carried v) ≡ holds v
  holds_carried v_fun = refl
  holds_carried (v_con vs) = holds_carrieds vs
  holds_carried v_num = refl

  holds_carrieds : {vs : Terms} → Values vs → holdsᵗ (carrieds vs) ≡ holdsᵗ vs
  holds_carrieds v_nil = refl
  holds_carrieds (v_cons v vs) = rw (holds_carried v, holds_carrieds vs) refl

-- neither of two
neither : (a b : Bool) → (a || b) ≡ false → (a ≡ false) × (b ≡ false)
neither true b e = absurd (false≢true (sym e))
neither false b e = (refl, e)

mutual
  unfolding holds

  plain : {v : Term} → Value v → holds v ≡ false → Plain v
  plain v_fun e = absurd (false≢true (sym e))
  plain (v_con vs) e = p_con (plains vs e)
  plain v_num e = p_num

  plains : {vs : Terms} → Values vs → holdsᵗ vs ≡ false → Plainᵗ vs
  plains v_nil e = p_nil
  plains (v_cons {t} {ts} v vs) e = let (p, q) = neither (holds t) (holdsᵗ ts) e in p_cons (plain v p) (plains vs q)

pub plain_is_carried : PlainIsCarried
plain_is_carried = record { holds_same = λ v x. holds_carried x; itself = λ v x e. carried_plain v (plain x e) }
