-- The rules that call a function with too few or too many arguments, or operate on what is no number, come to no value, and neither do their images:
-- each run is followed, call by call, to the call that nothing goes in for, or to the operation that gives nothing. Assumes nothing.
use Prim.Native.Nat.{ℕ}
use mathlib.Core.Path.{◌≡◌}
use Rattle.language.specs.Term.{Lang, Term, call, con, num, op, nil, cons, size}
use Rattle.language.specs.Sub.{sub}
use Rattle.language.specs.Run.{atom, Value, Values, v_fun, v_con, v_num, v_nil, v_cons, enters, rev, itself, Run}
use Rattle.language.specs.Image.{downto, passing, image}
use Rattle.language.specs.Kinds.{known, head_of}
use Rattle.language.specs.Dead.{dead}
use Rattle.language.specs.Read.{then, made, second, number, many, unlike, arms_of, opened, term, closed, ended, read}
use Rattle.language.specs.Cases.{WorkedStuck}
use Rattle.language.proofs.Clash.{never}
use Rattle.language.proofs.Back.{uncalled, argument_comes, gives_numbers, unoperated}

-- a value alone, and two; and a constructor without arguments, which is a value
alone : {v : Term} → Value v → Values (cons v nil)
alone x = v_cons x v_nil

both : {v w : Term} → Value v → Value w → Values (cons v (cons w nil))
both x y = v_cons x (alone y)

plain : {t : ℕ} → Value (con t nil)
plain = v_con v_nil

-- an operation on values that are not both numbers; handed to a continuation
no_numbers : {L : Lang} {o : ℕ} {v w x : Term} → Values (cons v (cons w nil)) → ((a b : ℕ) → v ≡ num a → w ≡ num b → ⊥) → Run L (op o (cons v (cons w nil))) x → ⊥
no_numbers vv h r = let (a, b, e) = gives_numbers (unoperated vv r) in h a b (cc) (cc)

no_numbers_given : {L : Lang} {o : ℕ} {k v w x : Term} → Values (cons v (cons w nil)) → ((a b : ℕ) → v ≡ num a → w ≡ num b → ⊥)
    → Run L (call k (cons (op o (cons v (cons w nil))) nil)) x → ⊥
no_numbers_given vv h r = no_numbers vv h (argument_comes r).1

pub worked_stuck : WorkedStuck
unfolding read known closed ended term then made second number many unlike dead arms_of opened head_of image passing downto atom size sub enters rev itself
worked_stuck = (
  (
    λ v r. uncalled (alone plain) r,
    λ w r. uncalled (both v_fun plain) (uncalled (alone plain) (uncalled (alone v_fun) (uncalled (alone v_fun) (uncalled (alone v_fun) (uncalled (alone v_fun) r))))),
  ),
  (
    (
      λ v r. uncalled (both plain plain) r,
      λ w r.
          uncalled (v_cons v_fun (both plain plain)) (uncalled (alone plain) (uncalled (alone v_fun)
          (uncalled (alone plain) (uncalled (alone v_fun) (uncalled (alone v_fun) (uncalled (alone v_fun) (uncalled (alone v_fun) r))))))),
    ),
    (
      (
        λ v r. no_numbers (both plain v_num) (λ a b p q. never cc) r,
        λ w r.
            no_numbers_given (both plain v_num) (λ a b p q. never cc)
            (uncalled (alone v_num) (uncalled (alone v_fun) (uncalled (alone plain) (uncalled (alone v_fun) (uncalled (alone v_fun) r))))),
      ),
      (
        (
          λ v r. no_numbers (both v_num v_fun) (λ a b p q. never cc) r,
          λ w r.
              no_numbers_given (both v_num v_fun) (λ a b p q. never cc)
              (uncalled (alone v_fun) (uncalled (alone v_fun) (uncalled (alone v_num) (uncalled (alone v_fun) (uncalled (alone v_fun) r))))),
        ),
        tt,
      ),
    ),
  ),
)
