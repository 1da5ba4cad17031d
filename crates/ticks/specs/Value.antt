-- What is told of a finished value: document 02, Wish 2, "on a finished value, each over the whole of it, 15 (holds a function), 16 (deeper than 64),
-- 17 (value buffer short)". A value holds variables only inside functions.
use Rattle.std.specs.Prelude.{Bool, true, false, ◌||◌}
use Rattle.language.specs.Term.{Term, Terms, var, kvar, fun, call, bind, con, cases, num, op, nil, cons}

-- "15 (holds a function)": the value is one, or one of its parts at any level is
unfoldable mutual
  pub holds : Term → Bool
  holds (var i) = false
  holds (kvar i) = false
  holds (fun o a b) = true
  holds (call f ps) = false
  holds (bind m b) = false
  holds (con t ps) = holdsᵗ ps
  holds (cases m ps) = false
  holds (num n) = false
  holds (op o ps) = false

  pub holdsᵗ : Terms → Bool
  holdsᵗ nil = false
  holdsᵗ (cons t ts) = holds t || holdsᵗ ts
