-- An image is at most seven times as long as its rule. By induction on the term a passing form has three words less than seven times the
-- term's: the image's own three words make up for them. An operation's has no word less to spare than its parts' have.
-- Assumes nothing.
use Prim.Native.Nat.{◌+◌, ◌*◌, ◌≤◌}
use native.Mathlib.Omega.{arith}
use lib.ListN.{length, length-append}
use Rattle.language.specs.Term.{rules, Term, Terms, Arms, var, kvar, fun, call, bind, con, cases, num, op, nil, cons, none, arm, size}
use Rattle.language.specs.Words.{words, wordsᵗ, wordsᵃ}
use Rattle.language.specs.Run.{atoms}
use Rattle.sizes.specs.Lengths.{passing_length, passing_lengths, arm_lengths, image_length}
use Rattle.sizes.specs.Promises.{SevenTimes}
use Rattle.sizes.proofs.Lengths.{by_test, of_image, of_var, of_kvar, of_fun, of_bind, of_call, of_cases, of_none, of_arm, of_con, of_con_unfinished, of_num, of_op}

-- a passing form has three words at least
mutual
  unfolding passing_lengths size

  pub least : (t : Term) → 3 ≤ passing_length t
  least (var i) = omega (arith, of_var i)
  least (kvar i) = omega (arith, of_kvar i)
  least (fun o a b) = omega (arith, of_fun o a b)
  least (call f ps) = omega (arith, of_call f ps)
  least (bind m b) = omega (arith, of_bind m b)
  least (con t ps) = by_test (atoms ps) (λ e. omega (arith, of_con t ps e, leasts ps)) (λ e. omega (arith, of_con_unfinished t ps e))
  least (cases m ps) = omega (arith, of_cases m ps)
  least (num n) = omega (arith, of_num n)
  least (op o ps) = omega (arith, of_op o ps)

  pub leasts : (ts : Terms) → 3 * size ts ≤ passing_lengths ts
  leasts nil = omega arith
  leasts (cons t ts) = omega (arith, least t, leasts ts)

mutual
  unfolding words passing_lengths size

  pub bound : (t : Term) → passing_length t + 3 ≤ 7 * length (words rules t)
  bound (var i) = omega (arith, of_var i)
  bound (kvar i) = omega (arith, of_kvar i)
  bound (fun o a b) = omega (arith, of_fun o a b, bound b)
  bound (call f ps) = simp length-append (omega (arith, of_call f ps, bound f, bounds ps))
  bound (bind m b) = simp length-append (omega (arith, of_bind m b, bound m, bound b))
  bound (con t ps) = by_test (atoms ps) (λ e. omega (arith, of_con t ps e, bounds ps)) (λ e. omega (arith, of_con_unfinished t ps e, bounds ps))
  bound (cases m ps) = simp length-append (omega (arith, of_cases m ps, bound m, boundᵃ ps))
  bound (num n) = omega (arith, of_num n)
  bound (op o ps) = omega (arith, of_op o ps, bounds ps)

  pub bounds : (ts : Terms) → passing_lengths ts + 3 * size ts ≤ 7 * length (wordsᵗ rules ts)
  bounds nil = omega arith
  bounds (cons t ts) = simp length-append (omega (arith, bound t, bounds ts))

  pub boundᵃ : (ps : Arms) → arm_lengths ps ≤ 7 * length (wordsᵃ rules ps)
  boundᵃ none = omega (arith, of_none)
  boundᵃ (arm t n b ps) = simp length-append (omega (arith, of_arm t n b ps, bound b, boundᵃ ps))

pub seven_times : SevenTimes
unfolding image_length
seven_times t = omega (arith, of_image t, bound t)
