-- The length of each passing form, from the lengths of its parts'. The words are counted form by form; a constructor of atoms is the one form
-- that is shorter than its parts' passing forms together, by three words for each argument.
-- Assumes nothing.
use Prim.Native.Nat.{ℕ, zero, suc, ◌+◌, ◌*◌}
use mathlib.Core.Path.{◌≡◌, refl, ap}
use mathlib.Core.Bool.{Bool, true, false, and-eq-true_iff, false≢true}
use native.Mathlib.Omega.{arith}
use lib.ListN.{length, length-append}
use Rattle.language.specs.Term.{images, Term, Terms, Arms, var, kvar, fun, call, bind, con, cases, num, op, nil, cons, none, arm, size}
use Rattle.language.specs.Words.{words, wordsᵗ}
use Rattle.language.specs.Run.{atom, atoms}
use Rattle.language.specs.Image.{passing, carried, carrieds, chain, downto, calling, making, working, image}
use Rattle.language.proofs.Forms.{passing_build}
use Rattle.sizes.specs.Lengths.{passing_length, passing_lengths, arm_lengths, image_length}

-- a test is true or false, and what each case shows is shown
pub by_test {ℓ} : (b : Bool) {C : Type ℓ} → (b ≡ true → C) → (b ≡ false → C) → C
by_test true f g = f refl
by_test false f g = g refl

pub of_image : (t : Term) → image_length t ≡ passing_length t + 3
unfolding image_length passing_length image words
of_image t = simp length-append (omega arith)

pub of_var : (i : ℕ) → passing_length (var i) ≡ 4
unfolding passing_length passing words
of_var i = refl

pub of_kvar : (i : ℕ) → passing_length (kvar i) ≡ 4
unfolding passing_length passing words
of_kvar i = refl

pub of_num : (n : ℕ) → passing_length (num n) ≡ 6
unfolding passing_length passing words
of_num n = refl

pub of_fun : (o a : ℕ) (b : Term) → passing_length (fun o a b) ≡ passing_length b + 6
unfolding passing_length passing words
of_fun o a b = simp length-append (omega arith)

pub of_bind : (m b : Term) → passing_length (bind m b) ≡ passing_length m + passing_length b + 7
unfolding passing_length passing words
of_bind m b = simp length-append (omega arith)

of_downto : (n : ℕ) → length (wordsᵗ images (downto n)) ≡ n
unfolding downto words
of_downto zero = refl
of_downto (suc n) = ap suc (of_downto n)

of_chain : (ts : Terms) (e : Term) → length (words images (chain ts e)) ≡ passing_lengths ts + 2 * size ts + length (words images e)
unfolding passing_lengths passing_length passing words size
of_chain nil e = omega arith
of_chain (cons t ts) e = simp length-append (omega (arith, of_chain ts e))

-- the three endings of a chain
pub of_calling : (n : ℕ) → length (words images (calling n)) ≡ n + 3
unfolding words
of_calling n = simp length-append (omega (arith, of_downto n))

pub of_making : (t n : ℕ) → length (words images (making t n)) ≡ n + 4
unfolding words
of_making t n = simp length-append (omega (arith, of_downto n))

pub of_working : (o n : ℕ) → length (words images (working o n)) ≡ n + 3
unfolding words
of_working o n = simp length-append (omega (arith, of_downto n))

pub of_call : (f : Term) (ps : Terms) → passing_length (call f ps) ≡ passing_length f + passing_lengths ps + 3 * size ps + 6
unfolding passing_length passing words
of_call f ps = simp length-append (omega (arith, of_chain ps (calling (size ps)), of_calling (size ps)))

pub of_op : (o : ℕ) (ps : Terms) → passing_length (op o ps) ≡ passing_lengths ps + 3 * size ps + 4
unfolding passing_length passing words
of_op o ps = omega (arith, of_chain ps (working o (size ps)), of_working o (size ps))

pub of_cases : (m : Term) (ps : Arms) → passing_length (cases m ps) ≡ passing_length m + arm_lengths ps + 5
unfolding passing_length arm_lengths passing words
of_cases m ps = simp length-append (omega arith)

pub of_none : arm_lengths none ≡ 0
unfolding arm_lengths passing words
of_none = refl

pub of_arm : (t n : ℕ) (b : Term) (ps : Arms) → arm_lengths (arm t n b ps) ≡ passing_length b + arm_lengths ps + 4
unfolding passing_length arm_lengths passing words
of_arm t n b ps = simp length-append (omega arith)

-- an atom's passing form is three words and its carried form
mutual
  unfolding passing_length passing_lengths passing words atom size

  pub of_carried : (t : Term) → atom t ≡ true → passing_length t ≡ length (words images (carried t)) + 3
  of_carried (var i) e = refl
  of_carried (kvar i) e = refl
  of_carried (fun o a b) e = simp length-append (omega arith)
  of_carried (call f ps) e = absurd (false≢true e)
  of_carried (bind m b) e = absurd (false≢true e)
  of_carried (con t ps) e = simp (e, length-append) (omega arith)
  of_carried (cases m ps) e = absurd (false≢true e)
  of_carried (num n) e = refl
  of_carried (op o ps) e = absurd (false≢true e)

  pub of_carrieds : (ts : Terms) → atoms ts ≡ true → passing_lengths ts ≡ length (wordsᵗ images (carrieds ts)) + 3 * size ts
  of_carrieds nil e = refl
  of_carrieds (cons t ts) e =
      let a = (and-eq-true_iff (atom t) (atoms ts)).0 e in
      simp length-append (omega (arith, of_carried t a.0, of_carrieds ts a.1))

-- a constructor: its arguments' passing forms without three words each if they are atoms, and with three words more each if not
pub of_con : (t : ℕ) (ps : Terms) → atoms ps ≡ true → passing_length (con t ps) + 3 * size ps ≡ passing_lengths ps + 5
unfolding words atom carried
of_con t ps e = omega (arith, of_carried (con t ps) e, of_carrieds ps e)

pub of_con_unfinished : (t : ℕ) (ps : Terms) → atoms ps ≡ false → passing_length (con t ps) ≡ passing_lengths ps + 3 * size ps + 5
unfolding passing_length words
of_con_unfinished t ps e = rw (passing_build t ps e) (omega (arith, of_chain ps (making t (size ps)), of_making t (size ps)))
