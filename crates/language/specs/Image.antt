-- The plain transformation of Dargaye and Leroy: document 01, "The image".
use Rattle.std.specs.Prelude.{ℕ, zero, suc, cond}
use Rattle.language.specs.Term.{Term, Terms, Arms, var, kvar, fun, call, bind, con, cases, num, op, nil, cons, none, arm, size}
use Rattle.language.specs.Run.{atoms}

-- 0201: the function that is given a continuation and nothing else
abbrev pub lam : Term → Term
lam b = fun 0 0 b

-- 0401: a call with one argument
abbrev pub to : Term → Term → Term
to f p = call f (cons p nil)

-- "k_(n-1) down to k_0"
unfoldable pub downto : ℕ → Terms
downto zero = nil
downto (suc n) = cons (kvar n) (downto n)

-- how the chain of a call with n arguments ends: "k_n applied to k_(n+1), then k_(n-1) down to k_0"
abbrev pub calling : ℕ → Term
calling n = call (kvar n) (cons (kvar (suc n)) (downto n))

-- how the chain of a constructor's n arguments ends: "0401, k_n, the constructor's two words, then k_(n-1) down to k_0"
abbrev pub making : ℕ → ℕ → Term
making t n = to (kvar n) (con t (downto n))

-- how the chain of an operation's n parts ends: "it is translated like a built constructor", with its one word for the constructor's two
abbrev pub working : ℕ → ℕ → Term
working o n = to (kvar n) (op o (downto n))

unfoldable mutual
  -- "Every term has a passing form, always a one-argument function."
  -- An atom: "0201 0401 0900, then its carried form". A let: "0201 0401, the bound term's passing form, 0201 0500 0900 0401, the body's
  -- passing form, 0901". A call: "the chain over the called term and the n arguments, ending in a call of n+1 arguments". A constructor
  -- that is not an atom: "the chain over the arguments". A match: "0201 0401, the subject's passing form, 0201, the match's head, 0900,
  -- then the arms in order". An operation: the chain over its parts.
  pub passing : Term → Term
  passing (var i) = lam (to (kvar 0) (var i))
  passing (kvar i) = lam (to (kvar 0) (kvar i))
  passing (fun o a b) = lam (to (kvar 0) (fun o a (to (passing b) (kvar 0))))
  passing (call f ps) = lam (to (passing f) (lam (chain ps (calling (size ps)))))
  passing (bind m b) = lam (to (passing m) (lam (bind (kvar 0) (to (passing b) (kvar 1)))))
  passing (con t ps) = lam (cond (atoms ps) (to (kvar 0) (con t (carrieds ps))) (chain ps (making t (size ps))))
  passing (cases m ps) = lam (to (passing m) (lam (cases (kvar 0) (passingᵃ ps))))
  passing (num n) = lam (to (kvar 0) (num n))
  passing (op o ps) = lam (chain ps (working o (size ps)))

  -- "An atom has a carried form. A variable's is itself. A function of a arguments becomes a function of a+1 arguments whose body is 0401,
  -- the passing form of its body, 0900; recursive ones likewise. A constructor keeps its two words and takes the carried form of each
  -- argument." A number's is itself. A term that is no atom has none; the constructor 0 without arguments fills its place here.
  pub carried : Term → Term
  carried (var i) = var i
  carried (kvar i) = kvar i
  carried (fun o a b) = fun o a (to (passing b) (kvar 0))
  carried (call f ps) = con 0 nil
  carried (bind m b) = con 0 nil
  carried (con t ps) = con t (carrieds ps)
  carried (cases m ps) = con 0 nil
  carried (num n) = num n
  carried (op o ps) = con 0 nil

  pub carrieds : Terms → Terms
  carrieds nil = nil
  carrieds (cons t ts) = cons (carried t) (carrieds ts)

  -- "A chain is, for each of its terms in order, 0201 0401 and the term's passing form; then 0201 and the ending." The first 0201 stands
  -- with what holds the chain.
  pub chain : Terms → Term → Term
  chain nil e = e
  chain (cons t ts) e = to (passing t) (lam (chain ts e))

  -- "the arms in order, each with its two words, 0401, its body's passing form, 0901"
  pub passingᵃ : Arms → Arms
  passingᵃ none = none
  passingᵃ (arm t n b ps) = arm t n (to (passing b) (kvar 1)) (passingᵃ ps)

-- "The image of a rule is 0401, its passing form, 0201 0900."
unfoldable pub image : Term → Term
image t = to (passing t) (lam (kvar 0))
