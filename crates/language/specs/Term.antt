-- The terms of rules and of images: document 01, "Words of a rule".
use Rattle.std.specs.Prelude.{ℕ, suc}

-- "Images run by the same rules with two numberings": one type of terms serves both languages.
pub data Lang : Type 0 where
  rules images : Lang

-- var i: "variable x_i". kvar i: "continuation variable k_i", in images only.
-- fun o a b: a function of a source arguments with the body b; o is how many names it has for itself there, 1 if it is a
-- "recursive function", else 0. "In an image the first argument of a function is k_0 and the others are source variables":
-- a counts the source arguments in both languages.
-- call f ps: "function, then arguments". bind m b: let, "bound term, body". con t ps: the constructor with the tag t.
-- cases m ps: match, "subject, then arms".
-- num n: the number n. op o ps: the operation o on the parts ps. Document 02, Wish 13: "kind 10, a 32-bit unsigned number"; "kind 11, an operation on
-- two parts".
mutual
  pub data Term : Type 0 where
    var : ℕ → Term
    kvar : ℕ → Term
    fun : ℕ → ℕ → Term → Term
    call : Term → Terms → Term
    bind : Term → Term → Term
    con : ℕ → Terms → Term
    cases : Term → Arms → Term
    num : ℕ → Term
    op : ℕ → Terms → Term

  pub data Terms : Type 0 where
    nil : Terms
    cons : Term → Terms → Terms

  -- arm t n b ps: the arm with the tag t, the arity n and the body b, before the arms ps
  pub data Arms : Type 0 where
    none : Arms
    arm : ℕ → ℕ → Term → Arms → Arms

unfoldable pub size : Terms → ℕ
size nil = 0
size (cons t ts) = suc (size ts)

unfoldable pub sizeᵃ : Arms → ℕ
sizeᵃ none = 0
sizeᵃ (arm t n b ps) = suc (sizeᵃ ps)
