-- The words of a term: document 01, "Words of a rule". "A term is written head first, its parts after it in order."
use Rattle.std.specs.Prelude.{ℕ, ◌+◌, ◌*◌, ◌/◌, ◌%◌, ◌^◌, List, [], ◌∷◌, ◌++◌}
use Rattle.language.specs.Term.{Lang, rules, images, Term, Terms, Arms, var, kvar, fun, call, bind, con, cases, num, op, nil, cons, none, arm, size, sizeᵃ}

-- "A head word has a kind in the high byte and a number in the low byte."
abbrev pub head : ℕ → ℕ → ℕ
head k n = k * 256 + n

-- "16-bit words": one more than the highest word
abbrev pub word_end : ℕ
word_end = 2 ^ 16

-- the arguments of a function that are no source variables: "In an image the first argument of a function is k_0"
abbrev pub added : Lang → ℕ
added rules = 0
added images = 1

-- kind 2 is a function, kind 3 a recursive one. A number stands "in the next two words, high first, low byte 0"; an operation has no second word
unfoldable mutual
  unfolding size sizeᵃ

  pub words : Lang → Term → List ℕ
  words L (var i) = head 1 i ∷ []
  words L (kvar i) = head 9 i ∷ []
  words L (fun o a b) = head (2 + o) (a + added L) ∷ words L b
  words L (call f ps) = head 4 (size ps) ∷ (words L f ++ wordsᵗ L ps)
  words L (bind m b) = head 5 0 ∷ (words L m ++ words L b)
  words L (con t ps) = head 6 t ∷ size ps ∷ wordsᵗ L ps
  words L (cases m ps) = head 7 (sizeᵃ ps) ∷ (words L m ++ wordsᵃ L ps)
  words L (num n) = head 10 0 ∷ n / word_end ∷ n % word_end ∷ []
  words L (op o ps) = head 11 o ∷ wordsᵗ L ps

  pub wordsᵗ : Lang → Terms → List ℕ
  wordsᵗ L nil = []
  wordsᵗ L (cons t ts) = words L t ++ wordsᵗ L ts

  pub wordsᵃ : Lang → Arms → List ℕ
  wordsᵃ L none = []
  wordsᵃ L (arm t n b ps) = head 8 t ∷ n ∷ (words L b ++ wordsᵃ L ps)
