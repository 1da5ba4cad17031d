-- What the pass over a term's words does at one head: what the head opens, and what is left of the pass after it.
use Rattle.std.specs.Prelude.{ℕ, ◌+◌, ◌-◌, ◌%◌, ◌≤◌, ◌<◌, ◌≡◌, cond, List, ltb, length, get_or, Option, Some, None}
use Rattle.language.specs.Kinds.{operands}
use Rattle.language.specs.declared.Parts.{Parts}
use Rattle.language.specs.declared.Parts.TheVariants.{Nothing, Body, FunctionAndArguments, BoundAndBody, CountAndArguments, SubjectAndArms, ArityAndBody, HighAndLow, TwoParts}
use Rattle.atoms.specs.Standing.{form_at}
use Rattle.atoms.specs.declared.Opening.{Opening}
use Rattle.atoms.specs.declared.Rest.{Rest}

-- the words of a head of the form P: a constructor's and an arm's have a count, and a number stands "in the next two words" (document 02, Wish 13)
unfoldable pub head_words : Parts → ℕ
head_words Nothing = 1
head_words Body = 1
head_words FunctionAndArguments = 1
head_words BoundAndBody = 1
head_words CountAndArguments = 2
head_words SubjectAndArms = 1
head_words ArityAndBody = 2
head_words HighAndLow = 3
head_words TwoParts = 1

-- the pieces, terms and arms, behind a head of the form P with the low byte n, before the word m: a call has its function and n arguments, a
-- constructor m arguments, a match its subject and n arms, an operation "two parts"
unfoldable pub pieces_of : Parts → ℕ → ℕ → ℕ
pieces_of Nothing n m = 0
pieces_of Body n m = 1
pieces_of FunctionAndArguments n m = n + 1
pieces_of BoundAndBody n m = 2
pieces_of CountAndArguments n m = m
pieces_of SubjectAndArms n m = n + 1
pieces_of ArityAndBody n m = 1
pieces_of HighAndLow n m = 0
pieces_of TwoParts n m = operands

-- the same where the head stands at `at`
unfoldable pub pieces_at : Parts → List ℕ → ℕ → ℕ
unfolding pieces_of
pieces_at P s at = pieces_of P (get_or s at 0 % 256) (get_or s (at + 1) 0)

-- what the head at `at` opens
unfoldable pub opening_at : List ℕ → ℕ → Opening
unfolding head_words pieces_at form_at
opening_at s at = record { parts = form_at s at; words = head_words (form_at s at); pieces = pieces_at (form_at s at) s at }

-- the words of a head of the form P are in s at `at`
pub record Whole (P : Parts) (s : List ℕ) (at : ℕ) : Type 0 where
  pub inside : at + head_words P ≤ length s

-- o is what the head at `at` opens
pub record OpensAt (o : Opening) (s : List ℕ) (at : ℕ) : Type 0 where
  pub is : o ≡ opening_at s at
  pub some : 0 < o.words
  pub inside : at + o.words ≤ length s

-- i pieces to be passed over, and then n terms that must be atoms, are left
abbrev pub left : ℕ → ℕ → Option Rest
left i n = Some (record { pieces = i; terms = n })

-- What is left after a head of the form P with p pieces, where it is the head of the first of n terms that must be atoms. "An atom is a
-- variable, a function, a recursive function, or a constructor whose arguments are all atoms." Document 02, Wish 13: "A number is an atom. An
-- operation never is".
unfoldable pub tested : Parts → ℕ → ℕ → Option Rest
tested Nothing p n = left 0 (n - 1)
tested Body p n = left p (n - 1)
tested FunctionAndArguments p n = None
tested BoundAndBody p n = None
tested CountAndArguments p n = left 0 (n - 1 + p)
tested SubjectAndArms p n = None
tested ArityAndBody p n = None
tested HighAndLow p n = left 0 (n - 1)
tested TwoParts p n = None

-- the same where i pieces, which stand in a function's body, are to be passed over before these terms
unfoldable pub rest_after : Opening → ℕ → ℕ → Option Rest
unfolding tested
rest_after o i n = cond (ltb 0 i) (left (i - 1 + o.pieces) n) (tested o.parts o.pieces n)

-- counts up to here, and one word's number more, are added without wrapping
abbrev pub most_counted : ℕ
most_counted = 9223372036854775808

-- so many are left that one more head can be counted, and a term is to be tested
pub record Countable (i n : ℕ) : Type 0 where
  pub some : 0 < n
  pub few : i + n ≤ most_counted
