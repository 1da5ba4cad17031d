-- The kinds of head words: document 01, "Words of a rule". "The permitted kinds and ranges form one constant table, used by every
-- reader": `kinds` is the code's own table, KINDS, whose rows are of the type that the code declares.
use Rattle.std.specs.Prelude.{ℕ, ◌/◌, ◌%◌, ◌≤◌, Bool, cond, ◌&&◌, List, [], ◌∷◌, ltb, leb, eqb, get_or, Result, Ok, Err}
use Rattle.language.specs.declared.Parts.{Parts}
use Rattle.language.specs.declared.Parts.TheVariants.{Nothing, Body, FunctionAndArguments, BoundAndBody, CountAndArguments, SubjectAndArms, ArityAndBody, HighAndLow, TwoParts}
use Rattle.language.specs.declared.Row.{Row}
use Rattle.language.specs.declared.Fault.{Fault}
use Rattle.language.specs.Faults.{number_of}

-- document 02, Wish 5: "Raise the limit from 8 to 15 for functions, calls, constructors and arms"
abbrev pub most_arguments : ℕ
most_arguments = 15

-- "arms, 1 to 32"
abbrev pub most_arms : ℕ
most_arms = 32

-- a low byte: "0 to 255"
abbrev pub most_byte : ℕ
most_byte = 255

-- the last operation: "0 adds, 1 subtracts, .. and 2 asks whether the first is less" (document 02, Wish 13)
abbrev pub last_operation : ℕ
last_operation = 2

-- "an operation on two parts"
abbrev pub operands : ℕ
operands = 2

-- the versions of rules: "11 now means neither 1 nor 2"
abbrev pub oldest : ℕ
oldest = 1

abbrev pub newest : ℕ
newest = 2

-- "4 allows 10 and 11 in version 2 only": the first version that has them
abbrev pub numbered : ℕ
numbered = 2

-- whether a version is one of these
unfoldable pub known : ℕ → Bool
known v = leb oldest v && leb v newest

-- where a head may stand in a rule: nowhere, at a term, at an arm
abbrev pub nowhere : ℕ
nowhere = 0

abbrev pub at_term : ℕ
at_term = 1

abbrev pub at_arm : ℕ
at_arm = 2

-- the first and the last version in which a kind stands in rules; where it may stand; its lowest and highest low byte; how many source variables its
-- body has besides the arguments (a recursive function's name, the let's value); what follows it
abbrev pub row_in : ℕ → ℕ → ℕ → ℕ → ℕ → ℕ → Parts → Row
row_in f e s l h b p = record { first = f; last = e; stands = s; low = l; high = h; binds = b; parts = p }

-- a kind of every version
abbrev pub row : ℕ → ℕ → ℕ → ℕ → Parts → Row
row = row_in oldest newest

abbrev pub no_row : Row
no_row = row_in 0 0 nowhere 0 0 0 Nothing

-- kinds 0 to 11 in order: none, variable, function, recursive function, call, let, constructor, match, arm, continuation variable, number, operation
abbrev pub kinds : List Row
kinds =
    no_row
    ∷ row at_term 0 most_byte 0 Nothing
    ∷ row at_term 1 most_arguments 0 Body
    ∷ row at_term 1 most_arguments 1 Body
    ∷ row at_term 1 most_arguments 0 FunctionAndArguments
    ∷ row at_term 0 0 1 BoundAndBody
    ∷ row at_term 0 most_byte 0 CountAndArguments
    ∷ row at_term 1 most_arms 0 SubjectAndArms
    ∷ row at_arm 0 most_byte 0 ArityAndBody
    ∷ row nowhere 0 most_byte 0 Nothing
    ∷ row_in numbered newest at_term 0 0 0 HighAndLow
    ∷ row_in numbered newest at_term 0 last_operation 0 TwoParts
    ∷ []

-- the row of the kind k; a higher kind opens nothing, as kind 0 does
abbrev pub row_at : ℕ → Row
row_at k = get_or kinds k no_row

-- version v has the kind k in its rules
pub record Has (v k : ℕ) : Type 0 where
  pub since : (row_at k).first ≤ v
  pub until : v ≤ (row_at k).last

-- "A head word has a kind in the high byte and a number in the low byte."
unfoldable pub row_of : ℕ → Row
row_of w = row_at (w / 256)

-- whether a kind with this row is allowed in version v at q
unfoldable pub allowed : Row → ℕ → ℕ → Bool
allowed r v q = eqb r.stands q && (leb r.first v && leb v r.last)

-- what is found at a head word: a refusal's number, or the row of its kind
pub data Head : Type 0 where
  Refused : ℕ → Head
  Opens : Row → Head

-- the tests 4, "kind is not 1 to 7 at a term, not 8 at an arm", where "4 allows 10 and 11 in version 2 only", and 5, "low byte .. outside its range",
-- in this order
unfoldable pub tested : Row → ℕ → ℕ → ℕ → Head
tested r v q a = cond (allowed r v q) (cond (ltb a r.low) (Refused 5) (cond (ltb r.high a) (Refused 5) (Opens r))) (Refused 4)

-- what the word w is as a head in version v, where one that stands at q is asked for
unfoldable pub head_of : ℕ → ℕ → ℕ → Head
unfolding tested allowed row_of
head_of v q w = tested (row_of w) v q (w % 256)

-- what the code's answer says of a head word
abbrev pub head_is : Result Row Fault → Head
head_is (Ok r) = Opens r
head_is (Err f) = Refused (number_of f)
