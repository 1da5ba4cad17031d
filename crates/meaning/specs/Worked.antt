-- The worked rules A to G of document 01 and those of document 02's Wishes 3, 4, 5 and 13, run as rules and as images: one table, and the one claim
-- that its numbers are those of both runs. And rules that come to no value (Wishes 10 and 13).
use Rattle.std.specs.Prelude.{ℕ, ◌≡◌, List, [], ◌∷◌, ◌++◌, map}
use Rattle.language.specs.Term.{rules, Term}
use Rattle.language.specs.Setting.{in_version}
use Rattle.language.specs.Kinds.{oldest, newest}
use Rattle.language.specs.Words.{words}
use Rattle.language.specs.Run.{Counts, uses, Run, count}
use Rattle.language.specs.Image.{image, carried}
use Rattle.language.specs.Read.{read, accepted}
use Rattle.language.specs.Cases.{Each, Example, case_a, case_b, case_c, case_d, case_e, case_f, case_g, nested, passes_fifteen, turns_fifteen, builds_fifteen, requests, EachWithoutValue}
use Rattle.language.specs.Cases.{operations, takes_numbers, builds_numbers, calls_with_number, chooses_by_less, counts_to_two}
use Rattle.meaning.specs.Promises.{applications, Comes}

-- an example, and how often its run uses each rule
pub record Row : Type 0 where
  pub of : Example
  pub used : Counts

abbrev pub row : Example → Counts → Row
row x c = record { of = x; used = c }

-- values taken whole, calls, lets, matches, constructors built
abbrev pub ran : List Row
ran =
    row case_a (uses 1 0 0 0 0)
    ∷ row case_b (uses 3 1 0 0 0)
    ∷ row case_c (uses 4 1 0 0 0)
    ∷ row case_d (uses 3 0 1 1 0)
    ∷ row case_e (uses 3 1 0 0 1)
    ∷ row case_f (uses 7 2 0 2 0)
    ∷ row case_g (uses 1 0 0 0 0)
    ∷ row nested (uses 4 0 0 3 0)
    ∷ row passes_fifteen (uses 17 1 0 0 0)
    ∷ row turns_fifteen (uses 35 2 0 2 0)
    ∷ row builds_fifteen (uses 17 0 1 1 1)
    ∷ row builds_numbers (uses 3 0 0 0 2)
    ∷ row calls_with_number (uses 4 1 0 0 1)
    ∷ row chooses_by_less (uses 3 0 0 1 1)
    ∷ row counts_to_two (uses 15 3 0 3 5)
    ∷ map (λ x. row x (uses 2 0 0 1 0)) requests
    ++ map (λ x. row x (uses 2 0 0 0 1)) operations
    ++ map (λ x. row x (uses 1 0 0 0 0)) takes_numbers

-- the rule has a run with the example's value and the row's counts; its image comes to the value's carried form by the example's applications,
-- with as many lets and matches; and those applications are demand 3's sum
pub record Agrees (x : Row) : Type 0 where
  pub term : Term
  pub reads : read (in_version x.of.version) x.of.rule ≡ accepted term
  pub result : Term
  pub run : Run rules term result
  pub value_is : words rules result ≡ x.of.result.value
  pub used_is : count run ≡ x.used
  pub image_comes : Comes (image term) (carried result) x.of.result.applications x.used.lets x.used.matches
  pub sum_is : x.of.result.applications ≡ applications x.used

-- the one claim
abbrev pub WorkedRuns : Type 0
WorkedRuns = Each Agrees ran

-- Wish 10: rules that are accepted and come to no value, beside those that call with too few or too many arguments: a constructor is called; a function
-- is matched; a request in its short form meets an arm for the long one alone; a recursive function calls itself for ever; and a constructor is
-- built of such a call
abbrev called_constructor : List ℕ
called_constructor = 0x0401 ∷ 0x0600 ∷ 0x0000 ∷ 0x0601 ∷ 0x0000 ∷ []

abbrev matched_function : List ℕ
matched_function = 0x0701 ∷ 0x0201 ∷ 0x0100 ∷ 0x0800 ∷ 0x0000 ∷ 0x0601 ∷ 0x0000 ∷ []

abbrev no_arm : List ℕ
no_arm = 0x0701 ∷ 0x0605 ∷ 0x0000 ∷ 0x0805 ∷ 0x0001 ∷ 0x0100 ∷ []

abbrev endless : List ℕ
endless = 0x0401 ∷ 0x0301 ∷ 0x0401 ∷ 0x0101 ∷ 0x0100 ∷ 0x0600 ∷ 0x0000 ∷ []

-- Wish 13: of a number and a constructor; of a constructor and a part that never ends, as the constructor is seen only after that part; a number is
-- called; and a number is matched
abbrev a_number : List ℕ
a_number = 0x0A00 ∷ 0x0000 ∷ 0x0001 ∷ []

abbrev operated_constructor : List ℕ
operated_constructor = 0x0B00 ∷ a_number ++ (0x0600 ∷ 0x0000 ∷ [])

abbrev operated_endless : List ℕ
operated_endless = 0x0B02 ∷ 0x0600 ∷ 0x0000 ∷ endless

abbrev called_number : List ℕ
called_number = 0x0401 ∷ a_number ++ a_number

abbrev matched_number : List ℕ
matched_number = 0x0701 ∷ a_number ++ (0x0800 ∷ 0x0000 ∷ a_number)

abbrev pub without_value : List (ℕ × List ℕ)
without_value =
    (oldest, called_constructor)
    ∷ (oldest, matched_function)
    ∷ (oldest, no_arm)
    ∷ (oldest, endless)
    ∷ (oldest, 0x0601 ∷ 0x0001 ∷ endless)
    ∷ (newest, operated_constructor)
    ∷ (newest, operated_endless)
    ∷ (newest, called_number)
    ∷ (newest, matched_number)
    ∷ []

-- the one claim of them
abbrev pub WorkedWithoutValue : Type 0
WorkedWithoutValue = EachWithoutValue without_value
