-- The worked rules A to G in the tick, those of fifteen arguments, and those with numbers and operations, each with the least ration and the least
-- records that finish, and with one less of either; and rules that are stuck. One table, and one claim.
use Rattle.std.specs.Prelude.{ℕ, ◌-◌, List, [], ◌∷◌, ◌++◌, ◌≡◌}
use Rattle.language.specs.Term.{images, Term}
use Rattle.language.specs.Setting.{in_version}
use Rattle.language.specs.Kinds.{oldest, newest}
use Rattle.language.specs.Words.{words}
use Rattle.language.specs.Image.{image}
use Rattle.language.specs.Read.{read, accepted}
use Rattle.language.specs.Cases.{Each, Example, case_a, case_b, case_c, case_d, case_e, case_f, case_g, passes_fifteen, turns_fifteen, builds_fifteen}
use Rattle.language.specs.Cases.{operations, builds_numbers, calls_with_number, chooses_by_less, counts_to_two}
use Rattle.ticks.specs.Tick.{as_term, Outcome, finished, out_of_ration, no_rule, no_record, tick}

-- a reply, with the value's words and the paper's numbers
pub data Shown : Type 0 where
  shows : List ℕ → ℕ → Shown
  runs_out : ℕ → Shown
  refuses : ℕ → Shown

unfoldable pub shown : Outcome → Shown
shown (finished c n) = shows (words images (as_term c)) n
shown (out_of_ration n) = runs_out n
shown no_rule = refuses 14
shown no_record = refuses 13

-- a version, a rule, a ration, records, and the reply to these
pub record Row : Type 0 where
  pub version : ℕ
  pub rule : List ℕ
  pub ration : ℕ
  pub records : ℕ
  pub reply : Shown

abbrev pub row : ℕ → List ℕ → ℕ → ℕ → Shown → Row
row o ws r l s = record { version = o; rule = ws; ration = r; records = l; reply = s }

-- the reply s with the least ration and the least records, and what there is with one less
abbrev least : ℕ → List ℕ → ℕ → ℕ → Shown → List Row
least o ws r l s = row o ws r l s ∷ row o ws r (l - 1) (refuses 13) ∷ row o ws (r - 1) l (runs_out (r - 1)) ∷ []

-- an example finishes with its value and its applications, in so many records
abbrev finishes : Example → ℕ → List Row
finishes x l = least x.version x.rule x.result.applications l (shows x.result.value x.result.applications)

-- and so do several, in as many records
abbrev all_finish : List Example → ℕ → List Row
all_finish [] l = []
all_finish (x ∷ xs) l = finishes x l ++ all_finish xs l

-- 14, and that where the ration is used up just then
abbrev stuck : ℕ → List ℕ → ℕ → ℕ → List Row
stuck o ws r l = least o ws r l (refuses 14)

-- the numbers 1 and 2
abbrev one : List ℕ
one = 0x0A00 ∷ 0x0000 ∷ 0x0001 ∷ []

abbrev two : List ℕ
two = 0x0A00 ∷ 0x0000 ∷ 0x0002 ∷ []

-- Wish 13: 1 and 2 added, subtracted, and asked whether the first is less; and the sum with ration 5, where its record is asked for before the ration of
-- the call that it is handed to
abbrev one_and_two : List Row
one_and_two =
    least newest (0x0B00 ∷ one ++ two) 6 15 (shows (0x0A00 ∷ 0x0000 ∷ 0x0003 ∷ []) 6)
    ++ (row newest (0x0B00 ∷ one ++ two) 5 13 (refuses 13) ∷ row newest (0x0B00 ∷ one ++ two) 5 14 (runs_out 5) ∷ [])
    ++ least newest (0x0B01 ∷ one ++ two) 6 15 (shows (0x0A00 ∷ 0xFFFF ∷ 0xFFFF ∷ []) 6)
    ++ least newest (0x0B02 ∷ one ++ two) 6 15 (shows (0x0601 ∷ 0x0000 ∷ []) 6)

-- where a constructor is called, where a function is called with too few arguments and with too many, where a function is matched, and where no arm
-- has both the tag and the arity; and Wish 13: where a part of an operation is no number, the second or the first, where a number is called, and where
-- one is matched
abbrev stuck_rules : List Row
stuck_rules =
    stuck oldest (0x0401 ∷ 0x0600 ∷ 0x0000 ∷ 0x0601 ∷ 0x0000 ∷ []) 5 13
    ++ stuck oldest (0x0401 ∷ 0x0202 ∷ 0x0600 ∷ 0x0000 ∷ 0x0601 ∷ 0x0000 ∷ []) 5 13
    ++ stuck oldest (0x0402 ∷ 0x0201 ∷ 0x0600 ∷ 0x0000 ∷ 0x0601 ∷ 0x0000 ∷ 0x0602 ∷ 0x0000 ∷ []) 7 18
    ++ stuck oldest (0x0701 ∷ 0x0201 ∷ 0x0100 ∷ 0x0800 ∷ 0x0000 ∷ 0x0601 ∷ 0x0000 ∷ []) 3 8
    ++ stuck oldest (0x0701 ∷ 0x0605 ∷ 0x0000 ∷ 0x0805 ∷ 0x0001 ∷ 0x0100 ∷ []) 3 8
    ++ stuck newest (0x0B00 ∷ one ++ (0x0600 ∷ 0x0000 ∷ [])) 5 13
    ++ stuck newest (0x0B02 ∷ 0x0600 ∷ 0x0000 ∷ two) 5 13
    ++ stuck newest (0x0401 ∷ one ++ one) 5 13
    ++ stuck newest (0x0701 ∷ one ++ (0x0800 ∷ 0x0000 ∷ one)) 3 8

-- A to G; A with ration 1, where the ration is asked for before the records of the values that a call binds; fifteen arguments passed, turned and
-- built (Wish 5); numbers and operations, also modulo 2 to the 32, in constructors, calls and matches (Wish 13); and the rules that are stuck
abbrev pub table : List Row
table =
    finishes case_a 5
    ++ finishes case_b 18
    ++ finishes case_c 24
    ++ finishes case_d 19
    ++ finishes case_e 23
    ++ finishes case_f 47
    ++ finishes case_g 6
    ++ (row oldest case_a.rule 1 3 (refuses 13) ∷ row oldest case_a.rule 1 4 (runs_out 1) ∷ [])
    ++ finishes passes_fifteen 102
    ++ finishes turns_fifteen 198
    ++ finishes builds_fifteen 108
    ++ one_and_two
    ++ all_finish operations 15
    ++ least newest one 2 5 (shows one 2)
    ++ least newest (0x0603 ∷ 0x0001 ∷ one) 2 6 (shows (0x0603 ∷ 0x0001 ∷ one) 2)
    ++ finishes builds_numbers 25
    ++ finishes calls_with_number 28
    ++ finishes chooses_by_less 22
    ++ finishes counts_to_two 113
    ++ stuck_rules

-- the rule is accepted, and its image gives the reply
pub record Gives (x : Row) : Type 0 where
  pub term : Term
  pub reads : read (in_version x.version) x.rule ≡ accepted term
  pub replies : shown (tick x.ration x.records (image term)) ≡ x.reply

-- the one claim
abbrev pub WorkedTicks : Type 0
WorkedTicks = Each Gives table
