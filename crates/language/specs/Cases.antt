-- The worked rules A to N of document 01, "Worked rules", in one table, and what is claimed of each of them; refusals with their places (document 02,
-- Wish 1); matches on a short and a long form of one tag (Wish 3); dead arms (Wish 4); fifteen arguments (Wish 5); calls that are stuck (Wish 10);
-- numbers, operations and versions (Wish 13). (Case O and larger rules are run by a program.)
use Rattle.std.specs.Prelude.{ℕ, List, [], ◌∷◌, ◌++◌, map, ◌≡◌, length, replicate}
use Rattle.std.proofs.Math.Option.{Option, some, none}
use Rattle.language.specs.Term.{rules, images, Term}
use Rattle.language.specs.Setting.{in_version}
use Rattle.language.specs.Kinds.{oldest, newest}
use Rattle.language.specs.Words.{words}
use Rattle.language.specs.Run.{Run, count}
use Rattle.language.specs.Image.{image}
use Rattle.language.specs.Read.{no_place, Reading, accepted, refused, read}
use Rattle.language.specs.Calls.{Reply, success, refusal, written}

-- the words of a value, and the applications of the image's run that comes to it
pub record Result : Type 0 where
  pub value : List ℕ
  pub applications : ℕ

-- the version told, a rule, the words of the output lent to the writing call, that call's reply, the image where it is printed whole, and what it
-- comes to
pub record Case : Type 0 where
  pub version : ℕ
  pub rule : List ℕ
  pub room : ℕ
  pub reply : Reply ℕ
  pub printed : Option (List ℕ)
  pub result : Option Result

-- where something is said, it holds
abbrev pub Said : {A : Type 0} → Option A → (A → Type 0) → Type 0
Said none P = Unit {0}
Said (some a) P = P a

abbrev pub Prints : Reading → List ℕ → Type 0
Prints (accepted t) ws = words images (image t) ≡ ws
Prints (refused e p) ws = ⊥

abbrev pub ComesTo : Reading → Result → Type 0
ComesTo (accepted t) r = (v : Term) × (x : Run images (image t) v) × (words images v ≡ r.value) × ((count x).calls ≡ r.applications)
ComesTo (refused e p) r = ⊥

abbrev pub read_in : Case → Reading
read_in c = read (in_version c.version) c.rule

pub record Meets (c : Case) : Type 0 where
  pub replies : (written (read_in c) (replicate c.room 0)).reply ≡ c.reply
  pub prints : Said c.printed (Prints (read_in c))
  pub comes : Said c.result (ComesTo (read_in c))

-- an accepted rule that comes to a value, as document 01's table has it: its version, its words, how many words its image has, the words of the
-- value, and the applications
pub record Example : Type 0 where
  pub version : ℕ
  pub rule : List ℕ
  pub fills : ℕ
  pub result : Result

abbrev example_in : ℕ → List ℕ → ℕ → List ℕ → ℕ → Example
example_in o ws n v a = record { version = o; rule = ws; fills = n; result = record { value = v; applications = a } }

-- in version 1
abbrev pub example : List ℕ → ℕ → List ℕ → ℕ → Example
example = example_in oldest

-- room to spare: more words than the image of any rule below has
abbrev spare : ℕ
spare = 300

-- with room to spare: the count of the image's words, the value and the applications; and the image, in whole
abbrev pub runs : Example → Case
runs x = record { version = x.version; rule = x.rule; room = spare; reply = success x.fills; printed = none; result = some x.result }

abbrev pub prints_in : ℕ → List ℕ → List ℕ → Case
prints_in o ws i = record { version = o; rule = ws; room = spare; reply = success (length i); printed = some i; result = none }

abbrev pub prints : List ℕ → List ℕ → Case
prints = prints_in oldest

-- the reply to the writing call that is lent so many words
abbrev pub replies_in : ℕ → List ℕ → ℕ → Reply ℕ → Case
replies_in o ws room r = record { version = o; rule = ws; room = room; reply = r; printed = none; result = none }

abbrev pub replies : List ℕ → ℕ → Reply ℕ → Case
replies = replies_in oldest

-- with room to spare, a refusal and its place
abbrev pub refuses_in : ℕ → List ℕ → ℕ → ℕ → Case
refuses_in o ws e p = replies_in o ws spare (refusal e p)

abbrev pub refuses : List ℕ → ℕ → ℕ → Case
refuses = refuses_in oldest

-- A to G
abbrev pub case_a : Example
case_a = example (0x0600 ∷ 0x0000 ∷ []) 8 (0x0600 ∷ 0x0000 ∷ []) 2

abbrev pub case_b : Example
case_b = example (0x0401 ∷ 0x0201 ∷ 0x0100 ∷ 0x0600 ∷ 0x0000 ∷ []) 27 (0x0600 ∷ 0x0000 ∷ []) 8

abbrev pub case_c : Example
case_c = example (0x0402 ∷ 0x0202 ∷ 0x0101 ∷ 0x0600 ∷ 0x0000 ∷ 0x0601 ∷ 0x0000 ∷ []) 35 (0x0600 ∷ 0x0000 ∷ []) 10

abbrev pub case_d : Example
case_d =
    example (0x0500 ∷ 0x0601 ∷ 0x0000 ∷ 0x0702 ∷ 0x0100 ∷ 0x0800 ∷ 0x0000 ∷ 0x0100 ∷ 0x0801 ∷ 0x0000 ∷ 0x0602 ∷ 0x0000 ∷ []) 41
    (0x0602 ∷ 0x0000 ∷ []) 8

abbrev pub case_e : Example
case_e = example (0x0603 ∷ 0x0001 ∷ 0x0401 ∷ 0x0201 ∷ 0x0100 ∷ 0x0600 ∷ 0x0000 ∷ []) 35 (0x0603 ∷ 0x0001 ∷ 0x0600 ∷ 0x0000 ∷ []) 10

abbrev pub case_f : Example
case_f =
    example (0x0401 ∷ 0x0301 ∷ 0x0702 ∷ 0x0100 ∷ 0x0800 ∷ 0x0000 ∷ 0x0600 ∷ 0x0000 ∷ 0x0801 ∷ 0x0001 ∷ 0x0401 ∷ 0x0102 ∷ 0x0100 ∷ 0x0601 ∷ 0x0001
    ∷ 0x0600 ∷ 0x0000 ∷ []) 64
    (0x0600 ∷ 0x0000 ∷ []) 20

abbrev pub case_g : Example
case_g = example (0x0601 ∷ 0x0001 ∷ 0x0600 ∷ 0x0000 ∷ []) 10 (0x0601 ∷ 0x0001 ∷ 0x0600 ∷ 0x0000 ∷ []) 2

-- Wish 3: "a short and a long form of one call request", here with the tag 5: without an argument, and with one
abbrev short : List ℕ
short = 0x0605 ∷ 0x0000 ∷ []

abbrev long : List ℕ
long = 0x0605 ∷ 0x0001 ∷ 0x0602 ∷ 0x0000 ∷ []

-- the arms of the two forms: the one comes to a constructor with the tag 1, the other to the request's argument
abbrev short_arm : List ℕ
short_arm = 0x0805 ∷ 0x0000 ∷ 0x0601 ∷ 0x0000 ∷ []

abbrev long_arm : List ℕ
long_arm = 0x0805 ∷ 0x0001 ∷ 0x0100 ∷ []

-- a match of a request with two arms
abbrev asks : List ℕ → List ℕ → List ℕ → List ℕ
asks r a b = 0x0702 ∷ r ++ a ++ b

-- both requests with the arms in both orders
abbrev pub requests : List Example
requests =
    example (asks short short_arm long_arm) 30 (0x0601 ∷ 0x0000 ∷ []) 5
    ∷ example (asks long short_arm long_arm) 32 (0x0602 ∷ 0x0000 ∷ []) 5
    ∷ example (asks short long_arm short_arm) 30 (0x0601 ∷ 0x0000 ∷ []) 5
    ∷ example (asks long long_arm short_arm) 32 (0x0602 ∷ 0x0000 ∷ []) 5
    ∷ []

-- Wish 4: a match in a match's subject and one in its first arm, all three with an arm of the short form and one of the long form
abbrev pub nested : Example
nested =
    example (asks (asks short (0x0805 ∷ 0x0000 ∷ short) long_arm) (0x0805 ∷ 0x0000 ∷ asks short long_arm short_arm) long_arm) 74 (0x0601 ∷ 0x0000 ∷ []) 11

-- and a match of the short request with an arm of the short form, the arm a, and an arm with the tag of both, whose second word and body are w
abbrev again : List ℕ → List ℕ → List ℕ
again a w = 0x0703 ∷ short ++ short_arm ++ a ++ (0x0805 ∷ w)

-- Wish 5: "one argument per landing": constructors with the tags 0 to 13, and 14
abbrev fourteen : List ℕ
fourteen =
    0x0600 ∷ 0x0000 ∷ 0x0601 ∷ 0x0000 ∷ 0x0602 ∷ 0x0000 ∷ 0x0603 ∷ 0x0000 ∷ 0x0604 ∷ 0x0000 ∷ 0x0605 ∷ 0x0000 ∷ 0x0606 ∷ 0x0000
    ∷ 0x0607 ∷ 0x0000 ∷ 0x0608 ∷ 0x0000 ∷ 0x0609 ∷ 0x0000 ∷ 0x060A ∷ 0x0000 ∷ 0x060B ∷ 0x0000 ∷ 0x060C ∷ 0x0000 ∷ 0x060D ∷ 0x0000 ∷ []

abbrev fifteen : List ℕ
fifteen = fourteen ++ (0x060E ∷ 0x0000 ∷ [])

-- a function of fifteen arguments, which gives its first
abbrev pub passes_fifteen : Example
passes_fifteen = example (0x040F ∷ 0x020F ∷ 0x010E ∷ fifteen) 139 (0x0600 ∷ 0x0000 ∷ []) 36

-- a recursive one, which gives its first where its last has the tag 13, and calls itself with the last moved to the front where that has the tag 14
abbrev pub turns_fifteen : Example
turns_fifteen =
    example (0x040F ∷ 0x030F ∷ 0x0702 ∷ 0x0100 ∷ 0x080E ∷ 0x0000 ∷ 0x040F ∷ 0x010F ∷ 0x0100 ∷ 0x010E ∷ 0x010D ∷ 0x010C ∷ 0x010B ∷ 0x010A ∷ 0x0109
    ∷ 0x0108 ∷ 0x0107 ∷ 0x0106 ∷ 0x0105 ∷ 0x0104 ∷ 0x0103 ∷ 0x0102 ∷ 0x0101 ∷ 0x080D ∷ 0x0000 ∷ 0x010E ∷ fifteen) 271
    (0x060E ∷ 0x0000 ∷ []) 76

-- a constructor of fifteen arguments, the last of them unfinished, and an arm of fifteen, which gives the last
abbrev pub builds_fifteen : Example
builds_fifteen =
    example (0x0701 ∷ 0x0607 ∷ 0x000F ∷ fourteen ++ (0x0500 ∷ 0x060E ∷ 0x0000 ∷ 0x0100 ∷ 0x0807 ∷ 0x000F ∷ 0x0100 ∷ [])) 152
    (0x060E ∷ 0x0000 ∷ []) 38

-- Wish 13: "a 32-bit unsigned number in the next two words, high first", and the three operations
abbrev number : ℕ → ℕ → List ℕ
number h l = 0x0A00 ∷ h ∷ l ∷ []

abbrev add : List ℕ → List ℕ → List ℕ
add a b = 0x0B00 ∷ a ++ b

abbrev subtract : List ℕ → List ℕ → List ℕ
subtract a b = 0x0B01 ∷ a ++ b

abbrev less : List ℕ → List ℕ → List ℕ
less a b = 0x0B02 ∷ a ++ b

-- an operation on two numbers, in version 2
abbrev operates : List ℕ → List ℕ → Example
operates ws v = example_in newest ws 25 v 6

-- "modulo 2 to the 32", past the end, over the low word's end, and both for the other way; "tag 1 if so, else tag 0", also of equal numbers
abbrev pub operations : List Example
operations =
    operates (add (number 0xFFFF 0xFFFF) (number 0 2)) (number 0 1)
    ∷ operates (add (number 0 0xFFFF) (number 0 1)) (number 1 0)
    ∷ operates (subtract (number 0 1) (number 0 2)) (number 0xFFFF 0xFFFF)
    ∷ operates (subtract (number 1 0) (number 0 1)) (number 0 0xFFFF)
    ∷ operates (subtract (number 0x8000 0) (number 0x8000 0)) (number 0 0)
    ∷ operates (less (number 0 0xFFFF) (number 1 0)) (0x0601 ∷ 0x0000 ∷ [])
    ∷ operates (less (number 1 0) (number 0 0xFFFF)) (0x0600 ∷ 0x0000 ∷ [])
    ∷ operates (less (number 0xFFFF 0xFFFF) (number 0xFFFF 0xFFFF)) (0x0600 ∷ 0x0000 ∷ [])
    ∷ []

-- a number, and a number in a constructor, which are atoms
abbrev pub takes_numbers : List Example
takes_numbers =
    example_in newest (number 0xFFFF 0xFFFF) 9 (number 0xFFFF 0xFFFF) 2
    ∷ example_in newest (0x0603 ∷ 0x0001 ∷ number 1 0) 11 (0x0603 ∷ 0x0001 ∷ number 1 0) 2
    ∷ []

-- a constructor of an operation and a number
abbrev pub builds_numbers : Example
builds_numbers =
    example_in newest (0x0603 ∷ 0x0002 ∷ add (number 0 1) (number 0 2) ++ number 0 5) 42 (0x0603 ∷ 0x0002 ∷ number 0 3 ++ number 0 5) 10

-- a call with a number, of a function that adds 1
abbrev pub calls_with_number : Example
calls_with_number = example_in newest (0x0401 ∷ 0x0201 ∷ add (0x0100 ∷ []) (number 0 1) ++ number 0 5) 44 (number 0 6) 12

-- a match on what less gives
abbrev pub chooses_by_less : Example
chooses_by_less =
    example_in newest (0x0702 ∷ less (number 0 1) (number 0 2) ++ (0x0800 ∷ 0x0000 ∷ number 0 10) ++ (0x0801 ∷ 0x0000 ∷ number 0 11)) 50 (number 0 11) 9

-- a recursive function that adds 1 until its argument is not less than 2, called with 0
abbrev pub counts_to_two : Example
counts_to_two =
    example_in newest (0x0401 ∷ 0x0301 ∷ 0x0702 ∷ less (0x0100 ∷ []) (number 0 2) ++ (0x0800 ∷ 0x0000 ∷ 0x0100 ∷ [])
    ++ (0x0801 ∷ 0x0000 ∷ 0x0401 ∷ 0x0101 ∷ add (0x0100 ∷ []) (number 0 1)) ++ number 0 0) 94 (number 0 2) 49

-- "translated like a built constructor"
abbrev pub image_of_sum : List ℕ
image_of_sum =
    0x0401 ∷ 0x0201 ∷ 0x0401 ∷ 0x0201 ∷ 0x0401 ∷ 0x0900 ∷ 0x0A00 ∷ 0x0001
    ∷ 0x0002 ∷ 0x0201 ∷ 0x0401 ∷ 0x0201 ∷ 0x0401 ∷ 0x0900 ∷ 0x0A00 ∷ 0x0003
    ∷ 0x0004 ∷ 0x0201 ∷ 0x0401 ∷ 0x0902 ∷ 0x0B00 ∷ 0x0901 ∷ 0x0900 ∷ 0x0201
    ∷ 0x0900 ∷ []

abbrev pub image_b : List ℕ
image_b =
    0x0401 ∷ 0x0201 ∷ 0x0401 ∷ 0x0201 ∷ 0x0401 ∷ 0x0900 ∷ 0x0202 ∷ 0x0401
    ∷ 0x0201 ∷ 0x0401 ∷ 0x0900 ∷ 0x0100 ∷ 0x0900 ∷ 0x0201 ∷ 0x0401 ∷ 0x0201
    ∷ 0x0401 ∷ 0x0900 ∷ 0x0600 ∷ 0x0000 ∷ 0x0201 ∷ 0x0402 ∷ 0x0901 ∷ 0x0902
    ∷ 0x0900 ∷ 0x0201 ∷ 0x0900 ∷ []

-- "so images reach 16 arguments": the image of a function of fifteen arguments that gives its first
abbrev pub image_of_fifteen : List ℕ
image_of_fifteen =
    0x0401 ∷ 0x0201 ∷ 0x0401 ∷ 0x0900 ∷ 0x0210 ∷ 0x0401 ∷ 0x0201 ∷ 0x0401
    ∷ 0x0900 ∷ 0x010E ∷ 0x0900 ∷ 0x0201 ∷ 0x0900 ∷ []

-- Wish 13: what numbers and operations come to; numbers that are cut off after their head and their first word, and an operation that is after its
-- first part; low bytes out of range, where a number's words are not asked for; the kinds after the last; words after a number; the two kinds in
-- version 1, where 4 comes before 5; and versions 0 and 3, where 11 comes before 1. A rule of version 1 is one of version 2
abbrev pub of_wish13 : List Case
of_wish13 =
    map runs operations
    ++ map runs takes_numbers
    ++ (runs builds_numbers
    ∷ runs calls_with_number
    ∷ runs chooses_by_less
    ∷ runs counts_to_two
    ∷ prints_in newest (add (number 1 2) (number 3 4)) image_of_sum
    ∷ refuses_in newest (0x0A00 ∷ []) 3 1
    ∷ refuses_in newest (0x0A00 ∷ 0x0001 ∷ []) 3 2
    ∷ refuses_in newest (0x0B00 ∷ number 0 1) 3 4
    ∷ refuses_in newest (0x0A01 ∷ []) 5 0
    ∷ refuses_in newest (0x0B03 ∷ number 0 1 ++ number 0 2) 5 0
    ∷ refuses_in newest (0x0C00 ∷ []) 4 0
    ∷ refuses_in newest (0x0900 ∷ []) 4 0
    ∷ refuses_in newest (number 0 1 ++ (0x0000 ∷ [])) 8 3
    ∷ refuses_in newest [] 1 no_place
    ∷ refuses_in oldest (number 0 1) 4 0
    ∷ refuses_in oldest (0x0603 ∷ 0x0001 ∷ number 0 1) 4 2
    ∷ refuses_in oldest (add (number 0 1) (number 0 2)) 4 0
    ∷ refuses_in oldest (0x0A01 ∷ []) 4 0
    ∷ refuses_in oldest (0x0B03 ∷ []) 4 0
    ∷ refuses_in 0 case_a.rule 11 no_place
    ∷ refuses_in 3 (number 0 1) 11 no_place
    ∷ refuses_in 0 [] 11 no_place
    ∷ replies_in newest case_b.rule spare (success 27)
    ∷ [])

-- A to G, B's image, H to M, and N at 7 and at 8 words; then faults in the midst of a rule: a constructor's second word that is missing, a later
-- argument, an arm's head; then dead arms, right behind their like and with an arm between them, what is tested before 18 and what after it; then the
-- nested matches; then sixteen arguments and fifteen; then the requests; then Wish 13's
abbrev pub worked : List Case
worked =
    runs case_a
    ∷ runs case_b
    ∷ runs case_c
    ∷ runs case_d
    ∷ runs case_e
    ∷ runs case_f
    ∷ runs case_g
    ∷ prints case_b.rule image_b
    ∷ refuses [] 1 no_place
    ∷ refuses (0x0100 ∷ []) 7 0
    ∷ refuses (0x0401 ∷ 0x0201 ∷ 0x0100 ∷ []) 3 3
    ∷ refuses (0x0200 ∷ 0x0100 ∷ []) 5 0
    ∷ refuses (0x0600 ∷ 0x0000 ∷ 0x0600 ∷ []) 8 2
    ∷ refuses (0x0A00 ∷ []) 4 0
    ∷ replies case_a.rule 7 (refusal 9 no_place)
    ∷ replies case_a.rule 8 (success 8)
    ∷ refuses (0x0600 ∷ []) 3 1
    ∷ refuses (0x0402 ∷ 0x0201 ∷ 0x0100 ∷ 0x0600 ∷ 0x0000 ∷ 0x0101 ∷ []) 7 5
    ∷ refuses (0x0701 ∷ 0x0600 ∷ 0x0000 ∷ 0x0600 ∷ []) 4 3
    ∷ refuses (asks short short_arm short_arm) 18 8
    ∷ refuses (again long_arm (0x0000 ∷ 0x0603 ∷ 0x0000 ∷ [])) 18 11
    ∷ refuses (again long_arm []) 3 11
    ∷ refuses (again long_arm (0x00FF ∷ [])) 5 11
    ∷ refuses (again long_arm (0x0100 ∷ [])) 5 11
    ∷ refuses (again long_arm (0x0000 ∷ 0x0A00 ∷ [])) 18 11
    ∷ refuses (again (0x0805 ∷ 0x0001 ∷ 0x0101 ∷ []) (0x0000 ∷ short)) 7 9
    ∷ runs nested
    ∷ refuses (0x0210 ∷ 0x0100 ∷ []) 5 0
    ∷ refuses (0x0310 ∷ 0x0100 ∷ []) 5 0
    ∷ refuses (0x0410 ∷ []) 5 0
    ∷ refuses (0x0600 ∷ 0x0010 ∷ []) 5 1
    ∷ refuses (0x0701 ∷ 0x0600 ∷ 0x0000 ∷ 0x0800 ∷ 0x0010 ∷ []) 5 4
    ∷ prints (0x020F ∷ 0x010E ∷ []) image_of_fifteen
    ∷ runs passes_fifteen
    ∷ runs turns_fifteen
    ∷ runs builds_fifteen
    ∷ map runs requests ++ of_wish13

-- P holds of each of them
abbrev pub Each : {A : Type 0} → (A → Type 0) → List A → Type 0
Each P [] = Unit {0}
Each P (a ∷ more) = P a × Each P more

-- the one claim
abbrev pub WorkedRules : Type 0
WorkedRules = Each Meets worked

-- Wish 10: a function of two arguments that is called with one, and a function of one that is called with two. Both rules are accepted; neither calls
-- "a function with exactly that many arguments"
abbrev too_few : List ℕ
too_few = 0x0401 ∷ 0x0202 ∷ 0x0600 ∷ 0x0000 ∷ 0x0601 ∷ 0x0000 ∷ []

abbrev too_many : List ℕ
too_many = 0x0402 ∷ 0x0201 ∷ 0x0600 ∷ 0x0000 ∷ 0x0601 ∷ 0x0000 ∷ 0x0602 ∷ 0x0000 ∷ []

-- Wish 13: an operation on a constructor and a number, and on a number and a function: "An operation on anything but numbers has no value."
abbrev on_constructor : List ℕ
on_constructor = add (0x0600 ∷ 0x0000 ∷ []) (number 0 1)

abbrev on_function : List ℕ
on_function = subtract (number 0 1) (0x0201 ∷ 0x0100 ∷ [])

-- an accepted rule that comes to no value; and its image comes to none
abbrev pub NoValue : Reading → Type 0
NoValue (accepted t) = ((v : Term) → Run rules t v → ⊥) × ((w : Term) → Run images (image t) w → ⊥)
NoValue (refused e p) = ⊥

-- of rules, each with its version
abbrev pub EachWithoutValue : List (ℕ × List ℕ) → Type 0
EachWithoutValue = Each (λ r. NoValue (read (in_version r.0) r.1))

abbrev pub WorkedStuck : Type 0
WorkedStuck = EachWithoutValue ((oldest, too_few) ∷ (oldest, too_many) ∷ (newest, on_constructor) ∷ (newest, on_function) ∷ [])
