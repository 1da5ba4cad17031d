-- The numbers by which refusals are told: document 01, "Checks in order", and document 02, Wish 4. The code has a fault for each.
use Rattle.std.specs.Prelude.{ℕ, List, ◌∷◌, ◌++◌, decimal}
use Rattle.language.specs.declared.Fault.{Fault}
use Rattle.language.specs.declared.Refusal.{Refusal}
use Rattle.language.specs.declared.Fault.TheVariants.{NoWords, TooManyWords, NoneLeft, WrongKind, OutOfRange, TooDeep, Unbound, LeftOver, NoRoom, WrongMark, WrongVersion, WrongLength, DeadArm}

abbrev pub number_of : Fault → ℕ
number_of NoWords = 1
number_of TooManyWords = 2
number_of NoneLeft = 3
number_of WrongKind = 4
number_of OutOfRange = 5
number_of TooDeep = 6
number_of Unbound = 7
number_of LeftOver = 8
number_of NoRoom = 9
number_of WrongMark = 10
number_of WrongVersion = 11
number_of WrongLength = 12
number_of DeadArm = 18

-- as a refusal is printed: its number, a space and its place
abbrev pub refusal_text : Refusal → List ℕ
refusal_text r = decimal (number_of r.fault) ++ (32 ∷ decimal r.place)
