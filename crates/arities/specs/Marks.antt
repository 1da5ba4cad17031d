-- What the readers of second words say of what they read, and the marks by which they know the arms of a match.
use Rattle.std.specs.Prelude.{ℕ, ◌+◌, ◌*◌, ◌/◌, ◌%◌, List, map, Result, Ok, Err}
use Rattle.language.specs.Setting.{Setting}
use Rattle.language.specs.Kinds.{at_arm, head_of}
use Rattle.language.specs.Read.{Got, found, fault, word, headed, unlike}
use Rattle.language.specs.Faults.{number_of}
use Rattle.language.specs.declared.Refusal.{Refusal}
use Rattle.arities.specs.declared.Counted.{Counted}

-- what the code's answer says of a second word: a count that was read, or the fault
abbrev pub counted : Result Counted Refusal → Got ℕ
counted (Ok c) = found c.count c.to
counted (Err r) = fault (number_of r.fault) r.place

-- an arm's mark: the low bytes of its two words, its tag and its arity, in one word; the two again; and those of several arms
abbrev pub mark_of : ℕ → ℕ → ℕ
mark_of w m = w % 256 * 256 + m % 256

abbrev pub unmark : ℕ → ℕ × ℕ
unmark x = (x / 256, x % 256)

unfoldable pub unmarked : List ℕ → List (ℕ × ℕ)
unmarked ms = map unmark ms

-- an arm's two words, behind arms with the tags and arities `before`: the second, where the first is an arm's head
unfoldable pub arity : Setting → List ℕ → List (ℕ × ℕ) → ℕ → Got ℕ
arity S s before at = word s at (λ w. headed (head_of S.version at_arm w) at (λ r. unlike s before (w % 256) (at + 1)))
