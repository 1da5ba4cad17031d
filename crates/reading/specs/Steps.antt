-- What the reading functions say of what they read: the place after a thing, whether it is all atoms, and how many words it has in an image.
use Rattle.std.specs.Prelude.{ℕ, ◌+◌, ◌*◌, ◌≤◌, ◌≡◌, Bool, false, Result, Ok, Err}
use Rattle.language.specs.Term.{Term, Terms, Arms, size}
use Rattle.language.specs.Run.{atom, atoms}
use Rattle.language.specs.Kinds.{most_arms}
use Rattle.language.specs.Read.{Got, found, fault}
use Rattle.language.specs.declared.Parts.{Parts}
use Rattle.language.specs.declared.Parts.TheVariants.{SubjectAndArms}
use Rattle.sizes.specs.Lengths.{passing_length, passing_lengths, arm_lengths}
use Rattle.language.specs.Faults.{number_of}
use Rattle.language.specs.declared.Refusal.{Refusal}
use Rattle.reading.specs.declared.Found.{Found}

-- how many numbers a word can hold; no more source variables does one level of terms bind
abbrev pub a_word : ℕ
a_word = 65536

-- numbers up to here are added without wrapping
abbrev pub small : ℕ
small = 65536 * 65536

-- the words that each form has besides its parts' passing forms and chains
abbrev pub function_words : ℕ
function_words = 6

abbrev pub call_words : ℕ
call_words = 6

abbrev pub let_words : ℕ
let_words = 7

abbrev pub constructor_words : ℕ
constructor_words = 5

abbrev pub operation_words : ℕ
operation_words = 4

abbrev pub match_words : ℕ
match_words = 5

abbrev pub arm_words : ℕ
arm_words = 4

abbrev pub image_words : ℕ
image_words = 3

-- those of a chain for each of its terms, besides that term's passing form
abbrev pub chained_words : ℕ
chained_words = 3

-- what each argument of a constructor of atoms saves: its words in a chain, and what its passing form has besides its carried form
abbrev pub saved_words : ℕ
saved_words = 6

-- the words of a chain over these terms, without its ending
unfoldable pub chain_length : Terms → ℕ
chain_length ts = passing_lengths ts + chained_words * size ts

-- what reading a thing gives: the place after it, whether it is all atoms, and its words in an image; or a refusal's number and its place
pub data Step : Type 0 where
  Next : ℕ → Bool → ℕ → Step
  No : ℕ → ℕ → Step

-- what the code's answer says of a thing
abbrev pub step_is : Result Found Refusal → Step
step_is (Ok f) = Next f.to f.atoms f.words
step_is (Err r) = No (number_of r.fault) r.place

-- what was read, or the fault: α says whether a thing is all atoms, and π how many words it has in an image
unfoldable pub step_of : {A : Type 0} → (A → Bool) → (A → ℕ) → Got A → Step
step_of α π (found a to) = Next to (α a) (π a)
step_of α π (fault e p) = No e p

abbrev pub term_step : Got Term → Step
term_step g = step_of atom passing_length g

abbrev pub terms_step : Got Terms → Step
terms_step g = step_of atoms chain_length g

abbrev pub arms_step : Got Arms → Step
arms_step g = step_of (λ _. false) arm_lengths g

-- the low byte a of a head with the parts f: of a match it is no more than the arms that a match may have
pub record FewArms (f : Parts) (a : ℕ) : Type 0 where
  pub few : f ≡ SubjectAndArms → a ≤ most_arms
