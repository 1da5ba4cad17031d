-- What the face's numbers mean. A program in C is answered by one number of 32 bits: below 65,536 it is a count, which is always less than that (an
-- image has at most 28,672 words, and its file 57,351 bytes); from 65,536 on it is a refusal, and what is above 65,536 has document 01's number in its
-- low 16 bits and the place in its high 16 bits. Unpacking answers with 64 bits: the low 32 are such a number, and above them stands the version that
-- the file carries.
use Rattle.std.specs.Prelude.{ℕ, zero, suc, ◌+◌, ◌-◌, ◌*◌, ◌/◌, ◌%◌, ◌^◌, ◌<◌, ◌≤◌, cond, ltb, eqb, Option, Some, None, Result, MatchResult}
use Rattle.language.specs.Limits.{most_words}
use Rattle.language.specs.Calls.{Reply, success, refusal}
use Rattle.language.specs.declared.Refusal.{Refusal}
use Rattle.files.specs.declared.Form.{Form}
use Rattle.files.specs.declared.Form.TheVariants.{Rules, Images}
use Rattle.files.specs.declared.Unpacked.{Unpacked}

-- where the refusals start
abbrev pub refusals : ℕ
refusals = 65536

-- a refusal's number and its place, from the number returned
abbrev pub number_in : ℕ → ℕ
number_in n = (n - refusals) % refusals

abbrev pub place_in : ℕ → ℕ
place_in n = (n - refusals) / refusals

unfoldable pub answer_of : ℕ → Reply ℕ
answer_of n = cond (ltb n refusals) (success n) (refusal (number_in n) (place_in n))

-- "The checking call gives only success or the refusal": success is 0
unfoldable pub checked_of : ℕ → Reply (Unit {0})
checked_of n = cond (eqb n 0) (success tt) (refusal (number_in n) (place_in n))

-- what each version adds to unpacking's number
abbrev pub versions : ℕ
versions = 2 ^ 32

-- the number of a version with a count of words
abbrev pub versed_number : ℕ → ℕ → ℕ
versed_number v n = versions * v + n

-- "unpacking reports it": the version stands above the count. A refusal has no version, and is the number that it is everywhere
unfoldable pub unpacked_of : ℕ → Reply (ℕ × ℕ)
unpacked_of n = cond (ltb (n % versions) refusals) (success (n / versions, n % versions)) (refusal (number_in n) (place_in n))

-- the forms of files: 0 is of rules (mark LRS), 1 of images (LRI); no other number is a form's
unfoldable pub form_of : ℕ → Option Form
form_of zero = Some Rules
form_of (suc zero) = Some Images
form_of (suc (suc n)) = None

-- the reply where the form's number is no form's. Document 01 numbers refusals from 1 on, so that the number 0 is free and stays free
abbrev pub no_form : ℕ
no_form = refusals

-- the number of a refusal at a place
abbrev pub refusal_number : ℕ → ℕ → ℕ
refusal_number e p = refusals + e + refusals * p

-- a refusal that a number can mean
abbrev pub Near : Refusal → Type 0
Near r = r.place ≤ most_words

-- an answer that a number can mean; and one of unpacking
abbrev pub Small : Result ℕ Refusal → Type 0
Small a = MatchResult a (λ n. n < refusals) Near

abbrev pub SmallUnpacked : Result Unpacked Refusal → Type 0
SmallUnpacked a = MatchResult a (λ u. u.count < refusals) Near
