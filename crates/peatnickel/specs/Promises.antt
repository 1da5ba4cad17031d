-- What a program in C may rely on, of whatever outcome the contracts allow.
use Rattle.std.specs.Prelude.{ℕ, ◌<◌, ◌≤◌, ◌≡◌, true}
use Rattle.language.specs.Kinds.{known}
use Rattle.language.specs.Limits.{most_words}
use Rattle.trust.specs.Promises.{OfWord}
use Rattle.peatnickel.specs.Numbers.{refusals, refusal_number, versed_number}
use Rattle.peatnickel.specs.Calls.{Asked, Returned, check, measure, write, pack, unpack, Means}

-- "prove that two outcomes allowed by it are equal": of every call the number too
abbrev pub NumberDetermined : Type 0
NumberDetermined = (c : Asked) (x y : Returned c) → Means c x → Means c y → x ≡ y

-- the number returned
abbrev pub number_of : (c : Asked) → Returned c → ℕ
number_of (check S ws) r = r
number_of (measure S ws) r = r
number_of (write S ws out) r = r.0
number_of (pack n v ws out) r = r.0
number_of (unpack n bs out) r = r.0

-- document 01's last refusal
abbrev pub last_refusal : ℕ
last_refusal = 12

-- the refusals: 0 (no form) and document 01's; and those that test a word, document 02's 18 among them
pub data Number : ℕ → Type 0 where
  base : {e : ℕ} → e ≤ last_refusal → Number e
  of_word : {e : ℕ} → OfWord e → Number e

-- the number n is a count with a version that there is above it
pub record Reports (n : ℕ) : Type 0 where
  pub version : ℕ
  pub count : ℕ
  pub is : n ≡ versed_number version count
  pub versed : known version ≡ true
  pub below : count < refusals

-- what a call returns where it succeeds: checking 0; measuring, writing and packing a count; unpacking a count with a version
abbrev pub Succeeds : Asked → ℕ → Type 0
Succeeds (check S ws) n = n ≡ 0
Succeeds (measure S ws) n = n < refusals
Succeeds (write S ws out) n = n < refusals
Succeeds (pack k v ws out) n = n < refusals
Succeeds (unpack k bs out) n = Reports n

-- a number of which Q holds, or a refusal at a place that a rule can have
pub data Returnable (Q : ℕ → Type 0) : ℕ → Type 0 where
  done : {n : ℕ} → Q n → Returnable Q n
  refuses : {e p : ℕ} → Number e → p ≤ most_words → Returnable Q (refusal_number e p)

-- no other number is ever returned
abbrev pub NumbersRange : Type 0
NumbersRange = (c : Asked) (r : Returned c) → Means c r → Returnable (Succeeds c) (number_of c r)
