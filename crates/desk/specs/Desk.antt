-- What the bench program makes of the bytes that arrive, and what it prints: document 01, "Worked rules", the last paragraph.
use Rattle.std.specs.Prelude.{ℕ, ◌≤◌, cond, ◌≡◌, List, [], ltb, length, take, replicate, Result}
use Rattle.language.specs.Setting.{in_version}
use Rattle.language.specs.Limits.{most_words, most_image_words}
use Rattle.language.specs.Read.{no_place, read}
use Rattle.language.specs.Calls.{Reply, success, refusal, Outcome, refuses, written, reply_of, told}
use Rattle.language.specs.declared.Refusal.{Refusal}
use Rattle.listing.specs.Text.{reply_text}
use Rattle.files.specs.Files.{unpacking}
use Rattle.files.specs.declared.Form.TheVariants.{Rules}

-- "If more than 8,199 bytes arrive it prints `no 2` and looks at nothing else"; this 2 too carries place 0
abbrev pub most_bytes : ℕ
most_bytes = 8199

-- the words lent for the rule, before it is unpacked
abbrev pub zeros : List ℕ
zeros = replicate most_words 0

-- the words that unpacking gave, written as a rule in the version that it reported ("Files carry the version": document 02, Wish 13); or its refusal
unfoldable pub onward : Reply (ℕ × ℕ) → List ℕ → List ℕ → Outcome ℕ
onward (success (v, n)) ws out = written (read (in_version v) (take n ws)) out
onward (refusal e p) ws out = refuses e p out

-- a file of the rules' form, unpacked, and its rule's image in the output
unfoldable pub translated : List ℕ → List ℕ → Outcome ℕ
translated bs out =
    cond (ltb most_bytes (length bs)) (refuses 2 no_place out)
    (onward (unpacking Rules bs zeros).reply (unpacking Rules bs zeros).output out)

-- the words lent for the image
abbrev pub image_zeros : List ℕ
image_zeros = replicate most_image_words 0

-- the text of an outcome: its reply, and on success the words that it counts
unfoldable pub outcome_text : Reply ℕ → List ℕ → List ℕ
outcome_text (success n) ws = reply_text (success n) (take n ws)
outcome_text (refusal e p) ws = reply_text (refusal e p) []

-- the program's whole answer to the bytes that arrived
unfoldable pub answer_text : List ℕ → List ℕ
answer_text bs = outcome_text (translated bs image_zeros).reply (translated bs image_zeros).output

-- what a reply counts
unfoldable pub count_of : Reply ℕ → ℕ
count_of (success n) = n
count_of (refusal e p) = 0

-- a reply counts no more than m
pub data Within (m : ℕ) : Reply ℕ → Type 0 where
  counting : {n : ℕ} → n ≤ m → Within m (success n)
  refusing : {e p : ℕ} → Within m (refusal e p)

-- the answer and the output are the definition's; the answer counts no more than the output holds, and the output is as long as it was
pub record Translates (bs out : List ℕ) (a : Result ℕ Refusal) (o : List ℕ) : Type 0 where
  pub is : told a o ≡ translated bs out
  pub within : Within (length out) (reply_of a)
  pub kept : length o ≡ length out

-- r is the answer's count, and 0 of a refusal
pub record Counts (a : Result ℕ Refusal) (r : ℕ) : Type 0 where
  pub is : r ≡ count_of (reply_of a)
