-- The two file forms: document 01, "Checks in order", the paragraph on files; and document 02, Wish 13. "Files carry the version; unpacking reports
-- it and every call on words is told it."
use Rattle.std.specs.Prelude.{ℕ, zero, suc, ◌+◌, ◌*◌, ◌/◌, ◌%◌, Bool, cond, ◌&&◌, not, List, [], ◌∷◌, ◌++◌, ltb, eqb, length, get_or, Result, Ok, Err}
use Rattle.language.specs.Faults.{number_of}
use Rattle.language.specs.Kinds.{known}
use Rattle.language.specs.Limits.{most_words, most_image_words}
use Rattle.language.specs.Read.{no_place}
use Rattle.language.specs.Calls.{Reply, success, refusal, Outcome, refuses, filled}
use Rattle.language.specs.declared.Refusal.{Refusal}
use Rattle.files.specs.declared.Form.{Form}
use Rattle.files.specs.declared.Form.TheVariants.{Rules, Images}
use Rattle.files.specs.declared.Unpacked.{Unpacked}

-- "mark LRS (rules) or LRI (images)": L and R, and the third letter
abbrev pub mark_l : ℕ
mark_l = 0x4C

abbrev pub mark_r : ℕ
mark_r = 0x52

abbrev pub third : Form → ℕ
third Rules = 0x53
third Images = 0x49

-- "more than 4,096 words (28,672 for an image file)"
abbrev pub most : Form → ℕ
most Rules = most_words
most Images = most_image_words

-- "file under 7 bytes": the mark, the version and the count
abbrev pub header_bytes : ℕ
header_bytes = 7

-- "all low byte first"
unfoldable pub bytes_of : List ℕ → List ℕ
bytes_of [] = []
bytes_of (w ∷ ws) = w % 256 ∷ w / 256 ∷ bytes_of ws

-- the header of a file of n words that carries the version v
abbrev pub header : Form → ℕ → ℕ → List ℕ
header f v n = mark_l ∷ mark_r ∷ third f ∷ v % 256 ∷ v / 256 ∷ n % 256 ∷ n / 256 ∷ []

-- "mark .., version as 16 bits, count as 16 bits, then the words"
unfoldable pub packed : Form → ℕ → List ℕ → List ℕ
packed f v ws = header f v (length ws) ++ bytes_of ws

-- the 16 bits at a place of a file, and n words from a place on
abbrev pub word_at : List ℕ → ℕ → ℕ
word_at bs i = get_or bs i 0 + 256 * get_or bs (i + 1) 0

unfoldable pub words_at : List ℕ → ℕ → ℕ → List ℕ
words_at bs i zero = []
words_at bs i (suc n) = word_at bs i ∷ words_at bs (i + 2) n

-- "Packing tests 1, 2, 9."; and 11, which "now means neither 1 nor 2", is tested "before 1". Success gives "the bytes written".
unfoldable pub packing : Form → ℕ → List ℕ → List ℕ → Outcome ℕ
packing f v ws out =
    cond (known v)
    (cond (eqb (length ws) 0) (refuses 1 no_place out)
    (cond (ltb (most f) (length ws)) (refuses 2 no_place out)
    (filled (packed f v ws) out)))
    (refuses 11 no_place out)

-- 10: "file under 7 bytes, or its mark is not that of the form asked for"
abbrev pub marked : Form → List ℕ → Bool
marked f bs = not (ltb (length bs) header_bytes) && (eqb (get_or bs 0 0) mark_l && (eqb (get_or bs 1 0) mark_r && eqb (get_or bs 2 0) (third f)))

-- the version that a file carries, and the count of its words
abbrev pub version_in : List ℕ → ℕ
version_in bs = word_at bs 3

abbrev pub count_in : List ℕ → ℕ
count_in bs = word_at bs 5

-- "Unpacking tests 10, 11, 12, 1, 2, 9 and does not read terms." 12: "file length is not 7 plus twice its count". Success gives "the words".
unfoldable pub taking : Form → List ℕ → List ℕ → Outcome ℕ
taking f bs out =
    cond (marked f bs)
    (cond (known (version_in bs))
    (cond (eqb (length bs) (header_bytes + 2 * count_in bs))
    (cond (eqb (count_in bs) 0) (refuses 1 no_place out)
    (cond (ltb (most f) (count_in bs)) (refuses 2 no_place out)
    (filled (words_at bs header_bytes (count_in bs)) out)))
    (refuses 12 no_place out))
    (refuses 11 no_place out))
    (refuses 10 no_place out)

-- success with a version besides the count
unfoldable pub versed : ℕ → Reply ℕ → Reply (ℕ × ℕ)
versed v (success n) = success (v, n)
versed v (refusal e p) = refusal e p

-- "unpacking reports it": the version that the file carries, together with the count of the words
unfoldable pub unpacking : Form → List ℕ → List ℕ → Outcome (ℕ × ℕ)
unpacking f bs out = record { reply = versed (version_in bs) (taking f bs out).reply; output = (taking f bs out).output }

-- what the code's answer to unpacking means, and what it means with the output that the call left
unfoldable pub unpacked_reply : Result Unpacked Refusal → Reply (ℕ × ℕ)
unpacked_reply (Ok u) = success (u.version, u.count)
unpacked_reply (Err r) = refusal (number_of r.fault) r.place

abbrev pub told_unpacked : Result Unpacked Refusal → List ℕ → Outcome (ℕ × ℕ)
told_unpacked a out = record { reply = unpacked_reply a; output = out }
