-- What the bench program prints: document 01, "Worked rules", its last paragraph, and document 02, Wish 1. Bytes are those of ASCII.
use Rattle.std.specs.Prelude.{ℕ, zero, suc, ◌+◌, ◌/◌, ◌%◌, ◌^◌, cond, ◌||◌, List, [], ◌∷◌, ◌++◌, ltb, eqb, length}
use Rattle.io.specs.Digits.{last_digits}
use Rattle.language.specs.Calls.{Reply, success, refusal}

abbrev pub space : ℕ
space = 32

abbrev pub newline : ℕ
newline = 10

-- "in upper case": 0 to 9, then A to F
abbrev pub hex_digit : ℕ → ℕ
hex_digit d = cond (ltb d 10) (48 + d) (55 + d)

-- "eight to a line, the last line perhaps shorter": what stands after the word i of n
abbrev pub end_of : ℕ → ℕ → ℕ
end_of n i = cond (eqb (i + 1) n || eqb (i % 8) 7) newline space

-- a word's four digits, and what stands after them
abbrev pub word_text : ℕ → ℕ → List ℕ
word_text w e = hex_digit (w / 4096) ∷ hex_digit (w / 256 % 16) ∷ hex_digit (w / 16 % 16) ∷ hex_digit (w % 16) ∷ e ∷ []

-- the words from the word i of n on
unfoldable pub listed : ℕ → ℕ → List ℕ → List ℕ
listed n i [] = []
listed n i (w ∷ ws) = word_text w (end_of n i) ++ listed n (i + 1) ws

-- k decimal digits where they hold n, and one more where they do not
unfoldable pub enough : ℕ → ℕ → ℕ
enough n k = cond (ltb n (10 ^ k)) k (suc k)

-- how many decimal digits a number has: 0 has one, and each further number as many as the one before it, or one more
unfoldable pub places_of : ℕ → ℕ
places_of zero = 1
places_of (suc n) = enough (suc n) (places_of n)

-- "the image's count", "the number" and "the place" in print: their decimal digits, as many as they have
unfoldable pub decimal_text : ℕ → List ℕ
decimal_text n = last_digits 10 (places_of n) n

-- a space and a number
abbrev pub number_text : ℕ → List ℕ
number_text n = space ∷ decimal_text n

-- `ok` and a number
abbrev pub ok_text : ℕ → List ℕ
ok_text n = 111 ∷ 107 ∷ number_text n

-- `no` and a number
abbrev pub no_text : ℕ → List ℕ
no_text n = 110 ∷ 111 ∷ number_text n

abbrev pub line : List ℕ → List ℕ
line t = t ++ (newline ∷ [])

-- "prints `ok` and the image's count, then the image's words"; "A refusal prints `no` and the number", and "the place after the number"
unfoldable pub reply_text : Reply ℕ → List ℕ → List ℕ
reply_text (success n) ws = line (ok_text n) ++ listed (length ws) 0 ws
reply_text (refusal e p) ws = line (no_text e ++ number_text p)
