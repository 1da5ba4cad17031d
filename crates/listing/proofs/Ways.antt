-- The ways out of the functions that make text, in the words of the code: one law for each.
-- Assumes nothing.
use Prim.Native.Nat.{ℕ, zero, suc, ◌+◌, ◌-◌, ◌*◌, ◌/◌, ◌%◌, ◌^◌, ◌<◌, ◌≤◌}
use mathlib.Core.Path.{◌≡◌, refl, sym, ap, ◌∙◌}
use mathlib.Core.Bool.{Bool, true, false, cond}
use mathlib.Core.List.{List, [], ◌∷◌, ◌++◌, append_assoc}
use native.Mathlib.Omega.{arith}
use native.Mathlib.Nat.{le_antisymm, pow-le-pow_right}
use native.Mathlib.Numerals.{towards_suc}
use Rattle.std.proofs.Common.{zero-add}
use lib.Dec.{ltb}
use lib.ListN.{length, get_or, take, set, length-append, length-set}
use lib.Seq.{sets, sets-eq, drop-drop}
use borrow.Rule.Slice.PartMut.{put_mid}
use Rattle.std.proofs.lemmas.List.{length-take-le}
use borrow.Author.Tests.{ltb-true, ltb-false, lt-ltb, le-ltb, eq-eqb, ne_eqb}
use Rattle.std.specs.Prelude.{Result, Ok, Err}
use Rattle.io.specs.Counts.{IsPrefixLen}
use Rattle.io.specs.Digits.{last_digits, IsDigitCount}
use Rattle.language.specs.Read.{no_place}
use Rattle.language.specs.Calls.{Outcome, told, filled}
use Rattle.language.specs.declared.Fault.TheVariants.{NoRoom}
use Rattle.language.specs.declared.Refusal.{Refusal}
use Rattle.language.proofs.Stores.{filled_short, filled_whole}
use Rattle.output.specs.Stored.{Room, Put, HasRoom, Writes}
use Rattle.output.specs.declared.Output.{Output}
use Rattle.output.proofs.Stored.{put_none, put_then, room_left, put_as, take_more}
use Rattle.listing.specs.Printed.{printed}
use Rattle.listing.specs.declared.Numbered.{Numbered}
use Rattle.listing.specs.Text.{space, newline, hex_digit, end_of, word_text, listed, enough, places_of, decimal_text, number_text, ok_text, no_text, line, reply_text}

-- a digit
pub below_ten : (d : ℕ) → d < 10 → 48 + d ≡ hex_digit d
below_ten d h = simp (lt-ltb d 10 h)

pub from_ten : (d : ℕ) → 10 ≤ d → 55 + d ≡ hex_digit d
from_ten d h = simp (le-ltb d 10 h)

-- what stands after a word
pub last_word : (n i : ℕ) → i + 1 ≡ n → newline ≡ end_of n i
last_word n i e = simp (eq-eqb (i + 1) n e)

pub line_full : (n i : ℕ) → (i + 1 ≡ n → ⊥) → i % 8 ≡ 7 → newline ≡ end_of n i
line_full n i k e = simp (ne_eqb (i + 1) n k, eq-eqb (i % 8) 7 e)

pub within_line : (n i : ℕ) → (i + 1 ≡ n → ⊥) → (i % 8 ≡ 7 → ⊥) → space ≡ end_of n i
within_line n i k e = simp (ne_eqb (i + 1) n k, ne_eqb (i % 8) 7 e)

-- a word's text
pub word_stored : (l : List ℕ) (at w e : ℕ) {a b c d : ℕ} → a ≡ hex_digit (w / 4096) → b ≡ hex_digit (w / 256 % 16) → c ≡ hex_digit (w / 16 % 16)
    → d ≡ hex_digit (w % 16) → set (set (set (set (set l at a) (at + 1) b) (at + 2) c) (at + 3) d) (at + 4) e ≡ sets l at (word_text w e)
word_stored l at w e p q r s = rw (p, q, r, s) (simp towards_suc)

-- the words so far, and one more
listed_more : (n i : ℕ) (ws : List ℕ) (w : ℕ) → listed n i (ws ++ (w ∷ [])) ≡ listed n i ws ++ word_text w (end_of n (i + length ws))
unfolding listed
listed_more n i [] w = let e : i + 0 ≡ i = omega arith in rw e refl
listed_more n i (v ∷ ws) w =
    let e : i + 1 + length ws ≡ i + suc (length ws) = omega arith in
    ap (λ (l : List ℕ). word_text v (end_of n i) ++ l) (listed_more n (i + 1) ws w ∙ ap (λ (k : ℕ). listed n (i + 1) ws ++ word_text w (end_of n k)) e)

pub next_word : (ws : List ℕ) (n i : ℕ) {o o' o'' : Output ℕ} {e : ℕ} → Writes (listed n 0 (take i ws)) o o' → i < length ws → e ≡ end_of n i
    → Writes (word_text (get_or ws i 0) e) o' o'' → Writes (listed n 0 (take (i + 1) ws)) o o''
next_word ws n i f h q g =
    let l : length (take i ws) ≡ i = length-take-le i ws (omega arith) in
    record {
      same = g.same ∙ f.same;
      put = put_as (ap (listed n 0) (take_more 0 ws i h) ∙ listed_more n 0 (take i ws) (get_or ws i 0) ∙ rw (l, zero-add, ← q) refl) (put_then f.put g.put);
    }

pub no_word : (ws : List ℕ) (n : ℕ) (o : Output ℕ) → Writes (listed n 0 (take 0 ws)) o o
unfolding listed
no_word ws n o = record { same = refl; put = put_none _ _ }

listed_length : (n i : ℕ) (ws : List ℕ) → length (listed n i ws) ≡ 5 * length ws
unfolding listed
listed_length n i [] = refl
listed_length n i (w ∷ ws) = omega (arith, listed_length n (i + 1) ws)

-- and the room for the next of them
pub word_room : (ws : List ℕ) (n i : ℕ) {o o' : Output ℕ} → HasRoom o (5 * length ws) → Writes (listed n 0 (take i ws)) o o' → i < length ws → HasRoom o' 5
word_room ws n i r f h =
    let l : length (take i ws) ≡ i = length-take-le i ws (omega arith) in
    room_left 5 f.put (omega (arith, r.fits, listed_length n 0 (take i ws)))

-- a number's digits: the definition's are the fewest that hold it, as the libraries' are, and no two numbers of digits are the fewest
one_more : (n k : ℕ) (b : Bool) → ltb (suc n) (10 ^ k) ≡ b → IsDigitCount 10 1 n k → IsDigitCount 10 1 (suc n) (cond b k (suc k))
one_more n k true e f = (f.0, ltb-true (suc n) (10 ^ k) e, λ h. omega (arith, f.2 h))
one_more n k false e f =
    let m : suc n < 10 ^ suc k = omega arith in
    let q : suc k - 1 ≡ k = omega arith in
    (omega arith, m, λ h. rw q (ltb-false (suc n) (10 ^ k) e))

fewest : (n : ℕ) → IsDigitCount 10 1 n (places_of n)
unfolding places_of enough
fewest zero = (omega arith, omega arith, λ h. omega arith)
fewest (suc n) = one_more n (places_of n) (ltb (suc n) (10 ^ places_of n)) refl (fewest n)

no_more : (n j k : ℕ) → 1 ≤ j → n < 10 ^ j → IsDigitCount 10 1 n k → k ≤ j
no_more n j k o m f =
    let z : j < k → ⊥ = λ h. omega (arith, f.2 (omega arith), pow-le-pow_right {n = 10} (omega arith) {i = j} {j = k - 1} (omega arith)) in
    omega arith

digits_are : (n k : ℕ) → IsDigitCount 10 1 n k → last_digits 10 k n ≡ decimal_text n
unfolding decimal_text
digits_are n k f =
    let g : IsDigitCount 10 1 n (places_of n) = fewest n in
    let q : k ≡ places_of n = le_antisymm (no_more n (places_of n) k g.0 g.1 f) (no_more n k (places_of n) f.0 f.1 g) in
    ap (λ j. last_digits 10 j n) q

-- the digits at the front of a buffer
pub spelled : (n k : ℕ) (t : List ℕ) → IsDigitCount 10 1 n k → take k t ≡ last_digits 10 k n → take k t ≡ decimal_text n
spelled n k t f e = e ∙ digits_are n k f

pub spelled_few : (n k : ℕ) (t : List ℕ) → n < 2 ^ 64 → IsPrefixLen k t → IsDigitCount 10 1 n k → length (take k t) ≤ 20
spelled_few n k t m c f = let l : k ≤ 20 = no_more n 20 k (omega arith) (omega arith) f in omega (arith, c.1)

-- a space and a number: the digits are stored behind the space
copied : (l ds : List ℕ) (at : ℕ) → at + length ds ≤ length l → put_mid at (length ds) l ds ≡ sets l at ds
copied l ds at h = rw (drop-drop, sets-eq ds l at h, append_assoc)

pub number_stored : (l ds : List ℕ) (at n : ℕ) {o : List ℕ} → at + 1 + length ds ≤ length l → o ≡ ds → n ≡ length ds
    → put_mid (at + 1) n (set l at space) o ≡ sets l at (space ∷ ds)
number_stored l ds at n h e k = rw (e, k) (copied (set l at space) ds (at + 1) (simp length-set (omega arith)) ∙ simp towards_suc)

-- the room behind two runs, and behind three
module _ {a b o o' o'' : List ℕ} {p i k : ℕ} (f : Put a o p o' i) (g : Put b o' i o'' k) where
  pub behind_two : (n : ℕ) → p + length a + length b + n ≤ length o → Room o'' k n
  behind_two n h = room_left n (put_then f g) (omega (arith, h, length-append a b))

  pub behind_three : {c v : List ℕ} {l : ℕ} (n : ℕ) → Put c o'' k v l → p + length a + length b + length c + n ≤ length o → Room v l n
  behind_three {c} n r h = room_left n (put_then (put_then f g) r) (omega (arith, h, length-append a b, length-append (a ++ b) c))

line_length : (start : List ℕ) → length (line start) ≡ length start + 1
line_length start = length-append start (newline ∷ [])

-- a refusal where there is too little room
too_short : (ws out : List ℕ) {x : Refusal} → length out < length ws → x ≡ record { fault = NoRoom; place = no_place } → told {A = ℕ} (Err x) out ≡ filled ws out
too_short ws out h i = rw i (filled_short ws out h)

-- the reply of a refusal
module _ (e p : ℕ) (out : List ℕ) {ds es : List ℕ} (x : ds ≡ decimal_text e) (y : es ≡ decimal_text p) where
  refusal_length : length (line (no_text e ++ number_text p)) ≡ 3 + length ds + 1 + length es + 1
  refusal_length = simp (line_length (no_text e ++ number_text p), length-append) (omega (arith, ap length x, ap length y))

  pub refusal_short : {q : Refusal} → length out < 3 + length ds + 1 + length es + 1 → q ≡ record { fault = NoRoom; place = no_place }
      → told {A = ℕ} (Err q) out ≡ filled (line (no_text e ++ number_text p)) out
  refusal_short h i = too_short (line (no_text e ++ number_text p)) out (omega (arith, h, refusal_length)) i

  pub refusal_whole : {o : List ℕ} {end : ℕ} → 3 + length ds + 1 + length es + 1 ≤ length out
      → Put ((((110 ∷ 111 ∷ []) ++ (space ∷ ds)) ++ (space ∷ es)) ++ (newline ∷ [])) out 0 o end
      → told (Ok (3 + length ds + 1 + length es + 1)) o ≡ filled (line (no_text e ++ number_text p)) out
  refusal_whole {o} {end} h f =
      let w : Put (line (no_text e ++ number_text p)) out 0 o end = put_as (rw (← x, ← y) refl) f in
      filled_whole (line (no_text e ++ number_text p)) out (omega (arith, h, refusal_length)) (sym refusal_length) w.holds

-- the reply with an image's words
module _ (n : ℕ) (ws out : List ℕ) {ds : List ℕ} (x : ds ≡ decimal_text n) where
  image_length : length (line (ok_text n) ++ listed (length ws) 0 ws) ≡ 3 + length ds + 1 + 5 * length ws
  image_length = simp length-append (omega (arith, ap length x, listed_length (length ws) 0 ws))

  pub image_short : {q : Refusal} → length out < 3 + length ds + 1 → q ≡ record { fault = NoRoom; place = no_place }
      → told {A = ℕ} (Err q) out ≡ filled (line (ok_text n) ++ listed (length ws) 0 ws) out
  image_short h i = too_short (line (ok_text n) ++ listed (length ws) 0 ws) out (omega (arith, h, image_length)) i

  pub words_too_many : {q : Refusal} → 3 + length ds + 1 ≤ length out → (length out - (3 + length ds + 1)) / 5 < length ws
      → q ≡ record { fault = NoRoom; place = no_place } → told {A = ℕ} (Err q) out ≡ filled (line (ok_text n) ++ listed (length ws) 0 ws) out
  words_too_many l h i = too_short (line (ok_text n) ++ listed (length ws) 0 ws) out (omega (arith, l, h, image_length)) i

  pub image_whole : {o : List ℕ} {end : ℕ} → 3 + length ds + 1 ≤ length out → length ws ≤ (length out - (3 + length ds + 1)) / 5
      → Put ((((111 ∷ 107 ∷ []) ++ (space ∷ ds)) ++ (newline ∷ [])) ++ listed (length ws) 0 ws) out 0 o end
      → told (Ok (3 + length ds + 1 + 5 * length ws)) o ≡ filled (line (ok_text n) ++ listed (length ws) 0 ws) out
  image_whole {o} {end} l h f =
      let w : Put (line (ok_text n) ++ listed (length ws) 0 ws) out 0 o end = put_as (rw (← x) refl) f in
      filled_whole (line (ok_text n) ++ listed (length ws) 0 ws) out (omega (arith, l, h, image_length)) (sym image_length) w.holds

-- the whole answer, by the reply
pub refusal_shown : {a : Result ℕ Numbered} {q : Numbered} {x : Outcome ℕ} (ws out : List ℕ)
    → x ≡ filled (line (no_text q.number ++ number_text q.place)) out → a ≡ Err q → x ≡ filled (reply_text (printed a) ws) out
unfolding reply_text
refusal_shown ws out k h = rw h k

pub image_shown : {a : Result ℕ Numbered} {n : ℕ} {x : Outcome ℕ} (ws out : List ℕ) → x ≡ filled (line (ok_text n) ++ listed (length ws) 0 ws) out → a ≡ Ok n
    → x ≡ filled (reply_text (printed a) ws) out
unfolding reply_text
image_shown ws out k h = rw h k
