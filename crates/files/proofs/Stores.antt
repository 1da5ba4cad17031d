-- What the functions that store words leave, in the words of the code: one law for each.
-- Assumes nothing.
use Prim.Native.Nat.{ℕ, zero, suc, ◌+◌, ◌-◌, ◌*◌, ◌/◌, ◌%◌, ◌^◌, ◌<◌, ◌≤◌}
use mathlib.Core.Path.{◌≡◌, refl, sym, ap, ap₂, ◌∙◌, subst}
use mathlib.Core.List.{List, [], ◌∷◌, ◌++◌, append-nil}
use native.Mathlib.Omega.{arith}
use lib.ListN.{length, length-append, get_or, take, drop, set, drop_of_length-le}
use lib.Seq.{sets}
use Rattle.std.proofs.lemmas.List.{length-take-le}
use Rattle.language.proofs.Stores.{store_rest, at_front}
use Rattle.output.specs.Stored.{Room, Put, HasRoom, Writes}
use Rattle.output.specs.declared.Output.{Output}
use Rattle.output.proofs.Stored.{put_none, put_then, room_left, put_as, take_more}
use Rattle.files.specs.Files.{mark_l, mark_r, third, header_bytes, header, bytes_of, word_at, words_at}
use Rattle.files.specs.declared.Form.{Form}

-- a word's two bytes
pub word_put : (w : ℕ) {xs o o' : List ℕ} {p end : ℕ} → w < 2 ^ 16 → xs ≡ w % 256 ∷ w / 256 % 256 ∷ [] → Put xs o p o' end → Put (bytes_of (w ∷ [])) o p o' end
unfolding bytes_of
word_put w f x q =
    let high : w / 256 % 256 ≡ w / 256 = omega arith in
    put_as (ap (λ b. w % 256 ∷ b ∷ []) (sym high) ∙ sym x) q

-- the seven bytes of a header
pub header_put : (f : Form) (v n : ℕ) {xs o o' o'' u : List ℕ} {p i j end : ℕ} → xs ≡ mark_l ∷ mark_r ∷ third f ∷ [] → Put xs o p o' i
    → Put (bytes_of (v ∷ [])) o' i o'' j → Put (bytes_of (n ∷ [])) o'' j u end → Put (header f v n) o p u end
unfolding bytes_of
header_put f v n e a b c = put_then (put_then (put_as (sym e) a) b) c

pub header_room : (f : Form) (v : ℕ) {xs o o' o'' : List ℕ} {p i j : ℕ} → Room o p header_bytes → xs ≡ mark_l ∷ mark_r ∷ third f ∷ [] → Put xs o p o' i
    → Put (bytes_of (v ∷ [])) o' i o'' j → Room o'' j 2
unfolding bytes_of
header_room f v {xs} r e a b =
    room_left 2 (put_then a b) (omega (arith, r.fits, ap length e, length-append xs (v % 256 ∷ v / 256 ∷ [])))

-- the words of a file so far, and one more
bytes_more : (ws : List ℕ) (w : ℕ) → bytes_of (ws ++ (w ∷ [])) ≡ bytes_of ws ++ bytes_of (w ∷ [])
unfolding bytes_of
bytes_more [] w = refl
bytes_more (v ∷ ws) w = ap (λ (l : List ℕ). v % 256 ∷ v / 256 ∷ l) (bytes_more ws w)

pub bytes_length : (ws : List ℕ) → length (bytes_of ws) ≡ 2 * length ws
unfolding bytes_of
bytes_length [] = refl
bytes_length (w ∷ ws) = omega (arith, bytes_length ws)

pub no_bytes : (ws : List ℕ) (o : Output ℕ) → Writes (bytes_of (take 0 ws)) o o
unfolding bytes_of
no_bytes ws o = record { same = refl; put = put_none _ _ }

pub next_bytes : (ws : List ℕ) (i : ℕ) {o o' o'' : Output ℕ} → Writes (bytes_of (take i ws)) o o' → i < length ws
    → Writes (bytes_of (get_or ws i 0 ∷ [])) o' o'' → Writes (bytes_of (take (i + 1) ws)) o o''
next_bytes ws i f h g = record {
  same = g.same ∙ f.same;
  put = put_as (ap bytes_of (take_more 0 ws i h) ∙ bytes_more (take i ws) (get_or ws i 0)) (put_then f.put g.put);
}

-- and the room for the next of them
pub bytes_room : (ws : List ℕ) (i : ℕ) {o o' : Output ℕ} → HasRoom o (2 * length ws) → Writes (bytes_of (take i ws)) o o' → i < length ws → HasRoom o' 2
bytes_room ws i r f h =
    let l : length (take i ws) ≡ i = length-take-le i ws (omega arith) in
    room_left 2 f.put (omega (arith, r.fits, bytes_length (take i ws)))

-- In the loop that takes words: what is still to be stored, stored from where the loop is, gives what is to be stored in all.
-- The words of a file, one by one, in a run that is as long as they are many.
pub words_at_length : (bs : List ℕ) (i n : ℕ) → length (words_at bs i n) ≡ n
unfolding words_at
words_at_length bs i zero = refl
words_at_length bs i (suc n) = ap suc (words_at_length bs (i + 2) n)

pub next_word : (o goal bs : List ℕ) (from i n : ℕ) {w : ℕ} → i < n → w ≡ word_at bs (from + 2 * i)
    → sets o i (words_at bs (from + 2 * i) (n - i)) ≡ goal → sets (set o i w) (i + 1) (words_at bs (from + 2 * (i + 1)) (n - (i + 1))) ≡ goal
unfolding words_at
next_word o goal bs from i n {w} h e g =
    let at : ℕ = from + 2 * (i + 1) in
    let m : ℕ = n - (i + 1) in
    let k : n - i ≡ suc m = omega arith in
    let a : at ≡ from + 2 * i + 2 = omega arith in
    store_rest o goal i (words_at bs (from + 2 * i) (n - i)) (w ∷ []) (words_at bs at m) refl g (rw (k, a, e)) (omega arith)

pub words_start : (o bs : List ℕ) (from n : ℕ) → length o ≡ n → sets o 0 (words_at bs (from + 2 * 0) (n - 0)) ≡ words_at bs from n
words_start o bs from n h =
    let a : from + 2 * 0 ≡ from = omega arith in
    let b : n - 0 ≡ n = omega arith in
    let l : length (words_at bs from n) ≡ n = words_at_length bs from n in
    ap₂ (λ (x y : ℕ). sets o 0 (words_at bs x y)) a b ∙ at_front o (words_at bs from n) (omega arith)
    ∙ ap (λ r. words_at bs from n ++ r) (drop_of_length-le o (omega arith)) ∙ append-nil (words_at bs from n)

pub words_end : (o xs bs : List ℕ) (from i n : ℕ) → n ≤ length o → n ≤ i → sets xs i (words_at bs (from + 2 * i) (n - i)) ≡ words_at bs from n
    → xs ++ drop n o ≡ sets o 0 (words_at bs from n)
unfolding words_at
words_end o xs bs from i n l h g =
    let z : n - i ≡ 0 = omega arith in
    let e : xs ≡ words_at bs from n = subst (λ (x : ℕ). sets xs i (words_at bs (from + 2 * i) x) ≡ words_at bs from n) z g in
    let k : length (words_at bs from n) ≡ n = words_at_length bs from n in
    ap (λ r. r ++ drop n o) e ∙ ap (λ m. words_at bs from n ++ drop m o) (sym k) ∙ sym (at_front o (words_at bs from n) (omega arith))
