-- Packing then unpacking gives the words back, and each accepted file is the packing of its words. What a call that succeeded went through is read
-- off its definition, test by test; the words of a file's bytes and the bytes of its words undo each other.
-- Assumes nothing.
use Prim.Native.Nat.{ℕ, zero, suc, ◌+◌, ◌*◌, ◌/◌, ◌%◌, ◌≤◌}
use mathlib.Core.Path.{◌≡◌, refl, sym, ap, ap₂, ◌∙◌}
use mathlib.Core.Bool.{Bool, true, false, cond, not, ◌&&◌, and-eq-true_iff}
use mathlib.Core.List.{List, [], ◌∷◌, ◌++◌}
use native.Mathlib.Omega.{arith}
use lib.Dec.{ltb, eqb}
use lib.ListN.{length, get_or, drop}
use lib.Seq.{get_or-append-add}
use borrow.Author.Tests.{le-ltb, eq-eqb, ne_eqb, eqb-true, eqb-false, ltb-false}
use Rattle.language.specs.Kinds.{known}
use Rattle.language.specs.Read.{no_place}
use Rattle.language.specs.Calls.{Reply, Outcome, success, refusal, refuses, filled}
use Rattle.language.proofs.Clash.{never}
use Rattle.files.specs.Files.{mark_l, mark_r, third, most, header_bytes, header, bytes_of, packed, words_at, version_in, count_in, marked, packing, taking, versed, unpacking}
use Rattle.files.specs.Promises.{Bytes, PackedUnpacks, AcceptedArePacked}
use Rattle.files.specs.declared.Form.{Form}
use Rattle.files.proofs.Stores.{words_at_length}
use Rattle.files.proofs.Calls.{packed_length}

-- a test that a call which succeeded passed: it held, or it did not
module _ (b : Bool) (x : Outcome ℕ) (e : ℕ) (out : List ℕ) {n : ℕ} where
  held : (cond b x (refuses e no_place out)).reply ≡ success n → (b ≡ true) × (cond b x (refuses e no_place out) ≡ x)
  held h = go b h
    where
      go : (b : Bool) → (cond b x (refuses e no_place out)).reply ≡ success n → (b ≡ true) × (cond b x (refuses e no_place out) ≡ x)
      go true h = (refl, refl)
      go false h = never cc

  failed : (cond b (refuses e no_place out) x).reply ≡ success n → (b ≡ false) × (cond b (refuses e no_place out) x ≡ x)
  failed h = go b h
    where
      go : (b : Bool) → (cond b (refuses e no_place out) x).reply ≡ success n → (b ≡ false) × (cond b (refuses e no_place out) x ≡ x)
      go true h = never cc
      go false h = (refl, refl)

-- what the output holds, where there was room
pub record Filled (ws out : List ℕ) (n : ℕ) (o : Outcome ℕ) : Type 0 where
  pub counted : n ≡ length ws
  pub output : o.output ≡ ws ++ drop n out

fills : (ws out : List ℕ) (n : ℕ) → (filled ws out).reply ≡ success n → Filled ws out n (filled ws out)
unfolding filled
fills ws out n h = go (ltb (length out) (length ws)) h
  where
    go : (b : Bool) → (cond b (refuses 9 no_place out) (record { reply = success (length ws); output = ws ++ drop (length ws) out })).reply ≡ success n
        → Filled ws out n (cond b (refuses 9 no_place out) (record { reply = success (length ws); output = ws ++ drop (length ws) out }))
    go true h = never cc
    go false h = let e : length ws ≡ n = cc in record { counted = sym e; output = ap (λ x. ws ++ drop x out) e }

filled_is : (ws out : List ℕ) → length ws ≤ length out → filled ws out ≡ record { reply = success (length ws); output = ws ++ drop (length ws) out }
unfolding filled
filled_is ws out h = rw (le-ltb (length out) (length ws) h)

-- the words of bytes behind others
words_behind : (p bs : List ℕ) (i n : ℕ) → words_at (p ++ bs) (length p + i) n ≡ words_at bs i n
unfolding words_at
words_behind p bs i zero = refl
words_behind p bs i (suc n) =
    let one : length p + i + 1 ≡ length p + (i + 1) = omega arith in
    let two : length p + i + 2 ≡ length p + (i + 2) = omega arith in
    ap₂ ◌∷◌ (rw (one, get_or-append-add p bs i 0, get_or-append-add p bs (i + 1) 0)) (rw two (words_behind p bs (i + 2) n))

-- the words of the bytes of words
words_of_bytes : (ws : List ℕ) → words_at (bytes_of ws) 0 (length ws) ≡ ws
unfolding words_at bytes_of
words_of_bytes [] = refl
words_of_bytes (w ∷ ws) = ap₂ ◌∷◌ (omega arith) (words_behind (w % 256 ∷ w / 256 ∷ []) (bytes_of ws) 0 (length ws) ∙ words_of_bytes ws)

rest_bytes : {b : ℕ} {bs : List ℕ} → Bytes (b ∷ bs) → Bytes bs
rest_bytes h = record { each = λ i. h.each (suc i) }

-- the bytes of the words of bytes
bytes_of_words : (bs : List ℕ) (n : ℕ) → Bytes bs → length bs ≡ 2 * n → bytes_of (words_at bs 0 n) ≡ bs
unfolding words_at bytes_of
bytes_of_words [] zero h e = refl
bytes_of_words [] (suc n) h e = absurd (omega arith)
bytes_of_words (a ∷ []) zero h e = absurd (omega arith)
bytes_of_words (a ∷ []) (suc n) h e = absurd (omega arith)
bytes_of_words (a ∷ b ∷ bs) zero h e = absurd (omega arith)
bytes_of_words (a ∷ b ∷ bs) (suc n) h e =
    let p = h.each 0 in
    let l : (a + 256 * b) % 256 ≡ a = omega arith in
    let u : (a + 256 * b) / 256 ≡ b = omega arith in
    ap₂ ◌∷◌ l (ap₂ ◌∷◌ u (ap bytes_of (words_behind (a ∷ b ∷ []) bs 0 n) ∙ bytes_of_words bs n (rest_bytes (rest_bytes h)) (omega arith)))

-- what packing that succeeded went through
record Packs (f : Form) (v : ℕ) (ws out : List ℕ) : Type 0 where
  versed : known v ≡ true
  some : length ws ≡ 0 → ⊥
  few : length ws ≤ most f
  is : packing f v ws out ≡ filled (packed f v ws) out

packs : (f : Form) (v : ℕ) (ws out : List ℕ) (n : ℕ) → (packing f v ws out).reply ≡ success n → Packs f v ws out
unfolding packing
packs f v ws out n h =
    let a = held (known v) _ 11 out h in
    let h₁ = ap (λ o. o.reply) (sym a.1) ∙ h in
    let b = failed (eqb (length ws) 0) _ 1 out h₁ in
    let c = failed (ltb (most f) (length ws)) _ 2 out (ap (λ o. o.reply) (sym b.1) ∙ h₁) in
    record {
      versed = a.0;
      some = eqb-false (length ws) 0 b.0;
      few = ltb-false (most f) (length ws) c.0;
      is = a.1 ∙ b.1 ∙ c.1;
    }

-- what taking that succeeded went through
record Takes (f : Form) (bs out : List ℕ) : Type 0 where
  mark : marked f bs ≡ true
  versed : known (version_in bs) ≡ true
  long : length bs ≡ header_bytes + 2 * count_in bs
  is : taking f bs out ≡ filled (words_at bs header_bytes (count_in bs)) out

takes : (f : Form) (bs out : List ℕ) (n : ℕ) → (taking f bs out).reply ≡ success n → Takes f bs out
unfolding taking
takes f bs out n h =
    let a = held (marked f bs) _ 10 out h in
    let h₁ = ap (λ o. o.reply) (sym a.1) ∙ h in
    let b = held (known (version_in bs)) _ 11 out h₁ in
    let h₂ = ap (λ o. o.reply) (sym b.1) ∙ h₁ in
    let c = held (eqb (length bs) (header_bytes + 2 * count_in bs)) _ 12 out h₂ in
    let h₃ = ap (λ o. o.reply) (sym c.1) ∙ h₂ in
    let d = failed (eqb (count_in bs) 0) _ 1 out h₃ in
    let h₄ = ap (λ o. o.reply) (sym d.1) ∙ h₃ in
    let e = failed (ltb (most f) (count_in bs)) _ 2 out h₄ in
    record {
      mark = a.0;
      versed = b.0;
      long = eqb-true (length bs) (header_bytes + 2 * count_in bs) c.0;
      is = a.1 ∙ b.1 ∙ c.1 ∙ d.1 ∙ e.1;
    }

-- a version is reported exactly where words were taken
pub versed_success : {w v n : ℕ} (r : Reply ℕ) → versed w r ≡ success (v, n) → (r ≡ success n) × (w ≡ v)
unfolding versed
versed_success {w} {v} {n} (success m) h = let e : ◌≡◌ {A = ℕ × ℕ} (w, m) (v, n) = cc in (ap (λ x. success x.1) e, ap (λ x. x.0) e)
versed_success (refusal e p) h = never cc

-- a packed file passes every test
module _ (f : Form) (v : ℕ) (ws : List ℕ) where
  packed_marked : marked f (packed f v ws) ≡ true
  unfolding packed
  packed_marked = simp (le-ltb (length (packed f v ws)) header_bytes (omega arith), eq-eqb (third f) (third f) refl)

  packed_version : version_in (packed f v ws) ≡ v
  unfolding packed
  packed_version = omega arith

  packed_count : count_in (packed f v ws) ≡ length ws
  unfolding packed
  packed_count = omega arith

  packed_words : words_at (packed f v ws) header_bytes (length ws) ≡ ws
  unfolding packed
  packed_words = words_behind (header f v (length ws)) (bytes_of ws) 0 (length ws) ∙ words_of_bytes ws

  taking_packed : (buf : List ℕ) → known v ≡ true → (length ws ≡ 0 → ⊥) → length ws ≤ most f → taking f (packed f v ws) buf ≡ filled ws buf
  unfolding taking
  taking_packed buf k n l =
      simp (packed_marked, packed_version, k, packed_count, eq-eqb _ _ (packed_length f v ws), ne_eqb _ _ n, le-ltb _ _ l, packed_words)

  unpacking_packed : (buf : List ℕ) → taking f (packed f v ws) buf ≡ record { reply = success (length ws); output = ws ++ drop (length ws) buf }
      → unpacking f (packed f v ws) buf ≡ record { reply = success (v, length ws); output = ws ++ drop (length ws) buf }
  unfolding unpacking versed
  unpacking_packed buf h = rw (h, packed_version)

pub packed_unpacks : PackedUnpacks
packed_unpacks f v ws out buf n h l =
    let p = packs f v ws out n h in
    let q = fills (packed f v ws) out n (ap (λ o. o.reply) (sym p.is) ∙ h) in (
      ap (λ o. o.output) p.is ∙ q.output,
      unpacking_packed f v ws buf (taking_packed f v ws buf p.versed p.some p.few ∙ filled_is ws buf l),
    )

-- the three letters of a mark that was found
letters : (f : Form) (bs : List ℕ) → marked f bs ≡ true → (get_or bs 0 0 ≡ mark_l) × (get_or bs 1 0 ≡ mark_r) × (get_or bs 2 0 ≡ third f)
letters f bs m =
    let l : Bool = eqb (get_or bs 0 0) mark_l in
    let r : Bool = eqb (get_or bs 1 0) mark_r in
    let t : Bool = eqb (get_or bs 2 0) (third f) in
    let a = (and-eq-true_iff l (r && t)).0 ((and-eq-true_iff (not (ltb (length bs) header_bytes)) (l && (r && t))).0 m).1 in
    let b = (and-eq-true_iff r t).0 a.1 in
    (eqb-true (get_or bs 0 0) mark_l a.0, eqb-true (get_or bs 1 0) mark_r b.0, eqb-true (get_or bs 2 0) (third f) b.1)

-- a file that passed every test is the packing of its words: its header is the form's, and its other bytes are its words'
is_packed : (f : Form) (bs : List ℕ) (u n : ℕ) → Bytes bs → marked f bs ≡ true → version_in bs ≡ u → count_in bs ≡ n → length bs ≡ header_bytes + 2 * n
    → bs ≡ packed f u (words_at bs header_bytes n)
unfolding packed
is_packed f [] u n h m v c l = absurd (omega arith)
is_packed f (a ∷ []) u n h m v c l = absurd (omega arith)
is_packed f (a ∷ b ∷ []) u n h m v c l = absurd (omega arith)
is_packed f (a ∷ b ∷ d ∷ []) u n h m v c l = absurd (omega arith)
is_packed f (a ∷ b ∷ d ∷ v₀ ∷ []) u n h m v c l = absurd (omega arith)
is_packed f (a ∷ b ∷ d ∷ v₀ ∷ v₁ ∷ []) u n h m v c l = absurd (omega arith)
is_packed f (a ∷ b ∷ d ∷ v₀ ∷ v₁ ∷ c₀ ∷ []) u n h m v c l = absurd (omega arith)
is_packed f (a ∷ b ∷ d ∷ v₀ ∷ v₁ ∷ c₀ ∷ c₁ ∷ bs) u n h m v c l =
    let all : List ℕ = a ∷ b ∷ d ∷ v₀ ∷ v₁ ∷ c₀ ∷ c₁ ∷ bs in
    let t = letters f all m in
    let w : length (words_at all header_bytes n) ≡ n = words_at_length all header_bytes n in
    let tail : Bytes bs = record { each = λ i. h.each (suc (suc (suc (suc (suc (suc (suc i))))))) } in
    let rest : bytes_of (words_at all header_bytes n) ≡ bs
    = ap bytes_of (words_behind (a ∷ b ∷ d ∷ v₀ ∷ v₁ ∷ c₀ ∷ c₁ ∷ []) bs 0 n) ∙ bytes_of_words bs n tail (omega arith) in
    ap₂ ◌∷◌ t.0 (ap₂ ◌∷◌ t.1 (ap₂ ◌∷◌ t.2
    (ap₂ ◌∷◌ (omega (arith, h.each 3)) (ap₂ ◌∷◌ (omega (arith, h.each 3)) (ap₂ ◌∷◌ (omega (arith, h.each 5)) (ap₂ ◌∷◌ (omega (arith, h.each 5))
    (sym rest)))))))

pub accepted_are_packed : AcceptedArePacked
unfolding unpacking
accepted_are_packed f bs out v n y h =
    let r = versed_success (taking f bs out).reply h in
    let p = takes f bs out n r.0 in
    let k : ℕ = count_in bs in
    let q = fills (words_at bs header_bytes k) out n (ap (λ o. o.reply) (sym p.is) ∙ r.0) in (
      rw (← r.1) p.versed,
      (
        words_at bs header_bytes k,
        sym q.counted,
        is_packed f bs v k y p.mark r.1 refl p.long,
        ap (λ o. o.output) p.is ∙ q.output,
      ),
    )
