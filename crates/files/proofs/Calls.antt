-- The ways out of packing and unpacking, in the words of the code: one law for each, in the order of the tests.
-- Assumes nothing.
use Prim.Native.Nat.{ℕ, ◌+◌, ◌*◌, ◌<◌, ◌≤◌}
use mathlib.Core.Path.{◌≡◌, refl, sym, ap, ◌∙◌}
use mathlib.Core.Bool.{Bool, true, false, cond, not, and-eq-true_iff}
use mathlib.Core.List.{List, ◌++◌}
use native.Mathlib.Omega.{arith}
use lib.ListN.{length}
use lib.Seq.{sets}
use borrow.Author.Tests.{lt-ltb, le-ltb, eq-eqb, ne_eqb, not-true, not-false, ltb-false}
use Rattle.language.specs.Faults.{number_of}
use Rattle.language.specs.Kinds.{known}
use Rattle.language.specs.Read.{no_place}
use Rattle.std.specs.Prelude.{Ok, Err}
use Rattle.language.specs.Calls.{Outcome, success, refusal, reply_of, told, refuses, filled}
use Rattle.language.specs.declared.Fault.{Fault}
use Rattle.language.specs.declared.Fault.TheVariants.{NoWords, TooManyWords, NoRoom, WrongMark, WrongVersion, WrongLength}
use Rattle.language.specs.declared.Refusal.{Refusal}
use Rattle.language.proofs.Clash.{never}
use Rattle.language.proofs.Stores.{filled_short, filled_whole}
use Rattle.files.specs.Files.{most, header_bytes, header, bytes_of, packed, words_at, version_in, count_in, marked, packing, taking, versed, unpacking, unpacked_reply, told_unpacked}
use Rattle.files.specs.declared.Form.{Form}
use Rattle.output.specs.Stored.{Put}
use Rattle.files.proofs.Stores.{bytes_length, words_at_length}

pub packed_length : (f : Form) (v : ℕ) (ws : List ℕ) → length (packed f v ws) ≡ header_bytes + 2 * length ws
unfolding packed
packed_length f v ws = omega (arith, bytes_length ws)

-- a refusal that tests no word
abbrev pub Placeless : Fault → Refusal → Type 0
Placeless f x = x ≡ record { fault = f; place = no_place }

refused : {f : Fault} {x : Refusal} {out : List ℕ} → Placeless f x → told {A = ℕ} (Err x) out ≡ refuses (number_of f) no_place out
unfolding reply_of
refused i = rw i

-- packing
module _ (f : Form) (v : ℕ) (ws out : List ℕ) {b : Bool} (q : b ≡ known v) where
  pub pack_version : {x : Refusal} → not b ≡ true → Placeless WrongVersion x → told {A = ℕ} (Err x) out ≡ packing f v ws out
  unfolding packing
  pack_version h i = let k : known v ≡ false = sym q ∙ not-true _ h in refused i ∙ simp k

  module _ (h : not b ≡ false) where
    versed_known : known v ≡ true
    versed_known = sym q ∙ not-false _ h

    pub pack_none : {x : Refusal} → length ws ≡ 0 → Placeless NoWords x → told {A = ℕ} (Err x) out ≡ packing f v ws out
    unfolding packing
    pack_none e i = refused i ∙ simp (versed_known, eq-eqb _ _ e)

    module _ {m : ℕ} (n : length ws ≡ 0 → ⊥) (e : m ≡ most f) where
      pub pack_many : {x : Refusal} → m < length ws → Placeless TooManyWords x → told {A = ℕ} (Err x) out ≡ packing f v ws out
      unfolding packing
      pack_many l i = refused i ∙ simp (versed_known, ne_eqb _ _ n, ← e, lt-ltb _ _ l)

      packs : length ws ≤ m → packing f v ws out ≡ filled (packed f v ws) out
      unfolding packing
      packs l = simp (versed_known, ne_eqb _ _ n, ← e, le-ltb _ _ l)

      pub pack_short : {x : Refusal} → length ws ≤ m → length out < header_bytes + 2 * length ws → Placeless NoRoom x
          → told {A = ℕ} (Err x) out ≡ packing f v ws out
      pack_short l k i = rw i (filled_short (packed f v ws) out (rw packed_length k) ∙ sym (packs l))

      pub pack_whole : {o : List ℕ} {end : ℕ} → length ws ≤ m → header_bytes + 2 * length ws ≤ length out
          → Put (header f v (length ws) ++ bytes_of ws) out 0 o end → told (Ok (header_bytes + 2 * length ws)) o ≡ packing f v ws out
      unfolding packed
      pack_whole l k x =
          filled_whole (packed f v ws) out (rw packed_length k) (rw packed_length) x.holds
          ∙ sym (packs l)

-- a file with a mark is long enough for its header
marked_long : (f : Form) (bs : List ℕ) → marked f bs ≡ true → header_bytes ≤ length bs
marked_long f bs m = omega (arith, ltb-false (length bs) header_bytes (not-true _ ((and-eq-true_iff _ _).0 m).0))

-- taking the words out of a file
module _ (f : Form) (bs out : List ℕ) where
  pub take_mark : {r : Bool} {x : Refusal} → r ≡ marked f bs → not r ≡ true → Placeless WrongMark x → told {A = ℕ} (Err x) out ≡ taking f bs out
  unfolding taking
  take_mark e h i = let k : marked f bs ≡ false = sym e ∙ not-true _ h in refused i ∙ simp k

  module _ {r : Bool} (e : r ≡ marked f bs) (h : not r ≡ false) where
    is_marked : marked f bs ≡ true
    is_marked = sym e ∙ not-false _ h

    pub long_enough : {k : ℕ} → k ≤ header_bytes → k ≤ length bs
    long_enough l = omega (arith, marked_long f bs is_marked)

    module _ {v : ℕ} (q : v ≡ version_in bs) {b : Bool} (k : b ≡ known v) where
      pub take_version : {x : Refusal} → not b ≡ true → Placeless WrongVersion x → told {A = ℕ} (Err x) out ≡ taking f bs out
      unfolding taking
      take_version n i = let u : known (version_in bs) ≡ false = ap known (sym q) ∙ sym k ∙ not-true _ n in refused i ∙ simp (is_marked, u)

    module _ {v c : ℕ} (q : v ≡ version_in bs) {b : Bool} (k : b ≡ known v) (g : not b ≡ false) (p : c ≡ count_in bs) where
      is_known : known (version_in bs) ≡ true
      is_known = ap known (sym q) ∙ sym k ∙ not-false _ g

      pub take_length : {x : Refusal} → (length bs ≡ header_bytes + 2 * c → ⊥) → Placeless WrongLength x → told {A = ℕ} (Err x) out ≡ taking f bs out
      unfolding taking
      take_length n i = refused i ∙ simp (is_marked, is_known, ← p, ne_eqb _ _ n)

      module _ (l : length bs ≡ header_bytes + 2 * c) where
        pub take_none : {x : Refusal} → c ≡ 0 → Placeless NoWords x → told {A = ℕ} (Err x) out ≡ taking f bs out
        unfolding taking
        take_none z i = refused i ∙ simp (is_marked, is_known, ← p, eq-eqb _ _ l, eq-eqb _ _ z)

        module _ {m : ℕ} (z : c ≡ 0 → ⊥) (w : m ≡ most f) where
          pub take_many : {x : Refusal} → m < c → Placeless TooManyWords x → told {A = ℕ} (Err x) out ≡ taking f bs out
          unfolding taking
          take_many g i = refused i ∙ simp (is_marked, is_known, ← p, eq-eqb _ _ l, ne_eqb _ _ z, ← w, lt-ltb _ _ g)

          take_fills : c ≤ m → taking f bs out ≡ filled (words_at bs header_bytes c) out
          unfolding taking
          take_fills g = simp (is_marked, is_known, ← p, eq-eqb _ _ l, ne_eqb _ _ z, ← w, le-ltb _ _ g)

          pub take_short : {x : Refusal} → c ≤ m → length out < c → Placeless NoRoom x → told {A = ℕ} (Err x) out ≡ taking f bs out
          take_short g y i = rw i (filled_short (words_at bs header_bytes c) out (rw words_at_length y) ∙ sym (take_fills g))

          pub take_whole : {o : List ℕ} → c ≤ m → c ≤ length out → o ≡ sets out 0 (words_at bs header_bytes c) → told (Ok c) o ≡ taking f bs out
          take_whole g y x =
              filled_whole (words_at bs header_bytes c) out (rw words_at_length y) (rw words_at_length) x ∙ sym (take_fills g)

-- unpacking: the words taken, and the version reported
module _ (f : Form) (bs out : List ℕ) {o : List ℕ} where
  pub unpack_refused : (x : Refusal) → told {A = ℕ} (Err x) o ≡ taking f bs out → told_unpacked (Err x) o ≡ unpacking f bs out
  unfolding unpacking versed unpacked_reply reply_of
  unpack_refused x h = rw (← h)

  -- a file whose words were taken has a version
  pub unpack_long : (n : ℕ) → told (Ok n) o ≡ taking f bs out → {i : ℕ} → i ≤ header_bytes → i ≤ length bs
  unfolding taking reply_of
  unpack_long n h {i} l = go _ (marked f bs) refl h
    where
      go : (x : Outcome ℕ) (b : Bool) → marked f bs ≡ b → told (Ok n) o ≡ cond b x (refuses 10 no_place out) → i ≤ length bs
      go x true m e = omega (arith, marked_long f bs m)
      go x false m e = let z : success n ≡ refusal 10 no_place = ap (λ q. q.reply) e in never cc

  pub unpack_words : (n : ℕ) {v : ℕ} → told (Ok n) o ≡ taking f bs out → v ≡ version_in bs
      → told_unpacked (Ok (record { version = v; count = n })) o ≡ unpacking f bs out
  unfolding unpacking versed unpacked_reply reply_of
  unpack_words n h q = rw (← h, q)

pub ruleset ways = (
  pack_version,
  pack_none,
  pack_many,
  pack_short,
  pack_whole,
  take_mark,
  long_enough,
  take_version,
  take_length,
  take_none,
  take_many,
  take_short,
  take_whole,
)
