-- The ways out of translating a file and of answering, and why what is counted lies within the buffers: no call counts more than its output holds.
-- Assumes nothing.
use Prim.Native.Nat.{ℕ, ◌<◌, ◌≤◌}
use mathlib.Core.Path.{◌≡◌, refl, sym, ap, ◌∙◌, subst}
use mathlib.Core.List.{List}
use native.Mathlib.Omega.{arith}
use lib.ListN.{length, take, length-append, length-drop}
use lib.Seq.{length-take-le}
use borrow.Author.Tests.{lt-ltb, le-ltb}
use Rattle.std.specs.Prelude.{Result, Ok, Err, IfOk}
use Rattle.std.specs.Result.{result_unwrap_or}
use Rattle.language.specs.Setting.{Setting, in_version}
use Rattle.language.specs.Read.{no_place, read}
use Rattle.language.specs.Calls.{Reply, success, refusal, Outcome, reply_of, told, filled, written}
use Rattle.language.specs.declared.Fault.TheVariants.{TooManyWords}
use Rattle.language.specs.declared.Refusal.{Refusal}
use Rattle.listing.specs.Text.{reply_text}
use Rattle.files.specs.Files.{taking, unpacking, unpacked_reply, told_unpacked}
use Rattle.files.proofs.Shapes.{Shaped, stays, fills, filled_shaped, written_shaped, taking_shaped}
use Rattle.files.proofs.Promises.{versed_success}
use Rattle.files.specs.declared.Form.TheVariants.{Rules}
use Rattle.files.specs.declared.Unpacked.{Unpacked}
use Rattle.desk.specs.Desk.{most_bytes, zeros, onward, translated, Within, counting, refusing, Translates, Counts, count_of, image_zeros, outcome_text, answer_text}

-- an outcome on an output of m words: it counts no more, and leaves as many
record Sound (m : ℕ) (x : Outcome ℕ) : Type 0 where
  within : Within m x.reply
  kept : length x.output ≡ m

sound : {out : List ℕ} {x : Outcome ℕ} → Shaped out x → Sound (length out) x
sound (stays e p) = record { within = refusing; kept = refl }
sound (fills ws l) = record { within = counting l; kept = simp (length-append, length-drop) (omega arith) }

-- what an outcome tells, of the answer and of the output
told_within : {m : ℕ} (a : Result ℕ Refusal) {o : List ℕ} {x : Outcome ℕ} → told a o ≡ x → Sound m x → Within m (reply_of a)
told_within {m} a e h = subst (Within m) (sym (ap (λ y. y.reply) e)) h.within

told_kept : {m : ℕ} (a : Result ℕ Refusal) {o : List ℕ} {x : Outcome ℕ} → told a o ≡ x → Sound m x → length o ≡ m
told_kept a e h = ap (λ y. length y.output) e ∙ h.kept

-- the count of an answer
pub count_within : {m n : ℕ} → Within m (success n) → n ≤ m
count_within (counting h) = h

-- the ways out
module _ (bs out : List ℕ) where
  pub t_long : {x : Refusal} → most_bytes < length bs → x ≡ record { fault = TooManyWords; place = no_place } → Translates bs out (Err x) out
  unfolding translated reply_of
  t_long h i = record { is = rw (i, lt-ltb most_bytes (length bs) h); within = refusing; kept = refl }

  module _ {ws : List ℕ} (l : length bs ≤ most_bytes) where
    through : (a : Result Unpacked Refusal) → told_unpacked a ws ≡ unpacking Rules bs zeros → translated bs out ≡ onward (unpacked_reply a) ws out
    unfolding translated
    through a u = rw (le-ltb most_bytes (length bs) l, ← u)

    pub t_refused : (x : Refusal) → told_unpacked (Err x) ws ≡ unpacking Rules bs zeros → Translates bs out (Err x) out
    unfolding reply_of unpacked_reply onward
    t_refused x u = record { is = sym (through (Err x) u); within = refusing; kept = refl }

    -- the words that were taken stand in the buffer
    pub t_inside : (x : Unpacked) → told_unpacked (Ok x) ws ≡ unpacking Rules bs zeros → x.count ≤ length ws
    unfolding unpacking unpacked_reply
    t_inside x u =
        let s = sound (taking_shaped Rules bs zeros) in
        let r = versed_success (taking Rules bs zeros).reply (sym (ap (λ y. y.reply) u)) in
        let w : x.count ≤ length zeros = count_within (subst (Within (length zeros)) r.0 s.within) in
        rw (ap (λ y. length y.output) u ∙ s.kept) w

    pub t_written : (x : Unpacked) (b : Result ℕ Refusal) {o : List ℕ} → told_unpacked (Ok x) ws ≡ unpacking Rules bs zeros
        → told b o ≡ written (read (in_version x.version) (take x.count ws)) out → Translates bs out b o
    unfolding unpacked_reply onward
    t_written x b u w = record {
      is = w ∙ sym (through (Ok x) u);
      within = told_within b w (sound (written_shaped (read (in_version x.version) (take x.count ws)) out));
      kept = told_kept b w (sound (written_shaped (read (in_version x.version) (take x.count ws)) out));
    }

-- the count of an answer, and none of a refusal
pub counted : (a : Result ℕ Refusal) {n : ℕ} → n ≡ result_unwrap_or a 0 → Counts a n
unfolding reply_of count_of
counted (Ok n) e = record { is = e }
counted (Err x) e = record { is = e }

within_most : {m : ℕ} {r : Reply ℕ} → Within m r → count_of r ≤ m
unfolding count_of
within_most (counting h) = h
within_most refusing = omega arith

-- the part of the image that is shown
pub a_inside : {a : Result ℕ Refusal} {r : ℕ} {bs out o : List ℕ} → Counts a r → Translates bs out a o → r ≤ length o
a_inside c t = rw (t.kept, c.is) (within_most t.within)

-- what is shown of a reply is the text of the outcome
reply_text_is : (r : Reply ℕ) (ws : List ℕ) → reply_text r (take (count_of r) ws) ≡ outcome_text r ws
unfolding outcome_text count_of reply_text
reply_text_is (success n) ws = refl
reply_text_is (refusal e p) ws = refl

pub a_shown : (bs text : List ℕ) (a : Result ℕ Refusal) {r : ℕ} {o : List ℕ} {x : Outcome ℕ} {q : Reply ℕ} → Counts a r → Translates bs image_zeros a o
    → q ≡ reply_of a → x ≡ filled (reply_text q (take r o)) text → x ≡ filled (answer_text bs) text
unfolding answer_text
a_shown bs text a {r} {o} c t k e =
    e ∙ ap (λ p. filled (reply_text p (take r o)) text) k ∙ ap (λ n. filled (reply_text (reply_of a) (take n o)) text) c.is ∙ ap (λ ws. filled ws text) (reply_text_is (reply_of a) o)
    ∙ ap (λ x. filled (outcome_text x.reply x.output) text) t.is

-- the part of the text that is printed
pub p_inside : {a : Result ℕ Refusal} {r : ℕ} {o : List ℕ} (ws text : List ℕ) → Counts a r → told a o ≡ filled ws text → r ≤ length o
p_inside {a} ws text c e = rw (told_kept a e (sound (filled_shaped ws text)), c.is) (within_most (told_within a e (sound (filled_shaped ws text))))

-- a part is as long as was counted
pub taken : (n : ℕ) (l : List ℕ) → n ≤ length l → n ≡ length (take n l)
taken n l h = sym (length-take-le n l h)

-- the part of an output that is counted of an image
pub written_inside : (S : Setting) (ws out : List ℕ) {n : ℕ} {o : List ℕ} → told (Ok n) o ≡ written (read S ws) out → n ≤ length o
unfolding reply_of
written_inside S ws out {n} e =
    let x = sound (written_shaped (read S ws) out) in rw (told_kept (Ok n) e x) (count_within (told_within (Ok n) e x))

-- what arrived stands inside the buffer
pub i_inside : {E : Type 0} {i : Result ℕ E} {n m : ℕ} → i ≡ Ok n → IfOk i (λ arrived. arrived ≤ m) → n ≤ m
i_inside {m = m} k h = subst (λ x. IfOk x (λ arrived. arrived ≤ m)) k h
