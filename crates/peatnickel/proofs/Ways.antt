-- The ways out of the face's functions, in the words of the code: one law for each.
-- Assumes nothing.
use Prim.Native.Nat.{ℕ, zero, suc, ◌/◌, ◌%◌, ◌<◌, ◌≤◌}
use mathlib.Core.Path.{◌≡◌, refl, sym, ap, ap₂, ◌∙◌}
use mathlib.Core.List.{List}
use native.Mathlib.Omega.{arith}
use borrow.Author.Tests.{lt-ltb, le-ltb, ne_eqb}
use Rattle.std.specs.Prelude.{Some, None, Result, Ok, Err}
use Rattle.language.specs.Faults.{number_of}
use Rattle.language.specs.Setting.{Setting}
use Rattle.language.specs.Limits.{most_words}
use Rattle.language.specs.Read.{read}
use Rattle.language.specs.Calls.{Reply, Outcome, success, refusal, reply_of, told, checked, measured, written}
use Rattle.language.specs.declared.Fault.{Fault}
use Rattle.language.specs.declared.Fault.TheVariants.{NoWords, TooManyWords, NoneLeft, WrongKind, OutOfRange, TooDeep, Unbound, LeftOver, NoRoom, WrongMark, WrongVersion, WrongLength, DeadArm}
use Rattle.language.specs.declared.Refusal.{Refusal}
use Rattle.files.specs.declared.Form.{Form}
use Rattle.files.specs.declared.Form.TheVariants.{Rules, Images}
use Rattle.files.specs.declared.Unpacked.{Unpacked}
use Rattle.files.specs.Files.{packing, unpacking, unpacked_reply, told_unpacked}
use Rattle.rules.proofs.Replies.{Fair, succeeds, refused_as, fair_listed, Few, Versed, checked_fair, measured_fair, written_counted, packing_counted, unpacking_counted}
use Rattle.peatnickel.specs.Numbers.{refusals, number_in, place_in, answer_of, checked_of, versions, versed_number, unpacked_of, form_of, refusal_number, Small, SmallUnpacked}
use Rattle.peatnickel.specs.Calls.{meant}

-- the forms' numbers
pub f_rules : {n : ℕ} → n ≡ 0 → Some Rules ≡ form_of n
unfolding form_of
f_rules h = rw h

pub f_images : {n : ℕ} → n ≡ 1 → Some Images ≡ form_of n
unfolding form_of
f_images h = rw h

pub f_none : (n : ℕ) → (n ≡ 0 → ⊥) → (n ≡ 1 → ⊥) → None ≡ form_of n
unfolding form_of
f_none zero h k = absurd (h refl)
f_none (suc zero) h k = absurd (k refl)
f_none (suc (suc n)) h k = refl

pub ruleset forms = (f_rules, f_images, f_none)

-- a fault's number is small
pub below_nineteen : (f : Fault) → number_of f ≤ 18
below_nineteen NoWords = omega arith
below_nineteen TooManyWords = omega arith
below_nineteen NoneLeft = omega arith
below_nineteen WrongKind = omega arith
below_nineteen OutOfRange = omega arith
below_nineteen TooDeep = omega arith
below_nineteen Unbound = omega arith
below_nineteen LeftOver = omega arith
below_nineteen NoRoom = omega arith
below_nineteen WrongMark = omega arith
below_nineteen WrongVersion = omega arith
below_nineteen WrongLength = omega arith
below_nineteen DeadArm = omega arith

-- what the numbers mean
number_in_is : (e p : ℕ) → e ≤ 18 → number_in (refusal_number e p) ≡ e
number_in_is e p l = omega arith

place_in_is : (e p : ℕ) → e ≤ 18 → place_in (refusal_number e p) ≡ p
place_in_is e p l = omega arith

pub count_is : (n : ℕ) → n < refusals → answer_of n ≡ success n
unfolding answer_of
count_is n h = simp (lt-ltb n refusals h)

refusal_is : (e p : ℕ) → e ≤ 18 → answer_of (refusal_number e p) ≡ refusal e p
unfolding answer_of
refusal_is e p l = simp (le-ltb (refusal_number e p) refusals (omega arith)) (ap₂ refusal (number_in_is e p l) (place_in_is e p l))

unpacked_refusal_is : (e p : ℕ) → e ≤ 18 → p ≤ most_words → unpacked_of (refusal_number e p) ≡ refusal e p
unfolding unpacked_of
unpacked_refusal_is e p l m =
    let c : refusals ≤ refusal_number e p % versions = omega arith in
    simp (le-ltb (refusal_number e p % versions) refusals c) (ap₂ refusal (number_in_is e p l) (place_in_is e p l))

checked_refusal_is : (e p : ℕ) → e ≤ 18 → checked_of (refusal_number e p) ≡ refusal e p
unfolding checked_of
checked_refusal_is e p l =
    simp (ne_eqb (refusal_number e p) 0 (λ x. omega arith)) (ap₂ refusal (number_in_is e p l) (place_in_is e p l))

-- the answers' numbers
pub n_count : (n : ℕ) → n < refusals → answer_of n ≡ reply_of (Ok n)
unfolding reply_of
n_count n l = count_is n l

pub n_refusal : (r : Refusal) {n : ℕ} → n ≡ refusal_number (number_of r.fault) r.place → answer_of n ≡ reply_of (Err r)
unfolding reply_of
n_refusal r h = rw h (refusal_is (number_of r.fault) r.place (below_nineteen r.fault))

pub u_words : (u : Unpacked) {n : ℕ} → u.count < refusals → n ≡ versed_number u.version u.count → unpacked_of n ≡ unpacked_reply (Ok u)
unfolding unpacked_of unpacked_reply
u_words u l h =
    let c : versed_number u.version u.count % versions ≡ u.count = omega arith in
    let w : versed_number u.version u.count / versions ≡ u.version = omega arith in
    rw h (simp (c, w, lt-ltb u.count refusals l))

pub u_refusal : (r : Refusal) {n : ℕ} → r.place ≤ most_words → n ≡ refusal_number (number_of r.fault) r.place → unpacked_of n ≡ unpacked_reply (Err r)
unfolding unpacked_reply
u_refusal r m h = rw h (unpacked_refusal_is (number_of r.fault) r.place (below_nineteen r.fault) m)

pub ruleset numbers = (n_count, n_refusal, u_words, u_refusal)

-- the checking call's numbers
pub c_success : {x : Reply (Unit {0})} → reply_of (Ok tt) ≡ x → checked_of 0 ≡ x
unfolding checked_of reply_of
c_success h = h

module _ (S : Setting) (ws : List ℕ) (r : Refusal) (h : reply_of (Err r) ≡ checked (read S ws)) where
  pub c_near : r.place ≤ most_words
  unfolding reply_of
  c_near = (fair_listed {e = number_of r.fault} {p = r.place} (checked_fair S ws) (sym h)).near

  pub c_refusal : {n : ℕ} → n ≡ refusal_number (number_of r.fault) r.place → checked_of n ≡ checked (read S ws)
  unfolding reply_of
  c_refusal i = rw i (checked_refusal_is (number_of r.fault) r.place (below_nineteen r.fault)) ∙ h

pub ruleset checks = (c_success, c_near, c_refusal)

-- an answer that means a fair reply is small
small : (a : Result ℕ Refusal) → Fair Few (reply_of a) → Small a
unfolding reply_of
small (Ok n) (succeeds l) = l
small (Err r) (refused_as l) = l.near

small_unpacked : (a : Result Unpacked Refusal) → Fair Versed (unpacked_reply a) → SmallUnpacked a
unfolding unpacked_reply
small_unpacked (Ok u) (succeeds l) = l.1
small_unpacked (Err r) (refused_as l) = l.near

pub s_measured : (S : Setting) (ws : List ℕ) (a : Result ℕ Refusal) → reply_of a ≡ measured (read S ws) → Small a
s_measured S ws a h = small a (rw h (measured_fair S ws))

pub s_written : (S : Setting) (ws out o : List ℕ) (a : Result ℕ Refusal) → told a o ≡ written (read S ws) out → Small a
s_written S ws out o a h = let k : reply_of a ≡ _ = ap (λ x. x.reply) h in small a (rw k (written_counted S ws out).fair)

pub s_packed : (f : Form) (v : ℕ) (ws out o : List ℕ) (a : Result ℕ Refusal) → told a o ≡ packing f v ws out → Small a
s_packed f v ws out o a h = let k : reply_of a ≡ _ = ap (λ x. x.reply) h in small a (rw k (packing_counted f v ws out).fair)

pub s_unpacked : (f : Form) (bs out o : List ℕ) (a : Result Unpacked Refusal) → told_unpacked a o ≡ unpacking f bs out → SmallUnpacked a
s_unpacked f bs out o a h = let k : unpacked_reply a ≡ _ = ap (λ x. x.reply) h in small_unpacked a (rw k (unpacking_counted f bs out).fair)

-- the number that means the answer is returned in its place
pub r_told : {A : Type 0} (mean : ℕ → Reply A) (n : ℕ) (o : List ℕ) {x : Reply A} {y : Outcome A} → mean n ≡ x → record { reply = x; output = o } ≡ y
    → meant mean (n, o) ≡ y
r_told mean n o h k = rw h k
