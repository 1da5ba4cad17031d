-- What the definitions reply: a count is below 65,536, and a refusal's number is that of a fault of the code, at a place that a rule can have. An
-- image has at most seven words for each of its rule's, and a file is as long as its words ask. So every reply is meant by an answer.
-- Assumes nothing.
use Prim.Native.Nat.{ℕ, zero, suc, ◌+◌, ◌*◌, ◌<◌, ◌≤◌}
use mathlib.Core.Path.{◌≡◌, refl, ap}
use mathlib.Core.Bool.{Bool, true, false, cond}
use mathlib.Core.List.{List}
use native.Mathlib.Omega.{arith}
use lib.Dec.{ltb, eqb}
use lib.ListN.{length}
use borrow.Author.Tests.{ltb-false}
use Rattle.std.specs.Prelude.{Result, Ok, Err}
use Rattle.language.specs.Faults.{number_of}
use Rattle.language.specs.Term.{images, Term}
use Rattle.language.specs.Setting.{Setting}
use Rattle.language.specs.Kinds.{known}
use Rattle.language.specs.Words.{word_end, words}
use Rattle.language.specs.Limits.{most_words, most_image_words}
use Rattle.language.specs.Image.{image}
use Rattle.language.specs.Read.{no_place, Reading, accepted, refused, read}
use Rattle.language.specs.Calls.{Reply, Outcome, success, refusal, refuses, reply_of, checked, measured, filled, written}
use Rattle.language.specs.declared.Fault.{Fault}
use Rattle.language.specs.declared.Fault.TheVariants.{NoWords, TooManyWords, NoneLeft, WrongKind, OutOfRange, TooDeep, Unbound, LeftOver, NoRoom, WrongMark, WrongVersion, WrongLength, DeadArm}
use Rattle.language.specs.declared.Refusal.{Refusal}
use Rattle.language.proofs.Clash.{never}
use Rattle.trust.specs.Promises.{OfWord, of_rule, of_dead_arm, Placed, of_version, of_length, of_end}
use Rattle.trust.specs.Promises as placed
use Rattle.trust.proofs.Accepted.{accepted_length}
use Rattle.trust.proofs.Placed.{places_help}
use Rattle.meaning.proofs.Promises.{seven_times_of_words}
use Rattle.files.specs.Files.{most, header_bytes, packed, words_at, version_in, count_in, marked, packing, taking, versed, unpacking}
use Rattle.files.specs.declared.Form.{Form}
use Rattle.files.specs.declared.Form.TheVariants.{Rules, Images}
use Rattle.files.proofs.Stores.{words_at_length}
use Rattle.files.proofs.Calls.{packed_length}

-- the fault of a number from 1 to 8, those that reading gives besides 11 and 18
numbered : (e : ℕ) → 1 ≤ e → e ≤ 8 → (f : Fault) × (number_of f ≡ e)
numbered zero a b = absurd (omega arith)
numbered (suc zero) a b = (NoWords, refl)
numbered (suc (suc zero)) a b = (TooManyWords, refl)
numbered (suc (suc (suc zero))) a b = (NoneLeft, refl)
numbered (suc (suc (suc (suc zero)))) a b = (WrongKind, refl)
numbered (suc (suc (suc (suc (suc zero))))) a b = (OutOfRange, refl)
numbered (suc (suc (suc (suc (suc (suc zero)))))) a b = (TooDeep, refl)
numbered (suc (suc (suc (suc (suc (suc (suc zero))))))) a b = (Unbound, refl)
numbered (suc (suc (suc (suc (suc (suc (suc (suc zero)))))))) a b = (LeftOver, refl)
numbered (suc (suc (suc (suc (suc (suc (suc (suc (suc e))))))))) a b = absurd (omega arith)

word_numbered : {e : ℕ} → OfWord e → (f : Fault) × (number_of f ≡ e)
word_numbered {e} (of_rule l m) = numbered e (omega arith) (omega arith)
word_numbered of_dead_arm = (DeadArm, refl)

-- a refusal that the code can give, at a place that a rule can have
pub record Listed (e p : ℕ) : Type 0 where
  pub fault : Fault
  pub numbered_as : number_of fault ≡ e
  pub near : p ≤ most_words

listed : {e p : ℕ} → (f : Fault) × (number_of f ≡ e) → p ≤ most_words → Listed e p
listed f l = record { fault = f.0; numbered_as = f.1; near = l }

-- what a refusal's place tells shows that both are listed
reading_listed : (S : Setting) (ws : List ℕ) {e p : ℕ} → read S ws ≡ refused e p → Listed e p
reading_listed S ws h = go (places_help S ws _ _ h)
  where
    go : {e p : ℕ} → Placed S ws e p → Listed e p
    go of_version = listed (WrongVersion, refl) (omega arith)
    go (of_length {e} a b) = listed (numbered e a (omega arith)) (omega arith)
    go (of_end l) = listed (NoneLeft, refl) l
    go (placed.of_word l o i more) = listed (word_numbered o) (omega arith)

-- a success of which Q holds, or such a refusal
pub data Fair {A : Type 0} (Q : A → Type 0) : Reply A → Type 0 where
  succeeds : {a : A} → Q a → Fair Q (success a)
  refused_as : {e p : ℕ} → Listed e p → Fair Q (refusal e p)

pub fair_listed : {A : Type 0} {Q : A → Type 0} {r : Reply A} {e p : ℕ} → Fair Q r → r ≡ refusal e p → Listed e p
fair_listed (succeeds q) h = never cc
fair_listed {e} {p} (refused_as {e = d} {p = i} l) h = let x : d ≡ e = cc in let y : i ≡ p = cc in rw (x, y) at l

-- every such reply is meant by an answer
pub answered : {A : Type 0} {Q : A → Type 0} {r : Reply A} → Fair Q r → (a : Result A Refusal) × (reply_of a ≡ r)
unfolding reply_of
answered (succeeds {a} q) = (Ok a, refl)
answered (refused_as {p = p} l) = (Err (record { fault = l.fault; place = p }), ap (λ e. refusal e p) l.numbered_as)

abbrev pub Few : ℕ → Type 0
Few n = n < word_end

-- of a version and a count
abbrev pub Versed : ℕ × ℕ → Type 0
Versed x = (known x.0 ≡ true) × Few x.1

abbrev pub Any : Unit {0} → Type 0
Any u = Unit {0}

image_counts : (S : Setting) (ws : List ℕ) (t : Term) → read S ws ≡ accepted t → length (words images (image t)) ≤ most_image_words
image_counts S ws t h = let l = accepted_length S ws t h in omega (arith, seven_times_of_words S ws t h, l.1)

pub checked_fair : (S : Setting) (ws : List ℕ) → Fair Any (checked (read S ws))
unfolding checked
checked_fair S ws = go (read S ws) refl
  where
    go : (g : Reading) → read S ws ≡ g → Fair Any (checked g)
    go (accepted t) h = succeeds tt
    go (refused e p) h = refused_as (reading_listed S ws h)

pub measured_fair : (S : Setting) (ws : List ℕ) → Fair Few (measured (read S ws))
unfolding measured
measured_fair S ws = go (read S ws) refl
  where
    go : (g : Reading) → read S ws ≡ g → Fair Few (measured g)
    go (accepted t) h = let k : Few (length (words images (image t))) = omega (arith, image_counts S ws t h) in succeeds k
    go (refused e p) h = refused_as (reading_listed S ws h)

-- of an outcome: its reply is fair
pub record Counted {A : Type 0} (Q : A → Type 0) (o : Outcome A) : Type 0 where
  pub fair : Fair Q o.reply

module _ (Q : ℕ → Type 0) where
  refuses_counted : (f : Fault) (out : List ℕ) → Counted Q (refuses (number_of f) no_place out)
  refuses_counted f out = record { fair = refused_as {p = no_place} (listed (f, refl) (omega arith)) }

  test_counted : (b : Bool) {x y : Outcome ℕ} → (b ≡ true → Counted Q x) → (b ≡ false → Counted Q y) → Counted Q (cond b x y)
  test_counted true h k = h refl
  test_counted false h k = k refl

  -- 9, or as many as there are
  filled_counted : (ws out : List ℕ) → Q (length ws) → Counted Q (filled ws out)
  unfolding filled
  filled_counted ws out h =
      test_counted (ltb (length out) (length ws)) (λ x. refuses_counted NoRoom out) (λ x. record { fair = succeeds h })

pub written_counted : (S : Setting) (ws out : List ℕ) → Counted Few (written (read S ws) out)
unfolding written
written_counted S ws out = go (read S ws) refl
  where
    go : (g : Reading) → read S ws ≡ g → Counted Few (written g out)
    go (accepted t) h = filled_counted Few (words images (image t)) out (omega (arith, image_counts S ws t h))
    go (refused e p) h = record { fair = refused_as (reading_listed S ws h) }

most_most : (f : Form) → most f ≤ most_image_words
most_most Rules = omega arith
most_most Images = omega arith

pub packing_counted : (f : Form) (v : ℕ) (ws out : List ℕ) → Counted Few (packing f v ws out)
unfolding packing
packing_counted f v ws out =
    test_counted Few (known v)
    (λ a. test_counted Few (eqb (length ws) 0) (λ x. refuses_counted Few NoWords out)
    (λ x. test_counted Few (ltb (most f) (length ws)) (λ y. refuses_counted Few TooManyWords out)
    (λ y. filled_counted Few (packed f v ws) out (omega (arith, packed_length f v ws, ltb-false (most f) (length ws) y, most_most f)))))
    (λ a. refuses_counted Few WrongVersion out)

-- words are taken out of a file in a version that there is alone
module _ (f : Form) (bs out : List ℕ) where
  abbrev Taken : ℕ → Type 0
  Taken n = (known (version_in bs) ≡ true) × Few n

  taking_counted : Counted Taken (taking f bs out)
  unfolding taking
  taking_counted =
      test_counted Taken (marked f bs)
      (λ a. test_counted Taken (known (version_in bs))
      (λ b. test_counted Taken (eqb (length bs) (header_bytes + 2 * count_in bs))
      (λ c. test_counted Taken (eqb (count_in bs) 0) (λ x. refuses_counted Taken NoWords out)
      (λ x. test_counted Taken (ltb (most f) (count_in bs)) (λ y. refuses_counted Taken TooManyWords out)
      (λ y. filled_counted Taken (words_at bs header_bytes (count_in bs)) out
      (b, omega (arith, words_at_length bs header_bytes (count_in bs), ltb-false (most f) (count_in bs) y, most_most f)))))
      (λ c. refuses_counted Taken WrongLength out))
      (λ b. refuses_counted Taken WrongVersion out))
      (λ a. refuses_counted Taken WrongMark out)

  pub unpacking_counted : Counted Versed (unpacking f bs out)
  unfolding unpacking versed
  unpacking_counted = record { fair = go taking_counted.fair }
    where
      go : {r : Reply ℕ} → Fair Taken r → Fair Versed (versed (version_in bs) r)
      go (succeeds q) = succeeds q
      go (refused_as l) = refused_as l
