-- The promises of specs/Promises.antt. The definitions determine the reply and the output, and no two numbers mean one reply: each number is found
-- again from what it means.
-- Assumes nothing.
use Prim.Native.Nat.{ℕ, ◌/◌, ◌%◌, ◌<◌, ◌≤◌}
use mathlib.Core.Path.{◌≡◌, refl, sym, ap, ◌∙◌}
use mathlib.Core.Bool.{Bool, true, false, cond}
use mathlib.Core.List.{List}
use native.Mathlib.Omega.{arith}
use lib.Dec.{ltb, eqb}
use borrow.Author.Tests.{ltb-false, eqb-true}
use Rattle.std.specs.Prelude.{Option}
use Rattle.language.specs.Faults.{number_of}
use Rattle.language.specs.Calls.{Reply, Outcome, success, refusal}
use Rattle.language.specs.declared.Fault.{Fault}
use Rattle.language.specs.declared.Fault.TheVariants.{NoWords, TooManyWords, NoneLeft, WrongKind, OutOfRange, TooDeep, Unbound, LeftOver, NoRoom, WrongMark, WrongVersion, WrongLength, DeadArm}
use Rattle.language.proofs.Clash.{never}
use Rattle.trust.specs.Promises.{of_dead_arm}
use Rattle.files.specs.declared.Form.{Form}
use Rattle.rules.proofs.Replies.{Listed, Fair, succeeds, refused_as, fair_listed, Any, Few, Versed, checked_fair, measured_fair, written_counted, packing_counted, unpacking_counted}
use Rattle.peatnickel.specs.Numbers.{refusals, number_in, place_in, answer_of, checked_of, versions, versed_number, unpacked_of, refusal_number}
use Rattle.peatnickel.specs.Calls.{check, measure, write, pack, unpack, meant, Formed, formed, formless}
use Rattle.peatnickel.specs.Promises.{NumberDetermined, Number, base, of_word, Reports, Returnable, done, refuses, NumbersRange}

-- a fault's number is listed, and is not 0
numbered : (f : Fault) → Number (number_of f) × (1 ≤ number_of f)
numbered NoWords = (base {e = 1} (omega arith), omega arith)
numbered TooManyWords = (base {e = 2} (omega arith), omega arith)
numbered NoneLeft = (base {e = 3} (omega arith), omega arith)
numbered WrongKind = (base {e = 4} (omega arith), omega arith)
numbered OutOfRange = (base {e = 5} (omega arith), omega arith)
numbered TooDeep = (base {e = 6} (omega arith), omega arith)
numbered Unbound = (base {e = 7} (omega arith), omega arith)
numbered LeftOver = (base {e = 8} (omega arith), omega arith)
numbered NoRoom = (base {e = 9} (omega arith), omega arith)
numbered WrongMark = (base {e = 10} (omega arith), omega arith)
numbered WrongVersion = (base {e = 11} (omega arith), omega arith)
numbered WrongLength = (base {e = 12} (omega arith), omega arith)
numbered DeadArm = (of_word of_dead_arm, omega arith)

listed_number : {e p : ℕ} → Listed e p → Number e × (1 ≤ e)
listed_number l = rw l.numbered_as at (numbered l.fault)

-- the number of a reply, of one of unpacking's, and of a check's
number : Reply ℕ → ℕ
number (success n) = n
number (refusal e p) = refusal_number e p

unpacked_number : Reply (ℕ × ℕ) → ℕ
unpacked_number (success (v, n)) = versed_number v n
unpacked_number (refusal e p) = refusal_number e p

check_number : Reply (Unit {0}) → ℕ
check_number (success tt) = 0
check_number (refusal e p) = refusal_number e p

above : {n : ℕ} → refusals ≤ n → refusal_number (number_in n) (place_in n) ≡ n
above h = omega arith

number_again : (n : ℕ) → number (answer_of n) ≡ n
unfolding answer_of number
number_again n = go (ltb n refusals) refl
  where
    go : (b : Bool) → ltb n refusals ≡ b → number (cond b (success n) (refusal (number_in n) (place_in n))) ≡ n
    go true h = refl
    go false h = above (ltb-false n refusals h)

unpacked_again : (n : ℕ) → unpacked_number (unpacked_of n) ≡ n
unfolding unpacked_of unpacked_number
unpacked_again n = go (ltb (n % versions) refusals) refl
  where
    go : (b : Bool) → ltb (n % versions) refusals ≡ b
        → unpacked_number (cond b (success (n / versions, n % versions)) (refusal (number_in n) (place_in n))) ≡ n
    go true h = omega arith
    go false h = above {n = n} (omega (arith, ltb-false (n % versions) refusals h))

-- so no two numbers mean one reply
same : {B : Type 0} (mean : ℕ → B) (number_of_lem : B → ℕ) → ((n : ℕ) → number_of_lem (mean n) ≡ n) → (m n : ℕ) → mean m ≡ mean n → m ≡ n
same mean number_of_lem again m n h = sym (again m) ∙ ap number_of_lem h ∙ again n

same_number : (m n : ℕ) → answer_of m ≡ answer_of n → m ≡ n
same_number = same answer_of number number_again

same_unpacked : (m n : ℕ) → unpacked_of m ≡ unpacked_of n → m ≡ n
same_unpacked = same unpacked_of unpacked_number unpacked_again

-- a number below the refusals that is not 0 would mean a refusal that document 01 does not list
check_number_again : (n : ℕ) → Fair Any (checked_of n) → check_number (checked_of n) ≡ n
unfolding checked_of check_number
check_number_again n = go (eqb n 0) refl
  where
    go : (b : Bool) → eqb n 0 ≡ b → Fair Any (cond b (success tt) (refusal (number_in n) (place_in n)))
        → check_number (cond b (success tt) (refusal (number_in n) (place_in n))) ≡ n
    go true h f = sym (eqb-true n 0 h)
    go false h f = let l : 1 ≤ number_in n = (listed_number (fair_listed f refl)).1 in omega arith

-- a number and an output are determined by the reply meant and the output
module _ {A : Type 0} {mean : ℕ → Reply A} (one : (m n : ℕ) → mean m ≡ mean n → m ≡ n) where
  same_returned : (x y : ℕ × List ℕ) → meant mean x ≡ meant mean y → x ≡ y
  same_returned x y e = λ i. (one x.0 y.0 (ap (λ q. q.reply) e) i, ap (λ q. q.output) e i)

  same_formed : {t : Option Form} {O : Form → Outcome A} {out : List ℕ} {x y : ℕ × List ℕ} → Formed t mean O out x → Formed t mean O out y → x ≡ y
  same_formed {O = O} {x = x} {y = y} (formed f p a) (formed g q b) =
      let z : f ≡ g = cc in same_returned x y (a ∙ ap O z ∙ sym b)
  same_formed (formed f p a) (formless q m o) = never cc
  same_formed (formless p n o) (formed f q a) = never cc
  same_formed {x = x} {y = y} (formless p n o) (formless q m k) = λ i. ((n ∙ sym m) i, (o ∙ sym k) i)

pub number_determined : NumberDetermined
number_determined (check S ws) x y h k =
    sym (check_number_again x (rw h (checked_fair S ws))) ∙ ap check_number (h ∙ sym k) ∙ check_number_again y (rw k (checked_fair S ws))
number_determined (measure S ws) x y h k = same_number x y (h ∙ sym k)
number_determined (write S ws out) x y h k = same_returned same_number x y (h ∙ sym k)
number_determined (pack n v ws out) x y h k = same_formed same_number h k
number_determined (unpack n bs out) x y h k = same_formed same_unpacked h k

-- what a fair reply's number can be
answer_range : (n : ℕ) → Fair Few (answer_of n) → Returnable (λ m. m < refusals) n
unfolding number
answer_range n f = rw (← number_again n) (go f)
  where
    go : {r : Reply ℕ} → Fair Few r → Returnable (λ m. m < refusals) (number r)
    go (succeeds l) = done l
    go (refused_as l) = refuses (listed_number l).0 l.near

unpacked_range : (n : ℕ) → Fair Versed (unpacked_of n) → Returnable Reports n
unfolding unpacked_number
unpacked_range n f = rw (← unpacked_again n) (go f)
  where
    go : {r : Reply (ℕ × ℕ)} → Fair Versed r → Returnable Reports (unpacked_number r)
    go (succeeds {a = (v, m)} l) = done record { version = v; count = m; is = refl; versed = l.0; below = l.1 }
    go (refused_as l) = refuses (listed_number l).0 l.near

check_range : (n : ℕ) → Fair Any (checked_of n) → Returnable (λ m. m ≡ 0) n
unfolding check_number
check_range n f = rw (← check_number_again n f) (go f)
  where
    go : {r : Reply (Unit {0})} → Fair Any r → Returnable (λ m. m ≡ 0) (check_number r)
    go (succeeds {a = tt} u) = done refl
    go (refused_as l) = refuses (listed_number l).0 l.near

formed_range : {Q : ℕ → Type 0} {A : Type 0} {B : A → Type 0} {t : Option Form} {mean : ℕ → Reply A} {O : Form → Outcome A} {out : List ℕ} {r : ℕ × List ℕ}
    → ((f : Form) → Fair B (O f).reply) → ((n : ℕ) → Fair B (mean n) → Returnable Q n) → Formed t mean O out r → Returnable Q r.0
formed_range {r = r} fair range (formed f p a) = range r.0 (rw (ap (λ x. x.reply) a) (fair f))
formed_range fair range (formless p n o) = rw n (refuses {e = 0} {p = 0} (base {e = 0} (omega arith)) (omega arith))

pub numbers_range : NumbersRange
numbers_range (check S ws) r h = check_range r (rw h (checked_fair S ws))
numbers_range (measure S ws) r h = answer_range r (rw h (measured_fair S ws))
numbers_range (write S ws out) r h = answer_range r.0 (rw (ap (λ x. x.reply) h) (written_counted S ws out).fair)
numbers_range (pack n v ws out) r h = formed_range (λ f. (packing_counted f v ws out).fair) answer_range h
numbers_range (unpack n bs out) r h = formed_range (λ f. (unpacking_counted f bs out).fair) unpacked_range h
