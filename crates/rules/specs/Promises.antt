-- What a reader may rely on: demands 1 and 2, and the way from the words lent to demand 3's run, each of whatever outcome the contracts allow.
use Rattle.std.specs.Prelude.{ℕ, ◌<◌, ◌≤◌, ◌≡◌, ◌↔◌, List, ◌++◌, length, take, drop, Result, Ok}
use Rattle.language.specs.Term.{rules, images, Term}
use Rattle.language.specs.Setting.{Setting}
use Rattle.language.specs.Words.{words}
use Rattle.language.specs.Limits.{Ranged}
use Rattle.language.specs.Dead.{Live}
use Rattle.language.specs.Image.{image}
use Rattle.language.specs.Read.{no_place, read, accepted, refused}
use Rattle.language.specs.Calls.{refusal, reply_of}
use Rattle.language.specs.declared.Refusal.{Refusal}
use Rattle.trust.specs.Promises.{Fit}
use Rattle.meaning.specs.Promises.{Comes, FromRule}
use Rattle.files.specs.Files.{packing, unpacking, unpacked_reply}
use Rattle.rules.specs.PublicCalls.{Call, check, measure, write, pack, unpack, Returned, Allows}

-- "prove that two outcomes allowed by it are equal": of every public call
abbrev pub Determined : Type 0
Determined = (c : Call) (x y : Returned c) → Allows c x → Allows c y → x ≡ y

-- the result r of a call is the refusal with the number e and the place p
abbrev pub Refuses : (c : Call) → Returned c → ℕ → ℕ → Type 0
Refuses (check S ws) r e p = reply_of r ≡ refusal e p
Refuses (measure S ws) r e p = reply_of r ≡ refusal e p
Refuses (write S ws out) r e p = reply_of r.0 ≡ refusal e p
Refuses (pack f v ws out) r e p = reply_of r.0 ≡ refusal e p
Refuses (unpack f bs out) r e p = unpacked_reply r.0 ≡ refusal e p

-- what a call with the result r was lent to write into is as it was; nothing of the kind is lent to the checking and to the measuring call
abbrev pub Unchanged : (c : Call) → Returned c → Type 0
Unchanged (check S ws) r = Unit {0}
Unchanged (measure S ws) r = Unit {0}
Unchanged (write S ws out) r = r.1 ≡ out
Unchanged (pack f v ws out) r = r.1 ≡ out
Unchanged (unpack f bs out) r = r.1 ≡ out

-- why the words ws are not written into the output out: the refusal of the checks in order, with the place of the word tested; "Then, in the writing
-- call only, 9.": "the lent output is shorter than what is to be written"
pub data Unwritten (S : Setting) (ws out : List ℕ) : ℕ → ℕ → Type 0 where
  refusing : {e p : ℕ} → read S ws ≡ refused e p → Unwritten S ws out e p
  no_room : {t : Term} → read S ws ≡ accepted t → length out < length (words images (image t)) → Unwritten S ws out 9 no_place

-- "the first fault met is the reply": the refusal that a call's tests in order come to
abbrev pub Faulted : Call → ℕ → ℕ → Type 0
Faulted (check S ws) e p = read S ws ≡ refused e p
Faulted (measure S ws) e p = read S ws ≡ refused e p
Faulted (write S ws out) e p = Unwritten S ws out e p
Faulted (pack f v ws out) e p = (packing f v ws out).reply ≡ refusal e p
Faulted (unpack f bs out) e p = (unpacking f bs out).reply ≡ refusal e p

-- demand 1: every call, whatever it is told and whatever words or bytes and whatever output are lent to it, gets a reply; that is the refusal e at
-- the place p exactly when the call's tests in order come to it; and a refusal "leaves all that was lent unchanged"
pub record Replies (c : Call) : Type 0 where
  pub replied : (r : Returned c) × Allows c r
  pub faulted : (r : Returned c) (e p : ℕ) → Allows c r → Refuses c r e p ↔ Faulted c e p
  pub unchanged : (r : Returned c) (e p : ℕ) → Allows c r → Refuses c r e p → Unchanged c r

abbrev pub Demand1 : Type 0
Demand1 = (c : Call) → Replies c

-- demand 2: an accepted rule's image is written word by word where it fits, and 9 is given only where it is longer than the output
pub record Written (t : Term) (out o : List ℕ) (a : Result ℕ Refusal) : Type 0 where
  pub fits : length (words images (image t)) ≤ length out → (a ≡ Ok (length (words images (image t))))
      × (o ≡ words images (image t) ++ drop (length (words images (image t))) out)
  pub longer : (p : ℕ) → reply_of a ≡ refusal 9 p → length out < length (words images (image t))

abbrev pub Demand2 : Type 0
Demand2 = (S : Setting) (ws out o : List ℕ) (a : Result ℕ Refusal) (t : Term) → read S ws ≡ accepted t → Allows (write S ws out) (a, o) → Written t out o a

-- from the words lent to the run, demand 3 and document 02, Wish 10: the words at the front of the output are those of one term in an image's ranges
-- alone, and that term comes to w exactly when the rule comes to a value with the carried form w, with as many lets and matches and the sum's
-- applications. The words lent are 16-bit words, which bounds the numbers in them
pub record Front (ws : List ℕ) : Type 0 where
  pub term : Term
  pub ranged : Ranged images term
  pub laid : words images term ≡ ws
  pub only : (u : Term) → Ranged images u → words images u ≡ ws → u ≡ term

abbrev pub WrittenRuns : Type 0
WrittenRuns =
    (S : Setting) (ws out o : List ℕ) (n : ℕ) (t : Term) → Fit ws → read S ws ≡ accepted t → Allows (write S ws out) (Ok n, o)
    → (f : Front (take n o)) × ((w : Term) (a l m : ℕ) → FromRule t w a l m ↔ Comes f.term w a l m)

-- document 02, Wish 4: "Refuse such rules." No public call accepts the words of a term with a dead arm: none succeeds on them, whatever it is told
pub record NoneAccepts (S : Setting) (ws : List ℕ) : Type 0 where
  pub checks : Allows (check S ws) (Ok tt) → ⊥
  pub measures : (n : ℕ) → Allows (measure S ws) (Ok n) → ⊥
  pub writes : (n : ℕ) (out o : List ℕ) → Allows (write S ws out) (Ok n, o) → ⊥

abbrev pub NoDeadArms : Type 0
NoDeadArms = (S : Setting) (t : Term) → Ranged rules t → (Live t → ⊥) → NoneAccepts S (words rules t)
