-- A refusal's number tells its fault, and so a reply tells the answer: two answers that mean one reply are one.
-- Assumes nothing.
use Prim.Native.Nat.{ℕ}
use mathlib.Core.List.{[], ◌∷◌}
use lib.ListN.{get_or}
use mathlib.Core.Path.{◌≡◌, refl, sym, ap, ◌∙◌}
use Rattle.std.specs.Prelude.{Result, Ok, Err}
use Rattle.language.specs.Faults.{number_of}
use Rattle.language.specs.Calls.{reply_of}
use Rattle.language.specs.declared.Fault.{Fault}
use Rattle.language.specs.declared.Fault.TheVariants.{NoWords, TooManyWords, NoneLeft, WrongKind, OutOfRange, TooDeep, Unbound, LeftOver, NoRoom, WrongMark, WrongVersion, WrongLength, DeadArm}
use Rattle.language.specs.declared.Refusal.{Refusal}
use Rattle.language.proofs.Clash.{never}

-- the fault that a number tells: those from 0 to 12 in order, and that of any higher one
fault_of : ℕ → Fault
fault_of n =
    get_or (DeadArm ∷ NoWords ∷ TooManyWords ∷ NoneLeft ∷ WrongKind ∷ OutOfRange ∷ TooDeep ∷ Unbound ∷ LeftOver ∷ NoRoom ∷ WrongMark ∷ WrongVersion ∷ WrongLength ∷ []) n DeadArm

told_again : (f : Fault) → fault_of (number_of f) ≡ f
unfolding fault_of
told_again NoWords = refl
told_again TooManyWords = refl
told_again NoneLeft = refl
told_again WrongKind = refl
told_again OutOfRange = refl
told_again TooDeep = refl
told_again Unbound = refl
told_again LeftOver = refl
told_again NoRoom = refl
told_again WrongMark = refl
told_again WrongVersion = refl
told_again WrongLength = refl
told_again DeadArm = refl

pub same_fault : (f g : Fault) → number_of f ≡ number_of g → f ≡ g
same_fault f g e = sym (told_again f) ∙ ap fault_of e ∙ told_again g

refusal_is : (f : Fault) (p : ℕ) → Refusal
refusal_is f p = record { fault = f; place = p }

same_refusal : (q r : Refusal) → number_of q.fault ≡ number_of r.fault → q.place ≡ r.place → q ≡ r
unfolding refusal_is
same_refusal q r e k = ap (λ f. refusal_is f q.place) (same_fault q.fault r.fault e) ∙ ap (refusal_is r.fault) k

pub same_answer : {A : Type 0} (a b : Result A Refusal) → reply_of a ≡ reply_of b → a ≡ b
unfolding reply_of
same_answer (Ok x) (Ok y) e = let f : x ≡ y = cc in ap Ok f
same_answer (Ok x) (Err r) e = never cc
same_answer (Err q) (Ok y) e = never cc
same_answer (Err q) (Err r) e =
    let n : number_of q.fault ≡ number_of r.fault = cc in
    let p : q.place ≡ r.place = cc in
    ap Err (same_refusal q r n p)
