-- How the answers that the code gives stand to the replies that they mean: no two answers mean one reply. What follows of outcomes is shown once, over
-- any type of answers; what is of unpacking's alone comes after it.
-- Assumes nothing.
use Prim.Native.Nat.{ℕ}
use mathlib.Core.Path.{◌≡◌, refl, sym, ap, ◌∙◌}
use mathlib.Core.Logic.{◌↔◌}
use mathlib.Core.List.{List}
use Rattle.std.specs.Prelude.{Result, Ok, Err}
use Rattle.language.specs.Calls.{Reply, Outcome, success, refusal, reply_of}
use Rattle.language.specs.declared.Refusal.{Refusal}
use Rattle.language.proofs.Faults.{same_answer}
use Rattle.files.specs.Files.{unpacked_reply}
use Rattle.files.specs.declared.Unpacked.{Unpacked}
use Rattle.rules.proofs.Replies.{Fair, succeeds, refused_as}

module _ {A B : Type 0} (mean : B → Reply A) where
  -- an answer with the output that the call left
  abbrev tells : B × List ℕ → Outcome A
  tells r = record { reply = mean r.0; output = r.1 }

  pub same_told : ((a b : B) → mean a ≡ mean b → a ≡ b) → {o : Outcome A} (x y : B × List ℕ) → tells x ≡ o → tells y ≡ o → x ≡ y
  same_told one x y e f = let t = e ∙ sym f in λ i. (one x.0 y.0 (ap (λ q. q.reply) t) i, ap (λ q. q.output) t i)

  pub outcome_answer : (x : Outcome A) → (b : B) × (mean b ≡ x.reply) → (r : B × List ℕ) × (tells r ≡ x)
  outcome_answer x a = ((a.0, x.output), λ i. record { reply = a.1 i; output = x.output })

  -- an answer means a refusal exactly when the call's reply is that one
  pub reply_refuses : (x : Outcome A) (r : B × List ℕ) (e p : ℕ) → tells r ≡ x → (mean r.0 ≡ refusal e p) ↔ (x.reply ≡ refusal e p)
  reply_refuses x r e p h = let k : mean r.0 ≡ x.reply = ap (λ y. y.reply) h in (λ q. sym k ∙ q, λ q. k ∙ q)

  -- where an outcome that refuses has the output as it was, so has the answer with the output
  pub kept : {out : List ℕ} (x : Outcome A) (r : B × List ℕ) (e p : ℕ) → (x.reply ≡ refusal e p → x.output ≡ out) → tells r ≡ x → mean r.0 ≡ refusal e p
      → r.1 ≡ out
  kept x r e p s h q = ap (λ y. y.output) h ∙ s ((reply_refuses x r e p h).0 q)

-- unpacking's reply, with the version and the count in the code's struct
restored : Reply (ℕ × ℕ) → Reply Unpacked
restored (success (v, n)) = success (record { version = v; count = n })
restored (refusal e p) = refusal e p

restores : (a : Result Unpacked Refusal) → restored (unpacked_reply a) ≡ reply_of a
unfolding restored unpacked_reply reply_of
restores (Ok u) = refl
restores (Err r) = refl

pub same_unpacked : (a b : Result Unpacked Refusal) → unpacked_reply a ≡ unpacked_reply b → a ≡ b
same_unpacked a b h = same_answer a b (sym (restores a) ∙ ap restored h ∙ restores b)

pub unpacked_answered : {Q : ℕ × ℕ → Type 0} {r : Reply (ℕ × ℕ)} → Fair Q r → (a : Result Unpacked Refusal) × (unpacked_reply a ≡ r)
unfolding unpacked_reply
unpacked_answered (succeeds {a = (v, n)} q) = (Ok (record { version = v; count = n }), refl)
unpacked_answered (refused_as {p = p} l) = (Err (record { fault = l.fault; place = p }), ap (λ e. refusal e p) l.numbered_as)
