-- What the table says of the first word of a term that stands somewhere: what follows it is what the term has. The terms are then told apart by
-- what follows their heads.
-- Assumes nothing.
use Prim.Native.Nat.{ℕ, zero, suc, ◌+◌, ◌≤◌}
use mathlib.Core.Path.{◌≡◌, refl, subst}
use mathlib.Core.List.{List}
use native.Mathlib.Omega.{arith}
use Rattle.language.specs.Term.{rules, Term, Terms, Arms, var, fun, call, bind, con, cases, num, op, size, sizeᵃ}
use Rattle.language.specs.Kinds.{most_arguments, most_arms, most_byte, last_operation, operands, row_at, row_of}
use Rattle.language.specs.Words.{head, words}
use Rattle.language.specs.Limits.{Ranged, Rangedᵗ, Rangedᵃ, r_var, r_kvar, r_fun, r_call, r_bind, r_con, r_cases, r_num, r_op}
use Rattle.language.specs.Places.{Held}
use Rattle.language.specs.declared.Parts.{Parts}
use Rattle.language.specs.declared.Parts.TheVariants.{Nothing, Body, FunctionAndArguments, BoundAndBody, CountAndArguments, SubjectAndArms, HighAndLow, TwoParts}
use Rattle.language.specs.declared.Row.{Row}
use Rattle.language.proofs.Heads.{of_kind}
use Rattle.language.proofs.Places.{first_word}
use Rattle.atoms.specs.Standing.{form_at}

-- a term within the ranges of a rule, by what follows its head
pub data Opened : Parts → Term → Type 0 where
  o_var : {i : ℕ} → i ≤ most_byte → Opened Nothing (var i)
  o_fun : {o a : ℕ} {b : Term} → o ≤ 1 → a ≤ most_arguments → Ranged rules b → Opened Body (fun o a b)
  o_call : {f : Term} {ps : Terms} → size ps ≤ most_arguments → Ranged rules f → Rangedᵗ rules ps → Opened FunctionAndArguments (call f ps)
  o_bind : {m b : Term} → Ranged rules m → Ranged rules b → Opened BoundAndBody (bind m b)
  o_con : {t : ℕ} {ps : Terms} → t ≤ most_byte → size ps ≤ most_arguments → Rangedᵗ rules ps → Opened CountAndArguments (con t ps)
  o_cases : {m : Term} {ps : Arms} → sizeᵃ ps ≤ most_arms → Ranged rules m → Rangedᵃ rules ps → Opened SubjectAndArms (cases m ps)
  o_num : {n : ℕ} → Opened HighAndLow (num n)
  o_op : {o : ℕ} {ps : Terms} → o ≤ last_operation → size ps ≡ operands → Rangedᵗ rules ps → Opened TwoParts (op o ps)

-- behind a head word of the kind k there follows what the row of its kind says
by_kind : (k n : ℕ) {w : ℕ} {t : Term} → w ≡ head k n → n ≤ most_byte → Opened (row_at k).parts t → Opened (row_of w).parts t
by_kind k n {w} {t} e h v = subst (λ (r : Row). Opened r.parts t) (of_kind w k n e h refl) v

looked : {t : Term} {s : List ℕ} {at to : ℕ} → Ranged rules t → Held s (words rules t) at to → Opened (form_at s at) t
unfolding words form_at
looked (r_var {i} h) k = by_kind 1 i (first_word k) h (o_var h)
looked (r_kvar a h) k = absurd a
looked (r_fun {o = zero} {a = a} e l h r) k = by_kind 2 (a + 0) (first_word k) (omega arith) (o_fun e h r)
looked (r_fun {o = suc zero} {a = a} e l h r) k = by_kind 3 (a + 0) (first_word k) (omega arith) (o_fun e h r)
looked (r_fun {o = suc (suc o)} e l h r) k = absurd (omega arith)
looked (r_call {ps = ps} l h r rs) k = by_kind 4 (size ps) (first_word k) (omega arith) (o_call (omega arith) r rs)
looked (r_bind r r') k = by_kind 5 0 (first_word k) (omega arith) (o_bind r r')
looked (r_con {t} h l rs) k = by_kind 6 t (first_word k) h (o_con h l rs)
looked (r_cases {ps = ps} l h r rs) k = by_kind 7 (sizeᵃ ps) (first_word k) (omega arith) (o_cases h r rs)
looked (r_num h) k = by_kind 10 0 (first_word k) (omega arith) o_num
looked (r_op {o} h e rs) k = by_kind 11 o (first_word k) (omega arith) (o_op h e rs)

-- the term that stands where P follows the head is one of those that have P
pub opened : {t : Term} {s : List ℕ} {at to : ℕ} {P : Parts} → Ranged rules t → Held s (words rules t) at to → form_at s at ≡ P → Opened P t
opened {t} r k e = subst (λ (Q : Parts). Opened Q t) e (looked r k)
