-- What version 1 takes is what it took: it has neither numbers nor operations, and all that it has version 2 has as well. Both are read off the table
-- of kinds, kind by kind, and carried through a term.
-- Assumes nothing.
use Prim.Native.Nat.{ℕ, zero, suc, ◌+◌, ◌<◌, ◌≤◌}
use mathlib.Core.Path.{refl, subst}
use native.Mathlib.Omega.{arith}
use Rattle.language.specs.Term.{Term, Terms, Arms}
use Rattle.language.specs.Setting.{in_version}
use Rattle.language.specs.Kinds.{oldest, newest, known, row_at, Has}
use Rattle.language.specs.Limits.{Kinded, Kindedᵗ, Kindedᵃ, k_var, k_kvar, k_fun, k_call, k_bind, k_con, k_cases, k_num, k_op, k_nil, k_cons, k_none, k_arm, Rule}
use Rattle.trust.specs.Promises.{NoNumbersInVersion1, StillAccepted}
use Rattle.trust.proofs.Accepted.{accepted_are_rules, accepted_kinds}
use Rattle.trust.proofs.Complete.{rules_are_accepted}

-- what holds of every kind that P holds of holds of the kinds of a term
module _ {P Q : ℕ → Type 0} (law : (k : ℕ) → P k → Q k) where
  mutual
    pub each : {t : Term} → Kinded P t → Kinded Q t
    each (k_var x) = k_var (law 1 x)
    each (k_kvar x) = k_kvar (law 9 x)
    each (k_fun {o} x b) = k_fun (law (2 + o) x) (each b)
    each (k_call x f ps) = k_call (law 4 x) (each f) (eachᵗ ps)
    each (k_bind x m b) = k_bind (law 5 x) (each m) (each b)
    each (k_con x ps) = k_con (law 6 x) (eachᵗ ps)
    each (k_cases x m ps) = k_cases (law 7 x) (each m) (eachᵃ ps)
    each (k_num x) = k_num (law 10 x)
    each (k_op x ps) = k_op (law 11 x) (eachᵗ ps)

    pub eachᵗ : {ts : Terms} → Kindedᵗ P ts → Kindedᵗ Q ts
    eachᵗ k_nil = k_nil
    eachᵗ (k_cons t ts) = k_cons (each t) (eachᵗ ts)

    pub eachᵃ : {ps : Arms} → Kindedᵃ P ps → Kindedᵃ Q ps
    eachᵃ k_none = k_none
    eachᵃ (k_arm x b ps) = k_arm (law 8 x) (each b) (eachᵃ ps)

-- the table, read through: the kinds of version 1 are those before the numbers, and none of them ends there
kinds_of_1 : (k : ℕ) → (row_at k).first ≤ oldest → oldest ≤ (row_at k).last → (k < 10) × (newest ≤ (row_at k).last)
kinds_of_1 zero a b = absurd (omega arith)
kinds_of_1 (suc zero) a b = (omega arith, omega arith)
kinds_of_1 (suc (suc zero)) a b = (omega arith, omega arith)
kinds_of_1 (suc (suc (suc zero))) a b = (omega arith, omega arith)
kinds_of_1 (suc (suc (suc (suc zero)))) a b = (omega arith, omega arith)
kinds_of_1 (suc (suc (suc (suc (suc zero))))) a b = (omega arith, omega arith)
kinds_of_1 (suc (suc (suc (suc (suc (suc zero)))))) a b = (omega arith, omega arith)
kinds_of_1 (suc (suc (suc (suc (suc (suc (suc zero))))))) a b = (omega arith, omega arith)
kinds_of_1 (suc (suc (suc (suc (suc (suc (suc (suc zero)))))))) a b = (omega arith, omega arith)
kinds_of_1 (suc (suc (suc (suc (suc (suc (suc (suc (suc zero))))))))) a b = (omega arith, omega arith)
kinds_of_1 (suc (suc (suc (suc (suc (suc (suc (suc (suc (suc zero)))))))))) a b = absurd (omega arith)
kinds_of_1 (suc (suc (suc (suc (suc (suc (suc (suc (suc (suc (suc zero))))))))))) a b = absurd (omega arith)
kinds_of_1 (suc (suc (suc (suc (suc (suc (suc (suc (suc (suc (suc (suc k)))))))))))) a b = absurd (omega arith)

old : (k : ℕ) → Has oldest k → k < 10
old k x = (kinds_of_1 k x.since x.until).0

kept : (k : ℕ) → Has oldest k → Has newest k
kept k x = record { since = omega (arith, x.since); until = (kinds_of_1 k x.since x.until).1 }

pub no_numbers_in_version_1 : NoNumbersInVersion1
no_numbers_in_version_1 S ws t e a = each old (subst (λ v. Kinded (Has v) t) e (accepted_kinds S ws t a))

pub still_accepted : StillAccepted
unfolding known
still_accepted ws t f a =
    let (q, r) = accepted_are_rules (in_version oldest) ws t f a in
    let two : Rule (in_version newest) t
    = record {
      versed = refl;
      kinds = each kept r.kinds;
      closed = r.closed;
      ranged = r.ranged;
      shallow = r.shallow;
      short = r.short;
      live = r.live;
    } in
    rw q (rules_are_accepted (in_version newest) t two)
