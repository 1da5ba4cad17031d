-- What a head word opens, kind by kind. The table has twelve rows; `Opened` names those that may stand somewhere, each with its kind, so that a proof
-- that goes by cases on it sees the row's columns.
-- Assumes nothing.
use Prim.Native.Nat.{ℕ, zero, suc, ◌/◌, ◌%◌, ◌<◌, ◌≤◌}
use mathlib.Core.Path.{◌≡◌, refl, subst}
use mathlib.Core.Bool.{Bool, true, false, ◌&&◌, cond, and-eq-true_iff}
use native.Mathlib.Omega.{arith}
use lib.Dec.{ltb, leb, eqb}
use borrow.Author.Tests.{eqb-true, leb-true, ltb-false}
use Rattle.language.specs.Kinds.{most_arguments, most_arms, most_byte, last_operation, newest, numbered, at_term, at_arm, row_in, row, row_at, Has, row_of, allowed, Refused, Opens, head_of}
use Rattle.language.specs.declared.Parts.TheVariants.{Nothing, Body, FunctionAndArguments, BoundAndBody, CountAndArguments, SubjectAndArms, ArityAndBody, HighAndLow, TwoParts}
use Rattle.language.specs.declared.Row.{Row}
use Rattle.language.proofs.Clash.{never}

-- the kinds that may stand somewhere in a rule, with their rows
pub data Opened : ℕ → Row → Type 0 where
  o_var : Opened 1 (row at_term 0 most_byte 0 Nothing)
  o_fun : Opened 2 (row at_term 1 most_arguments 0 Body)
  o_rec : Opened 3 (row at_term 1 most_arguments 1 Body)
  o_call : Opened 4 (row at_term 1 most_arguments 0 FunctionAndArguments)
  o_let : Opened 5 (row at_term 0 0 1 BoundAndBody)
  o_con : Opened 6 (row at_term 0 most_byte 0 CountAndArguments)
  o_match : Opened 7 (row at_term 1 most_arms 0 SubjectAndArms)
  o_arm : Opened 8 (row at_arm 0 most_byte 0 ArityAndBody)
  o_num : Opened 10 (row_in numbered newest at_term 0 0 0 HighAndLow)
  o_op : Opened 11 (row_in numbered newest at_term 0 last_operation 0 TwoParts)

opened_at : (k : ℕ) → 0 < (row_at k).stands → Opened k (row_at k)
opened_at zero h = absurd (omega arith)
opened_at (suc zero) h = o_var
opened_at (suc (suc zero)) h = o_fun
opened_at (suc (suc (suc zero))) h = o_rec
opened_at (suc (suc (suc (suc zero)))) h = o_call
opened_at (suc (suc (suc (suc (suc zero))))) h = o_let
opened_at (suc (suc (suc (suc (suc (suc zero)))))) h = o_con
opened_at (suc (suc (suc (suc (suc (suc (suc zero))))))) h = o_match
opened_at (suc (suc (suc (suc (suc (suc (suc (suc zero)))))))) h = o_arm
opened_at (suc (suc (suc (suc (suc (suc (suc (suc (suc zero))))))))) h = absurd (omega arith)
opened_at (suc (suc (suc (suc (suc (suc (suc (suc (suc (suc zero)))))))))) h = o_num
opened_at (suc (suc (suc (suc (suc (suc (suc (suc (suc (suc (suc zero))))))))))) h = o_op
opened_at (suc (suc (suc (suc (suc (suc (suc (suc (suc (suc (suc (suc k)))))))))))) h = absurd (omega arith)

-- what the tests of a head that opens a row showed: the kind stands in the version, the row may stand there, and the low byte is in its range
pub record Passed (v w q : ℕ) (r : Row) : Type 0 where
  pub opened : Opened (w / 256) r
  pub versed : Has v (w / 256)
  pub stands : r.stands ≡ q
  pub low : r.low ≤ w % 256
  pub high : w % 256 ≤ r.high

by_tests : (x y z : Bool) (r r' : Row) → cond x (cond y (Refused 5) (cond z (Refused 5) (Opens r))) (Refused 4) ≡ Opens r'
    → (x ≡ true) × (y ≡ false) × (z ≡ false) × (r ≡ r')
by_tests true false false r r' e = (refl, refl, refl, cc)
by_tests true false true r r' e = never cc
by_tests true true z r r' e = never cc
by_tests false y z r r' e = never cc

pub passed : (v q w : ℕ) (r : Row) → 0 < q → head_of v q w ≡ Opens r → Passed v w q r
unfolding head_of allowed row_of
passed v q w r h e =
    let o : Row = row_of w in
    let t = by_tests (allowed o v q) (ltb (w % 256) o.low) (ltb o.high (w % 256)) o r e in
    let a = (and-eq-true_iff (eqb o.stands q) (leb o.first v && leb v o.last)).0 t.0 in
    let b = (and-eq-true_iff (leb o.first v) (leb v o.last)).0 a.1 in
    let s : o.stands ≡ q = eqb-true o.stands q a.0 in
    let p : Passed v w q o
    = record {
      opened = opened_at (w / 256) (omega arith);
      versed = record { since = leb-true o.first v b.0; until = leb-true v o.last b.1 };
      stands = s;
      low = ltb-false (w % 256) o.low t.1;
      high = ltb-false o.high (w % 256) t.2;
    } in
    subst (Passed v w q) t.3 p
