-- The functions that read terms, lists and arms through each other meet their contracts: each way out is a law of `Ways` that the check finds, but for
-- what one arm more adds to the loop over arms.
use Rattle.std.proofs.Common.{arith, rules}
use Rattle.reading.proofs.Sums.{s_term}
use Rattle.reading.proofs.Ways.{a_more}
use Rattle.reading.proofs.Table.+terms.Goals as goal

pub arms-loop-i-preserved : goal.arms-loop-i-preserved
arms-loop-i-preserved t c = record {
  read = a_more _ _ _ _ _ _ _ _ _ c.loop-i.invariant.read (omega arith) c.in_ok-arity.ensures c.below.ensures.0 (omega arith) c.mark.ensures (omega arith)
      c.loop-i.invariant.table c.in_ok-body.ensures c.and-arms.ensures;
  no_atoms = grind arith;
  few = grind (arith, s_term);
  table = search rules;
}
