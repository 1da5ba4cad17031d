-- `records::find` meets its contract: the binding looked for is kept, with fewer bindings before it.
use Rattle.std.proofs.Common.{arith, ◌+◌, ◌-◌}
use Rattle.records.proofs.Ways.{l_found, l_next}
use Rattle.records.proofs.find.Goals as goal

pub loop-preserved : goal.loop-preserved
loop-preserved c = l_next _ _ (c.args.index - c.loop.counter) (c.args.index - (c.loop.counter + 1)) (omega arith) c.link_at-binding.ensures c.loop.invariant

pub returns : goal.returns
returns c = l_found _ _ (c.args.index - c.loop.counter) (omega arith) c.link_at.ensures c.loop.invariant
