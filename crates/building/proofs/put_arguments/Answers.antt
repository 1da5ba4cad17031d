-- `building::put_arguments` meets its contract: the references so far and the next are written.
use Rattle.std.proofs.Common.{rules}
use Rattle.building.proofs.Ways.{p_none, p_more}
use Rattle.building.proofs.put_arguments.Goals as goal

pub loop-value-init : goal.loop-value-init
loop-value-init c = search (p_none, rules)

pub loop-value-preserved : goal.loop-value-preserved
loop-value-preserved c = search (p_more, rules)
