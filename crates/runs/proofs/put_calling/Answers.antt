-- `runs::put_calling` meets its contract: the end of a chain, run by run.
use Rattle.runs.proofs.Runs.{runs}
use Rattle.runs.proofs.put_calling.Goals as goal

pub returns : goal.returns
returns c = search runs
