-- `runs::put_making` meets its contract: the term that is handed is a constructor.
use Rattle.runs.proofs.Runs.{runs}
use Rattle.runs.proofs.put_making.Goals as goal

pub returns : goal.returns
returns c = search runs
