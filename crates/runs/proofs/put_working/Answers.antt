-- `runs::put_working` meets its contract: the term that is handed is an operation.
use Rattle.runs.proofs.Runs.{runs}
use Rattle.runs.proofs.put_working.Goals as goal

pub returns : goal.returns
returns c = search runs
