-- `runs::put_down` meets its contract: in each turn one variable more is written, and behind the last all are.
use Rattle.runs.proofs.Runs.{runs}
use Rattle.runs.proofs.put_down.Goals as goal

pub loop-i-preserved : goal.loop-i-preserved
loop-i-preserved c = search runs

pub returns : goal.returns
returns c = search runs
