-- `taking::count_at` meets its contract: the second word of what stands there.
use Rattle.taking.proofs.Inside.{counts}
use Rattle.taking.proofs.count_at.Goals as goal

pub returns : goal.returns
returns c = counts c.requires c.from.ensures
