-- `taking::skip` meets its contract: what is left to skip ends where the term does.
use Rattle.taking.proofs.Skipping.{skips}
use Rattle.taking.proofs.skip.Goals as goal

pub loop-pieces-init : goal.loop-pieces-init
loop-pieces-init c = search skips

pub opening_at-head-requires : goal.opening_at-head-requires
opening_at-head-requires c = search skips

pub loop-pieces-preserved : goal.loop-pieces-preserved
loop-pieces-preserved c = search skips

pub returns : goal.returns
returns c = search skips
