use Rattle.std.proofs.Common.{refl}
use Rattle.output.proofs.Stored.{run_stored}
use Rattle.output.proofs.Output.put_all.Goals as goal

pub returns : goal.returns
returns g c = record { same = refl; put = run_stored _ _ _ c.requires c.copy_from_slice.ensures.after }
