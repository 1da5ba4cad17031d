-- `building::put_arguments` meets its contract. The loop keeps: the references so far are written.
use Rattle.std.proofs.Common.{take}
use Rattle.output.specs.Stored.{Writes}
use Rattle.records.specs.Links.{links}
use Rattle.building.proofs.put_arguments.Given as goal

abbrev pub invariant-loop-value : goal.invariant-loop-value
invariant-loop-value l = Writes (links (take l.value-index l.values)) l.fn.out l.out
