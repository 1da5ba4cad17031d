-- `building::summed` meets its contract. The loop keeps: what is summed up so far is what the values so far tell.
use Rattle.std.proofs.Common.{take}
use Rattle.building.specs.Built.{Summed}
use Rattle.building.proofs.summed.Given as goal

abbrev pub invariant-loop-value : goal.invariant-loop-value
invariant-loop-value l = Summed l.records (take l.value-index l.values) l.sum.grade l.sum.last
