-- `taking::skip` meets its contract. The loop keeps: what is left to skip ends where the term does.
use Rattle.std.proofs.Common.{◌-◌, length}
use Rattle.taking.proofs.Skipping.{Going}
use Rattle.taking.proofs.skip.Given as goal

abbrev pub invariant-loop-pieces : goal.invariant-loop-pieces
invariant-loop-pieces l = Going l.image l.at l.next l.pieces

abbrev pub decreases-loop-pieces : goal.decreases-loop-pieces
decreases-loop-pieces l = length l.image - l.next
