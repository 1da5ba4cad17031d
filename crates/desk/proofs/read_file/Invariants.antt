-- `desk::read_file`: what has arrived lies within the buffer, and each turn that goes on leaves less of it.
use Rattle.std.proofs.Common.{◌-◌, ◌≡◌, ◌≤◌, length}
use Rattle.desk.proofs.read_file.Given as goal

abbrev pub invariant-loop-arrived : goal.invariant-loop-arrived
invariant-loop-arrived g l = (l.arrived ≤ length l.buffer) × (length l.buffer ≡ length l.initial.buffer)

abbrev pub decreases-loop-arrived : goal.decreases-loop-arrived
decreases-loop-arrived g l = length l.initial.buffer - l.arrived
