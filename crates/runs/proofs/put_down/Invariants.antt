-- The loop of `runs::put_down`: whoever writes the variables that are left, has written all.
use Rattle.runs.proofs.Runs.{Downward}
use Rattle.runs.proofs.put_down.Given as goal

abbrev pub invariant-loop-i : goal.invariant-loop-i
invariant-loop-i l = Downward l.n l.i l.initial.out l.out
