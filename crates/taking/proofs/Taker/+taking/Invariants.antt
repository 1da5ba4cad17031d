-- The functions that take an atom, a constructor and some atoms end: the words behind the place fall. The loop over some atoms keeps: what is taken so
-- far is the values of the first of them.
use Rattle.std.proofs.Common.{◌+◌, ◌-◌, ◌*◌, ◌≡◌, length}
use Rattle.taking.proofs.All.{Going}
use Rattle.taking.proofs.Taker.+taking.Given as goal

abbrev pub decreases-build : goal.decreases-build
decreases-build l = 3 * (length l.self.now.image.now - l.at)

abbrev pub decreases-take : goal.decreases-take
decreases-take l = 3 * (length l.self.now.image.now - l.at) + 1

abbrev pub decreases-take_all : goal.decreases-take_all
decreases-take_all l = 3 * (length l.self.now.image.now - l.at) + 2

abbrev pub invariant-take_all-loop-i : goal.invariant-take_all-loop-i
invariant-take_all-loop-i l =
    (l.records.words.ghost_name ≡ l.fn.records.words.ghost_name)
    × Going l.self.image.now l.fn.records.words.now l.records.words.now l.fn.values l.values l.fn.records.free l.records.free l.at l.i l.place l.self.bound
