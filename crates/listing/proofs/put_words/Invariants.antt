-- `listing::put_words`: the loop keeps that the words so far are written.
use Rattle.std.proofs.Common.{take}
use Rattle.output.specs.Stored.{Writes}
use Rattle.listing.specs.Text.{listed}
use Rattle.listing.proofs.put_words.Given as goal

abbrev pub invariant-loop-i : goal.invariant-loop-i
invariant-loop-i l = Writes (listed l.n 0 (take l.i l.words)) l.fn.out l.out
