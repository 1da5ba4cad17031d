-- `corpus::report_all`: each record leaves fewer bytes behind it.
use Rattle.std.proofs.Common.{length}
use Rattle.corpus.proofs.report_all.Given as goal

abbrev pub decreases-loop-record : goal.decreases-loop-record
decreases-loop-record g l = length l.rest
