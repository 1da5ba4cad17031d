-- `rules::write` meets its contract: where the words were measured, each way out is one of the definition's.
use Rattle.std.proofs.Common.{arith}
use Rattle.trust.proofs.Ranges.{slice_fits}
use Rattle.rules.proofs.Ways.{w_room, w_short, w_whole}
use Rattle.rules.proofs.write.Goals as goal

pub returns-then-out-count : goal.returns-then-out-count
returns-then-out-count c =
    w_short _ _ _ (search slice_fits) _ c.in_ok-count.ensures c.if-out-count.true c.into.ensures

pub write_image-requires : goal.write_image-requires
write_image-requires c = w_room _ _ _ (search slice_fits) _ c.in_ok-count.ensures (omega arith)

pub returns : goal.returns
returns c = w_whole _ _ _ (search slice_fits) _ c.in_ok-count.ensures (omega arith) c.write_image.ensures
