-- `desk::print_answer`: an answer counts no more bytes than the text holds.
use Rattle.desk.proofs.Ways.{p_inside, taken}
use Rattle.desk.proofs.print_answer.Goals as goal

pub slice_bounds-text-end : goal.slice_bounds-text-end
slice_bounds-text-end g c = p_inside _ _ c.counted-size.ensures c.answer.ensures

pub slice_bounds-write_all-end : goal.slice_bounds-write_all-end
slice_bounds-write_all-end g c = taken _ _ (p_inside _ _ c.counted-size.ensures c.answer.ensures)
