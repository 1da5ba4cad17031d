-- `corpus::report`: the words that are counted stand in the image.
use Rattle.desk.proofs.Ways.{taken, written_inside}
use Rattle.corpus.proofs.report.Goals as goal

pub slice_bounds-image-end : goal.slice_bounds-image-end
slice_bounds-image-end g c = written_inside _ _ _ c.in-Ok.ensures

pub slice_bounds-print_image-end : goal.slice_bounds-print_image-end
slice_bounds-print_image-end g c = taken _ _ (written_inside _ _ _ c.in-Ok.ensures)
