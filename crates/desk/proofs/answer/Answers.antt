-- `desk::answer`: what is shown is the text of the translation's outcome, and the words that are shown stand in the image.
use Rattle.desk.proofs.Ways.{a_inside, a_shown, taken}
use Rattle.desk.proofs.answer.Goals as goal

pub slice_bounds-image-end : goal.slice_bounds-image-end
slice_bounds-image-end c = a_inside c.counted-count.ensures c.translate-reply.ensures

pub slice_bounds-show-end : goal.slice_bounds-show-end
slice_bounds-show-end c = taken _ _ (a_inside c.counted-count.ensures c.translate-reply.ensures)

pub returns : goal.returns
returns c = a_shown _ _ _ c.counted-count.ensures c.translate-reply.ensures c.numbered.ensures c.show.ensures
