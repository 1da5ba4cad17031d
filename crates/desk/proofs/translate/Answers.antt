-- `desk::translate`: each way out is one of the definition's, and the words that unpacking counts stand in the buffer.
use Rattle.std.proofs.lemmas.Result.{err_from_is_err_and}
use Rattle.desk.proofs.Ways.{t_long, t_refused, t_inside, t_written, taken}
use Rattle.desk.proofs.translate.Goals as goal

pub returns-then-bytes-gt-MOST_BYTES : goal.returns-then-bytes-gt-MOST_BYTES
returns-then-bytes-gt-MOST_BYTES c = t_long _ _ c.if-bytes-gt-MOST_BYTES.true c.into.ensures

pub returns-in_err-unpacked : goal.returns-in_err-unpacked
returns-in_err-unpacked c =
    let p = err_from_is_err_and c.from_residual.result c.from_residual.ensures.1 in
    rw (p.1, p.2) (t_refused _ _ c.if-bytes-gt-MOST_BYTES.false _ c.in_err-unpacked.ensures)

pub slice_bounds-rule-end : goal.slice_bounds-rule-end
slice_bounds-rule-end c = t_inside _ c.args.out.now c.if-bytes-gt-MOST_BYTES.false _ c.in_ok-unpacked.ensures

pub slice_bounds-write-end : goal.slice_bounds-write-end
slice_bounds-write-end c =
    taken _ _ (t_inside _ c.args.out.now c.if-bytes-gt-MOST_BYTES.false _ c.in_ok-unpacked.ensures)

-- Behind unpacking its words are written as a rule:
-- the image, or why there is none.
pub returns : goal.returns
returns c =
    t_written _ _ c.if-bytes-gt-MOST_BYTES.false _ c.write.result c.in_ok-unpacked.ensures c.write.ensures
