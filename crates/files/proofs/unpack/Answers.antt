-- `files::unpack` meets its contract: what was taken, with the version that the file carries.
use Rattle.std.proofs.Common.{arith}
use Rattle.std.proofs.lemmas.Result.{err_from_is_err_and}
use Rattle.files.proofs.Calls.{unpack_refused, unpack_long, unpack_words}
use Rattle.files.proofs.unpack.Goals as goal

pub word_at-version-requires : goal.word_at-version-requires
word_at-version-requires c = unpack_long _ _ _ _ c.in_ok-count.ensures (omega arith)

pub returns-in_err-count : goal.returns-in_err-count
returns-in_err-count c =
    let p = err_from_is_err_and c.from_residual.result c.from_residual.ensures.1 in
    rw (p.1, p.2) (unpack_refused _ _ _ _ c.in_err-count.ensures)

pub returns : goal.returns
returns c = unpack_words _ _ _ _ c.in_ok-count.ensures c.word_at-version.ensures
