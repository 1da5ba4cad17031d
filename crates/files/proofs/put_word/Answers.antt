-- `files::put_word` meets its contract: the library's two bytes are the definition's.
use Rattle.files.proofs.Stores.{word_put}
use Rattle.files.proofs.put_word.Goals as goal

pub returns : goal.returns
returns c = record { same = c.put_all.ensures.same; put = word_put _ c.ranges.w.fits c.to_le_bytes.ensures c.put_all.ensures.put }
