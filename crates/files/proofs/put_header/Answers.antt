-- `files::put_header` meets its contract: the mark, and the version and the count behind it.
use Rattle.std.proofs.Common.{◌∙◌}
use Rattle.files.proofs.Stores.{header_room, header_put}
use Rattle.files.proofs.put_header.Goals as goal

pub put_word-requires-2 : goal.put_word-requires-2
put_word-requires-2 c = header_room _ _ c.requires c.mark.ensures c.put_all.ensures.put c.put_word.ensures.put

pub returns : goal.returns
returns c = record {
  same = c.put_word-2.ensures.same ∙ (c.put_word.ensures.same ∙ c.put_all.ensures.same);
  put = header_put _ _ _ c.mark.ensures c.put_all.ensures.put c.put_word.ensures.put c.put_word-2.ensures.put;
}
