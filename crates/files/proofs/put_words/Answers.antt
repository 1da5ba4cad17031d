-- `files::put_words` meets its contract: one word more is written in each turn, and there is room for it.
use Rattle.std.proofs.Common.{rules}
use Rattle.files.proofs.Stores.{no_bytes, bytes_room, next_bytes}
use Rattle.files.proofs.put_words.Goals as goal

pub loop-word-init : goal.loop-word-init
loop-word-init c = search (no_bytes, rules)

pub put_word-requires : goal.put_word-requires
put_word-requires c = search (bytes_room, rules)

pub loop-word-preserved : goal.loop-word-preserved
loop-word-preserved c = search (next_bytes, rules)
