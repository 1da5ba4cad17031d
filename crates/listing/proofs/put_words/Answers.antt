-- `listing::put_words`: before the first word nothing is written, and in each turn one more is, for which there is room.
use Rattle.std.proofs.Common.{rules}
use Rattle.listing.proofs.Ways.{no_word, word_room, next_word}
use Rattle.listing.proofs.put_words.Goals as goal

pub loop-i-init : goal.loop-i-init
loop-i-init c = search (no_word, rules)

pub put_word-requires : goal.put_word-requires
put_word-requires c = search (word_room, rules)

pub loop-i-preserved : goal.loop-i-preserved
loop-i-preserved c = search (next_word, rules)
