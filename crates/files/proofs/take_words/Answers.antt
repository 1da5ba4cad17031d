-- `files::take_words` meets its contract. One word more is stored in each turn.
use Rattle.std.proofs.Common.{arith}
use Rattle.std.proofs.Math.Seq.{length-take-le}
use Rattle.files.proofs.Stores.{words_start, next_word, words_end}
use Rattle.files.proofs.take_words.Goals as goal

pub loop-i-init : goal.loop-i-init
loop-i-init c = words_start _ _ _ _ (length-take-le _ _ c.requires.1)

pub loop-i-preserved : goal.loop-i-preserved
loop-i-preserved c =
    next_word _ _ _ _ _ _ (omega (arith, length-take-le _ _ c.requires.1)) c.word_at.ensures c.loop-i.invariant

pub returns : goal.returns
returns c =
    words_end _ _ _ _ c.loop-i.i _ c.requires.1 (omega (arith, length-take-le _ _ c.requires.1)) c.loop-i.invariant
