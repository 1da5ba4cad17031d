-- `files::take_words` meets its contract. The loop keeps: what is still to be stored, stored from i on, gives the whole.
use Rattle.std.proofs.Common.{◌≡◌, ◌+◌, ◌-◌, ◌*◌}
use Rattle.std.proofs.lemmas.List.Edits.{sets}
use Rattle.files.specs.Files.{words_at}
use Rattle.files.proofs.take_words.Given as goal

abbrev pub invariant-loop-i : goal.invariant-loop-i
invariant-loop-i l = sets l.word-items l.i (words_at l.bytes (l.at + 2 * l.i) (l.count - l.i)) ≡ words_at l.bytes l.at l.count
