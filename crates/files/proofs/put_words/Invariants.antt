-- `files::put_words` meets its contract. The loop keeps: the words so far are written.
use Rattle.std.proofs.Common.{take}
use Rattle.output.specs.Stored.{Writes}
use Rattle.files.specs.Files.{bytes_of}
use Rattle.files.proofs.put_words.Given as goal

abbrev pub invariant-loop-word : goal.invariant-loop-word
invariant-loop-word l = Writes (bytes_of (take l.word-index l.words)) l.fn.out l.out
