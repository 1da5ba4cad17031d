-- `files::pack` meets its contract: each way out is one of the definition's. These two are past the check's own search.
use Rattle.std.proofs.Common.{arith, ap}
use mathlib.Core.Bool.{not}
use Rattle.output.proofs.Stored.{put_then}
use Rattle.files.proofs.Calls.{pack_whole, ways}
use Rattle.files.proofs.pack.Goals as goal

pub returns-then-most_words-count : goal.returns-then-most_words-count
returns-then-most_words-count c = search ways

pub returns : goal.returns
returns c = grind (
  arith,
  pack_whole c.args.form c.args.version c.args.words.now c.args.out.now c.is_known.ensures (ap not c.if-not-is_known.false) c.if-count-eq0.false
      c.most_words.ensures.limit c.if-most_words-count.false c.if-out-size.false (put_then c.put_header.ensures.put c.put_words.ensures.put),
)
