-- `writing::write_image` meets its contract: what the translator has written into its output stands in the lent memory.
use Rattle.std.proofs.Common.{arith}
use Rattle.writing.proofs.Whole.{ready, written}
use Rattle.writing.proofs.write_image.Goals as goal

pub put_image-requires : goal.put_image-requires
put_image-requires c = ready c.requires

pub returns : goal.returns
returns c = grind (arith, written c.put_image.ensures.done)
