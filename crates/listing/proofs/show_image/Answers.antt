-- `listing::show_image`: where the line and the words have room, they are written one behind the other.
use Rattle.std.proofs.Common.{arith}
use Rattle.output.proofs.Stored.{put_then}
use Rattle.listing.proofs.Ways.{behind_two, behind_three, image_whole}
use Rattle.listing.proofs.show_image.Goals as goal

pub put-requires : goal.put-requires
put-requires c = behind_two c.put_all.ensures.put c.put_number.ensures.put 1 (omega arith)

pub put_words-requires : goal.put_words-requires
put_words-requires c = behind_three c.put_all.ensures.put c.put_number.ensures.put _ c.put.ensures.put (omega arith)

pub returns : goal.returns
returns c = grind (
  arith,
  image_whole c.args.n c.args.words.now c.args.out.now c.digits-number.ensures.spelled (omega arith) (omega arith)
      (put_then (put_then (put_then c.put_all.ensures.put c.put_number.ensures.put) c.put.ensures.put) c.put_words.ensures.put),
)
