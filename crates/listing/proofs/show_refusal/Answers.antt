-- `listing::show_refusal`: where the line has room, its parts are written one behind the other.
use Rattle.std.proofs.Common.{arith}
use Rattle.output.proofs.Stored.{put_then}
use Rattle.listing.proofs.Ways.{behind_two, behind_three, refusal_whole}
use Rattle.listing.proofs.show_refusal.Goals as goal

pub put_number-requires-2 : goal.put_number-requires-2
put_number-requires-2 c = behind_two c.put_all.ensures.put c.put_number.ensures.put _ (omega arith)

pub put-requires : goal.put-requires
put-requires c = behind_three c.put_all.ensures.put c.put_number.ensures.put 1 c.put_number-2.ensures.put (omega arith)

pub returns : goal.returns
returns c = grind (
  arith,
  refusal_whole c.args.refusal.number c.args.refusal.place c.args.out.now c.digits-number.ensures.spelled c.digits-place.ensures.spelled (omega arith)
      (put_then (put_then (put_then c.put_all.ensures.put c.put_number.ensures.put) c.put_number-2.ensures.put) c.put.ensures.put),
)
