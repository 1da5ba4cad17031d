-- `runs::put_handing` meets its contract: three runs, one behind the other.
use Rattle.std.proofs.Common.{arith, ◌∙◌}
use Rattle.output.proofs.Stored.{put_then, room_left}
use Rattle.runs.proofs.put_handing.Goals as goal

pub put_down-requires : goal.put_down-requires
put_down-requires c = room_left c.args.n (put_then c.put_added.ensures.put c.put_all.ensures.put) (omega (arith, c.requires.fits))

pub returns : goal.returns
returns c = record {
  same = c.put_down.ensures.same ∙ (c.put_all.ensures.same ∙ c.put_added.ensures.same);
  put = put_then c.put_added.ensures.put (put_then c.put_all.ensures.put c.put_down.ensures.put);
}
