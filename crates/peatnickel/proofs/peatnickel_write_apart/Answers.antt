-- `peatnickel::peatnickel_write_apart` meets its contract: the number means what `rules::write` answered, which is small.
use Rattle.peatnickel.proofs.Ways.{s_written}
use Rattle.peatnickel.proofs.peatnickel_write_apart.Goals as goal

pub number-requires : goal.number-requires
number-requires c = s_written _ _ _ _ _ c.write.ensures
