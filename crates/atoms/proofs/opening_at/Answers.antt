-- `atoms::opening_at` meets its contract: the head's row tells its form, and the form what it opens.
use Rattle.atoms.proofs.Ways.{openings}
use Rattle.atoms.proofs.opening_at.Goals as goal

pub bounds-s-at : goal.bounds-s-at
bounds-s-at c = search openings

pub pieces_at-requires : goal.pieces_at-requires
pieces_at-requires c = search openings

pub returns : goal.returns
returns c = search openings
