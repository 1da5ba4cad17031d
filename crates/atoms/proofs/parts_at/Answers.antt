-- `atoms::parts_at` meets its contract: the row of the head's kind says what follows.
use Rattle.atoms.proofs.Ways.{ways}
use Rattle.atoms.proofs.parts_at.Goals as goal

pub offset_bounds-s-at : goal.offset_bounds-s-at
offset_bounds-s-at c = search ways

pub bounds-s-at : goal.bounds-s-at
bounds-s-at c = search ways

pub returns : goal.returns
returns c = search ways
