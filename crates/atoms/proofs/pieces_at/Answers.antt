-- `atoms::pieces_at` meets its contract: a match over the forms, whose words are there.
use Rattle.atoms.proofs.Ways.{openings}
use Rattle.atoms.proofs.pieces_at.Goals as goal

pub bounds-s-at : goal.bounds-s-at
bounds-s-at c = search openings

pub bounds-s-at-in-CountAndArguments : goal.bounds-s-at-in-CountAndArguments
bounds-s-at-in-CountAndArguments c = search openings
