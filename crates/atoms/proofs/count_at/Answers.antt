-- `atoms::count_at` meets its contract: the second word of a constructor is there, and is small.
use Rattle.std.proofs.Common.{arith}
use Rattle.atoms.proofs.Ways.{counted, ways}
use Rattle.atoms.proofs.count_at.Goals as goal

pub overflow_add-result : goal.overflow_add-result
overflow_add-result c = omega (arith, counted c.requires.0 c.requires.1)

pub offset_bounds-s-at : goal.offset_bounds-s-at
offset_bounds-s-at c = omega (arith, counted c.requires.0 c.requires.1)

pub bounds-s-at : goal.bounds-s-at
bounds-s-at c = omega (arith, counted c.requires.0 c.requires.1)

pub returns : goal.returns
returns c = search ways
