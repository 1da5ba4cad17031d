-- `atoms::is_atom` meets its contract. The loop keeps: the pass, gone on from here, answers whether the term is an atom.
use Rattle.std.proofs.Common.{◌-◌, length}
use Rattle.atoms.proofs.Pass.{Going}
use Rattle.atoms.proofs.is_atom.Given as goal

abbrev pub invariant-tests : goal.invariant-tests
invariant-tests l = Going l.s l.at l.next l.rest.pieces l.rest.terms

abbrev pub decreases-tests : goal.decreases-tests
decreases-tests l = length l.s - l.next
