-- `atoms::is_atom` meets its contract. Each turn, and each way out, is a law of the pass.
use Rattle.atoms.proofs.Pass.{passes}
use Rattle.atoms.proofs.is_atom.Goals as goal

pub tests-init : goal.tests-init
tests-init c = search passes

pub opening_at-head-requires : goal.opening_at-head-requires
opening_at-head-requires c = search passes

pub returns-in_default : goal.returns-in_default
returns-in_default c = search passes

pub tests-preserved : goal.tests-preserved
tests-preserved c = search passes

pub returns : goal.returns
returns c = search passes
