-- `peatnickel::peatnickel_pack_apart` meets its contract: without a form nothing is done; else the number means what `rules::pack` answered,
-- which is small.
use Rattle.std.proofs.Common.{refl, sym}
use Rattle.peatnickel.specs.Numbers.{answer_of}
use Rattle.peatnickel.specs.Calls.{formed, formless}
use Rattle.peatnickel.proofs.Ways.{s_packed, r_told}
use Rattle.peatnickel.proofs.peatnickel_pack_apart.Goals as goal

pub number-requires : goal.number-requires
number-requires c = s_packed _ _ _ _ _ _ c.pack.ensures

pub returns-in-Some : goal.returns-in-Some
returns-in-Some c = formed c.in-Some.form (sym c.in-Some.ensures) (r_told answer_of c.number.result _ c.number.ensures c.pack.ensures)

pub returns-in-None : goal.returns-in-None
returns-in-None c = formless (sym c.in-None.ensures) refl refl
