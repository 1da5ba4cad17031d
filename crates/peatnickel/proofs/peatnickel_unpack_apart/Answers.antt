-- `peatnickel::peatnickel_unpack_apart` meets its contract: without a form nothing is done; else the number means what `rules::unpack` answered,
-- which is small.
use Rattle.std.proofs.Common.{refl, sym}
use Rattle.peatnickel.specs.Numbers.{unpacked_of}
use Rattle.peatnickel.specs.Calls.{formed, formless}
use Rattle.peatnickel.proofs.Ways.{s_unpacked, r_told}
use Rattle.peatnickel.proofs.peatnickel_unpack_apart.Goals as goal

pub unpacked_number-requires : goal.unpacked_number-requires
unpacked_number-requires c = s_unpacked _ _ _ _ _ c.unpack.ensures

pub returns-in-Some : goal.returns-in-Some
returns-in-Some c = formed c.in-Some.form (sym c.in-Some.ensures) (r_told unpacked_of c.unpacked_number.result _ c.unpacked_number.ensures c.unpack.ensures)

pub returns-in-None : goal.returns-in-None
returns-in-None c = formless (sym c.in-None.ensures) refl refl
