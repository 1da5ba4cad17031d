-- What the programs tell on standard error where input or output fails: a line for each failure.
use Rattle.std.specs.Prelude.{ℕ, List, [], ◌∷◌, ◌++◌, codes}
use Rattle.desk.specs.declared.Failure.{Failure}
use Rattle.desk.specs.declared.Failure.TheVariants.{NotRead, NotWritten}

abbrev pub failure_line : Failure → List ℕ
failure_line NotRead = codes "peatnickel: the input could not be read" ++ (10 ∷ [])
failure_line NotWritten = codes "peatnickel: the answer could not be written whole" ++ (10 ∷ [])
