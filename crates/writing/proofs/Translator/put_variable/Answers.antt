-- `writing::Translator::put_variable` meets its contract: the variable's head, and its word is passed over.
use Rattle.writing.proofs.Ways.{ways}
use Rattle.writing.proofs.Translator.put_variable.Goals as goal

pub put_source-requires : goal.put_source-requires
put_source-requires c = search ways

pub returns : goal.returns
returns c = search ways
