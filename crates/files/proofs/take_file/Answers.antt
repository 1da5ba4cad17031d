-- `files::take_file` meets its contract: each way out is one of the definition's. This one is past the check's own search.
use Rattle.files.proofs.Calls.{ways}
use Rattle.files.proofs.take_file.Goals as goal

pub returns : goal.returns
returns c = search ways
