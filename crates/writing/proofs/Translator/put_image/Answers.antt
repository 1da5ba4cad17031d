-- `writing::Translator::put_image` meets its contract: the image's words, run by run.
use Rattle.writing.proofs.Ways.{ways}
use Rattle.writing.proofs.Translator.put_image.Goals as goal

pub put_identity-requires : goal.put_identity-requires
put_identity-requires c = search ways

pub returns : goal.returns
returns c = search ways
