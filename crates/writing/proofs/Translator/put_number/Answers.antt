-- `writing::Translator::put_number` meets its contract: the number's words, one by one, are those that are copied.
use Rattle.std.proofs.Common.{arith, rules}
use Rattle.writing.proofs.Ways.{number_inside, number_room, number_put}
use Rattle.writing.proofs.Translator.put_number.Goals as goal

pub bounds-self-at-2 : goal.bounds-self-at-2
bounds-self-at-2 c = omega (arith, number_inside c.requires.form c.requires.ready)

pub bounds-self-at-3 : goal.bounds-self-at-3
bounds-self-at-3 c = omega (arith, number_inside c.requires.form c.requires.ready)

pub put_all-requires : goal.put_all-requires
put_all-requires c = number_room c.requires.form c.requires.ready

pub returns : goal.returns
returns c = record { same = search rules; done = number_put c.requires.form c.put_all.ensures.put }
