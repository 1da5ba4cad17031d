-- Document 01, "The image": "Its length in words, for a rule of w words, is at most 7w."
use Rattle.std.specs.Prelude.{◌*◌, ◌≤◌, length}
use Rattle.language.specs.Term.{rules, images, Term}
use Rattle.language.specs.Words.{words}
use Rattle.language.specs.Image.{image}

abbrev pub SevenTimes : Type 0
SevenTimes = (t : Term) → length (words images (image t)) ≤ 7 * length (words rules t)
