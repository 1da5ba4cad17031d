-- What a reply is to the bench program's answer: a count, or the number and the place of a refusal, whatever number that is.
use Rattle.std.specs.Prelude.{ℕ, Result, Ok, Err}
use Rattle.language.specs.Calls.{Reply, success, refusal}
use Rattle.listing.specs.declared.Numbered.{Numbered}

abbrev pub printed : Result ℕ Numbered → Reply ℕ
printed (Ok n) = success n
printed (Err r) = refusal r.number r.place
