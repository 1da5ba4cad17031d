-- What a call on words is told besides the words, in one record: document 02, Wish 13. "Files carry the version; .. every call on words is told it."
use Rattle.std.specs.Prelude.{ℕ}

pub record Setting : Type 0 where
  pub version : ℕ

abbrev pub in_version : ℕ → Setting
in_version v = record { version = v }
