-- One record more, if one is left: document 02, Wish 2, "13 (no record left)".
use Rattle.std.specs.Prelude.{ℕ, ◌+◌, ◌<◌, ◌≤◌, ◌≡◌, List, length, Option, Some, None}
use Rattle.output.specs.Stored.{Room, Put}
use Rattle.records.specs.Links.{record_words}
use Rattle.records.specs.declared.Records.{Records}

-- of l words those before n are in use: the first free record, at n, is taken, and the next is at n'; or there is none
abbrev pub Next : (l n n' : ℕ) → Option ℕ → Type 0
Next l n n' (Some r) = (r ≡ n) × (n + record_words ≤ l) × (n' ≡ n + record_words)
Next l n n' None = (l < n + record_words) × (n' ≡ n)

-- the words ws were written into the first free record, at n, and the next is at n'; or there is none, and nothing changed
pub data Kept (ws m m' : List ℕ) (n n' : ℕ) : Option ℕ → Type 0 where
  kept : {r e : ℕ} → r ≡ n → Room m n record_words → Put ws m n m' e → n' ≡ n + record_words → Kept ws m m' n n' (Some r)
  not_kept : length m < n + record_words → m' ≡ m → n' ≡ n → Kept ws m m' n n' None

-- a record is left for a run
abbrev pub HasRecord : Records → Type 0
HasRecord o = Room o.words.now o.free record_words

-- a run's records after one was taken, if one was left: they are over the same lent memory, whose words are as before
pub record Takes (o o' : Records) (r : Option ℕ) : Type 0 where
  pub same : o'.words.ghost_name ≡ o.words.ghost_name
  pub words : o'.words.now ≡ o.words.now
  pub next : Next (length o.words.now) o.free o'.free r

-- and after the words ws were kept in it: they are over the same lent memory, which then holds them, or is as before where no record was left
pub record Keeps (ws : List ℕ) (o o' : Records) (r : Option ℕ) : Type 0 where
  pub same : o'.words.ghost_name ≡ o.words.ghost_name
  pub kept : Kept ws o.words.now o'.words.now o.free o'.free r
