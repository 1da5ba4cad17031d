-- What the contracts of the writers are made of: room for words, and words written.
use Rattle.std.specs.Prelude.{ℕ, ◌+◌, ◌≤◌, ◌≡◌, List, length}
use Rattle.std.proofs.lemmas.List.Edits.{sets}
use Rattle.output.specs.declared.Output.{Output}

-- there is room for n words in o from the place p on
pub record Room {A : Type 0} (o : List A) (p n : ℕ) : Type 0 where
  pub fits : p + n ≤ length o

-- the words ws were written into o from the place p on, and nothing else was; o' is what it then holds, and `end` the place after them
pub record Put {A : Type 0} (ws : List A) (o : List A) (p : ℕ) (o' : List A) (end : ℕ) : Type 0 where
  pub next : end ≡ p + length ws
  pub holds : o' ≡ sets o p ws

-- room for n words in an output, from the place of its next word on
abbrev pub HasRoom : {A : Type 0} → Output A → ℕ → Type 0
HasRoom o n = Room o.words.now o.pos n

-- an output after words were written: it is over the same lent memory, which holds them from its place on
pub record Writes {A : Type 0} (ws : List A) (o o' : Output A) : Type 0 where
  pub same : o'.words.ghost_name ≡ o.words.ghost_name
  pub put : Put ws o.words.now o.pos o'.words.now o'.pos
