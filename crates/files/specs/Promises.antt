-- What is promised of the two file forms: document 01, "Packing then unpacking gives the words back; each accepted file is the packing of its words."
use Rattle.std.specs.Prelude.{ℕ, ◌≤◌, ◌<◌, ◌^◌, ◌≡◌, true, List, ◌++◌, length, get_or, drop}
use Rattle.language.specs.Kinds.{known}
use Rattle.language.specs.Calls.{success}
use Rattle.files.specs.Files.{packed, packing, unpacking}
use Rattle.files.specs.declared.Form.{Form}

-- the numbers of a list are bytes
pub record Bytes (l : List ℕ) : Type 0 where
  pub each : (i : ℕ) → get_or l i 0 < 2 ^ 8

-- "Packing then unpacking gives the words back": what packing wrote, unpacking accepts, and it gives those words and the version told, whatever is
-- lent
abbrev pub PackedUnpacks : Type 0
PackedUnpacks =
    (f : Form) (v : ℕ) (ws out buf : List ℕ) (n : ℕ) → (packing f v ws out).reply ≡ success n → length ws ≤ length buf
    → ((packing f v ws out).output ≡ packed f v ws ++ drop n out)
    × (unpacking f (packed f v ws) buf ≡ record { reply = success (v, length ws); output = ws ++ drop (length ws) buf })

-- "each accepted file is the packing of its words", in the version that unpacking reports: the words that it gives stand at the front of its output
abbrev pub AcceptedArePacked : Type 0
AcceptedArePacked =
    (f : Form) (bs out : List ℕ) (v n : ℕ) → Bytes bs → (unpacking f bs out).reply ≡ success (v, n)
    → (known v ≡ true) × ((ws : List ℕ) × (length ws ≡ n) × (bs ≡ packed f v ws) × ((unpacking f bs out).output ≡ ws ++ drop n out))
