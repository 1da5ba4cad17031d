-- What stands in the words of an image, and where it ends: what those who read an image's words ask for.
use Rattle.std.specs.Prelude.{ℕ, ◌+◌, ◌/◌, ◌≤◌, ◌<◌, ◌≡◌, List, length, get_or}
use Rattle.language.specs.Term.{images, Term, Terms, size}
use Rattle.language.specs.Words.{words, wordsᵗ}
use Rattle.language.specs.Limits.{Ranged, Rangedᵗ}
use Rattle.language.specs.Kinds.{most_arguments}
use Rattle.language.specs.Places.{Held}
use Rattle.records.specs.Links.{link_end}

-- a term of an image stands in s at `at`, and a place of s is a word of a record
pub record Stands (s : List ℕ) (at : ℕ) : Type 0 where
  pub term : Term
  pub to : ℕ
  pub held : Held s (words images term) at to
  pub ranged : Ranged images term
  pub short : length s < link_end

-- k terms do
pub record Standᵗ (s : List ℕ) (at k : ℕ) : Type 0 where
  pub terms : Terms
  pub to : ℕ
  pub held : Held s (wordsᵗ images terms) at to
  pub ranged : Rangedᵗ images terms
  pub many : size terms ≡ k
  pub short : length s < link_end

-- each term of an image that stands in s at `at` ends at r
pub record Ends (s : List ℕ) (at r : ℕ) : Type 0 where
  pub end : (t : Term) (to : ℕ) → Held s (words images t) at to → Ranged images t → r ≡ to

-- a constructor does
pub record Constructed (s : List ℕ) (at : ℕ) : Type 0 where
  pub stands : Stands s at
  pub kind : get_or s at 0 / 256 ≡ 6
  pub inside : at + 2 ≤ length s

-- the constructor that stands in s at `at` has r arguments, which stand behind its count
pub record Counts (s : List ℕ) (at r : ℕ) : Type 0 where
  pub is : r ≡ get_or s (at + 1) 0
  pub few : r ≤ most_arguments
  pub behind : Standᵗ s (at + 2) r
