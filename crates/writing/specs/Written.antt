-- What writing an image asks, and what it leaves: the image at the front of the output, and every later word unchanged.
use Rattle.std.specs.Prelude.{ℕ, ◌≤◌, ◌≡◌, List, ◌++◌, length, drop}
use Rattle.language.specs.Term.{rules, images, Term}
use Rattle.language.specs.Words.{words}
use Rattle.language.specs.Image.{image}
use Rattle.language.specs.Limits.{Ranged, deepest, depth}

-- s are the words of a term t in the ranges and of the levels that a rule may have, whatever its version, and o has room for the words of its image
pub record Writable (t : Term) (o s : List ℕ) : Type 0 where
  pub ranged : Ranged rules t
  pub shallow : depth t ≤ deepest
  pub is : s ≡ words rules t
  pub room : length (words images (image t)) ≤ length o

-- there is such a term
pub record SomeWritable (o s : List ℕ) : Type 0 where
  pub term : Term
  pub writable : Writable term o s

-- of each such term r is the number of its image's words, and o' is o with these words in front
pub record ImageWritten (o s o' : List ℕ) (r : ℕ) : Type 0 where
  pub count : (t : Term) → Writable t o s → r ≡ length (words images (image t))
  pub output : (t : Term) → Writable t o s → o' ≡ words images (image t) ++ drop (length (words images (image t))) o
