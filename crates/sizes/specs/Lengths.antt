-- How many words the parts of an image have.
use Rattle.std.specs.Prelude.{ℕ, ◌+◌, length}
use Rattle.language.specs.Term.{images, Term, Terms, Arms, nil, cons}
use Rattle.language.specs.Words.{words, wordsᵃ}
use Rattle.language.specs.Image.{passing, passingᵃ, image}

-- the words of a term's passing form
unfoldable pub passing_length : Term → ℕ
passing_length t = length (words images (passing t))

-- of the passing forms of all the terms of a list
unfoldable pub passing_lengths : Terms → ℕ
passing_lengths nil = 0
passing_lengths (cons t ts) = passing_length t + passing_lengths ts

-- of the arms of an image's match
unfoldable pub arm_lengths : Arms → ℕ
arm_lengths ps = length (wordsᵃ images (passingᵃ ps))

-- of the image
unfoldable pub image_length : Term → ℕ
image_length t = length (words images (image t))
