-- The words of a rule are ready to be translated, and where a translator has written the image from the front on, the image stands there.
-- Assumes nothing.
use Prim.Native.Nat.{ℕ}
use mathlib.Core.Path.{◌≡◌, refl, sym, ap, subst, ◌∙◌}
use mathlib.Core.List.{List, ◌++◌}
use native.Mathlib.Nat.{zero-add}
use native.Mathlib.Omega.{arith}
use lib.ListN.{length, drop}
use Rattle.language.specs.Term.{images, Term}
use Rattle.language.specs.Words.{words}
use Rattle.language.specs.Image.{image}
use Rattle.language.specs.Limits.{deepest}
use Rattle.language.specs.Places.{Held}
use Rattle.language.proofs.Places.{whole}
use Rattle.language.proofs.Stores.{at_front}
use Rattle.atoms.specs.Standing.{term, Seen}
use Rattle.output.specs.Stored.{Put}
use Rattle.writing.specs.Jobs.{imaged, target, Ready, Done}
use Rattle.writing.specs.Written.{Writable, SomeWritable, ImageWritten}

image_words_are : (t : Term) → words images (image t) ≡ target imaged t
unfolding words image
image_words_are t = refl

module _ {o s : List ℕ} where
  seen : {t : Term} → Writable t o s → Seen (term deepest) s 0 (length s) t
  seen W = record {
    good = (W.ranged, W.shallow);
    held = subst (λ (l : List ℕ). Held s l 0 (length s)) W.is (whole s);
  }

  pub ready : SomeWritable o s → Ready imaged o 0 s 0
  ready W = record {
    thing = W.term;
    to = length s;
    seen = seen W.writable;
    room = record { fits = omega (arith, W.writable.room, ap length (image_words_are W.term)) };
  }

  -- what is written from the front on stands there, and what follows it is unchanged
  module _ {o' s' : List ℕ} {to end : ℕ} (D : Done imaged o 0 s 0 o' s' to end) where
    put : {t : Term} → Writable t o s → Put (target imaged t) o 0 o' end
    put {t} W = D.puts t (length s) (seen W)

    pub written : ImageWritten o s o' end
    written = record {
      count = λ t W. (put W).next ∙ zero-add _ ∙ ap length (sym (image_words_are t));
      output = λ t W.
          (put W).holds ∙ at_front o (target imaged t) (omega (arith, W.room, ap length (image_words_are t)))
          ∙ ap (λ (l : List ℕ). l ++ drop (length l) o) (sym (image_words_are t));
    }
