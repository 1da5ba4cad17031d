-- What the calls on a rule reply, and what they leave in the lent output: document 01, "Checks in order", and document 02, Wish 1.
use Rattle.std.specs.Prelude.{ℕ, cond, List, ◌++◌, ltb, length, drop, Result, Ok, Err}
use Rattle.language.specs.declared.Refusal.{Refusal}
use Rattle.language.specs.Faults.{number_of}
use Rattle.language.specs.Term.{images}
use Rattle.language.specs.Words.{words}
use Rattle.language.specs.Image.{image}
use Rattle.language.specs.Read.{no_place, Reading, accepted, refused}

-- a refusal gives its number and its place, and no more: "Demand 1 covers the place from here on."
pub data Reply (A : Type 0) : Type 0 where
  success : A → Reply A
  refusal : ℕ → ℕ → Reply A

-- a call's reply, and the final contents of the output lent to it
pub record Outcome (A : Type 0) : Type 0 where
  pub reply : Reply A
  pub output : List ℕ

-- what the code's answer means, and what it means with the output that the call left
unfoldable pub reply_of : {A : Type 0} → Result A Refusal → Reply A
reply_of (Ok x) = success x
reply_of (Err r) = refusal (number_of r.fault) r.place

abbrev pub told : {A : Type 0} → Result A Refusal → List ℕ → Outcome A
told a out = record { reply = reply_of a; output = out }

-- "A refusal .. leaves all that was lent unchanged."
abbrev pub refuses : ℕ → ℕ → List ℕ → Outcome ℕ
refuses e p out = record { reply = refusal e p; output = out }

-- "The checking call gives only success or the refusal"
unfoldable pub checked : Reading → Reply (Unit {0})
checked (accepted t) = success tt
checked (refused e p) = refusal e p

-- "the measuring call gives the count"
unfoldable pub measured : Reading → Reply ℕ
measured (accepted t) = success (length (words images (image t)))
measured (refused e p) = refusal e p

-- 9: "the lent output is shorter than what is to be written". "Success gives the image's word count; the image fills the front of the output
-- and every later word is unchanged."
unfoldable pub filled : List ℕ → List ℕ → Outcome ℕ
filled ws out =
    cond (ltb (length out) (length ws))
    (refuses 9 no_place out)
    (record { reply = success (length ws); output = ws ++ drop (length ws) out })

-- the writing call
unfoldable pub written : Reading → List ℕ → Outcome ℕ
written (accepted t) out = filled (words images (image t)) out
written (refused e p) out = refuses e p out
