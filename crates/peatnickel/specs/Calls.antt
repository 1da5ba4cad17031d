-- The face's calls and their contracts: those of `rules`, with the reply as a number. One definition, `Means`, says of every call which outcomes its
-- contract allows; the code's contracts cite it.
use Rattle.std.specs.Prelude.{ℕ, ◌≡◌, List, Option, Some, None}
use Rattle.language.specs.Setting.{Setting}
use Rattle.language.specs.Read.{read}
use Rattle.language.specs.Calls.{Reply, Outcome, checked, measured, written}
use Rattle.files.specs.Files.{packing, unpacking}
use Rattle.files.specs.declared.Form.{Form}
use Rattle.peatnickel.specs.Numbers.{answer_of, checked_of, unpacked_of, form_of, no_form}

-- a call, with what it is told, and with the words or bytes and the output that were lent, as they were at its start; a file's form is told by a
-- number
pub data Asked : Type 0 where
  check : Setting → List ℕ → Asked
  measure : Setting → List ℕ → Asked
  write : Setting → List ℕ → List ℕ → Asked
  pack : ℕ → ℕ → List ℕ → List ℕ → Asked
  unpack : ℕ → List ℕ → List ℕ → Asked

-- what comes of a call: the number that it returns, and the output as the call left it
abbrev pub Returned : Asked → Type 0
Returned (check S ws) = ℕ
Returned (measure S ws) = ℕ
Returned (write S ws out) = ℕ × List ℕ
Returned (pack n v ws out) = ℕ × List ℕ
Returned (unpack n bs out) = ℕ × List ℕ

-- what a number means with the output as left
abbrev pub meant : {A : Type 0} → (ℕ → Reply A) → ℕ × List ℕ → Outcome A
meant mean r = record { reply = mean r.0; output = r.1 }

-- of a call that is told a form: the number returned means what O says of the form, with the output as left; or where there is no form, the number is
-- `no_form` and the output is unchanged
pub data Formed {A : Type 0} (t : Option Form) (mean : ℕ → Reply A) (O : Form → Outcome A) (out : List ℕ) (r : ℕ × List ℕ) : Type 0 where
  formed : (f : Form) → t ≡ Some f → meant mean r ≡ O f → Formed t mean O out r
  formless : t ≡ None → r.0 ≡ no_form → r.1 ≡ out → Formed t mean O out r

-- the number returned means what `Allows` asks the answer of the same call of `rules` to mean, with the output as left
abbrev pub Means : (c : Asked) → Returned c → Type 0
Means (check S ws) r = checked_of r ≡ checked (read S ws)
Means (measure S ws) r = answer_of r ≡ measured (read S ws)
Means (write S ws out) r = meant answer_of r ≡ written (read S ws) out
Means (pack n v ws out) r = Formed (form_of n) answer_of (λ f. packing f v ws out) out r
Means (unpack n bs out) r = Formed (form_of n) unpacked_of (λ f. unpacking f bs out) out r
