-- The public calls and their contracts: document 01, "Checks in order" and "What a reader may rely on"; document 02, Wish 13: "every call on words is
-- told" the version. One definition, `Allows`, says of every call which outcomes its contract allows; the code's contracts cite it.
use Rattle.std.specs.Prelude.{ℕ, ◌≡◌, List, Result}
use Rattle.language.specs.Setting.{Setting}
use Rattle.language.specs.Read.{read}
use Rattle.language.specs.Calls.{reply_of, told, checked, measured, written}
use Rattle.language.specs.declared.Refusal.{Refusal}
use Rattle.files.specs.Files.{packing, unpacking, told_unpacked}
use Rattle.files.specs.declared.Form.{Form}
use Rattle.files.specs.declared.Unpacked.{Unpacked}

-- a call, with what it is told, and with the words or bytes and the output that were lent, as they were at its start. A call on a rule is told its
-- setting; packing is told the file's form and the version that the file is to carry, unpacking the form alone
pub data Call : Type 0 where
  check : Setting → List ℕ → Call
  measure : Setting → List ℕ → Call
  write : Setting → List ℕ → List ℕ → Call
  pack : Form → ℕ → List ℕ → List ℕ → Call
  unpack : Form → List ℕ → List ℕ → Call

-- what comes of a call: its answer, and the output as the call left it
abbrev pub Returned : Call → Type 0
Returned (check S ws) = Result (Unit {0}) Refusal
Returned (measure S ws) = Result ℕ Refusal
Returned (write S ws out) = Result ℕ Refusal × List ℕ
Returned (pack f v ws out) = Result ℕ Refusal × List ℕ
Returned (unpack f bs out) = Result Unpacked Refusal × List ℕ

abbrev pub Allows : (c : Call) → Returned c → Type 0
Allows (check S ws) r = reply_of r ≡ checked (read S ws)
Allows (measure S ws) r = reply_of r ≡ measured (read S ws)
Allows (write S ws out) r = told r.0 r.1 ≡ written (read S ws) out
Allows (pack f v ws out) r = told r.0 r.1 ≡ packing f v ws out
Allows (unpack f bs out) r = told_unpacked r.0 r.1 ≡ unpacking f bs out
