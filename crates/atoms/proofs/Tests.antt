-- Which forms are atoms whatever their parts are, which are not, and what the test says of them.
-- Assumes nothing.
use Prim.Native.Nat.{ℕ}
use mathlib.Core.Path.{◌≡◌, refl, sym, ◌∙◌}
use mathlib.Core.Bool.{Bool, true, false}
use mathlib.Core.Logic.{◌⊎◌, inl, inr}
use mathlib.Core.List.{List}
use Rattle.language.specs.Term.{Term}
use Rattle.language.specs.Run.{atom}
use Rattle.language.specs.declared.Parts.{Parts}
use Rattle.language.specs.declared.Parts.TheVariants.{Nothing, Body, FunctionAndArguments, BoundAndBody, CountAndArguments, SubjectAndArms, ArityAndBody, HighAndLow, TwoParts}
use Rattle.atoms.specs.Standing.{AtomAt, IsAtom, FormAt}
use Rattle.atoms.proofs.Opened.{Opened, o_var, o_fun, o_call, o_bind, o_con, o_cases, o_num, o_op, opened}

-- `Settles P b`: a term of the form P is an atom or is none, as b tells, whatever its parts are
abbrev pub Settles : Parts → Bool → Type 0
Settles Nothing b = true ≡ b
Settles Body b = true ≡ b
Settles FunctionAndArguments b = false ≡ b
Settles BoundAndBody b = false ≡ b
Settles CountAndArguments b = ⊥
Settles SubjectAndArms b = false ≡ b
Settles ArityAndBody b = false ≡ b
Settles HighAndLow b = true ≡ b
Settles TwoParts b = false ≡ b

pub settled : {P : Parts} {t : Term} {b : Bool} → Opened P t → Settles P b → b ≡ atom t
unfolding atom
settled (o_var h) e = sym e
settled (o_fun l h r) e = sym e
settled (o_call h r rs) e = sym e
settled (o_bind r r') e = sym e
settled (o_con h l rs) e = absurd e
settled (o_cases h r rs) e = sym e
settled o_num e = sym e
settled (o_op h l rs) e = sym e

-- by the answer; by the form
module _ {s : List ℕ} {at d : ℕ} where
  pub told : {a b : Bool} → IsAtom a s at → a ≡ b → AtomAt d s at b
  told A e = record { is = λ t to k. sym e ∙ (A.each d).is t to k }

  form_settled : {P : Parts} (Q : Parts) → FormAt P s at → P ≡ Q → Settles Q true → AtomAt d s at true
  form_settled Q f e q = record {
    is = λ t to k. let H = f.each d (record { thing = t; to = to; seen = k }) in settled {P = Q} (opened k.good.0 k.held (H.is ∙ e)) q;
  }

  pub atom_settled : {P : Parts} → FormAt P s at → (P ≡ Nothing) ⊎ (P ≡ Body) ⊎ (P ≡ HighAndLow) → AtomAt d s at true
  atom_settled f (inl e) = form_settled Nothing f e refl
  atom_settled f (inr (inl e)) = form_settled Body f e refl
  atom_settled f (inr (inr e)) = form_settled HighAndLow f e refl
