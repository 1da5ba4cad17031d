-- One law for each way out of the functions that read one head: what was tested and called on the way, and what is then right to answer.
-- `search` finds a law's premises in what is known at that place of the code.
-- Assumes nothing.
use Prim.Native.Nat.{ℕ, ◌+◌, ◌-◌, ◌≤◌, ◌<◌}
use mathlib.Core.Path.{◌≡◌, sym, ap, subst, ◌∙◌}
use mathlib.Core.List.{List}
use Rattle.std.specs.Prelude.{Option}
use native.Mathlib.Omega.{arith}
use borrow.Author.Rules.{rules}
use borrow.Author.Tests.{lt-ltb, le-ltb}
use lib.ListN.{length, get_or}
use Rattle.language.specs.Kinds.{row_of}
use Rattle.language.specs.declared.Parts.{Parts}
use Rattle.language.specs.declared.Parts.TheVariants.{Nothing, Body, FunctionAndArguments, BoundAndBody, CountAndArguments, SubjectAndArms, ArityAndBody, HighAndLow, TwoParts}
use Rattle.language.specs.declared.Row.{Row}
use Rattle.atoms.specs.Standing.{term, Stands, TermAt, form_at, Parted, FormAt, Counted}
use Rattle.atoms.specs.Openings.{head_words, pieces_at, opening_at, Whole, OpensAt, left, tested, rest_after}
use Rattle.atoms.specs.declared.Opening.{Opening}
use Rattle.atoms.specs.declared.Rest.{Rest}
use Rattle.atoms.proofs.Opened.{opened}
use Rattle.atoms.proofs.Standing.{term_inside, term_deep, count_there}

-- what follows the head at a place, whose row the code has found
form_is : (s : List ℕ) (at : ℕ) {r : Row} → r ≡ row_of (get_or s at 0) → form_at s at ≡ r.parts
unfolding form_at
form_is s at h = ap (λ (x : Row). x.parts) (sym h)

module _ {s : List ℕ} {at : ℕ} where
  -- what follows a head, by the test on it
  pub parted : {d : ℕ} {P Q : Parts} → FormAt P s at → P ≡ Q → Stands (term d) s at → Parted Q d s at
  parted f e x = let k = f.each _ x in record { is = k.is ∙ e; inside = k.inside; deep = k.deep }

  -- the head of a term, whose row the code has found
  pub parts_found : {r : Row} → TermAt s at → r ≡ row_of (get_or s at 0) → FormAt r.parts s at
  parts_found k e = record { each = λ d x. record { is = form_is s at e; inside = term_inside k; deep = term_deep x } }

  pub counted : TermAt s at → form_at s at ≡ CountAndArguments → Counted (get_or s (at + 1) 0) s at
  counted k e = count_there (opened k.stands.seen.good.0 k.stands.seen.held e) k.stands.seen

-- what a head opens, by its form
a_word : (P : Parts) → 1 ≤ head_words P
unfolding head_words
a_word Nothing = omega arith
a_word Body = omega arith
a_word FunctionAndArguments = omega arith
a_word BoundAndBody = omega arith
a_word CountAndArguments = omega arith
a_word SubjectAndArms = omega arith
a_word ArityAndBody = omega arith
a_word HighAndLow = omega arith
a_word TwoParts = omega arith

pub words_by : (P : Parts) {Q : Parts} {w : ℕ} → P ≡ Q → w ≡ head_words Q → w ≡ head_words P
words_by P e q = q ∙ ap head_words (sym e)

module _ {P : Parts} {s : List ℕ} {at : ℕ} where
  pub head_inside : Whole P s at → at < length s
  head_inside l = omega (arith, a_word P, l.inside)

  pub second_inside : Whole P s at → P ≡ CountAndArguments → at + 1 < length s
  unfolding head_words
  second_inside l e = omega (arith, l.inside, ap head_words e)

  pub pieces_by : {Q : Parts} {p : ℕ} → Whole P s at → P ≡ Q → p ≡ pieces_at Q s at → p ≡ pieces_at P s at
  pieces_by l e q = q ∙ ap (λ (R : Parts). pieces_at R s at) (sym e)

-- the same of the head at a place
module _ {s : List ℕ} {at : ℕ} (l : Whole (form_at s at) s at) {r : Row} (h : r ≡ row_of (get_or s at 0)) where
  pub form_whole : Whole r.parts s at
  form_whole = subst (λ (P : Parts). Whole P s at) (form_is s at h) l

  pub opened_there : {w p : ℕ} → w ≡ head_words r.parts → p ≡ pieces_at r.parts s at → OpensAt (record { parts = r.parts; words = w; pieces = p }) s at
  unfolding opening_at
  opened_there a b = record { is = simp (a, b, form_is s at h); some = omega (arith, a_word r.parts); inside = omega (arith, form_whole.inside) }

-- what is left after it, by the tests of the code
module _ (o : Opening) (i n : ℕ) {x : Option Rest} where
  pub passed_over : 0 < i → x ≡ left (i - 1 + o.pieces) n → x ≡ rest_after o i n
  unfolding rest_after
  passed_over l e = simp (lt-ltb 0 i l, e)

  pub tested_there : {Q : Parts} → i ≤ 0 → o.parts ≡ Q → x ≡ tested Q o.pieces n → x ≡ rest_after o i n
  unfolding rest_after
  tested_there l p e = simp (le-ltb 0 i l, p, e)

pub ruleset openings = (words_by, head_inside, second_inside, pieces_by, form_whole, opened_there, passed_over, tested_there, rules)

pub ruleset ways = (term_inside, parts_found, counted, rules)
