-- Skipping a term: head by head, with the pieces that are left, it comes to the term's end.
-- Assumes nothing.
use Prim.Native.Nat.{ℕ, ◌+◌, ◌-◌, ◌≤◌, ◌<◌}
use mathlib.Core.Path.{◌≡◌, refl, sym, subst}
use mathlib.Core.List.{List}
use native.Mathlib.Omega.{arith}
use lib.ListN.{length}
use borrow.Author.Rules.{rules}
use Rattle.language.specs.Term.{images, Term}
use Rattle.language.specs.Words.{words}
use Rattle.language.specs.Limits.{Ranged}
use Rattle.language.specs.Places.{Held}
use Rattle.language.proofs.Places.{ends}
use Rattle.atoms.specs.Standing.{form_at}
use Rattle.atoms.specs.Openings.{opening_at, Whole, OpensAt}
use Rattle.atoms.specs.declared.Opening.{Opening}
use Rattle.atoms.proofs.Standing.{term_least_in}
use Rattle.atoms.proofs.Over.{over}
use Rattle.taking.specs.Standing.{Stands, Ends}

-- from `at` on, the words of i pieces end at e
pub data Skip (s : List ℕ) (e : ℕ) : ℕ → ℕ → Type 0 where
  ended : {at i : ℕ} → i ≡ 0 → at ≡ e → e ≤ length s → Skip s e at i
  headed : {at i : ℕ} → 0 < i → 0 < (opening_at s at).words → Skip s e (at + (opening_at s at).words) (i - 1 + (opening_at s at).pieces) → Skip s e at i

module _ {s : List ℕ} {e : ℕ} where
  fits : {at i : ℕ} → Skip s e at i → (at + i ≤ e) × (e ≤ length s)
  fits (ended z q h) = (omega arith, h)
  fits (headed z w k) = let (a, b) = fits k in (omega arith, b)

  next : {at i : ℕ} → Skip s e at i → 0 < i → Skip s e (at + (opening_at s at).words) (i - 1 + (opening_at s at).pieces)
  next (ended z q h) l = absurd (omega arith)
  next (headed z w k) l = k

  at_end : {at i : ℕ} → Skip s e at i → i ≤ 0 → at ≡ e
  at_end (ended z q h) l = q
  at_end (headed z w k) l = absurd (omega arith)

-- skipping the term at `at`, whatever term that is, has come to the place `to`, with i pieces left
pub record Going (s : List ℕ) (at to i : ℕ) : Type 0 where
  pub each : (t : Term) (e : ℕ) → Held s (words images t) at e → Ranged images t → Skip s e to i
  pub room : to + i ≤ length s

module _ {s : List ℕ} {at : ℕ} (k : Stands s at) where
  going : {to i : ℕ} → ((t : Term) (e : ℕ) → Held s (words images t) at e → Ranged images t → Skip s e to i) → Going s at to i
  going f = record { each = f; room = let (a, b) = fits (f k.term k.to k.held k.ranged) in omega arith }

  -- it begins with the term itself
  pub begins : Going s at at 1
  begins = going λ t e h r. over s (Skip s e) (λ p i c w q. headed {at = p} {i = i} c w q) r h refl (ended {at = e} {i = 0} refl refl (ends (term_least_in images t).0 h))

  module _ {to i : ℕ} (g : Going s at to i) where
    -- where a piece is left, the words of the next head are there
    pub head_there : 0 < i → Whole (form_at s to) s to
    unfolding opening_at
    head_there z = record { inside = let (a, b) = fits (next (g.each k.term k.to k.held k.ranged) z) in omega arith }

    -- behind a head it goes on with the pieces that the head opens
    pub goes_on : {o : Opening} {n : ℕ} → 0 < i → OpensAt o s to → n ≡ o.pieces → Going s at (to + o.words) (i - 1 + n)
    goes_on {o} z h e = rw e (going λ t e x r. subst (λ (u : Opening). Skip s e (to + u.words) (i - 1 + u.pieces)) (sym h.is) (next (g.each t e x r) z))

    -- where none is left it has come to the end
    pub comes_out : i ≤ 0 → Ends s at to
    comes_out z = record { end = λ t e x r. at_end (g.each t e x r) z }

pub ruleset skips = (begins, head_there, goes_on, comes_out, rules)
