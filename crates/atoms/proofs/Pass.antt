-- The pass over a term's words answers whether the term is an atom. What it does at one head is `rest_after`, and a whole pass is a chain of
-- such steps. A term's words put some steps before a pass over what stands behind the term: where the term stands in a function's body,
-- they pass over one piece, as `Over` says; else they join the term's answer to that pass's.
-- Assumes nothing.
use Prim.Native.Nat.{ℕ, zero, suc, ◌+◌, ◌-◌, ◌≤◌, ◌<◌}
use mathlib.Core.Path.{◌≡◌, refl, sym, ap, ap₂, subst, subst₂, ◌∙◌}
use Rattle.std.specs.Prelude.{Option, Some, None}
use mathlib.Core.Bool.{Bool, true, false, ◌&&◌, and_assoc, and-true}
use mathlib.Core.List.{List}
use native.Mathlib.Omega.{arith}
use lib.ListN.{length}
use borrow.Author.Rules.{rules as bounds}
use borrow.Author.Tests.{lt-ltb}
use Rattle.language.specs.Term.{rules, Term, Terms, Arms, size, sizeᵃ}
use Rattle.language.specs.Words.{words, wordsᵗ, wordsᵃ}
use Rattle.language.specs.Limits.{Ranged, Rangedᵗ, Rangedᵃ, r_var, r_kvar, r_fun, r_call, r_bind, r_con, r_cases, r_num, r_op, r_nil, r_cons}
use Rattle.language.specs.Run.{atom, atoms}
use Rattle.language.specs.Places.{Held}
use Rattle.language.proofs.Clash.{never}
use Rattle.language.proofs.Places.{first_run, second_run, first_word, next_words, ends}
use Rattle.atoms.specs.Standing.{term, TermAt, Seen, IsAtom, form_at}
use Rattle.atoms.specs.Openings.{head_words, pieces_of, opening_at, Whole, OpensAt, left, tested, rest_after}
use Rattle.atoms.specs.declared.Opening.{Opening}
use Rattle.atoms.specs.declared.Rest.{Rest}
use Rattle.atoms.proofs.Standing.{term_least_in}
use Rattle.atoms.proofs.Over.{opens, opens_fun, over, overᵗ, overᵃ}

-- From `at` on, with i pieces to be passed over and then n terms to be tested, which all stand in s, the pass answers b.
pub data Pass (s : List ℕ) (b : Bool) : ℕ → ℕ → ℕ → Type 0 where
  ended : {at i n : ℕ} → at + i + n ≤ length s → n ≡ 0 → b ≡ true → Pass s b at i n
  went : {at i n to : ℕ} {r : Rest} → at + i + n ≤ length s → 0 < n → rest_after (opening_at s at) i n ≡ Some r → to ≡ at + (opening_at s at).words
      → Pass s b to r.pieces r.terms → Pass s b at i n
  stopped : {at i n : ℕ} → at + i + n ≤ length s → 0 < n → rest_after (opening_at s at) i n ≡ None → at + (opening_at s at).words ≤ length s
      → b ≡ false → Pass s b at i n

module _ {s : List ℕ} {b : Bool} where
  fits : {at i n : ℕ} → Pass s b at i n → at + i + n ≤ length s
  fits (ended h z e) = h
  fits (went h z e q p) = h
  fits (stopped h z e w q) = h

  whole_head : {at i n : ℕ} → Pass s b at i n → 0 < n → at + (opening_at s at).words ≤ length s
  whole_head (ended h z e) l = absurd (omega arith)
  whole_head (went h z e q p) l = omega (arith, fits p)
  whole_head (stopped h z e w q) l = w

  -- the way on from a head is one, and so is the answer
  again : {at i n : ℕ} {r : Rest} → Pass s b at i n → 0 < n → rest_after (opening_at s at) i n ≡ Some r
      → Pass s b (at + (opening_at s at).words) r.pieces r.terms
  again (ended h z e) l a = absurd (omega arith)
  again {r} (went {r = r'} h z e q p) l a =
      let x : r' ≡ r = cc in
      rw (q, x) at p
  again (stopped h z e w q) l a = never cc

  says_no : {at i n : ℕ} → Pass s b at i n → 0 < n → rest_after (opening_at s at) i n ≡ None → b ≡ false
  says_no (ended h z e) l a = absurd (omega arith)
  says_no (went h z e q p) l a = never cc
  says_no (stopped h z e w q) l a = q

  says_yes : {at i n : ℕ} → Pass s b at i n → n ≡ 0 → b ≡ true
  says_yes (ended h z e) l = e
  says_yes (went h z e q p) l = absurd (omega arith)
  says_yes (stopped h z e w q) l = absurd (omega arith)

-- the steps of a pass, where it is known what the head opens
module _ {s : List ℕ} {at : ℕ} (o : Opening) (e : opening_at s at ≡ o) where
  on : {b : Bool} {to j n m : ℕ} → to ≡ at + o.words → tested o.parts o.pieces n ≡ left j m → 0 < n → at + n ≤ length s → Pass s b to j m
      → Pass s b at 0 n
  unfolding rest_after
  on {to} {j} {n} {m} q c z l p = went {at = at} {i = 0} {n = n} {to = to} {r = record { pieces = j; terms = m }} (omega arith) z (simp (e, c)) (rw e q) p

  off : {n : ℕ} → o.words ≡ 1 → tested o.parts o.pieces n ≡ None → 0 < n → at + n ≤ length s → Pass s false at 0 n
  unfolding rest_after
  off {n} w c z l = stopped {at = at} {i = 0} {n = n} (omega arith) z (simp (e, c)) (simp e (omega arith)) refl

-- What stands in a function's body is passed over, head by head.
passed : {s : List ℕ} {b : Bool} (n : ℕ) → 0 < n → (at i : ℕ) → 0 < i → 0 < (opening_at s at).words
    → Pass s b (at + (opening_at s at).words) (i - 1 + (opening_at s at).pieces) n → Pass s b at i n
unfolding rest_after
passed {s} n z at i l w p =
    went {at = at} {i = i} {n = n} {r = record { pieces = i - 1 + (opening_at s at).pieces; terms = n }} (omega (arith, fits p)) z (simp (lt-ltb 0 i l)) refl p

-- A term is one piece, a list and arms are as many as they have: `Over`, of the pass.
module _ {s : List ℕ} {b : Bool} {n : ℕ} (z : 0 < n) where
  pass : {t : Term} {at to i j : ℕ} → Ranged rules t → Held s (words rules t) at to → j ≡ i + 1 → Pass s b to i n → Pass s b at j n
  pass r k e p = over s (λ (x y : ℕ). Pass s b x y n) (passed n z) r k e p

  passᵗ : {ts : Terms} {at to i j : ℕ} → Rangedᵗ rules ts → Held s (wordsᵗ rules ts) at to → j ≡ i + size ts → Pass s b to i n → Pass s b at j n
  passᵗ r k e p = overᵗ s (λ (x y : ℕ). Pass s b x y n) (passed n z) r k e p

  passᵃ : {ps : Arms} {at to i j : ℕ} → Rangedᵃ rules ps → Held s (wordsᵃ rules ps) at to → j ≡ i + sizeᵃ ps → Pass s b to i n → Pass s b at j n
  passᵃ r k e p = overᵃ s (λ (x y : ℕ). Pass s b x y n) (passed n z) r k e p

-- the body of a function behind which n terms are to be tested: where there are none, the pass has ended
body : {s : List ℕ} {b : Bool} {c : Term} {at to : ℕ} (n : ℕ) → Ranged rules c → Held s (words rules c) at to → Pass s b to 0 n → Pass s b at 1 n
body {c} {at} zero r k p = ended {at = at} {i = 1} {n = 0} (omega (arith, fits p, k.past, term_least_in rules c)) refl (says_yes p refl)
body (suc n) r k p = pass (omega arith) r k refl p

-- What must be an atom is tested, and after it what stands behind it.
module _ {s : List ℕ} where
  mutual
    unfolding words size sizeᵃ head_words pieces_of tested atom

    test : {b : Bool} {t : Term} {at to n m : ℕ} → Ranged rules t → Held s (words rules t) at to → m ≡ n + 1 → Pass s b to 0 n
        → Pass s (atom t && b) at 0 m
    test (r_var {i = v} h) k e p = on _ (opens 1 v k h) k.past (ap₂ left (omega arith) (omega arith)) (omega arith) (omega (arith, fits p, k.past)) p
    test (r_kvar a h) k e p = absurd a
    test {n} (r_fun {o} {a} l h x r) k e p =
        on _ (opens_fun o (a + 0) l k (omega arith)) refl (ap₂ left (omega arith) (omega arith)) (omega arith) (omega (arith, fits p, k.past))
        (body n r (next_words k) p)
    test (r_call {ps = ps} l h r rs) k e p = off _ (opens 4 (size ps) k (omega arith)) refl refl (omega arith) (omega (arith, fits p, k.past))
    test (r_bind r r') k e p = off _ (opens 5 0 k (omega arith)) refl refl (omega arith) (omega (arith, fits p, k.past))
    test {n} (r_con {t} {ps} h l rs) k e p =
        let k' = next_words k in
        let c = first_word k' in
        on _ (opens 6 t k h) {m = n + size ps} (omega arith) (ap₂ left (omega arith) (omega arith)) (omega arith) (omega (arith, fits p, k.past))
        (testᵗ rs (next_words k') refl p)
    test (r_cases {ps = ps} l h r rs) k e p = off _ (opens 7 (sizeᵃ ps) k (omega arith)) refl refl (omega arith) (omega (arith, fits p, k.past))
    test (r_num h) k e p =
        on _ (opens 10 0 k (omega arith)) k.past (ap₂ left (omega arith) (omega arith)) (omega arith) (omega (arith, fits p, k.past)) p
    test (r_op {o} h l rs) k e p = off _ (opens 11 o k (omega arith)) refl refl (omega arith) (omega (arith, fits p, k.past))

    testᵗ : {b : Bool} {ts : Terms} {at to n m : ℕ} → Rangedᵗ rules ts → Held s (wordsᵗ rules ts) at to → m ≡ n + size ts → Pass s b to 0 n
        → Pass s (atoms ts && b) at 0 m
    testᵗ {b} r_nil k e p = subst₂ (λ (x y : ℕ). Pass s b x 0 y) (omega (arith, k.past)) (omega arith) p
    testᵗ {b} {at} {m} (r_cons {t} {ts} r rs) k e p =
        subst (λ (x : Bool). Pass s x at 0 m) (sym (and_assoc (atom t) (atoms ts) b))
        (test r (first_run (words rules t) (wordsᵗ rules ts) k) (omega arith) (testᵗ rs (second_run (words rules t) (wordsᵗ rules ts) k) refl p))

-- The pass over the term that stands at `at`, whatever term that is, has come to the place `to`, with i pieces and n terms left.
pub record Going (s : List ℕ) (at to i n : ℕ) : Type 0 where
  pub each : (d : ℕ) (t : Term) (e : ℕ) → Seen (term d) s at e t → Pass s (atom t) to i n
  pub room : to + i + n ≤ length s

module _ {s : List ℕ} {at : ℕ} (k : TermAt s at) where
  found : {to i n : ℕ} → ((d : ℕ) (t : Term) (e : ℕ) → Seen (term d) s at e t → Pass s (atom t) to i n) → Pass s (atom k.stands.thing) to i n
  found f = f k.levels k.stands.thing k.stands.to k.stands.seen

  going : {to i n : ℕ} → ((d : ℕ) (t : Term) (e : ℕ) → Seen (term d) s at e t → Pass s (atom t) to i n) → Going s at to i n
  going f = record { each = f; room = fits (found f) }

  -- it begins with one term to be tested
  pub begins : Going s at at 0 1
  begins = going λ d t e x.
      let w : e ≤ length s = ends (term_least_in rules t).0 x.held in
      subst (λ (b : Bool). Pass s b at 0 1) (and-true (atom t)) (test x.good.0 x.held refl (ended {at = e} {i = 0} {n = 0} (omega arith) refl refl))

  module _ {to i n : ℕ} (g : Going s at to i n) where
    -- where a term is left, n being above some number, the words of the next head are there
    pub head_there : {m : ℕ} → m < n → Whole (form_at s to) s to
    unfolding opening_at
    head_there z = record { inside = whole_head (found g.each) (omega arith) }

    -- it ends where none is left
    pub all_tested : n ≤ 0 → IsAtom true s at
    all_tested z = record { each = λ d. record { is = λ t e x. sym (says_yes (g.each d t e x) (omega arith)) } }

    -- after a head it goes on, or ends
    module _ {o : Opening} {r : Option Rest} {l : ℕ} (z : l < n) (h : OpensAt o s to) (q : r ≡ rest_after o i n) where
      after : {x : Option Rest} → r ≡ x → rest_after (opening_at s to) i n ≡ x
      after e = ap (λ (y : Opening). rest_after y i n) (sym h.is) ∙ sym q ∙ e

      pub goes_on : {x : Rest} → r ≡ Some x → Going s at (to + o.words) x.pieces x.terms
      goes_on {x} e = going λ d t y k.
          subst (λ (u : Opening). Pass s (atom t) (to + u.words) x.pieces x.terms) (sym h.is) (again (g.each d t y k) (omega arith) (after e))

      pub no_atom : r ≡ None → IsAtom false s at
      no_atom e = record { each = λ d. record { is = λ t y x. sym (says_no (g.each d t y x) (omega arith) (after e)) } }

pub ruleset passes = (begins, head_there, all_tested, goes_on, no_atom, bounds)
