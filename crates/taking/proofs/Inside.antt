-- What stands in an image is inside it: the bounds of those who read it, and what stands behind a head.
-- Assumes nothing.
use Prim.Native.Nat.{ℕ, ◌+◌, ◌-◌, ◌/◌, ◌≤◌, ◌<◌}
use mathlib.Core.Path.{◌≡◌, sym, ◌∙◌}
use mathlib.Core.List.{List}
use native.Mathlib.Omega.{arith}
use lib.ListN.{length, get_or}
use Rattle.language.specs.Term.{images, Term, Terms, nil, cons, size}
use Rattle.language.specs.Words.{words, wordsᵗ}
use Rattle.language.specs.Limits.{Ranged, r_var, r_kvar, r_fun, r_call, r_bind, r_con, r_cases, r_num, r_op, Rangedᵗ, r_cons}
use Rattle.language.specs.Places.{Held}
use Rattle.language.specs.Kinds.{most_arguments}
use Rattle.language.proofs.Places.{first_run, second_run, there, first_word, next_words, ends}
use Rattle.atoms.proofs.Standing.{term_least_in}
use Rattle.records.specs.Links.{link_end}
use Rattle.taking.specs.Standing.{Stands, Standᵗ, Ends, Constructed, Counts}
use Rattle.taking.proofs.Heads.{kind_of, told}

-- a number's two words are there
numbered_at : {s : List ℕ} {t : Term} {at to : ℕ} → Ranged images t → Held s (words images t) at to → kind_of t ≡ 10 → at + 2 < length s
unfolding words kind_of
numbered_at (r_num h) k e = omega (arith, there (next_words (next_words k)))
numbered_at (r_var h) k e = absurd (omega arith)
numbered_at (r_kvar a h) k e = absurd (omega arith)
numbered_at (r_fun l h m r) k e = absurd (omega arith)
numbered_at (r_call l h r rs) k e = absurd (omega arith)
numbered_at (r_bind r r') k e = absurd (omega arith)
numbered_at (r_con h l rs) k e = absurd (omega arith)
numbered_at (r_cases l h r rs) k e = absurd (omega arith)
numbered_at (r_op h l rs) k e = absurd (omega arith)

-- a constructor's count and its arguments are
record Counted (s : List ℕ) (at : ℕ) : Type 0 where
  pub terms : Terms
  pub to : ℕ
  pub held : Held s (wordsᵗ images terms) (at + 2) to
  pub ranged : Rangedᵗ images terms
  pub many : size terms ≡ get_or s (at + 1) 0
  pub few : size terms ≤ most_arguments
  pub there : at + 1 < length s

counted_at : {s : List ℕ} {t : Term} {at to : ℕ} → Ranged images t → Held s (words images t) at to → kind_of t ≡ 6 → Counted s at
unfolding words kind_of
counted_at {at = at} {to = to} (r_con {ps = ps} h l rs) k e =
    let z : at + 1 + 1 ≡ at + 2 = omega arith in
    let k₁ = next_words k in
    record { terms = ps; to = to; held = rw z at (next_words k₁); ranged = rs; many = sym (first_word k₁); few = l; there = there k₁ }
counted_at (r_num h) k e = absurd (omega arith)
counted_at (r_var h) k e = absurd (omega arith)
counted_at (r_kvar a h) k e = absurd (omega arith)
counted_at (r_fun l h m r) k e = absurd (omega arith)
counted_at (r_call l h r rs) k e = absurd (omega arith)
counted_at (r_bind r r') k e = absurd (omega arith)
counted_at (r_cases l h r rs) k e = absurd (omega arith)
counted_at (r_op h l rs) k e = absurd (omega arith)

module _ {s : List ℕ} {at : ℕ} (k : Stands s at) where
  pub inside : at < length s
  inside = omega (arith, ends (term_least_in images k.term).0 k.held, k.held.past, term_least_in images k.term)

  pub short_place : at < link_end
  short_place = omega (arith, inside, k.short)

  pub numbered : get_or s at 0 / 256 ≡ 10 → at + 2 < length s
  numbered q = numbered_at k.ranged k.held (sym (told k.ranged k.held).0 ∙ q)

  module _ (q : get_or s at 0 / 256 ≡ 6) where
    counted : Counted s at
    counted = counted_at k.ranged k.held (sym (told k.ranged k.held).0 ∙ q)

    pub constructed : Constructed s at
    constructed = record { stands = k; kind = q; inside = omega (arith, counted.there) }

pub counts : {s : List ℕ} {at n : ℕ} → Constructed s at → n ≡ get_or s (at + 1) 0 → Counts s at n
counts k e =
    let c = counted k.stands k.kind in
    record {
      is = e;
      few = omega (arith, e, c.few, c.many);
      behind = record { terms = c.terms; to = c.to; held = c.held; ranged = c.ranged; many = c.many ∙ sym e; short = k.stands.short };
    }

-- of some terms the first stands first, and the others behind it
pub stand_first : {s : List ℕ} {at k : ℕ} → 0 < k → Standᵗ s at k → Stands s at
unfolding wordsᵗ size
stand_first {s} {at} {k} z h = go h.terms h.held h.ranged h.many
  where
    go : (ts : Terms) {to : ℕ} → Held s (wordsᵗ images ts) at to → Rangedᵗ images ts → size ts ≡ k → Stands s at
    go nil e r q = absurd (omega arith)
    go (cons t ts) e (r_cons r rs) q = record { term = t; to = at + length (words images t); held = first_run (words images t) (wordsᵗ images ts) e; ranged = r; short = h.short }

pub stand_next : {s : List ℕ} {at to k : ℕ} → 0 < k → Standᵗ s at k → Ends s at to → Standᵗ s to (k - 1)
unfolding wordsᵗ size
stand_next {s} {at} {to} {k} z h x = go h.terms h.held h.ranged h.many
  where
    go : (ts : Terms) {e : ℕ} → Held s (wordsᵗ images ts) at e → Rangedᵗ images ts → size ts ≡ k → Standᵗ s to (k - 1)
    go nil e r q = absurd (omega arith)
    go (cons t ts) {e} f (r_cons r rs) q =
        let y = x.end t (at + length (words images t)) (first_run (words images t) (wordsᵗ images ts) f) r in
        record { terms = ts; to = e; held = rw y (second_run (words images t) (wordsᵗ images ts) f); ranged = rs; many = omega arith; short = h.short }
