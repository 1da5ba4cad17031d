-- Passing over what stands in words, head by head, in either language: a term is one piece, a list and arms are as many as they have. It is said of
-- whatever holds of a place with i pieces left once it holds behind the head there with the pieces that the head opens: by induction over the
-- terms.
-- Assumes nothing.
use Prim.Native.Nat.{ℕ, zero, suc, ◌+◌, ◌-◌, ◌%◌, ◌≤◌, ◌<◌}
use mathlib.Core.Path.{◌≡◌, refl, sym, ap, subst₂}
use mathlib.Core.List.{List, ◌∷◌}
use native.Mathlib.Omega.{arith}
use lib.ListN.{get_or}
use Rattle.language.specs.Term.{Lang, rules, images, Term, Terms, Arms, size, sizeᵃ}
use Rattle.language.specs.Kinds.{most_byte, row_at}
use Rattle.language.specs.Words.{head, added, words, wordsᵗ, wordsᵃ}
use Rattle.language.specs.Limits.{Ranged, Rangedᵗ, Rangedᵃ, r_var, r_kvar, r_fun, r_call, r_bind, r_con, r_cases, r_num, r_op, r_nil, r_cons, r_none, r_arm}
use Rattle.language.specs.Places.{Held}
use Rattle.language.specs.declared.Parts.{Parts}
use Rattle.language.specs.declared.Parts.TheVariants.{Body}
use Rattle.language.specs.declared.Row.{Row}
use Rattle.language.proofs.Heads.{of_kind}
use Rattle.language.proofs.Places.{first_run, second_run, first_word, next_words}
use Rattle.atoms.specs.Standing.{form_at}
use Rattle.atoms.specs.Openings.{head_words, pieces_of, pieces_at, opening_at}
use Rattle.atoms.specs.declared.Opening.{Opening}

-- what a head of the form P with the low byte n opens, before the word m
abbrev pub opening : Parts → ℕ → ℕ → Opening
opening P n m = record { parts = P; words = head_words P; pieces = pieces_of P n m }

-- what a head of the kind k and the low byte a opens, where it stands
module _ {s : List ℕ} {at to : ℕ} where
  pub opens : (k a : ℕ) {ws : List ℕ} → Held s (head k a ∷ ws) at to → a ≤ most_byte
      → opening_at s at ≡ opening (row_at k).parts a (get_or s (at + 1) 0)
  unfolding opening_at pieces_at form_at
  opens k a h l =
      let e : get_or s at 0 % 256 ≡ a = omega (arith, first_word h) in
      let f : form_at s at ≡ (row_at k).parts = ap (λ (r : Row). r.parts) (sym (of_kind (get_or s at 0) k a (first_word h) l refl)) in
      rw (e, f)

  pub opens_fun : (o a : ℕ) {ws : List ℕ} → o ≤ 1 → Held s (head (2 + o) a ∷ ws) at to → a ≤ most_byte
      → opening_at s at ≡ opening Body a (get_or s (at + 1) 0)
  opens_fun zero a e h l = opens 2 a h l
  opens_fun (suc zero) a e h l = opens 3 a h l
  opens_fun (suc (suc o)) a e h l = absurd (omega arith)

added_few : (L : Lang) → added L ≤ 1
added_few rules = omega arith
added_few images = omega arith

module _ (s : List ℕ) (P : ℕ → ℕ → Type 0)
    (step : (at i : ℕ) → 0 < i → 0 < (opening_at s at).words → P (at + (opening_at s at).words) (i - 1 + (opening_at s at).pieces) → P at i) where
  behind : {at : ℕ} (o : Opening) → opening_at s at ≡ o → {to i j : ℕ} → to ≡ at + o.words → at < to → 0 < i → j ≡ i - 1 + o.pieces → P to j → P at i
  behind {at} o e {to} {i} {j} q l c d p =
      let w : o.words ≡ (opening_at s at).words = ap (λ (x : Opening). x.words) (sym e) in
      let k : o.pieces ≡ (opening_at s at).pieces = ap (λ (x : Opening). x.pieces) (sym e) in
      step at i c (omega (arith, w)) (subst₂ P (omega (arith, w)) (omega (arith, k)) p)

  module _ {L : Lang} where
    mutual
      unfolding words size sizeᵃ head_words pieces_of

      pub over : {t : Term} {at to i j : ℕ} → Ranged L t → Held s (words L t) at to → j ≡ i + 1 → P to i → P at j
      over (r_var {i = v} h) k e p = behind _ (opens 1 v k h) k.past (omega (arith, k.past)) (omega arith) (omega arith) p
      over (r_kvar {i = v} a h) k e p = behind _ (opens 9 v k h) k.past (omega (arith, k.past)) (omega arith) (omega arith) p
      over (r_fun {o} {a} l h m r) k e p =
          behind _ (opens_fun o (a + added L) l k (omega (arith, added_few L))) refl (omega arith) (omega arith) (omega arith)
          (over r (next_words k) refl p)
      over (r_call {f} {ps} l h r rs) k e p =
          let k' = next_words k in
          behind _ (opens 4 (size ps) k (omega (arith, added_few L))) refl (omega arith) (omega arith) (omega arith)
          (over r (first_run (words L f) (wordsᵗ L ps) k') refl (overᵗ rs (second_run (words L f) (wordsᵗ L ps) k') refl p))
      over (r_bind {m} {b = c} r r') k e p =
          let k' = next_words k in
          behind _ (opens 5 0 k (omega arith)) refl (omega arith) (omega arith) (omega arith)
          (over r (first_run (words L m) (words L c) k') refl (over r' (second_run (words L m) (words L c) k') refl p))
      over (r_con {t} {ps} h l rs) k e p =
          let k' = next_words k in
          let c = first_word k' in
          behind _ (opens 6 t k h) (omega arith) (omega arith) (omega arith) (omega arith) (overᵗ rs (next_words k') refl p)
      over (r_cases {m} {ps} l h r rs) k e p =
          let k' = next_words k in
          behind _ (opens 7 (sizeᵃ ps) k (omega arith)) refl (omega arith) (omega arith) (omega arith)
          (over r (first_run (words L m) (wordsᵃ L ps) k') refl (overᵃ rs (second_run (words L m) (wordsᵃ L ps) k') refl p))
      over (r_num h) k e p = behind _ (opens 10 0 k (omega arith)) k.past (omega (arith, k.past)) (omega arith) (omega arith) p
      over (r_op {o} h l rs) k e p = behind _ (opens 11 o k (omega arith)) refl (omega arith) (omega arith) (omega arith) (overᵗ rs (next_words k) refl p)

      pub overᵗ : {ts : Terms} {at to i j : ℕ} → Rangedᵗ L ts → Held s (wordsᵗ L ts) at to → j ≡ i + size ts → P to i → P at j
      overᵗ r_nil k e p = subst₂ P (omega (arith, k.past)) (omega arith) p
      overᵗ (r_cons {t} {ts} r rs) k e p =
          over r (first_run (words L t) (wordsᵗ L ts) k) (omega arith) (overᵗ rs (second_run (words L t) (wordsᵗ L ts) k) refl p)

      pub overᵃ : {ps : Arms} {at to i j : ℕ} → Rangedᵃ L ps → Held s (wordsᵃ L ps) at to → j ≡ i + sizeᵃ ps → P to i → P at j
      overᵃ r_none k e p = subst₂ P (omega (arith, k.past)) (omega arith) p
      overᵃ (r_arm {t} {n = a} {b = c} {ps} h l r rs) k e p =
          let k' = next_words (next_words k) in
          behind _ (opens 8 t k h) (omega arith) (omega arith) (omega arith) (omega arith)
          (over r (first_run (words L c) (wordsᵃ L ps) k') refl (overᵃ rs (second_run (words L c) (wordsᵃ L ps) k') refl p))
