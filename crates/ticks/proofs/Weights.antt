-- The weight of an image in its words: at most four records for each. By induction on the rule: a passing form has six to spare, and so it makes up for
-- a recursive function of fifteen arguments, which takes eighteen; the ends of chains have four to spare. Assumes nothing.
use Prim.Native.Nat.{ℕ, zero, suc, ◌+◌, ◌*◌, ◌≤◌}
use mathlib.Core.Bool.{Bool, true, false, cond}
use mathlib.Core.Path.{◌≡◌, refl}
use native.Mathlib.Omega.{arith}
use lib.ListN.{length, length-append}
use Rattle.language.specs.Term.{rules, images, Term, Terms, Arms, kvar, con, size}
use Rattle.language.specs.Words.{words, wordsᵗ, wordsᵃ}
use Rattle.language.specs.Limits.{Ranged, Rangedᵗ, Rangedᵃ, r_var, r_kvar, r_fun, r_call, r_bind, r_con, r_cases, r_num, r_op, r_nil, r_cons}
use Rattle.language.specs.Limits.{r_none, r_arm}
use Rattle.language.specs.Run.{atoms}
use Rattle.language.specs.Image.{to, downto, calling, making, working, passing, carried, carrieds, chain, passingᵃ, image}
use Rattle.sizes.proofs.Lengths.{of_calling, of_making, of_working}
use Rattle.ticks.specs.Promises.{weight, weightᵗ, weightᵃ, records_per_word, WeightInWords}

downto_weight : (n : ℕ) → weightᵗ (downto n) ≡ 0
unfolding downto weight
downto_weight zero = refl
downto_weight (suc n) = omega (arith, downto_weight n)

-- so many records to spare
abbrev Spares : ℕ → Term → Type 0
Spares n t = weight t + n ≤ records_per_word * length (words images t)

cond_spares : (n : ℕ) (b : Bool) (x y : Term) → Spares n x → Spares n y → Spares n (cond b x y)
cond_spares n true x y h k = h
cond_spares n false x y h k = k

-- the three endings of a chain
ends_calling : (n : ℕ) → Spares 4 (calling n)
unfolding weight
ends_calling n = omega (arith, of_calling n, downto_weight n)

ends_making : (t n : ℕ) → Spares 4 (making t n)
unfolding weight
ends_making t n = omega (arith, of_making t n, downto_weight n)

ends_working : (o n : ℕ) → Spares 4 (working o n)
unfolding weight
ends_working o n = omega (arith, of_working o n, downto_weight n)

mutual
  unfolding passing weight words size

  passing_spares : {t : Term} → Ranged rules t → Spares 6 (passing t)
  passing_spares (r_var h) = omega arith
  passing_spares (r_kvar l h) = omega arith
  passing_spares (r_fun {o} {a} {b} p q h hb) = simp length-append (omega (arith, passing_spares hb))
  passing_spares (r_call {f} {ps} p q hf hs) =
      simp length-append (omega (arith, passing_spares hf, chain_spares hs (calling (size ps)) (ends_calling (size ps))))
  passing_spares (r_bind hm hb) = simp length-append (omega (arith, passing_spares hm, passing_spares hb))
  passing_spares (r_con {t} {ps} p q hs) =
      let x = to (kvar 0) (con t (carrieds ps)) in
      let h : Spares 4 x = simp length-append (omega (arith, carrieds_spares hs)) in
      let e = making t (size ps) in
      omega (arith, cond_spares 4 (atoms ps) x (chain ps e) h (chain_spares hs e (ends_making t (size ps))))
  passing_spares (r_cases p q hm hs) = simp length-append (omega (arith, passing_spares hm, passingᵃ_spares hs))
  passing_spares (r_num h) = omega arith
  passing_spares (r_op {o} {ps} p q hs) = omega (arith, chain_spares hs (working o (size ps)) (ends_working o (size ps)))

  carried_spares : {t : Term} → Ranged rules t → Spares 0 (carried t)
  carried_spares (r_var h) = omega arith
  carried_spares (r_kvar l h) = omega arith
  carried_spares (r_fun {o} {a} {b} p q h hb) = simp length-append (omega (arith, passing_spares hb))
  carried_spares (r_call p q hf hs) = omega arith
  carried_spares (r_bind hm hb) = omega arith
  carried_spares (r_con p q hs) = omega (arith, carrieds_spares hs)
  carried_spares (r_cases p q hm hs) = omega arith
  carried_spares (r_num h) = omega arith
  carried_spares (r_op p q hs) = omega arith

  carrieds_spares : {ts : Terms} → Rangedᵗ rules ts → weightᵗ (carrieds ts) ≤ records_per_word * length (wordsᵗ images (carrieds ts))
  carrieds_spares r_nil = omega arith
  carrieds_spares (r_cons h hs) = simp length-append (omega (arith, carried_spares h, carrieds_spares hs))

  chain_spares : {ts : Terms} → Rangedᵗ rules ts → (e : Term) → Spares 4 e → Spares 4 (chain ts e)
  chain_spares r_nil e k = k
  chain_spares (r_cons h hs) e k = simp length-append (omega (arith, passing_spares h, chain_spares hs e k))

  passingᵃ_spares : {ps : Arms} → Rangedᵃ rules ps → weightᵃ (passingᵃ ps) ≤ records_per_word * length (wordsᵃ images (passingᵃ ps))
  passingᵃ_spares r_none = omega arith
  passingᵃ_spares (r_arm p q hb hs) = simp length-append (omega (arith, passing_spares hb, passingᵃ_spares hs))

pub weight_in_words : WeightInWords
unfolding image weight words
weight_in_words t h = simp length-append (omega (arith, passing_spares h))
