-- Every word of a term in its ranges fits 16 bits, and the image of a term in a rule's ranges is in an image's. By induction on the term, form by
-- form.
-- Assumes nothing.
use Prim.Native.Nat.{ℕ, zero, suc, ◌+◌, ◌/◌, ◌%◌, ◌<◌, ◌≤◌}
use mathlib.Core.Bool.{Bool, true, false, cond}
use mathlib.Core.Path.{◌≡◌, ◌∙◌}
use mathlib.Core.List.{List, [], ◌∷◌, ◌++◌}
use native.Mathlib.Omega.{arith}
use lib.ListN.{get_or}
use mir.Syntax.{w16}
use mir.Val.{Fits}
use Rattle.language.specs.Term.{Lang, rules, images, Term, Terms, Arms, kvar, con, nil, cons, size, sizeᵃ}
use Rattle.language.specs.Kinds.{most_arguments, last_operation, operands}
use Rattle.language.specs.Words.{head, word_end, added, words, wordsᵗ, wordsᵃ}
use Rattle.language.specs.Limits.{Ranged, Rangedᵗ, Rangedᵃ, r_var, r_kvar, r_fun, r_call, r_bind, r_con, r_cases, r_num, r_op, r_nil, r_cons, r_none, r_arm}
use Rattle.language.specs.Run.{atoms}
use Rattle.language.specs.Image.{lam, to, downto, calling, making, working, passing, carried, carrieds, chain, passingᵃ, image}
use Rattle.language.proofs.Forms.{size_carrieds, size_downto, size_passingᵃ}
use Rattle.trust.specs.Promises.{Fit, WordsFit, ImagesInRange}

-- the words of a lent slice fit
pub slice_fits : {ws : List ℕ} → ((i : ℕ) → Fits w16 (get_or ws i 0)) → Fit ws
slice_fits h = record { word = λ i. (h i).fits }

fit_nil : Fit []
fit_nil = record { word = λ i. omega arith }

fit_cons : {w : ℕ} {ws : List ℕ} → w < word_end → Fit ws → Fit (w ∷ ws)
fit_cons {w} {ws} h f = record { word = go }
  where
    go : (i : ℕ) → get_or (w ∷ ws) i 0 < word_end
    go zero = h
    go (suc i) = f.word i

fit_append : (xs ys : List ℕ) → Fit xs → Fit ys → Fit (xs ++ ys)
fit_append [] ys f g = g
fit_append (x ∷ xs) ys f g = fit_cons (f.word 0) (fit_append xs ys record { word = λ i. f.word (suc i) } g)

-- an image's function has one argument that is no source variable, and a rule's has none
pub added_one : (L : Lang) → added L ≤ 1
added_one rules = omega arith
added_one images = omega arith

module _ (L : Lang) where
  mutual
    unfolding words

    fit : {t : Term} → Ranged L t → Fit (words L t)
    fit (r_var {i} l) = fit_cons {w = head 1 i} (omega arith) fit_nil
    fit (r_kvar {i} k l) = fit_cons {w = head 9 i} (omega arith) fit_nil
    fit (r_fun {o} {a} p l u x) = fit_cons {w = head (2 + o) (a + added L)} (omega (arith, added_one L)) (fit x)
    fit (r_call {f} {ps} l u x y) = fit_cons {w = head 4 (size ps)} (omega (arith, added_one L)) (fit_append (words L f) (wordsᵗ L ps) (fit x) (fitᵗ y))
    fit (r_bind {m} {b} x y) = fit_cons {w = head 5 0} (omega arith) (fit_append (words L m) (words L b) (fit x) (fit y))
    fit (r_con {t} {ps} l u y) = fit_cons {w = head 6 t} (omega arith) (fit_cons {w = size ps} (omega arith) (fitᵗ y))
    fit (r_cases {m} {ps} l u x y) = fit_cons {w = head 7 (sizeᵃ ps)} (omega arith) (fit_append (words L m) (wordsᵃ L ps) (fit x) (fitᵃ y))
    fit (r_num {n} l) =
        fit_cons {w = head 10 0} (omega arith) (fit_cons {w = n / word_end} (omega arith) (fit_cons {w = n % word_end} (omega arith) fit_nil))
    fit (r_op {o} l u y) = fit_cons {w = head 11 o} (omega arith) (fitᵗ y)

    fitᵗ : {ts : Terms} → Rangedᵗ L ts → Fit (wordsᵗ L ts)
    fitᵗ r_nil = fit_nil
    fitᵗ (r_cons {t} {ts} x y) = fit_append (words L t) (wordsᵗ L ts) (fit x) (fitᵗ y)

    fitᵃ : {ps : Arms} → Rangedᵃ L ps → Fit (wordsᵃ L ps)
    fitᵃ r_none = fit_nil
    fitᵃ (r_arm {t} {n} {b} {ps} l u x y) =
        fit_cons {w = head 8 t} (omega arith) (fit_cons {w = n} (omega arith) (fit_append (words L b) (wordsᵃ L ps) (fit x) (fitᵃ y)))

pub words_fit : WordsFit
words_fit L t r = fit L r

-- the added functions and calls, and the endings of chains
lam_ranged : {b : Term} → Ranged images b → Ranged images (lam b)
lam_ranged x = r_fun {o = 0} {a = 0} (omega arith) (omega arith) (omega arith) x

to_ranged : {f p : Term} → Ranged images f → Ranged images p → Ranged images (to f p)
unfolding size
to_ranged {p} x y = r_call {ps = cons p nil} (omega arith) (omega arith) x (r_cons y r_nil)

k_ranged : (i : ℕ) → i ≤ 255 → Ranged images (kvar i)
k_ranged i l = r_kvar tt l

downto_ranged : (n : ℕ) → n ≤ 255 → Rangedᵗ images (downto n)
unfolding downto
downto_ranged zero l = r_nil
downto_ranged (suc n) l = r_cons (k_ranged n (omega arith)) (downto_ranged n (omega arith))

calling_ranged : (n : ℕ) → n ≤ most_arguments → Ranged images (calling n)
unfolding size
calling_ranged n l = r_call {ps = cons (kvar (suc n)) (downto n)} (omega arith) (omega (arith, size_downto n)) (k_ranged n (omega arith))
    (r_cons (k_ranged (suc n) (omega arith)) (downto_ranged n (omega arith)))

making_ranged : (t n : ℕ) → t ≤ 255 → n ≤ most_arguments → Ranged images (making t n)
making_ranged t n h l = to_ranged (k_ranged n (omega arith)) (r_con {ps = downto n} h (omega (arith, size_downto n)) (downto_ranged n (omega arith)))

working_ranged : (o n : ℕ) → o ≤ last_operation → n ≡ operands → Ranged images (working o n)
working_ranged o n h e = to_ranged (k_ranged n (omega arith)) (r_op {ps = downto n} h (size_downto n ∙ e) (downto_ranged n (omega arith)))

cond_ranged : (b : Bool) {x y : Term} → Ranged images x → Ranged images y → Ranged images (cond b x y)
cond_ranged true h k = h
cond_ranged false h k = k

-- what fills the place of the carried form that a term which is no atom has not
filler_ranged : Ranged images (con 0 nil)
unfolding size
filler_ranged = r_con {t = 0} {ps = nil} (omega arith) (omega arith) r_nil

mutual
  unfolding passing

  pub passing_ranged : {t : Term} → Ranged rules t → Ranged images (passing t)
  passing_ranged (r_var l) = lam_ranged (to_ranged (k_ranged 0 (omega arith)) (r_var l))
  passing_ranged (r_kvar k l) = absurd k
  passing_ranged (r_fun {a} o l u b) = lam_ranged (to_ranged (k_ranged 0 (omega arith))
      (r_fun {a = a} o (omega arith) u (to_ranged (passing_ranged b) (k_ranged 0 (omega arith)))))
  passing_ranged (r_call {ps} l u x y) = lam_ranged (to_ranged (passing_ranged x)
      (lam_ranged (chain_ranged y (calling_ranged (size ps) (omega arith)))))
  passing_ranged (r_bind x y) = lam_ranged (to_ranged (passing_ranged x)
      (lam_ranged (r_bind (k_ranged 0 (omega arith)) (to_ranged (passing_ranged y) (k_ranged 1 (omega arith))))))
  passing_ranged (r_con {t} {ps} l u y) = lam_ranged (cond_ranged (atoms ps)
      (to_ranged (k_ranged 0 (omega arith)) (r_con {ps = carrieds ps} l (omega (arith, size_carrieds ps)) (carrieds_ranged y)))
      (chain_ranged y (making_ranged t (size ps) l u)))
  passing_ranged (r_cases {ps} l u x y) = lam_ranged (to_ranged (passing_ranged x) (lam_ranged (r_cases {ps = passingᵃ ps}
      (omega (arith, size_passingᵃ ps)) (omega (arith, size_passingᵃ ps)) (k_ranged 0 (omega arith)) (passingᵃ_ranged y))))
  passing_ranged (r_num l) = lam_ranged (to_ranged (k_ranged 0 (omega arith)) (r_num l))
  passing_ranged (r_op {o} {ps} l u y) = lam_ranged (chain_ranged y (working_ranged o (size ps) l u))

  pub carried_ranged : {t : Term} → Ranged rules t → Ranged images (carried t)
  carried_ranged (r_var l) = r_var l
  carried_ranged (r_kvar k l) = absurd k
  carried_ranged (r_fun {a} o l u b) = r_fun {a = a} o (omega arith) u (to_ranged (passing_ranged b) (k_ranged 0 (omega arith)))
  carried_ranged (r_call l u x y) = filler_ranged
  carried_ranged (r_bind x y) = filler_ranged
  carried_ranged (r_con {ps} l u y) = r_con {ps = carrieds ps} l (omega (arith, size_carrieds ps)) (carrieds_ranged y)
  carried_ranged (r_cases l u x y) = filler_ranged
  carried_ranged (r_num l) = r_num l
  carried_ranged (r_op l u y) = filler_ranged

  pub carrieds_ranged : {ts : Terms} → Rangedᵗ rules ts → Rangedᵗ images (carrieds ts)
  carrieds_ranged r_nil = r_nil
  carrieds_ranged (r_cons x y) = r_cons (carried_ranged x) (carrieds_ranged y)

  chain_ranged : {ts : Terms} {e : Term} → Rangedᵗ rules ts → Ranged images e → Ranged images (chain ts e)
  chain_ranged r_nil h = h
  chain_ranged (r_cons x y) h = to_ranged (passing_ranged x) (lam_ranged (chain_ranged y h))

  passingᵃ_ranged : {ps : Arms} → Rangedᵃ rules ps → Rangedᵃ images (passingᵃ ps)
  passingᵃ_ranged r_none = r_none
  passingᵃ_ranged (r_arm l u x y) = r_arm l u (to_ranged (passing_ranged x) (k_ranged 1 (omega arith))) (passingᵃ_ranged y)

pub images_in_range : ImagesInRange
unfolding image
images_in_range t r = to_ranged (passing_ranged r) (lam_ranged (k_ranged 0 (omega arith)))
