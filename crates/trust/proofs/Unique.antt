-- The words of a term determine it, in either language. A reader of words that tests nothing (`back`) gives every term in its ranges back from
-- its words; so two such terms with the same words are one.
-- Assumes nothing.
use Prim.Native.Nat.{ℕ, zero, suc, ◌+◌, ◌*◌, ◌-◌, ◌/◌, ◌%◌, ◌≤◌, max}
use mathlib.Core.Path.{◌≡◌, refl, sym, ap, ◌∙◌, subst}
use mathlib.Core.List.{List, [], ◌∷◌, ◌++◌, append_assoc}
use native.Mathlib.Omega.{arith}
use lib.ListN.{get_or}
use Rattle.language.specs.Term.{Lang, Term, Terms, Arms, var, kvar, fun, call, bind, con, cases, num, op, nil, cons, none, arm, size, sizeᵃ}
use Rattle.language.specs.Kinds.{most_byte, operands}
use Rattle.language.specs.Words.{head, word_end, added, words, wordsᵗ, wordsᵃ}
use Rattle.language.specs.Limits.{Ranged, Rangedᵗ, Rangedᵃ, r_var, r_kvar, r_fun, r_call, r_bind, r_con, r_cases, r_num, r_op, r_nil, r_cons, r_none, r_arm, depth, depthᵗ, depthᵃ}
use Rattle.trust.specs.Promises.{WordsDetermine}
use Rattle.trust.proofs.Ranges.{added_one}

-- a thing and the words after it, or nothing
data Back (A : Type 0) : Type 0 where
  found : A → List ℕ → Back A
  lost : Back A

after : {A B : Type 0} → Back A → (A → List ℕ → Back B) → Back B
after (found a ws) f = f a ws
after lost f = lost

after_is : {A B : Type 0} {g : Back A} {a : A} {ws : List ℕ} (f : A → List ℕ → Back B) {h : Back B} → g ≡ found a ws → f a ws ≡ h → after g f ≡ h
unfolding after
after_is f e k = ap (λ x. after x f) e ∙ k

-- words one after the other, p giving a term back
module _ (p : List ℕ → Back Term) where
  back_list : ℕ → List ℕ → Back Terms
  unfolding after
  back_list zero ws = found nil ws
  back_list (suc k) ws = after (p ws) (λ t r. after (back_list k r) (λ ts r'. found (cons t ts) r'))

  back_arms : ℕ → List ℕ → Back Arms
  unfolding after
  back_arms zero ws = found none ws
  back_arms (suc k) [] = lost
  back_arms (suc k) (w ∷ []) = lost
  back_arms (suc k) (w ∷ n ∷ ws) = after (p ws) (λ b r. after (back_arms k r) (λ ps r'. found (arm (w % 256) n b ps) r'))

  back_con : ℕ → List ℕ → Back Term
  unfolding after back_list
  back_con t [] = lost
  back_con t (n ∷ ws) = after (back_list n ws) (λ ps r. found (con t ps) r)

  back_num : List ℕ → Back Term
  back_num [] = lost
  back_num (h ∷ []) = lost
  back_num (h ∷ l ∷ ws) = found (num (h * word_end + l)) ws

  -- what follows a head, by its kind: the low byte a, and the words ws
  back_kinds : Lang → List (ℕ → List ℕ → Back Term)
  unfolding after back_list back_arms back_con back_num
  back_kinds L =
      (λ a ws. lost)
      ∷ (λ a ws. found (var a) ws)
      ∷ (λ a ws. after (p ws) (λ b r. found (fun 0 (a - added L) b) r))
      ∷ (λ a ws. after (p ws) (λ b r. found (fun 1 (a - added L) b) r))
      ∷ (λ a ws. after (p ws) (λ f r. after (back_list a r) (λ ps r'. found (call f ps) r')))
      ∷ (λ a ws. after (p ws) (λ m r. after (p r) (λ b r'. found (bind m b) r')))
      ∷ back_con
      ∷ (λ a ws. after (p ws) (λ m r. after (back_arms a r) (λ ps r'. found (cases m ps) r')))
      ∷ (λ a ws. lost)
      ∷ (λ a ws. found (kvar a) ws)
      ∷ (λ a ws. back_num ws)
      ∷ (λ a ws. after (back_list operands ws) (λ ps r. found (op a ps) r))
      ∷ []

  -- a term whose head is the word w
  back_head : Lang → ℕ → List ℕ → Back Term
  unfolding back_kinds
  back_head L w ws = get_or (back_kinds L) (w / 256) (λ a r. lost) (w % 256) ws

  back_head_is : (L : Lang) (k a : ℕ) (ws : List ℕ) → a ≤ most_byte → back_head L (head k a) ws ≡ get_or (back_kinds L) k (λ a r. lost) a ws
  unfolding back_head
  back_head_is L k a ws l =
      let d : head k a / 256 ≡ k = omega arith in
      let m : head k a % 256 ≡ a = omega arith in
      rw (d, m)

back : Lang → ℕ → List ℕ → Back Term
unfolding back_head
back L zero ws = lost
back L (suc g) [] = lost
back L (suc g) (w ∷ ws) = back_head (back L g) L w ws

-- at a head of the kind k, with a level left
at_head : (L : Lang) (g k a : ℕ) (ws : List ℕ) → 1 ≤ g → a ≤ most_byte
    → back L g (head k a ∷ ws) ≡ get_or (back_kinds (back L (g - 1)) L) k (λ a r. lost) a ws
unfolding back
at_head L zero k a ws h l = absurd (omega arith)
at_head L (suc g) k a ws h l =
    let e : g ≡ suc g - 1 = omega arith in
    back_head_is (back L g) L k a ws l ∙ ap (λ x. get_or (back_kinds (back L x) L) k (λ a r. lost) a ws) e

-- a function, plain or recursive
at_fun : (L : Lang) (g o a : ℕ) (ws : List ℕ) {b : Term} {r : List ℕ} → o ≤ 1 → 1 ≤ g → a + added L ≤ most_byte → back L (g - 1) ws ≡ found b r
    → back L g (head (2 + o) (a + added L) ∷ ws) ≡ found (fun o a b) r
unfolding back_kinds after
at_fun L g zero a ws h l m e =
    let z : a + added L - added L ≡ a = omega arith in
    at_head L g 2 (a + added L) ws l m ∙ after_is _ e (rw z)
at_fun L g (suc zero) a ws h l m e =
    let z : a + added L - added L ≡ a = omega arith in
    at_head L g 3 (a + added L) ws l m ∙ after_is _ e (rw z)
at_fun L g (suc (suc o)) a ws h l m e = absurd (omega arith)

module _ (L : Lang) where
  mutual
    unfolding words size sizeᵃ depth back_kinds back_con back_num back_list back_arms

    term_back : {t : Term} → Ranged L t → (g : ℕ) (r : List ℕ) → depth t ≤ g → back L g (words L t ++ r) ≡ found t r
    term_back (r_var {i} l) g r d = at_head L g 1 i r d l
    term_back (r_kvar {i} k l) g r d = at_head L g 9 i r d l
    term_back (r_fun {o} {a} {b} p l u x) g r d =
        at_fun L g o a (words L b ++ r) p (omega arith) (omega (arith, added_one L)) (term_back x (g - 1) r (omega arith))
    term_back (r_call {f} {ps} l u x y) g r d =
        at_head L g 4 (size ps) ((words L f ++ wordsᵗ L ps) ++ r) (omega arith) (omega (arith, added_one L))
        ∙ rw (append_assoc (words L f) (wordsᵗ L ps) r)
        (after_is _ (term_back x (g - 1) (wordsᵗ L ps ++ r) (omega arith)) (after_is _ (terms_back y (g - 1) r (omega arith)) refl))
    term_back (r_bind {m} {b} x y) g r d =
        at_head L g 5 0 ((words L m ++ words L b) ++ r) (omega arith) (omega arith)
        ∙ rw (append_assoc (words L m) (words L b) r)
        (after_is _ (term_back x (g - 1) (words L b ++ r) (omega arith)) (after_is _ (term_back y (g - 1) r (omega arith)) refl))
    term_back (r_con {t} {ps} l u y) g r d =
        at_head L g 6 t (size ps ∷ (wordsᵗ L ps ++ r)) (omega arith) l ∙ after_is _ (terms_back y (g - 1) r (omega arith)) refl
    term_back (r_cases {m} {ps} l u x y) g r d =
        at_head L g 7 (sizeᵃ ps) ((words L m ++ wordsᵃ L ps) ++ r) (omega arith) (omega arith)
        ∙ rw (append_assoc (words L m) (wordsᵃ L ps) r)
        (after_is _ (term_back x (g - 1) (wordsᵃ L ps ++ r) (omega arith)) (after_is _ (arms_back y (g - 1) r (omega arith)) refl))
    term_back (r_num {n} l) g r d =
        let m : n / word_end * word_end + n % word_end ≡ n = omega arith in
        at_head L g 10 0 (n / word_end ∷ n % word_end ∷ r) d (omega arith) ∙ ap (λ x. found (num x) r) m
    term_back (r_op {o} {ps} l u y) g r d =
        at_head L g 11 o (wordsᵗ L ps ++ r) (omega arith) (omega arith)
        ∙ after_is _ (subst (λ i. back_list (back L (g - 1)) i (wordsᵗ L ps ++ r) ≡ found ps r) u (terms_back y (g - 1) r (omega arith))) refl

    terms_back : {ts : Terms} → Rangedᵗ L ts → (g : ℕ) (r : List ℕ) → depthᵗ ts ≤ g → back_list (back L g) (size ts) (wordsᵗ L ts ++ r) ≡ found ts r
    terms_back r_nil g r d = refl
    terms_back (r_cons {t} {ts} x y) g r d =
        rw (append_assoc (words L t) (wordsᵗ L ts) r)
        (after_is _ (term_back x g (wordsᵗ L ts ++ r) (omega arith)) (after_is _ (terms_back y g r (omega arith)) refl))

    arms_back : {ps : Arms} → Rangedᵃ L ps → (g : ℕ) (r : List ℕ) → depthᵃ ps ≤ g → back_arms (back L g) (sizeᵃ ps) (wordsᵃ L ps ++ r) ≡ found ps r
    arms_back r_none g r d = refl
    arms_back (r_arm {t} {n} {b} {ps} l u x y) g r d =
        let m : head 8 t % 256 ≡ t = omega arith in
        rw (append_assoc (words L b) (wordsᵃ L ps) r, m)
        (after_is _ (term_back x g (wordsᵃ L ps ++ r) (omega arith)) (after_is _ (arms_back y g r (omega arith)) refl))

pub words_determine : WordsDetermine
words_determine L t u x y e =
    let g = max (depth t) (depth u) in
    let b = term_back L x g [] (omega arith) in
    let c = term_back L y g [] (omega arith) in
    let z : words L t ++ [] ≡ words L u ++ [] = ap (λ (l : List ℕ). l ++ []) e in
    let q : found t [] ≡ found u [] = sym b ∙ ap (back L g) z ∙ c in
    cc
