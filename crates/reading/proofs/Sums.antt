-- What the code counts is small, so that its sums do not wrap: a row's body has one source variable at most besides its arguments, a match has few
-- arms, and the words of what was read are at most seven times the words that it stands in.
-- Assumes nothing.
use Prim.Native.Nat.{ℕ, ◌*◌, ◌%◌, ◌≤◌}
use mathlib.Core.Path.{◌≡◌, sym}
use mathlib.Core.Bool.{Bool}
use mathlib.Core.List.{List}
use native.Mathlib.Omega.{arith}
use lib.ListN.{length}
use Rattle.language.specs.Term.{Terms}
use Rattle.language.specs.Setting.{Setting}
use Rattle.language.specs.Kinds.{most_arms, at_term, Opens, head_of}
use Rattle.language.specs.Read.{Got, many, arms_of, term}
use Rattle.language.specs.declared.Parts.TheVariants.{SubjectAndArms}
use Rattle.language.specs.declared.Row.{Row}
use Rattle.language.proofs.Clash.{never}
use Rattle.sizes.proofs.Promises.{bound, bounds, boundᵃ, leasts}
use Rattle.trust.proofs.Rows.{Opened, o_var, o_fun, o_rec, o_call, o_let, o_con, o_match, o_arm, o_num, o_op, passed}
use Rattle.trust.proofs.Good.{Holds, held, left, Goodᵗ, term_good, many_good, arms_good}
use Rattle.reading.specs.Steps.{a_word, small, saved_words, chain_length, Next, step_of, term_step, terms_step, arms_step, FewArms}

-- a row's body has one source variable at most besides its arguments
one_bind : {k : ℕ} {f : Row} → Opened k f → f.binds ≤ 1
one_bind o_var = omega arith
one_bind o_fun = omega arith
one_bind o_rec = omega arith
one_bind o_call = omega arith
one_bind o_let = omega arith
one_bind o_con = omega arith
one_bind o_match = omega arith
one_bind o_arm = omega arith
one_bind o_num = omega arith
one_bind o_op = omega arith

pub row_binds : (v w : ℕ) {f : Row} → Opens f ≡ head_of v at_term w → f.binds ≤ 1
row_binds v w e = one_bind (passed v at_term w _ (omega arith) (sym e)).opened

-- a match has so many arms at most
few_arms : {k a : ℕ} {f : Row} → Opened k f → f.parts ≡ SubjectAndArms → a ≤ f.high → a ≤ most_arms
few_arms o_var e l = never cc
few_arms o_fun e l = never cc
few_arms o_rec e l = never cc
few_arms o_call e l = never cc
few_arms o_let e l = never cc
few_arms o_con e l = never cc
few_arms o_match e l = l
few_arms o_arm e l = never cc
few_arms o_num e l = never cc
few_arms o_op e l = never cc

pub row_arms : (v w : ℕ) {f : Row} → Opens f ≡ head_of v at_term w → FewArms f.parts (w % 256)
row_arms v w e = let p = passed v at_term w _ (omega arith) (sym e) in record { few = λ q. few_arms p.opened q p.high }

-- what holds of the words of each thing that can be found holds of those that were counted
counts : {A : Type 0} {Q : A → ℕ → Type 0} (α : A → Bool) (π : A → ℕ) (k : ℕ) {g : Got A} {to z : ℕ} {b : Bool} → Holds Q g
    → Next to b z ≡ step_of α π g → ((a : A) (i : ℕ) → Q a i → π a ≤ k) → z ≤ k
unfolding step_of
counts α π k {z = z} (held {a} {to = i} q) e h = let w : z ≡ π a = cc in omega (arith, h a i q)
counts α π k left e h = never cc

module _ (S : Setting) (s : List ℕ) (d n at : ℕ) {to z : ℕ} {b : Bool} where
  pub term_small : Next to b z ≡ term_step (term S s d n at) → z ≤ 7 * length s
  term_small e = counts _ _ _ (term_good S s d n at) e (λ t to q. omega (arith, bound t, q.held.within))

  module _ (k : ℕ) where
    pub terms_small : Next to b z ≡ terms_step (many (term S s d n) k at) → z ≤ 7 * length s
    unfolding chain_length
    terms_small e = counts _ _ _ (many_good S s d (term S s d) (term_good S s d) n k at) e (λ ts to q. omega (arith, bounds ts, q.held.within))

    pub arms_small : (before : List (ℕ × ℕ)) → Next to b z ≡ arms_step (arms_of S s (term S s d) before n k at) → z ≤ 7 * length s
    arms_small before e = counts _ _ _ (arms_good S s d (term S s d) (term_good S s d) before n k at) e (λ ps to q. omega (arith, boundᵃ ps, q.held.within))

    -- there are six words for each of the terms
    pub terms_roomy : Next to b z ≡ terms_step (many (term S s d n) k at) → saved_words * k ≤ z
    unfolding step_of chain_length
    terms_roomy e = go (many_good S s d (term S s d) (term_good S s d) n k at) e
      where
        go : {g : Got Terms} → Holds (Goodᵗ S s d n k at) g → Next to b z ≡ terms_step g → saved_words * k ≤ z
        go (held {a} q) e = let w : z ≡ chain_length a = cc in omega (arith, leasts a, q.counted)
        go left e = never cc

-- in a table of so many words, sums of what is counted do not wrap
module _ (S : Setting) (s : List ℕ) (d n at : ℕ) {to z : ℕ} {b : Bool} (few : length s ≤ a_word) where
  pub s_term : Next to b z ≡ term_step (term S s d n at) → z ≤ small
  s_term e = omega (arith, term_small S s d n at e)

  module _ (k : ℕ) where
    pub s_terms : Next to b z ≡ terms_step (many (term S s d n) k at) → z ≤ small
    s_terms e = omega (arith, terms_small S s d n at k e)

    pub s_arms : (before : List (ℕ × ℕ)) → Next to b z ≡ arms_step (arms_of S s (term S s d) before n k at) → z ≤ small
    s_arms before e = omega (arith, arms_small S s d n at k before e)

pub ruleset sums = (row_binds, row_arms, terms_roomy, s_term, s_terms, s_arms)
