-- The words of every rule are accepted, with that term. By induction on the term: where its words stand, under at least its variables' number
-- and with at least its depth left, the readers find it and the place after it.
-- Assumes nothing.
use Prim.Native.Nat.{ℕ, zero, suc, ◌+◌, ◌*◌, ◌-◌, ◌/◌, ◌%◌, ◌<◌, ◌≤◌}
use mathlib.Core.Path.{◌≡◌, refl, sym, ap, ◌∙◌, subst}
use mathlib.Core.Bool.{false}
use mathlib.Core.List.{List, [], ◌∷◌, ◌++◌}
use native.Mathlib.Omega.{arith}
use native.Mathlib.Numerals.{add-one, sub-one}
use lib.ListN.{length, get_or}
use borrow.Author.Tests.{lt-ltb, le-ltb, le-leb, ne_eqb}
use Rattle.language.specs.Term.{rules, Term, Terms, Arms, var, kvar, fun, call, bind, con, cases, num, op, nil, cons, none, arm, size, sizeᵃ}
use Rattle.language.specs.Setting.{Setting}
use Rattle.language.specs.Kinds.{most_arguments, most_byte, operands, at_term, at_arm, row, row_at, Has}
use Rattle.language.specs.Words.{head, word_end, words, wordsᵗ, wordsᵃ}
use Rattle.language.specs.Scope.{Scoped, Scopedᵗ, Scopedᵃ, s_var, s_fun, s_call, s_bind, s_con, s_cases, s_num, s_op, s_nil, s_cons, s_none, s_arm}
use Rattle.language.specs.Limits.{deepest, most_words, Ranged, Rangedᵗ, Rangedᵃ, r_var, r_kvar, r_fun, r_call, r_bind, r_con, r_cases, r_num, r_op, r_nil, r_cons, r_none, r_arm, depth, depthᵗ, depthᵃ}
use Rattle.language.specs.Limits.{Kinded, Kindedᵗ, Kindedᵃ, k_var, k_fun, k_call, k_bind, k_con, k_cases, k_num, k_op, k_nil, k_cons, k_none, k_arm}
use Rattle.language.specs.Dead.{dead, Live, Liveᵗ, Liveᵃ, l_var, l_fun, l_call, l_bind, l_con, l_cases, l_num, l_op, l_nil, l_cons, l_none, l_arm}
use Rattle.language.specs.Places.{Held}
use Rattle.language.specs.Read.{Got, found, then, made, second, number, many, unlike, arms_of, opened, term, closed, ended, read}
use Rattle.language.specs.declared.Parts.TheVariants.{Nothing, Body, FunctionAndArguments, BoundAndBody, CountAndArguments, SubjectAndArms, HighAndLow, TwoParts}
use Rattle.language.specs.declared.Row.{Row}
use Rattle.language.proofs.Heads.{head_opens}
use Rattle.language.proofs.Places.{whole, first_run, second_run, there, first_word, next_words}
use Rattle.trust.specs.Promises.{RulesAreAccepted}
use Rattle.trust.proofs.Live.{Fresh, f_none, f_arm, taken_each}

-- reading on, where the first part was found
then_is : {A B : Type 0} {g : Got A} {a : A} {i : ℕ} (f : A → ℕ → Got B) {h : Got B} → g ≡ found a i → f a i ≡ h → then g f ≡ h
unfolding then
then_is f e k = ap (λ x. then x f) e ∙ k

made_is : {A B : Type 0} {g : Got A} {a : A} {i : ℕ} (f : A → B) → g ≡ found a i → made f g ≡ found (f a) i
unfolding made
made_is f e = ap (made f) e

-- what the parts make, where they were found
module _ (S : Setting) (s : List ℕ) (p : ℕ → ℕ → Got Term) (n at : ℕ) where
  var_is : {to : ℕ} (a : ℕ) → a < n → to ≡ at + 1 → opened S s p n at a 0 Nothing ≡ found (var a) to
  unfolding opened
  var_is a l e = rw (lt-ltb a n l, e)

  call_is : {f : Term} {ps : Terms} {i to : ℕ} (a : ℕ) → p n (at + 1) ≡ found f i → many (p n) a i ≡ found ps to
      → opened S s p n at a 0 FunctionAndArguments ≡ found (call f ps) to
  unfolding opened
  call_is a e k = then_is _ e (made_is _ k)

  let_is : {m b : Term} {i to : ℕ} → p n (at + 1) ≡ found m i → p (suc n) i ≡ found b to → opened S s p n at 0 1 BoundAndBody ≡ found (bind m b) to
  unfolding opened
  let_is e k = then_is _ e (made_is _ (rw add-one k))

  con_is : {ps : Terms} {i to : ℕ} (t m : ℕ) → second s (at + 1) ≡ found m i → many (p n) m i ≡ found ps to
      → opened S s p n at t 0 CountAndArguments ≡ found (con t ps) to
  unfolding opened
  con_is t m e k = then_is _ e (made_is _ k)

  match_is : {m : Term} {ps : Arms} {i to : ℕ} (a : ℕ) → p n (at + 1) ≡ found m i → arms_of S s p [] n a i ≡ found ps to
      → opened S s p n at a 0 SubjectAndArms ≡ found (cases m ps) to
  unfolding opened
  match_is a e k = then_is _ e (made_is _ k)

  num_is : {m to : ℕ} (a : ℕ) → number s (at + 1) ≡ found m to → opened S s p n at a 0 HighAndLow ≡ found (num m) to
  unfolding opened
  num_is a e = made_is _ e

  op_is : {ps : Terms} {k to : ℕ} (a : ℕ) → k ≡ operands → many (p n) k (at + 1) ≡ found ps to → opened S s p n at a 0 TwoParts ≡ found (op a ps) to
  unfolding opened
  op_is {ps} {to = to} a e x = made_is _ (subst (λ i. many (p n) i (at + 1) ≡ found ps to) e x)

-- a second word in its range
second_is : (s : List ℕ) (at m : ℕ) → at < length s → get_or s at 0 ≡ m → m ≤ most_arguments → second s at ≡ found m (at + 1)
unfolding second
second_is s at m t e l = simp (lt-ltb at (length s) t, e, le-leb m most_arguments l)

-- a number's two words
number_is : (s : List ℕ) (at n to : ℕ) → Held s (n / word_end ∷ n % word_end ∷ []) at to → number s at ≡ found n to
unfolding number
number_is s at n to h =
    let k = next_words h in
    let m : get_or s at 0 * word_end + get_or s (at + 1) 0 ≡ n = omega (arith, first_word h, first_word k) in
    let past : at + 1 + 1 ≡ to = omega (arith, h.past) in
    simp (lt-ltb at (length s) (there h), lt-ltb (at + 1) (length s) (there k), m, past)

-- such a second word of an arm that is not dead
unlike_is : (s : List ℕ) (before : List (ℕ × ℕ)) (t at m : ℕ) → second s at ≡ found m (at + 1) → dead t m before ≡ false
    → unlike s before t at ≡ found m (at + 1)
unfolding unlike
unlike_is s before t at m e k = then_is _ e (rw k)

module _ (S : Setting) (s : List ℕ) (n at : ℕ) where
  -- such a head at a place, with a level of depth left: the term is what its parts make
  term_opens : (d k a : ℕ) {r : Row} → Has S.version k → 1 ≤ d → at < length s → get_or s at 0 ≡ head k a → a ≤ most_byte → row_at k ≡ r → r.stands ≡ at_term
      → r.low ≤ a → a ≤ r.high → term S s d n at ≡ opened S s (term S s (d - 1)) n at a r.binds r.parts
  unfolding term
  term_opens zero k a v h t e l i st lo hi = absurd (omega arith)
  term_opens (suc d) k a v h t e l i st lo hi =
      let m : get_or s at 0 % 256 ≡ a = omega arith in
      simp (lt-ltb at (length s) t, sym (head_opens S.version at_term (get_or s at 0) k a v e l i st lo hi), m, sub-one)

  arm_is : (p : ℕ → ℕ → Got Term) (before : List (ℕ × ℕ)) (t m k : ℕ) {b : Term} {ps : Arms} {j to : ℕ} → Has S.version 8 → at < length s → get_or s at 0 ≡ head 8 t
      → t ≤ most_byte → unlike s before t (at + 1) ≡ found m (at + 1 + 1) → p (n + m) (at + 1 + 1) ≡ found b j
      → arms_of S s p (before ++ ((t, m) ∷ [])) n k j ≡ found ps to → arms_of S s p before n (suc k) at ≡ found (arm t m b ps) to
  unfolding arms_of
  arm_is p before t m k v h e l c x y =
      let r : get_or s at 0 % 256 ≡ t = omega arith in
      simp (lt-ltb at (length s) h, sym (head_opens S.version at_arm (get_or s at 0) 8 t v e l refl refl (omega arith) l), r)
      (then_is _ c (then_is _ x (made_is _ y)))

fun_row : (o : ℕ) → o ≤ 1 → row_at (2 + o) ≡ row at_term 1 most_arguments o Body
fun_row zero l = refl
fun_row (suc zero) l = refl
fun_row (suc (suc o)) l = absurd (omega arith)

module _ (S : Setting) (s : List ℕ) where
  mutual
    unfolding words size sizeᵃ depth opened many arms_of

    pub term_is : {t : Term} → Ranged rules t → {c n : ℕ} → Scoped rules c n t → Live t → Kinded (Has S.version) t → (d at to : ℕ) → Held s (words rules t) at to → depth t ≤ d
        → term S s d n at ≡ found t to
    term_is (r_var {i} l) {n = n} (s_var b) l_var (k_var v) d at to h e =
        term_opens S s n at d 1 i v (omega arith) (there h) (first_word h) l refl refl (omega arith) l
        ∙ var_is S s (term S s (d - 1)) n at i b h.past
    term_is (r_kvar k l) x g v d at to h e = absurd k
    term_is (r_fun {o} {a} p l u y) {n = n} (s_fun x) (l_fun f) (k_fun v vb) d at to h e =
        term_opens S s n at d (2 + o) a v (omega arith) (there h) (omega (arith, first_word h)) (omega arith) (fun_row o p) refl (omega arith) u
        ∙ made_is (fun o a) (term_is y x f vb (d - 1) (at + 1) to (next_words h) (omega arith))
    term_is (r_call {f} {ps} l u y z) {n = n} (s_call x w) (l_call g i) (k_call v vf vs) d at to h e =
        term_opens S s n at d 4 (size ps) v (omega arith) (there h) (first_word h) (omega arith) refl refl l (omega arith)
        ∙ call_is S s (term S s (d - 1)) n at (size ps)
        (term_is y x g vf (d - 1) (at + 1) (at + 1 + length (words rules f)) (first_run (words rules f) (wordsᵗ rules ps) (next_words h)) (omega arith))
        (terms_is z w i vs (d - 1) (at + 1 + length (words rules f)) to (second_run (words rules f) (wordsᵗ rules ps) (next_words h)) (omega arith))
    term_is (r_bind {m} {b} y z) {n = n} (s_bind x w) (l_bind g i) (k_bind v vm vb) d at to h e =
        term_opens S s n at d 5 0 v (omega arith) (there h) (first_word h) (omega arith) refl refl (omega arith) (omega arith)
        ∙ let_is S s (term S s (d - 1)) n at
        (term_is y x g vm (d - 1) (at + 1) (at + 1 + length (words rules m)) (first_run (words rules m) (words rules b) (next_words h)) (omega arith))
        (term_is z w i vb (d - 1) (at + 1 + length (words rules m)) to (second_run (words rules m) (words rules b) (next_words h)) (omega arith))
    term_is (r_con {t} {ps} l u z) {n = n} (s_con w) (l_con i) (k_con v vs) d at to h e =
        term_opens S s n at d 6 t v (omega arith) (there h) (first_word h) l refl refl (omega arith) l
        ∙ con_is S s (term S s (d - 1)) n at t (size ps)
        (second_is s (at + 1) (size ps) (there (next_words h)) (first_word (next_words h)) u)
        (terms_is z w i vs (d - 1) (at + 1 + 1) to (next_words (next_words h)) (omega arith))
    term_is (r_cases {m} {ps} l u y z) {n = n} (s_cases x w) (l_cases f g i) (k_cases v vm vs) d at to h e =
        term_opens S s n at d 7 (sizeᵃ ps) v (omega arith) (there h) (first_word h) (omega arith) refl refl l u
        ∙ match_is S s (term S s (d - 1)) n at (sizeᵃ ps)
        (term_is y x g vm (d - 1) (at + 1) (at + 1 + length (words rules m)) (first_run (words rules m) (wordsᵃ rules ps) (next_words h)) (omega arith))
        (arms_is z w i vs (taken_each ps f) (d - 1) (at + 1 + length (words rules m)) to (second_run (words rules m) (wordsᵃ rules ps) (next_words h)) (omega arith))
    term_is (r_num {n = m} l) {n = n} s_num l_num (k_num v) d at to h e =
        term_opens S s n at d 10 0 v (omega arith) (there h) (first_word h) (omega arith) refl refl (omega arith) (omega arith)
        ∙ num_is S s (term S s (d - 1)) n at 0 (number_is s (at + 1) m to (next_words h))
    term_is (r_op {o} {ps} l u z) {n = n} (s_op w) (l_op i) (k_op v vs) d at to h e =
        term_opens S s n at d 11 o v (omega arith) (there h) (first_word h) (omega arith) refl refl (omega arith) l
        ∙ op_is S s (term S s (d - 1)) n at o u (terms_is z w i vs (d - 1) (at + 1) to (next_words h) (omega arith))

    pub terms_is : {ts : Terms} → Rangedᵗ rules ts → {c n : ℕ} → Scopedᵗ rules c n ts → Liveᵗ ts → Kindedᵗ (Has S.version) ts → (d at to : ℕ) → Held s (wordsᵗ rules ts) at to → depthᵗ ts ≤ d
        → many (term S s d n) (size ts) at ≡ found ts to
    terms_is r_nil s_nil l_nil k_nil d at to h e = ap (found nil) (omega (arith, h.past))
    terms_is (r_cons {t} {ts} y z) (s_cons x w) (l_cons g i) (k_cons v vs) d at to h e =
        then_is _ (term_is y x g v d at (at + length (words rules t)) (first_run (words rules t) (wordsᵗ rules ts) h) (omega arith))
        (made_is (cons t) (terms_is z w i vs d (at + length (words rules t)) to (second_run (words rules t) (wordsᵗ rules ts) h) (omega arith)))

    pub arms_is : {ps : Arms} → Rangedᵃ rules ps → {c n : ℕ} → Scopedᵃ rules c n ps → Liveᵃ ps → Kindedᵃ (Has S.version) ps → {before : List (ℕ × ℕ)} → Fresh before ps
        → (d at to : ℕ) → Held s (wordsᵃ rules ps) at to → depthᵃ ps ≤ d → arms_of S s (term S s d) before n (sizeᵃ ps) at ≡ found ps to
    arms_is r_none s_none l_none k_none f_none d at to h e = ap (found none) (omega (arith, h.past))
    arms_is (r_arm {t} {n = m} {b} {ps} l u y z) {n = n} (s_arm x w) (l_arm g i) (k_arm v vb vs) {before} (f_arm f q) d at to h e =
        arm_is S s n at (term S s d) before t m (sizeᵃ ps) v (there h) (first_word h) l
        (unlike_is s before t (at + 1) m (second_is s (at + 1) m (there (next_words h)) (first_word (next_words h)) u) f)
        (term_is y x g vb d (at + 1 + 1) (at + 1 + 1 + length (words rules b)) (first_run (words rules b) (wordsᵃ rules ps) (next_words (next_words h))) (omega arith))
        (arms_is z w i vs q d (at + 1 + 1 + length (words rules b)) to (second_run (words rules b) (wordsᵃ rules ps) (next_words (next_words h))) (omega arith))

-- a term has a word at least
some_words : (t : Term) → 0 < length (words rules t)
unfolding words
some_words (var i) = omega arith
some_words (kvar i) = omega arith
some_words (fun o a b) = omega arith
some_words (call f ps) = omega arith
some_words (bind m b) = omega arith
some_words (con t ps) = omega arith
some_words (cases m ps) = omega arith
some_words (num n) = omega arith
some_words (op o ps) = omega arith

pub rules_are_accepted : RulesAreAccepted
unfolding read closed ended then
rules_are_accepted S t r =
    let s : List ℕ = words rules t in
    simp (
      r.versed,
      ne_eqb (length s) 0 (λ e. omega (arith, some_words t)),
      le-ltb most_words (length s) r.short,
      term_is S s r.ranged r.closed r.live r.kinds deepest 0 (length s) (whole s) r.shallow,
      le-ltb (length s) (length s) (omega arith),
    )
