-- One law for each way out of the functions that read a term's parts, a list and arms: what was read before, in the code's own form, and the answer that
-- is then right. The rulesets at the end stand above the functions. A law's first letter says of which function: p opened, l list, a arms.
-- Assumes nothing.
use Prim.Native.Nat.{ℕ, zero, suc, ◌+◌, ◌-◌, ◌*◌, ◌%◌, ◌<◌, ◌≤◌}
use mathlib.Core.Path.{◌≡◌, refl, sym, ap, ◌∙◌}
use mathlib.Core.Bool.{Bool, true, false, ◌&&◌, cond}
use mathlib.Core.List.{List, [], ◌∷◌, ◌++◌}
use mathlib.Core.Logic.{◌⊎◌, ⊎_elim}
use native.Mathlib.Omega.{arith}
use native.Mathlib.Numerals.{sub-one}
use lib.ListN.{length, get_or, take, set}
use borrow.Author.Rules.{rules}
use Rattle.language.specs.Term.{Term, fun, call, bind, cases, op, con, cons, arm, size}
use Rattle.language.specs.Setting.{Setting}
use Rattle.language.specs.Run.{atom, atoms}
use Rattle.language.specs.Kinds.{most_arms, operands}
use Rattle.language.specs.Read.{Got, found, fault, then, made, second, many, arms_of, opened, term}
use Rattle.language.specs.declared.Parts.{Parts}
use Rattle.language.specs.declared.Parts.TheVariants.{Body, FunctionAndArguments, BoundAndBody, CountAndArguments, SubjectAndArms, TwoParts}
use Rattle.sizes.specs.Lengths.{passing_lengths}
use Rattle.sizes.proofs.Lengths.{of_fun, of_call, of_bind, of_cases, of_op, of_none, of_arm}
use Rattle.reading.specs.Steps.{function_words, call_words, let_words, constructor_words, operation_words, match_words, arm_words, chained_words, saved_words}
use Rattle.reading.specs.Steps.{chain_length, Step, Next, No, step_of, term_step, terms_step, arms_step}
use Rattle.reading.specs.declared.Found.{Found}
use Rattle.arities.specs.Marks.{mark_of, unmarked, arity}
use Rattle.arities.proofs.Marks.{marked_more}
use Rattle.arities.proofs.Ways.{arity_known, a_there, arity_then}
use Rattle.reading.proofs.Sums.{sums}
use Rattle.reading.proofs.Steps.{came, stops, goes, halts, forms, joined_of, joined_none, joined_no_arms, joined_twice, joined_all, joins, of_construct}

-- a term, from its head on: the levels and the source variables of its parts are as told
module _ (S : Setting) (s : List ℕ) (d n at a o : ℕ) {f : Parts} where
  module _ {d' n' : ℕ} (l : d' ≡ d) where
    module _ (q : f ≡ Body) (m : n' ≡ n + (a + o)) where
      same : n' ≡ n + a + o
      same = omega arith

      pub p_bodiless : {b i : ℕ} → No b i ≡ term_step (term S s d' n' (at + 1)) → No b i ≡ term_step (opened S s (term S s d) n at a o f)
      unfolding opened
      p_bodiless k = rw q (halts _ _ _ _ (fun o a) _ (rw (l, same) at k))

      pub p_body : {to c : ℕ} {b : Bool} → Next to b c ≡ term_step (term S s d' n' (at + 1))
          → Next to true (c + function_words) ≡ term_step (opened S s (term S s d) n at a o f)
      unfolding opened atom
      p_body k = rw q (forms _ _ _ _ (fun o a) _ true function_words (rw (l, same) at k) (λ b. refl) (λ b. omega (arith, of_fun o a b)))

    module _ (m : n' ≡ n) where
      -- a first part that is refused: of a call, a let or a match
      pub p_stop : (f ≡ FunctionAndArguments) ⊎ ((f ≡ BoundAndBody) ⊎ (f ≡ SubjectAndArms)) → {b i : ℕ} → No b i ≡ term_step (term S s d' n' (at + 1))
          → No b i ≡ term_step (opened S s (term S s d) n at a o f)
      unfolding opened
      p_stop c k =
          let h = rw (l, m) at k in
          ⊎_elim (λ q. rw q (stops _ _ _ _ _ _ h)) (⊎_elim (λ q. rw q (stops _ _ _ _ _ _ h)) (λ q. rw q (stops _ _ _ _ _ _ h))) c

      module _ {to c : ℕ} {b : Bool} (k : Next to b c ≡ term_step (term S s d' n' (at + 1))) where
        module _ (q : f ≡ FunctionAndArguments) where
          pub p_call_stop : {e i : ℕ} → No e i ≡ terms_step (many (term S s d' n') a to) → No e i ≡ term_step (opened S s (term S s d) n at a o f)
          unfolding opened
          p_call_stop v = rw q (goes _ _ _ _ _ _ (rw (l, m) at k) (λ t i w. halts _ _ _ _ (call t) _ (rw (l, m) at v)))

          pub p_call : {i z : ℕ} {e : Bool} → Next i e z ≡ terms_step (many (term S s d' n') a to)
              → Next i false (z + c + call_words) ≡ term_step (opened S s (term S s d) n at a o f)
          unfolding opened atom chain_length
          p_call {z = z} v = rw q (goes _ _ _ _ _ _ (rw (l, m) at k) (λ t i w.
              let y : z + c + call_words ≡ z + (c + call_words) = omega arith in
              rw y (forms _ _ _ _ (call t) _ false (c + call_words) (rw (l, m) at v) (λ ps. refl) (λ ps. omega (arith, of_call t ps)))))

        module _ (q : f ≡ BoundAndBody) {n'' : ℕ} (r : n'' ≡ n + o) where
          pub p_let_stop : {e i : ℕ} → No e i ≡ term_step (term S s d' n'' to) → No e i ≡ term_step (opened S s (term S s d) n at a o f)
          unfolding opened
          p_let_stop v = rw q (goes _ _ _ _ _ _ (rw (l, m) at k) (λ t i w. halts _ _ _ _ (bind t) _ (rw (l, r) at v)))

          pub p_let : {i z : ℕ} {e : Bool} → Next i e z ≡ term_step (term S s d' n'' to)
              → Next i false (z + c + let_words) ≡ term_step (opened S s (term S s d) n at a o f)
          unfolding opened atom
          p_let {z = z} v = rw q (goes _ _ _ _ _ _ (rw (l, m) at k) (λ t i w.
              let y : z + c + let_words ≡ z + (c + let_words) = omega arith in
              rw y (forms _ _ _ _ (bind t) _ false (c + let_words) (rw (l, r) at v) (λ b. refl) (λ b. omega (arith, of_bind t b)))))

        module _ (q : f ≡ SubjectAndArms) where
          pub p_match_stop : {e i : ℕ} → No e i ≡ arms_step (arms_of S s (term S s d) [] n a to) → No e i ≡ term_step (opened S s (term S s d) n at a o f)
          unfolding opened
          p_match_stop v = rw q (goes _ _ _ _ _ _ (rw (l, m) at k) (λ t i w. halts _ _ _ _ (cases t) _ v))

          pub p_match : {i z : ℕ} {e : Bool} → Next i e z ≡ arms_step (arms_of S s (term S s d) [] n a to)
              → Next i false (z + c + match_words) ≡ term_step (opened S s (term S s d) n at a o f)
          unfolding opened atom
          p_match {z = z} v = rw q (goes _ _ _ _ _ _ (rw (l, m) at k) (λ t i w.
              let y : z + c + match_words ≡ z + (c + match_words) = omega arith in
              rw y (forms _ _ _ _ (cases t) _ false (c + match_words) v (λ ps. refl) (λ ps. omega (arith, of_cases t ps)))))

      module _ (q : f ≡ TwoParts) where
        pub p_operation_stop : {e i : ℕ} → No e i ≡ terms_step (many (term S s d' n') operands (at + 1)) → No e i ≡ term_step (opened S s (term S s d) n at a o f)
        unfolding opened
        p_operation_stop v = rw q (halts _ _ _ _ (op a) _ (rw (l, m) at v))

        pub p_operation : {i z : ℕ} {e : Bool} → Next i e z ≡ terms_step (many (term S s d' n') operands (at + 1))
            → Next i false (z + 0 + operation_words) ≡ term_step (opened S s (term S s d) n at a o f)
        unfolding opened atom chain_length
        p_operation {z = z} v =
            let y : z + 0 + operation_words ≡ z + operation_words = omega arith in
            rw (q, y) (forms _ _ _ _ (op a) _ false operation_words (rw (l, m) at v) (λ ps. refl) (λ ps. omega (arith, of_op a ps)))

      module _ (q : f ≡ CountAndArguments) {k i : ℕ} (u : found k i ≡ second s (at + 1)) where
        pub p_con_stop : {e j : ℕ} → No e j ≡ terms_step (many (term S s d' n') k i) → No e j ≡ term_step (opened S s (term S s d) n at a o f)
        unfolding opened then
        p_con_stop v = rw (q, ← u) (halts _ _ _ _ (con a) _ (rw (l, m) at v))

        pub p_con : {j z : ℕ} {b : Bool} → Next j b z ≡ terms_step (many (term S s d' n') k i)
            → Next j b (cond b (z + constructor_words - saved_words * k) (z + constructor_words)) ≡ term_step (opened S s (term S s d) n at a o f)
        unfolding opened then
        p_con v = rw (q, ← u) (of_construct S s d n k i a (rw (l, m) at v))

  pub p_uncounted : f ≡ CountAndArguments → {b i : ℕ} → fault b i ≡ second s (at + 1) → No b i ≡ term_step (opened S s (term S s d) n at a o f)
  unfolding opened step_of then
  p_uncounted q k = rw (q, ← k)

-- a list of terms
many_more : (p : ℕ → Got Term) (k at : ℕ) → (k ≡ 0 → ⊥) → many p k at ≡ then (p at) (λ t to. made (cons t) (many p (k - 1) to))
unfolding many
many_more p zero at z = absurd (z refl)
many_more p (suc k) at z = simp sub-one

-- behind the first i of k things there are more
more_left : {i k : ℕ} → i < k → k - i ≡ 0 → ⊥
more_left h e = omega arith

-- where the ways through `all && b` meet
pub l_met : {a b now : Bool} → ((a ≡ true) × (now ≡ b)) ⊎ ((a ≡ false) × (now ≡ a)) → now ≡ (a && b)
l_met h = ⊎_elim (λ w. rw (w.0, w.1)) (λ w. rw (w.1, w.0)) h

-- in the loop: behind the first i of k terms, which have z words and are all atoms or not, the terms from `at` on make up the whole
pub l_start : (p : ℕ → Got Term) (k at : ℕ) → joined_of true 0 (terms_step (many p (k - 0) at)) ≡ terms_step (many p k at)
l_start p k at = let e : k - 0 ≡ k = omega arith in rw e (joined_none (terms_step (many p k at)))

module _ (p : ℕ → Got Term) (i k at z : ℕ) (all : Bool) {whole : Step} (rest : joined_of all z (terms_step (many p (k - i) at)) ≡ whole) where
  pub l_end : k ≤ i → Next at all z ≡ whole
  unfolding many step_of atom passing_lengths chain_length size
  l_end h = let e : k - i ≡ 0 = omega arith in sym (joined_all all z at) ∙ (rw e at rest)

  module _ (h : i < k) where
    pub l_stop : {b q : ℕ} → No b q ≡ term_step (p at) → No b q ≡ whole
    unfolding joined_of
    l_stop {b} {q} e = ap (joined_of all z) (came _ _ {x = No b q} (many_more p (k - i) at (more_left h)) (stops _ _ _ _ _ _ e)) ∙ rest

    pub l_more : {to c : ℕ} {b : Bool} {r : Found} → Next to b c ≡ term_step (p at) → r ≡ record { to = to; atoms = all && b; words = z + c + chained_words }
        → joined_of r.atoms r.words (terms_step (many p (k - (i + 1)) r.to)) ≡ whole
    unfolding atom passing_lengths chain_length size
    l_more {to} {c} {b} e o =
        let f : k - i - 1 ≡ k - (i + 1) = omega arith in
        let more = terms_step (many p (k - i - 1) to) in
        rw (o, ← f, ← joined_twice all b z c chained_words more)
        (ap (joined_of all z) (came _ _ (many_more p (k - i) at (more_left h)) (goes _ _ _ _ _ _ e
        (λ t u w. joins _ _ _ _ (cons t) _ b (c + chained_words) (λ ts. ap (λ x. x && atoms ts) u) (λ ts. omega arith)))) ∙ rest)

-- arms
armed : (S : Setting) (s : List ℕ) (p : ℕ → ℕ → Got Term) (before : List (ℕ × ℕ)) (n k at : ℕ) → (k ≡ 0 → ⊥)
    → arms_of S s p before n k at ≡ then (arity S s before at) (λ m to. then (p (n + m) to) (λ b past. made (arm (get_or s at 0 % 256) m b)
    (arms_of S s p (before ++ ((get_or s at 0 % 256, m) ∷ [])) n (k - 1) past)))
unfolding arms_of
armed S s p before n zero at z = absurd (z refl)
armed S s p before n (suc k) at z = simp sub-one (arity_then S s before at _)

-- in the loop: behind the first i of k arms, which have z words and whose marks stand at the front of ms, the arms from `at` on make up the whole
pub a_start : (S : Setting) (s : List ℕ) (p : ℕ → ℕ → Got Term) (ms : List ℕ) (n k at : ℕ)
    → joined_of false 0 (arms_step (arms_of S s p (unmarked (take 0 ms)) n (k - 0) at)) ≡ arms_step (arms_of S s p [] n k at)
unfolding unmarked
a_start S s p ms n k at = let e : k - 0 ≡ k = omega arith in rw e (joined_no_arms (arms_of S s p [] n k at))

module _ (S : Setting) (s : List ℕ) (d : ℕ) (ms : List ℕ) (i n k at z : ℕ) {whole : Step}
    (rest : joined_of false z (arms_step (arms_of S s (term S s d) (unmarked (take i ms)) n (k - i) at)) ≡ whole) where
  pub a_end : k ≤ i → {b : Bool} → b ≡ false → Next at b z ≡ whole
  unfolding arms_of step_of joined_of
  a_end h n = let e : k - i ≡ 0 = omega arith in rw n (ap (Next at false) (omega (arith, of_none)) ∙ (rw e at rest))

  module _ (h : i < k) where
    -- where the next arm comes to a step, so does the whole
    on : {x : Step} → x ≡ arms_step (then (arity S s (unmarked (take i ms)) at) (λ m to. then (term S s d (n + m) to) (λ b past. made (arm (get_or s at 0 % 256) m b)
        (arms_of S s (term S s d) (unmarked (take i ms) ++ ((get_or s at 0 % 256, m) ∷ [])) n (k - i - 1) past)))) → joined_of false z x ≡ whole
    on e = ap (joined_of false z) (came _ _ (armed S s (term S s d) (unmarked (take i ms)) n (k - i) at (more_left h)) e) ∙ rest

    pub a_refused : {b q : ℕ} → fault b q ≡ arity S s (unmarked (take i ms)) at → No b q ≡ whole
    unfolding step_of then joined_of
    a_refused {b} {q} c = on {x = No b q} (rw (← c))

    module _ {m j d' n' : ℕ} (c : found m j ≡ arity S s (unmarked (take i ms)) at) (o : d' ≡ d) (l : n' ≡ n + m) where
      pub a_stop : {b r : ℕ} → No b r ≡ term_step (term S s d' n' j) → No b r ≡ whole
      unfolding then joined_of
      a_stop {b} {r} q = on {x = No b r} (rw (← c) (stops _ _ _ _ _ _ (rw (o, l) at q)))

      pub a_more : {mark : ℕ} → mark ≡ mark_of (get_or s at 0) m → k ≤ most_arms → length ms ≡ most_arms → {to x : ℕ} {b e : Bool} {r : Found}
          → Next to b x ≡ term_step (term S s d' n' j) → r ≡ record { to = to; atoms = e; words = z + x + arm_words }
          → joined_of false r.words (arms_step (arms_of S s (term S s d) (unmarked (take (i + 1) (set ms i mark))) n (k - (i + 1)) r.to)) ≡ whole
      unfolding then
      a_more e few long {to} {x} q t =
          let most = (arity_known S s (unmarked (take i ms)) at c).1 in
          let f : k - i - 1 ≡ k - (i + 1) = omega arith in
          let more = arms_step (arms_of S s (term S s d) (unmarked (take i ms) ++ ((get_or s at 0 % 256, m) ∷ [])) n (k - i - 1) to) in
          rw (t, e, marked_more ms i (get_or s at 0) m (omega arith) (omega arith), ← f, ← joined_twice false true z x arm_words more)
          (on (rw (← c) (goes _ _ _ _ _ _ (rw (o, l) at q)
          (λ t y w. joins _ _ _ _ (arm (get_or s at 0 % 256) m t) _ true (x + arm_words) (λ ps. refl)
          (λ ps. omega (arith, of_arm (get_or s at 0 % 256) m t ps))))))

pub ruleset ways = (
  p_bodiless,
  p_body,
  p_stop,
  p_call_stop,
  p_call,
  p_let_stop,
  p_let,
  p_match_stop,
  p_match,
  p_operation_stop,
  p_operation,
  p_con_stop,
  p_con,
  p_uncounted,
  sums,
  rules,
)

-- in the loops, whose laws conclude of any step
pub ruleset terms_ways = (l_start, l_end, l_stop, l_more, sums, rules)

pub ruleset arms_ways = (a_start, a_end, a_refused, a_stop, a_more, a_there, sums, rules)
