-- A point in a run, held against a whole run of the same term: where no rule applies at the point there is no such run, and where a call comes
-- next the run makes at least one call more than were made up to there. By induction on the point; as runs are determined, the run has used
-- the same rules before. Assumes nothing.
use Prim.Native.Nat.{ℕ, suc, ◌+◌, ◌≤◌}
use mathlib.Core.Option.{none-ne-some}
use mathlib.Core.Path.{◌≡◌, sym, ap, ap₂, subst, ◌∙◌}
use native.Mathlib.Omega.{arith}
use Rattle.language.specs.Term.{Lang, Term, Terms, nil, cons}
use Rattle.language.specs.Sub.{sub}
use Rattle.language.specs.Run.{v_con, Gives, enters, Run, Runs, taken, built, bound, called, matched, operated, then, count, counts}
use Rattle.language.proofs.Clash.{never}
use Rattle.language.proofs.Determinism.{no_atoms, call_same, match_same, same_run, same_runs}
use Rattle.ticks.specs.Upto.{Next, a_value, a_build, a_let, a_call, a_match, rule_none, Upto, Uptos, used, useds}
use Rattle.ticks.specs.Upto.{at_value, in_build, at_build, in_operands, at_operation, operated_unfit, in_bound, at_let, past_let}
use Rattle.ticks.specs.Upto.{in_applied, in_arguments, called_con, called_num, called_unfit, at_call, past_call}
use Rattle.ticks.specs.Upto.{in_subject, matched_fun, matched_num, matched_none, at_match, past_match, in_first, in_later}

-- the calls that come next
abbrev pub one : Next → ℕ
one a_value = 0
one a_build = 0
one a_let = 0
one a_call = 1
one a_match = 0
one rule_none = 0

-- m calls were made up to a point at which s comes next, and n are made in a whole run
pub record Before (s : Next) (m n : ℕ) : Type 0 where
  pub on : m + one s ≤ n
  pub applies : s ≡ rule_none → ⊥

-- k calls before, and some after
further : {s : Next} {m n : ℕ} → Before s m n → (k : ℕ) {m' n' : ℕ} → m' ≤ k + m → k + n ≤ n' → Before s m' n'
further h k p q = record { on = omega arith; applies = h.applies }

-- what holds of every run of one term holds of every run of an equal one
along : {L : Lang} {t t' w : Term} {s : Next} {m : ℕ} → t ≡ t' → ((r : Run L t w) → Before s m (count r).calls) → (r : Run L t' w)
    → Before s m (count r).calls
along {L} {w} {s} {m} p h = subst (λ x. (r : Run L x w) → Before s m (count r).calls) p h

-- two runs of one term make the same calls
calls_same : {L : Lang} {t v w : Term} (r : Run L t v) (r' : Run L t w) → (count r).calls ≡ (count r').calls
calls_same r r' = ap (λ c. c.calls) (same_run r r').1

calls_sames : {L : Lang} {ts vs ws : Terms} (r : Runs L ts vs) (r' : Runs L ts ws) → (counts r).calls ≡ (counts r').calls
calls_sames r r' = ap (λ c. c.calls) (same_runs r r').1

mutual
  unfolding used count

  pub before : {L : Lang} {t v : Term} {s : Next} (u : Upto L t s) (r : Run L t v) → Before s (used u).calls (count r).calls
  before (at_value x) r = record { on = omega arith; applies = λ e. never cc }
  before (in_build e u) (taken (v_con vs)) = absurd (no_atoms vs e)
  before (in_build e u) (built e' r) = further (befores u r) 0 (omega arith) (omega arith)
  before (at_build e r) (taken (v_con vs)) = absurd (no_atoms vs e)
  before (at_build e r) (built e' r') = record { on = omega (arith, calls_sames r r'); applies = λ e. never cc }
  before (in_operands u) (operated r' g') = further (befores u r') 0 (omega arith) (omega arith)
  before (at_operation r g) (operated r' g') = record { on = omega (arith, calls_sames r r'); applies = λ e. never cc }
  before (operated_unfit {o} r k) (operated {v} r' g') = absurd (k v (subst (λ x. Gives o x v) (sym (same_runs r r').0) g'))
  before (in_bound u) (bound r' s') = further (before u r') 0 (omega arith) (omega arith)
  before (at_let r) (bound r' s') = record { on = omega (arith, calls_same r r'); applies = λ e. never cc }
  before (past_let {b} r u) (bound r' s') =
      further (along (ap (λ x. sub 0 0 nil (cons x nil) b) (same_run r r').0) (λ x. before u x) s') (count r).calls (omega arith)
      (omega (arith, calls_same r r'))
  before (in_applied u) (called f' r' e' s') = further (before u f') 0 (omega arith) (omega arith)
  before (in_arguments f u) (called f' r' e' s') = further (befores u r') (count f).calls (omega arith) (omega (arith, calls_same f f'))
  before (called_con f r) (called f' r' e' s') = let p = (same_run f f').0 in never cc
  before (called_num f r) (called f' r' e' s') = let p = (same_run f f').0 in never cc
  before {L} (called_unfit {a} {vs} f r e) (called {a = a'} {ks} {xs} f' r' e' s') =
      let p = (same_run f f').0 in
      let x : a ≡ a' = cc in
      absurd (none-ne-some (ks, xs) (sym e ∙ ap₂ (enters L) x (same_runs r r').0 ∙ e'))
  before (at_call f r e) (called f' r' e' s') = record { on = omega (arith, calls_same f f', calls_sames r r'); applies = λ e. never cc }
  before {L} (past_call f r e u) (called f' r' e' s') =
      further (along (call_same L e e' (same_run f f').0 (same_runs r r').0) (λ x. before u x) s')
      (suc ((count f).calls + (counts r).calls)) (omega arith) (omega (arith, calls_same f f', calls_sames r r'))
  before (in_subject u) (matched r' k' s') = further (before u r') 0 (omega arith) (omega arith)
  before (matched_fun r) (matched r' k' s') = let p = (same_run r r').0 in never cc
  before (matched_num r) (matched r' k' s') = let p = (same_run r r').0 in never cc
  before (matched_none {t} {vs} {ps} r k) (matched {b} {t = t'} {vs = vs'} r' k' s') =
      let p = (same_run r r').0 in
      let x : t' ≡ t = cc in
      let y : vs' ≡ vs = cc in
      absurd (none-ne-some b (sym k ∙ rw (x, y) at k'))
  before (at_match r k) (matched r' k' s') = record { on = omega (arith, calls_same r r'); applies = λ e. never cc }
  before (past_match {ps} r k u) (matched r' k' s') =
      further (along (match_same ps k k' (same_run r r').0) (λ x. before u x) s') (count r).calls (omega arith) (omega (arith, calls_same r r'))
  before (in_operands u) (taken y) = elim y [ ]
  before (at_operation r g) (taken y) = elim y [ ]
  before (operated_unfit r k) (taken y) = elim y [ ]
  before (in_bound u) (taken y) = elim y [ ]
  before (at_let r) (taken y) = elim y [ ]
  before (past_let r u) (taken y) = elim y [ ]
  before (in_applied u) (taken y) = elim y [ ]
  before (in_arguments f u) (taken y) = elim y [ ]
  before (called_con f r) (taken y) = elim y [ ]
  before (called_num f r) (taken y) = elim y [ ]
  before (called_unfit f r e) (taken y) = elim y [ ]
  before (at_call f r e) (taken y) = elim y [ ]
  before (past_call f r e u) (taken y) = elim y [ ]
  before (in_subject u) (taken y) = elim y [ ]
  before (matched_fun r) (taken y) = elim y [ ]
  before (matched_num r) (taken y) = elim y [ ]
  before (matched_none r k) (taken y) = elim y [ ]
  before (at_match r k) (taken y) = elim y [ ]
  before (past_match r k u) (taken y) = elim y [ ]

  befores : {L : Lang} {ts vs : Terms} {s : Next} (u : Uptos L ts s) (r : Runs L ts vs) → Before s (useds u).calls (counts r).calls
  befores (in_first u) (then r' s') = further (before u r') 0 (omega arith) (omega arith)
  befores (in_later r u) (then r' s') = further (befores u s') (count r).calls (omega arith) (omega (arith, calls_same r r'))
