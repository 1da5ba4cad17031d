-- The calls on a whole table of words: what the tests before the term and behind it come to, and that what is counted in a table of not too many words
-- is small.
-- Assumes nothing.
use Prim.Native.Nat.{ℕ, ◌+◌, ◌*◌, ◌<◌, ◌≤◌}
use mathlib.Core.Path.{◌≡◌, refl, sym, ap, ◌∙◌}
use mathlib.Core.Bool.{Bool, true, false, cond, not, and-eq-true_iff}
use mathlib.Core.List.{List}
use native.Mathlib.Omega.{arith}
use lib.Dec.{ltb, leb, eqb}
use lib.ListN.{length}
use mir.Syntax.{w8, w64}
use mir.Val.{Fits}
use borrow.Author.Tests.{lt-ltb, le-ltb, ltb-true, ltb-false, leb-true, not-false}
use Rattle.std.specs.Prelude.{Ok, Err}
use Rattle.language.specs.Term.{Term}
use Rattle.language.specs.Setting.{Setting}
use Rattle.language.specs.Kinds.{oldest, newest, known}
use Rattle.language.specs.Limits.{deepest, most_words}
use Rattle.language.specs.Faults.{number_of}
use Rattle.language.specs.Read.{no_place, Got, found, fault, then, term, Reading, accepted, refused, reading, closed, ended, read}
use Rattle.language.specs.Calls.{success, reply_of, checked, measured}
use Rattle.language.specs.declared.Refusal.{Refusal}
use Rattle.language.proofs.Clash.{never}
use Rattle.sizes.specs.Lengths.{passing_length, image_length}
use Rattle.sizes.proofs.Lengths.{of_image}
use Rattle.reading.specs.Steps.{image_words, Step, Next, No, step_of, term_step}
use Rattle.reading.proofs.Steps.{stops}
use Rattle.reading.proofs.Sums.{term_small}

-- a known version fits in a byte
pub known_byte : (v : ℕ) {b : Bool} → b ≡ known v → not b ≡ false → Fits w8 v
unfolding known
known_byte v {b} e i = record { fits = omega (arith, leb-true v newest ((and-eq-true_iff (leb oldest v) (leb v newest)).0 (sym e ∙ not-false b i)).1) }

left_over : (s : List ℕ) (g : Got Term) {to z : ℕ} {b : Bool} → Next to b z ≡ term_step g → to < length s → No 8 to ≡ term_step (then g (ended s))
unfolding step_of then ended
left_over s (found t i) {to} h l = let e : to ≡ i = cc in rw (← e, lt-ltb _ _ l)
left_over s (fault e p) h l = never cc

none_left : (s : List ℕ) (g : Got Term) {to z : ℕ} {b : Bool} → Next to b z ≡ term_step g → length s ≤ to → Next to b z ≡ term_step (then g (ended s))
unfolding step_of then ended
none_left s (found t i) {to} h l = let e : to ≡ i = cc in h ∙ rw (← e, le-ltb _ _ l)
none_left s (fault e p) h l = never cc

-- a rule is a closed term with no words left over
module _ (s : List ℕ) (g : Got Term) where
  pub rule_refused : {e p : ℕ} → No e p ≡ term_step g → No e p ≡ term_step (then g (ended s))
  rule_refused h = stops _ _ _ _ g (ended s) h

  pub rule_left : {to z : ℕ} {b : Bool} → Next to b z ≡ term_step g → to < length s → No 8 to ≡ term_step (then g (ended s))
  rule_left h l = left_over s g h l

  pub rule_whole : {to z : ℕ} {b : Bool} → Next to b z ≡ term_step g → length s ≤ to → Next to b z ≡ term_step (then g (ended s))
  rule_whole h l = none_left s g h l

-- the test after the last word of a table of n words, made where reading stands after a step: the three in one, for the step that any answer tells
abbrev pub ended_at : ℕ → Step → Step
ended_at n (Next to b z) = cond (ltb to n) (No 8 to) (Next to b z)
ended_at n (No e p) = No e p

pub rule_step : (s : List ℕ) (g : Got Term) (x : Step) → x ≡ term_step g → ended_at (length s) x ≡ term_step (then g (ended s))
rule_step s g (Next to b z) h = go (ltb to (length s)) (ltb-true to (length s)) (ltb-false to (length s))
  where
    go : (c : Bool) → (c ≡ true → to < length s) → (c ≡ false → length s ≤ to) → cond c (No 8 to) (Next to b z) ≡ term_step (then g (ended s))
    go true l m = rule_left s g h (l refl)
    go false l m = rule_whole s g h (m refl)
rule_step s g (No e p) h = rule_refused s g h

-- what is counted in a table of not too many words is small
closed_small : (S : Setting) (s : List ℕ) (at : ℕ) {to z : ℕ} {b : Bool} → Next to b z ≡ term_step (closed S s at) → z ≤ 7 * most_words
unfolding closed step_of
closed_small S s at h = go (known S.version) (eqb (length s) 0) (ltb most_words (length s)) (ltb-false most_words (length s)) h
  where
    go : (a b c : Bool) → (c ≡ false → length s ≤ most_words) → {to z : ℕ} {d : Bool}
        → Next to d z ≡ term_step (cond a (cond b (fault 1 no_place) (cond c (fault 2 no_place) (term S s deepest 0 at))) (fault 11 no_place))
        → z ≤ 7 * most_words
    go true true c few h = never cc
    go true false true few h = never cc
    go true false false few h = omega (arith, term_small S s deepest 0 at h, few refl)
    go false b c few h = never cc

-- the words of a rule are those of its closed term
rule_words : (s : List ℕ) (g : Got Term) {to z : ℕ} {b : Bool} → Next to b z ≡ term_step (then g (ended s)) → Next to b z ≡ term_step g
unfolding step_of then ended
rule_words s (found t i) h = go (ltb i (length s)) h
  where
    go : (c : Bool) {to z : ℕ} {b : Bool} → Next to b z ≡ term_step (cond c (fault 8 i) (found t i)) → Next to b z ≡ term_step (found t i)
    go true h = never cc
    go false h = h
rule_words s (fault e p) h = never cc

-- what the measuring call makes of what was read
measured_stop : (g : Got Term) (r : Refusal) → No (number_of r.fault) r.place ≡ term_step g → reply_of (Err r) ≡ measured (reading g)
unfolding step_of reply_of measured
measured_stop (found t to) r h = never cc
measured_stop (fault n at) r h = cc

measured_words : (g : Got Term) {to c : ℕ} {b : Bool} → Next to b c ≡ term_step g → reply_of (Ok (c + image_words)) ≡ measured (reading g)
unfolding step_of reply_of measured image_length
measured_words (found t to) {c = c} h = let e : passing_length t ≡ c = cc in ap success (omega (arith, of_image t))
measured_words (fault n at) h = never cc

module _ (S : Setting) (s : List ℕ) where
  pub m_stop : (r : Refusal) → No (number_of r.fault) r.place ≡ term_step (then (closed S s 0) (ended s)) → reply_of (Err r) ≡ measured (read S s)
  unfolding read
  m_stop r h = measured_stop _ r h

  module _ {to c : ℕ} {b : Bool} (h : Next to b c ≡ term_step (then (closed S s 0) (ended s))) where
    pub m_words : reply_of (Ok (c + image_words)) ≡ measured (read S s)
    unfolding read
    m_words = measured_words _ h

    -- the words of the image do not wrap
    pub m_fits : Fits w64 (c + image_words)
    m_fits = record { fits = omega (arith, closed_small S s 0 (rule_words s (closed S s 0) h)) }

-- what the checking call makes of the measuring call's answer
pub c_refused : (g : Reading) (r : Refusal) → reply_of (Err r) ≡ measured g → reply_of (Err r) ≡ checked g
unfolding reply_of measured checked
c_refused (accepted t) r h = never cc
c_refused (refused e p) r h = cc

pub c_accepted : (g : Reading) (n : ℕ) → reply_of (Ok n) ≡ measured g → reply_of (Ok tt) ≡ checked g
unfolding reply_of measured checked
c_accepted (accepted t) n h = refl
c_accepted (refused e p) n h = never cc
