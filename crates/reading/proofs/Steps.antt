-- What a step says of the reading that it answers for: a fault of a part is the whole's, a part that was read is followed by what stands after
-- it, a larger thing is as many words longer as its form adds, and a list is its first things joined to the rest. Nothing here speaks of code.
-- Assumes nothing.
use Prim.Native.Nat.{ℕ, ◌+◌, ◌-◌, ◌*◌}
use mathlib.Core.Path.{◌≡◌, refl, sym, ap, ◌∙◌}
use mathlib.Core.Bool.{Bool, true, false, cond, ◌&&◌}
use mathlib.Core.List.{List}
use native.Mathlib.Omega.{arith}
use Rattle.language.specs.Term.{Terms, Arms, con, size}
use Rattle.language.specs.Setting.{Setting}
use Rattle.language.specs.Run.{atom, atoms}
use Rattle.language.specs.Read.{Got, found, fault, then, made, many, term}
use Rattle.language.proofs.Clash.{never}
use Rattle.sizes.specs.Lengths.{passing_length}
use Rattle.sizes.proofs.Lengths.{by_test, of_con, of_con_unfinished}
use Rattle.trust.proofs.Good.{Holds, held, left, Goodᵗ, many_good, term_good}
use Rattle.reading.specs.Steps.{constructor_words, saved_words, chain_length, Step, Next, No, step_of, term_step, terms_step, arms_step}

-- a step for what a reading comes to is a step for the reading
pub came : {A : Type 0} (α : A → Bool) (π : A → ℕ) {g h : Got A} {x : Step} → g ≡ h → x ≡ step_of α π h → x ≡ step_of α π g
came α π e k = k ∙ sym (ap (step_of α π) e)

-- a fault of the first part is the whole's
pub stops : {A B : Type 0} (α : A → Bool) (π : A → ℕ) (β : B → Bool) (ρ : B → ℕ) (g : Got A) (f : A → ℕ → Got B) {e p : ℕ}
    → No e p ≡ step_of α π g → No e p ≡ step_of β ρ (then g f)
unfolding step_of then
stops α π β ρ (found a to) f h = never cc
stops α π β ρ (fault n at) f h = cc

-- a first part that was read is followed by what stands after it
pub goes : {A B : Type 0} (α : A → Bool) (π : A → ℕ) (β : B → Bool) (ρ : B → ℕ) (g : Got A) (f : A → ℕ → Got B) {x : Step} {to z : ℕ} {b : Bool}
    → Next to b z ≡ step_of α π g → ((a : A) → α a ≡ b → π a ≡ z → x ≡ step_of β ρ (f a to)) → x ≡ step_of β ρ (then g f)
unfolding step_of then
goes α π β ρ (found a at) f {to = to} h next = let e : at ≡ to = cc in rw e (next a (cc) (cc))
goes α π β ρ (fault n at) f h next = never cc

-- a fault of the one part is the whole's
pub halts : {A B : Type 0} (α : A → Bool) (π : A → ℕ) (β : B → Bool) (ρ : B → ℕ) (f : A → B) (g : Got A) {e p : ℕ}
    → No e p ≡ step_of α π g → No e p ≡ step_of β ρ (made f g)
unfolding step_of made
halts α π β ρ f (found a to) h = never cc
halts α π β ρ f (fault n at) h = cc

-- a thing of one part, all atoms or not as told, so many words longer
pub forms : {A B : Type 0} (α : A → Bool) (π : A → ℕ) (β : B → Bool) (ρ : B → ℕ) (f : A → B) (g : Got A) {to z : ℕ} {b : Bool} (c : Bool) (k : ℕ)
    → Next to b z ≡ step_of α π g → ((a : A) → β (f a) ≡ c) → ((a : A) → ρ (f a) ≡ π a + k) → Next to c (z + k) ≡ step_of β ρ (made f g)
unfolding step_of made
forms α π β ρ f (found a at) {to = to} {z = z} c k h p q =
    let i : at ≡ to = cc in
    let w : π a ≡ z = cc in
    simp (p a, q a, i, w)
forms α π β ρ f (fault n at) c k h p q = never cc

-- what was read before, z words of it, all atoms or not as told; and behind it what a step says of the rest
unfoldable pub joined_of : Bool → ℕ → Step → Step
joined_of b z (Next to c y) = Next to (b && c) (z + y)
joined_of b z (No e p) = No e p

-- no arms were read before; and no terms
pub joined_no_arms : (g : Got Arms) → joined_of false 0 (arms_step g) ≡ arms_step g
unfolding joined_of step_of
joined_no_arms (found ps to) = ap (Next to false) (omega arith)
joined_no_arms (fault e p) = refl

pub joined_none : (r : Step) → joined_of true 0 r ≡ r
unfolding joined_of
joined_none (Next to c y) = ap (Next to c) (omega arith)
joined_none (No e p) = refl

-- one thing more was read before, of c words and k of its own
pub joined_twice : (a b : Bool) (z c k : ℕ) (r : Step) → joined_of a z (joined_of b (c + k) r) ≡ joined_of (a && b) (z + c + k) r
unfolding joined_of
joined_twice true b z c k (Next to d y) = ap (Next to (b && d)) (omega arith)
joined_twice false b z c k (Next to d y) = ap (Next to false) (omega arith)
joined_twice a b z c k (No e p) = refl

-- nothing is left to read
pub joined_all : (b : Bool) (z to : ℕ) → joined_of b z (Next to true 0) ≡ Next to b z
unfolding joined_of
joined_all true z to = ap (Next to true) (omega arith)
joined_all false z to = ap (Next to false) (omega arith)

-- a list is what was read first, joined to the rest
pub joins : {A B : Type 0} (α : A → Bool) (π : A → ℕ) (β : B → Bool) (ρ : B → ℕ) (f : A → B) (g : Got A) (b : Bool) (z : ℕ)
    → ((a : A) → β (f a) ≡ (b && α a)) → ((a : A) → ρ (f a) ≡ z + π a) → joined_of b z (step_of α π g) ≡ step_of β ρ (made f g)
unfolding step_of made joined_of
joins α π β ρ f (found a at) b z p q = simp (p a, q a)
joins α π β ρ f (fault n at) b z p q = refl

-- a constructor's words by the test whether its arguments are atoms
con_words : (a : ℕ) (ts : Terms)
    → cond (atoms ts) (chain_length ts + constructor_words - saved_words * size ts) (chain_length ts + constructor_words) ≡ passing_length (con a ts)
unfolding chain_length
con_words a ts = by_test (atoms ts) (λ q. simp q (omega (arith, of_con a ts q))) (λ q. simp q (omega (arith, of_con_unfinished a ts q)))

-- a constructor of the m terms that were read
pub of_construct : (S : Setting) (s : List ℕ) (d n m at a : ℕ) {to z : ℕ} {b : Bool} → Next to b z ≡ terms_step (many (term S s d n) m at)
    → Next to b (cond b (z + constructor_words - saved_words * m) (z + constructor_words)) ≡ term_step (made (con a) (many (term S s d n) m at))
unfolding step_of made atom
of_construct S s d n m at a h = go (many_good S s d (term S s d) (term_good S s d) n m at) h
  where
    go : {g : Got Terms} {to z : ℕ} {b : Bool} → Holds (Goodᵗ S s d n m at) g → Next to b z ≡ terms_step g
        → Next to b (cond b (z + constructor_words - saved_words * m) (z + constructor_words)) ≡ term_step (made (con a) g)
    go {to = to} {z = z} {b = b} (held {a = ts} {to = i} q) h =
        let t : to ≡ i = cc in
        let y : z ≡ chain_length ts = cc in
        let c : b ≡ atoms ts = cc in
        rw (t, y, c, ← q.counted) (ap (Next i (atoms ts)) (con_words a ts))
    go left h = never cc
