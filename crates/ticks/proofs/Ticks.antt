-- The run under a ration, turn by turn: what each outcome says of the definition's run, how many records it takes, what a larger ration alters, and
-- that no call comes next where no rule applies. By induction on the ration. Assumes nothing.
use Prim.Native.Nat.{ℕ, zero, suc, ◌+◌, ◌-◌, ◌≤◌, ◌<◌}
use mathlib.Core.Bool.{Bool, true, false, cond}
use mathlib.Core.Path.{◌≡◌, refl, sym, ◌∙◌}
use native.Mathlib.Omega.{arith}
use lib.Dec.{leb}
use Rattle.language.specs.Term.{Term}
use Rattle.language.specs.Run.{taken, count}
use Rattle.language.proofs.Clash.{never}
use Rattle.ticks.specs.Upto.{a_call, rule_none}
use Rattle.ticks.specs.Tick.{Closure, Closures, as_term, End, comes, stuck, goes, Turn, after, turn}
use Rattle.ticks.specs.Tick.{Outcome, finished, out_of_ration, no_rule, no_record, spend, next, tick_from}
use Rattle.ticks.specs.Promises.{ComesIn, Reaches, needs}
use Rattle.ticks.proofs.Order.{spend_fits, spend_few}
use Rattle.ticks.proofs.Closures.{put, Fits, as_term_value}
use Rattle.ticks.proofs.Stops.{no_stop, Past, here, past}
use Rattle.ticks.proofs.Turns.{Goes, Turned, t_comes, t_stuck, t_goes, turn_fits}

-- what an outcome says of the run of the closed term t, where u applications were made before and r more were allowed
pub data Says (t : Term) (r u : ℕ) : Outcome → Type 0 where
  says_finished : {c : Closure} {m : ℕ} (n : ℕ) → ComesIn t (as_term c) n → n ≤ r → m ≡ u + n → Says t r u (finished c m)
  says_out : {m : ℕ} → Reaches t a_call r → m ≡ u + r → Says t r u (out_of_ration m)
  says_none : (n : ℕ) → Reaches t rule_none n → n ≤ r → Says t r u no_rule
  says_full : Says t r u no_record

-- by one call more
says_from : {t t' : Term} {r u : ℕ} {o : Outcome} → Goes suc t t' → Says t' r (suc u) o → Says t (suc r) u o
says_from g (says_finished {m} n c h e) = says_finished {m = m} (suc n) (g.comes_in c) (omega arith) (omega arith)
says_from g (says_out {m} p e) = says_out {m = m} (g.reaches tt p) (omega arith)
says_from g (says_none n p h) = says_none (suc n) (g.reaches tt p) (omega arith)
says_from g says_full = says_full

-- records are taken
pub spend_says : {t : Term} {r u : ℕ} (n l : ℕ) {go : ℕ → Outcome} → ((l' : ℕ) → Says t r u (go l')) → Says t r u (spend n l go)
unfolding spend
spend_says {t} {r} {u} n l {go} h = by (leb n l)
  where
    by : (e : Bool) → Says t r u (cond e (go (l - n)) no_record)
    by true = h (l - n)
    by false = says_full

taken_in : (c : Closure) → ComesIn (as_term c) (as_term c) 0
unfolding count
taken_in c = record { run = taken (as_term_value c); in_calls = refl }

pub next_says : (r u l : ℕ) {t : Term} {e : End} → Turned t e → Says t r u (next r u l e)
unfolding next after
next_says zero u l (t_comes {c} g) = says_finished {m = u} 0 (g.forth.comes_in (taken_in c)) (omega arith) (omega arith)
next_says zero u l (t_stuck p q) = says_none 0 p (omega arith)
next_says zero u l (t_goes g f) = says_out {m = u} g.point (omega arith)
next_says (suc r) u l (t_comes {c} g) = says_finished {m = u} 0 (g.forth.comes_in (taken_in c)) (omega arith) (omega arith)
next_says (suc r) u l (t_stuck p q) = says_none 0 p (omega arith)
next_says (suc r) u l (t_goes g f) =
    says_from g.forth (spend_says _ l (λ l'. next_says r (suc u) l' (turn_fits f)))

-- the records that are needed: with these it does not matter how many there are, and with fewer there is one too few. First from a turn on, by
-- what is known of its end
module _ (r u : ℕ) (s : Turn) where
  pub from_enough : ((i j : ℕ) → needs r s.end ≤ i → needs r s.end ≤ j → next r u i s.end ≡ next r u j s.end)
      → (l l' : ℕ) → s.records + needs r s.end ≤ l → s.records + needs r s.end ≤ l' → tick_from r u l s ≡ tick_from r u l' s
  unfolding tick_from
  from_enough k l l' h h' =
      spend_fits s.records l (λ i. next r u i s.end) (omega arith)
      ∙ (k (l - s.records) (l' - s.records) (omega arith) (omega arith) ∙ sym (spend_fits s.records l' (λ i. next r u i s.end) (omega arith)))

  pub from_not_full : ((i : ℕ) → needs r s.end ≤ i → next r u i s.end ≡ no_record → ⊥)
      → (l : ℕ) → s.records + needs r s.end ≤ l → tick_from r u l s ≡ no_record → ⊥
  unfolding tick_from
  from_not_full k l h q = k (l - s.records) (omega arith) (sym (spend_fits s.records l (λ i. next r u i s.end) (omega arith)) ∙ q)

  pub from_short : ((i : ℕ) → i < needs r s.end → next r u i s.end ≡ no_record) → (l : ℕ) → l < s.records + needs r s.end
      → tick_from r u l s ≡ no_record
  unfolding tick_from
  from_short k l h = spend_few s.records l (λ i. next r u i s.end) (λ f. k (l - s.records) (omega arith))

pub next_enough : (r u : ℕ) (e : End) (l l' : ℕ) → needs r e ≤ l → needs r e ≤ l' → next r u l e ≡ next r u l' e
unfolding next needs tick_from
next_enough zero u (comes c) l l' h h' = refl
next_enough zero u stuck l l' h h' = refl
next_enough zero u (goes n ks xs b) l l' h h' = refl
next_enough (suc r) u (comes c) l l' h h' = refl
next_enough (suc r) u stuck l l' h h' = refl
next_enough (suc r) u (goes n ks xs b) l l' h h' =
    let s = after n (turn b ks xs) in from_enough r (suc u) s (λ i j. next_enough r (suc u) s.end i j) l l' h h'

pub next_not_full : (r u : ℕ) (e : End) (l : ℕ) → needs r e ≤ l → next r u l e ≡ no_record → ⊥
unfolding next needs tick_from
next_not_full zero u (comes c) l h q = never cc
next_not_full zero u stuck l h q = never cc
next_not_full zero u (goes n ks xs b) l h q = never cc
next_not_full (suc r) u (comes c) l h q = never cc
next_not_full (suc r) u stuck l h q = never cc
next_not_full (suc r) u (goes n ks xs b) l h q =
    let s = after n (turn b ks xs) in from_not_full r (suc u) s (λ i. next_not_full r (suc u) s.end i) l h q

pub next_short : (r u : ℕ) (e : End) (l : ℕ) → l < needs r e → next r u l e ≡ no_record
unfolding next needs tick_from
next_short zero u e l h = absurd (omega arith)
next_short (suc r) u (comes c) l h = absurd (omega arith)
next_short (suc r) u stuck l h = absurd (omega arith)
next_short (suc r) u (goes n ks xs b) l h =
    let s = after n (turn b ks xs) in from_short r (suc u) s (λ i. next_short r (suc u) s.end i) l h

-- a larger ration alters nothing but out of ration
pub spend_same : (n l : ℕ) {go go' : ℕ → Outcome} → ((i : ℕ) → ((m : ℕ) → go i ≡ out_of_ration m → ⊥) → go' i ≡ go i)
    → ((m : ℕ) → spend n l go ≡ out_of_ration m → ⊥) → spend n l go' ≡ spend n l go
unfolding spend
spend_same n l {go} {go'} h = by (leb n l)
  where
    by : (e : Bool) → ((m : ℕ) → cond e (go (l - n)) no_record ≡ out_of_ration m → ⊥) → cond e (go' (l - n)) no_record ≡ cond e (go (l - n)) no_record
    by true k = h (l - n) k
    by false k = refl

pub next_larger : (r r' u l : ℕ) (e : End) → r ≤ r' → ((m : ℕ) → next r u l e ≡ out_of_ration m → ⊥) → next r' u l e ≡ next r u l e
unfolding next
next_larger zero zero u l e h k = refl
next_larger zero (suc r') u l (comes c) h k = refl
next_larger zero (suc r') u l stuck h k = refl
next_larger zero (suc r') u l (goes n ks xs b) h k = absurd (k u refl)
next_larger (suc r) zero u l e h k = absurd (omega arith)
next_larger (suc r) (suc r') u l (comes c) h k = refl
next_larger (suc r) (suc r') u l stuck h k = refl
next_larger (suc r) (suc r') u l (goes n ks xs b) h k =
    let s = after n (turn b ks xs) in spend_same s.records l (λ i q. next_larger r r' (suc u) i s.end (omega arith) q) k

-- and it needs at least as many records
pub needs_larger : (r r' : ℕ) (e : End) → r ≤ r' → needs r e ≤ needs r' e
unfolding needs
needs_larger zero r' e h = omega arith
needs_larger (suc r) zero e h = absurd (omega arith)
needs_larger (suc r) (suc r') (comes c) h = omega arith
needs_larger (suc r) (suc r') stuck h = omega arith
needs_larger (suc r) (suc r') (goes n ks xs b) h =
    let s = after n (turn b ks xs) in omega (arith, needs_larger r r' s.end (omega arith))

-- where no rule applies, more calls were made than at any point at which a call comes next. In the body that a call goes on with, of at most k calls:
abbrev Ordered : ℕ → Type 0
Ordered k = (ks xs : Closures) (b : Term) (r n : ℕ) → suc r ≤ k → Fits ks xs b → Reaches (put ks xs b) a_call r → Reaches (put ks xs b) rule_none n
    → r < n

past_ordered : {ks xs : Closures} {b : Term} (k r n : ℕ) → r ≤ k → Ordered k → Fits ks xs b → Past (put ks xs b) a_call r
    → Past (put ks xs b) rule_none n → r < n
past_ordered k r n h o f (here e) (past n' q e') = omega arith
past_ordered {ks} {xs} {b} k r n h o f (past r' p e) (past n' q e') = omega (arith, o ks xs b r' n' (omega arith) f p q)

turned_ordered : {t : Term} {e : End} (k r n : ℕ) → r ≤ k → Ordered k → Turned t e → Reaches t a_call r → Reaches t rule_none n → r < n
turned_ordered k r n h o (t_comes {c} g) p q = absurd (no_stop (as_term_value c) (g.back n tt q).point tt)
turned_ordered k r n h o (t_stuck x y) p q = absurd (y r p)
turned_ordered k r n h o (t_goes g f) p q = past_ordered k r n h o f (g.back r tt p) (g.back n tt q)

ordered : (k : ℕ) → Ordered k
ordered zero ks xs b r n h f p q = absurd (omega arith)
ordered (suc k) ks xs b r n h f p q = turned_ordered k r n (omega arith) (ordered k) (turn_fits f) p q

pub call_before_none : (r n : ℕ) {ks xs : Closures} {t : Term} → Fits ks xs t → Reaches (put ks xs t) a_call r → Reaches (put ks xs t) rule_none n
    → r < n
call_before_none r n {ks} {xs} {t} f p q = ordered (suc r) ks xs t r n (omega arith) f p q
