-- Records are taken in order: whether those of a turn are asked for all at once or one use of a rule after the other is the same. Assumes nothing.
use Prim.Native.Nat.{ℕ, zero, suc, ◌+◌, ◌-◌, ◌≤◌, ◌<◌}
use mathlib.Core.Bool.{Bool, true, false, cond}
use mathlib.Core.Path.{◌≡◌, refl, sym, ap, ◌∙◌}
use native.Mathlib.Omega.{arith}
use lib.Dec.{leb}
use borrow.Author.Tests.{leb-true, leb-false, le-leb, lt-leb}
use Rattle.ticks.specs.Tick.{Closure, c_nil, c_cons, revᶜ, value, values, takes, takesᵗ, End, comes, stuck, Turn, ends, after, whole, apply}
use Rattle.ticks.specs.Tick.{operated, sole, handed, passed, turn, turnᵃ}
use Rattle.ticks.specs.Tick.{Outcome, finished, no_rule, no_record, spend, next, tick_from}
use Rattle.ticks.specs.Promises.{AlwaysInOrder}

-- enough records, or too few
pub spend_fits : (n l : ℕ) (go : ℕ → Outcome) → n ≤ l → spend n l go ≡ go (l - n)
unfolding spend
spend_fits n l go h = rw (le-leb n l h)

spend_short : (n l : ℕ) (go : ℕ → Outcome) → l < n → spend n l go ≡ no_record
unfolding spend
spend_short n l go h = rw (lt-leb n l h)

pub spend_few : (n l : ℕ) (go : ℕ → Outcome) → (n ≤ l → go (l - n) ≡ no_record) → spend n l go ≡ no_record
spend_few n l go h = by (leb n l) refl
  where
    by : (e : Bool) → leb n l ≡ e → spend n l go ≡ no_record
    by true p = let k = leb-true n l p in spend_fits n l go k ∙ h k
    by false p = spend_short n l go (leb-false n l p)

-- a turn's records may be taken in two steps
spend_both : (m n l : ℕ) (go : ℕ → Outcome) → spend (m + n) l go ≡ spend m l (λ l'. spend n l' go)
spend_both m n l go = by (leb (m + n) l) refl (leb m l) refl
  where
    by : (e : Bool) → leb (m + n) l ≡ e → (f : Bool) → leb m l ≡ f → spend (m + n) l go ≡ spend m l (λ l'. spend n l' go)
    by true p f q =
        let h = leb-true (m + n) l p in
        spend_fits (m + n) l go h
        ∙ (ap go (omega arith) ∙ (sym (spend_fits n (l - m) go (omega arith)) ∙ sym (spend_fits m l (λ l'. spend n l' go) (omega arith))))
    by false p true q =
        let h = leb-false (m + n) l p in
        let k = leb-true m l q in
        spend_short (m + n) l go h ∙ (sym (spend_short n (l - m) go (omega arith)) ∙ sym (spend_fits m l (λ l'. spend n l' go) k))
    by false p false q =
        spend_short (m + n) l go (leb-false (m + n) l p) ∙ sym (spend_short m l (λ l'. spend n l' go) (leb-false m l q))

spend_ap : (n l : ℕ) {go go' : ℕ → Outcome} → ((i : ℕ) → go i ≡ go' i) → spend n l go ≡ spend n l go'
unfolding spend
spend_ap n l h = ap (λ o. cond (leb n l) o no_record) (h (l - n))

module _ (r u : ℕ) where
  from_after : (n l : ℕ) (s : Turn) → tick_from r u l (after n s) ≡ spend n l (λ l'. tick_from r u l' s)
  unfolding tick_from after
  from_after n l s = spend_both n s.records l (λ l'. next r u l' s.end)

  from_end : (l : ℕ) (e : End) → tick_from r u l (ends e) ≡ next r u l e
  unfolding tick_from
  from_end l e = spend_fits 0 l (λ l'. next r u l' e) (omega arith) ∙ ap (λ l'. next r u l' e) (omega arith)

  from_ended : (n l : ℕ) (e : End) → tick_from r u l (after n (ends e)) ≡ spend n l (λ l'. next r u l' e)
  from_ended n l e = from_after n l (ends e) ∙ spend_ap n l (λ i. from_end i e)

next_comes : (r u l : ℕ) (c : Closure) → next r u l (comes c) ≡ finished c u
unfolding next
next_comes zero u l c = refl
next_comes (suc r) u l c = refl

next_stuck : (r u l : ℕ) → next r u l stuck ≡ no_rule
unfolding next
next_stuck zero u l = refl
next_stuck (suc r) u l = refl

pub always_in_order : AlwaysInOrder
unfolding turn passed handed sole whole next tick_from
always_in_order r u l ks xs = record {
  at_value = λ t. from_ended r u (takes t) l (comes (value t ks xs)) ∙ spend_ap (takes t) l (λ i. next_comes r u i (value t ks xs));
  at_let = λ m b.
      let s = turn b ks (c_cons (value m ks xs) xs) in from_after r u (takes m) l (after 1 s) ∙ spend_ap (takes m) l (λ i. from_after r u 1 i s);
  at_match = λ m ps. from_after r u (takes m) l (turnᵃ ps ks xs (value m ks xs));
  at_an_arm = λ t n t' b ps cs e. rw e (from_after r u n l (turn b ks (revᶜ cs xs)));
  past_arm = λ t n t' b ps cs e. rw e refl;
  at_stuck = from_end r u l stuck ∙ next_stuck r u l;
  at_call = λ f ps e.
      rw e
      (let s = ends (apply (value f ks xs) (values ps ks xs)) in
      from_after r u (takes f) l (after (takesᵗ ps) s) ∙ spend_ap (takes f) l (λ i. from_ended r u (takesᵗ ps) i s.end));
  at_operation = λ f o ps.
      let s = handed (value f ks xs) (operated o (values ps ks xs)) in
      from_after r u (takes f) l (after (takesᵗ ps) s) ∙ spend_ap (takes f) l (λ i. from_after r u (takesᵗ ps) i s);
  no_operation = λ c. from_end r u l stuck ∙ next_stuck r u l;
  past_operation = λ c v. from_ended r u 1 l (apply c (c_cons v c_nil));
  past_call = λ n b. from_after r (suc u) n l (turn b ks xs);
}
