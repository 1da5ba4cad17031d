-- Parts of a rule that stand one after the other, and a part that is taken apart into those that it is made of: a term by its head, a list by
-- its length.
-- Assumes nothing.
use Prim.Native.Nat.{ℕ, ◌+◌, ◌-◌, ◌*◌, ◌/◌, ◌%◌, ◌≤◌, ◌<◌}
use mathlib.Core.Path.{◌≡◌, refl, sym, ap, subst, ◌∙◌}
use mathlib.Core.List.{List, [], ◌∷◌}
use native.Mathlib.Omega.{arith}
use lib.ListN.{length, get_or, drop, length-append, length-drop}
use Rattle.language.specs.Term.{Lang, rules, Term, Terms, Arms, var, kvar, fun, call, bind, con, cases, num, op, cons, none, arm, size, sizeᵃ}
use Rattle.language.specs.Kinds.{operands}
use Rattle.language.specs.Words.{word_end, head, words, wordsᵃ}
use Rattle.language.specs.Limits.{Rangedᵗ, Rangedᵃ, r_nil, r_cons, r_none, r_arm, depth}
use Rattle.language.specs.Places.{Held}
use Rattle.language.specs.declared.Parts.TheVariants.{Nothing, Body, FunctionAndArguments, BoundAndBody, CountAndArguments, SubjectAndArms, ArityAndBody, HighAndLow, TwoParts}
use Rattle.language.proofs.Places.{first_run, second_run, first_word, next_words, there}
use Rattle.atoms.specs.Standing.{Part, term, terms, arms, over, ◌then◌, Thing, source, Seen, Stands, TermAt, Ends, Counted}
use Rattle.atoms.proofs.Opened.{Opened, o_var, o_fun, o_call, o_bind, o_con, o_cases, o_num, o_op}

-- the first of two parts, and the second where the first is known to end
pub first : {P Q : Part} {s : List ℕ} {at to : ℕ} {x : Thing (P then Q)} → Seen (P then Q) s at to x
    → Seen P s at (at + length (source P x.0)) x.0
first {P} {Q} {x = x} k = record { good = k.good.0; held = first_run (source P x.0) (source Q x.1) k.held }

pub second : {P Q : Part} {s : List ℕ} {at i to : ℕ} {x : Thing (P then Q)} → Seen (P then Q) s at to x → Ends P s at i → Seen Q s i to x.1
second {P} {Q} {s} {at} {i} {to} {x} k E = record {
  good = k.good.1;
  held = subst (λ (j : ℕ). Held s (source Q x.1) j to) (sym (E.end x.0 _ (first k))) (second_run (source P x.0) (source Q x.1) k.held);
}

pub ends_over : {s : List ℕ} {at to : ℕ} (n : ℕ) → to ≡ at + n → Ends (over n) s at to
ends_over n e = record { end = λ ws i k. omega (arith, e, k.good, k.held.past) }

pub ends_then : {P Q : Part} {s : List ℕ} {at i to : ℕ} → Ends P s at i → Ends Q s i to → Ends (P then Q) s at to
ends_then E F = record { end = λ x e k. F.end x.1 e (second k E) }

-- a part of the kind Q that stands from `at` up to `to`
pub record Some (Q : Part) (s : List ℕ) (at to : ℕ) : Type 0 where
  pub thing : Thing Q
  pub seen : Seen Q s at to thing

-- What a term is made of, by its head; a list and arms by their number. The words stay the same, so that only what is asked of the parts
-- is shown.
module _ {s : List ℕ} {at to d : ℕ} where
  unfoldable pub open_var : {t : Term} → Opened Nothing t → Seen (term d) s at to t → Some (over 1) s at to
  unfolding words
  open_var (o_var {i} h) k = record { thing = head 1 i ∷ []; seen = record { good = refl; held = k.held } }

  unfoldable pub open_fun : {t : Term} → Opened Body t → Seen (term d) s at to t → Some (over 1 then term (d - 1)) s at to
  unfolding words depth
  open_fun (o_fun {o} {a} {b} e h r) k = record {
    thing = (head (2 + o) (a + 0) ∷ [], b);
    seen = record { good = (refl, (r, omega (arith, k.good.1))); held = k.held };
  }

  unfoldable pub open_call : {t : Term} → Opened FunctionAndArguments t → Seen (term d) s at to t
      → Some (over 1 then terms (d - 1) (get_or s at 0 % 256 + 1)) s at to
  unfolding words depth size
  open_call (o_call {f} {ps} h r rs) k = record {
    thing = (head 4 (size ps) ∷ [], cons f ps);
    seen = record {
      good = (refl, (r_cons r rs, omega (arith, k.good.1), omega (arith, first_word k.held)));
      held = k.held;
    };
  }

  unfoldable pub open_bind : {t : Term} → Opened BoundAndBody t → Seen (term d) s at to t → Some (over 1 then term (d - 1) then term (d - 1)) s at to
  unfolding words depth
  open_bind (o_bind {m} {b} r r') k = record {
    thing = (head 5 0 ∷ [], (m, b));
    seen = record { good = (refl, ((r, omega (arith, k.good.1)), (r', omega (arith, k.good.1)))); held = k.held };
  }

  unfoldable pub open_con : {t : Term} {n : ℕ} → n ≡ get_or s (at + 1) 0 → Opened CountAndArguments t → Seen (term d) s at to t
      → Some (over 2 then terms (d - 1) n) s at to
  unfolding words depth
  open_con e (o_con {t} {ps} h l rs) k = record {
    thing = (head 6 t ∷ size ps ∷ [], ps);
    seen = record {
      good = (refl, (rs, omega (arith, k.good.1), sym (e ∙ first_word (next_words k.held))));
      held = k.held;
    };
  }

  unfoldable pub open_cases : {t : Term} → Opened SubjectAndArms t → Seen (term d) s at to t
      → Some (over 1 then term (d - 1) then arms (d - 1) (get_or s at 0 % 256)) s at to
  unfolding words depth
  open_cases (o_cases {m} {ps} h r rs) k = record {
    thing = (head 7 (sizeᵃ ps) ∷ [], (m, ps));
    seen = record {
      good = (refl, ((r, omega (arith, k.good.1)), (rs, omega (arith, k.good.1), omega (arith, first_word k.held))));
      held = k.held;
    };
  }

  unfoldable pub open_num : {t : Term} → Opened HighAndLow t → Seen (term d) s at to t → Some (over 3) s at to
  unfolding words
  open_num (o_num {n}) k = record { thing = head 10 0 ∷ n / word_end ∷ n % word_end ∷ []; seen = record { good = refl; held = k.held } }

  unfoldable pub open_op : {t : Term} → Opened TwoParts t → Seen (term d) s at to t → Some (over 1 then terms (d - 1) operands) s at to
  unfolding words depth
  open_op (o_op {o} {ps} h e rs) k = record {
    thing = (head 11 o ∷ [], ps);
    seen = record { good = (refl, (rs, omega (arith, k.good.1), e)); held = k.held };
  }

  -- n terms and n arms, where n is 0 and where it is not
  module _ {n : ℕ} where
    unfoldable pub open_nil : {ts : Terms} → n ≡ 0 → Rangedᵗ rules ts → Seen (terms d n) s at to ts → Some (over 0) s at to
    unfolding words size
    open_nil z r_nil k = record { thing = []; seen = record { good = refl; held = k.held } }
    open_nil z (r_cons r rs) k = absurd (omega (arith, k.good.2))

    unfoldable pub open_cons : {ts : Terms} → (n ≡ 0 → ⊥) → Rangedᵗ rules ts → Seen (terms d n) s at to ts
        → Some (term d then terms d (n - 1)) s at to
    unfolding words size depth
    open_cons z r_nil k = absurd (z (sym k.good.2))
    open_cons z (r_cons {t} {ts} r rs) k = record {
      thing = (t, ts);
      seen = record { good = ((r, omega (arith, k.good.1)), (rs, omega (arith, k.good.1), omega (arith, k.good.2))); held = k.held };
    }

    unfoldable pub open_none : {ps : Arms} → n ≡ 0 → Rangedᵃ rules ps → Seen (arms d n) s at to ps → Some (over 0) s at to
    unfolding words sizeᵃ
    open_none z r_none k = record { thing = []; seen = record { good = refl; held = k.held } }
    open_none z (r_arm h l r rs) k = absurd (omega (arith, k.good.2))

    unfoldable pub open_arm : {ps : Arms} → (n ≡ 0 → ⊥) → Rangedᵃ rules ps → Seen (arms d n) s at to ps
        → Some (over 2 then term d then arms d (n - 1)) s at to
    unfolding words sizeᵃ depth
    open_arm z r_none k = absurd (z (sym k.good.2))
    open_arm z (r_arm {t} {n = m} {b} {ps} h l r rs) k = record {
      thing = (head 8 t ∷ m ∷ [], (b, ps));
      seen = record {
        good = (refl, ((r, omega (arith, k.good.1)), (rs, omega (arith, k.good.1), omega (arith, k.good.2))));
        held = k.held;
      };
    }

-- no term has an arm's head
pub no_arm : {t : Term} {A : Type 0} → Opened ArityAndBody t → A
no_arm = elim [ ]

-- the second word of a constructor
pub count_there : {s : List ℕ} {at to d : ℕ} {t : Term} → Opened CountAndArguments t → Seen (term d) s at to t → Counted (get_or s (at + 1) 0) s at
unfolding words
count_there (o_con h l rs) k = let n = next_words k.held in record { is = refl; inside = there n; few = omega (arith, first_word n) }

-- the two words behind a number's head
pub number_there : {s : List ℕ} {at to d : ℕ} {t : Term} → Opened HighAndLow t → Seen (term d) s at to t → at + 2 < length s
unfolding words
number_there o_num k = omega (arith, there (next_words (next_words k.held)))

-- words that stand at a place are there
reach : {s ws : List ℕ} {at to : ℕ} → Held s ws at to → length ws ≤ length s - at
reach {s} {ws} {at} {to} h = omega (arith, ap length h.words, length-append ws (drop to s), length-drop at s)

-- a term has a word and a level, in either language; an arm has two words
pub term_least_in : (L : Lang) (t : Term) → (1 ≤ length (words L t)) × (1 ≤ depth t)
unfolding words depth
term_least_in L (var i) = omega arith
term_least_in L (kvar i) = omega arith
term_least_in L (fun o a b) = omega arith
term_least_in L (call f ps) = omega arith
term_least_in L (bind m b) = omega arith
term_least_in L (con t ps) = omega arith
term_least_in L (cases m ps) = omega arith
term_least_in L (num n) = omega arith
term_least_in L (op o ps) = omega arith

pub term_least : (t : Term) → (1 ≤ length (words rules t)) × (1 ≤ depth t)
term_least t = term_least_in rules t

arms_least : (ps : Arms) → 2 * sizeᵃ ps ≤ length (wordsᵃ rules ps)
unfolding words sizeᵃ
arms_least none = omega arith
arms_least (arm t n b ps) = omega (arith, arms_least ps, length-append (words rules b) (wordsᵃ rules ps))

pub term_inside : {s : List ℕ} {at : ℕ} → TermAt s at → at < length s
term_inside k = omega (arith, reach k.stands.seen.held, term_least_in rules k.stands.thing)

pub term_deep : {s : List ℕ} {at d : ℕ} → Stands (term d) s at → 1 ≤ d
term_deep k = omega (arith, k.seen.good.1, term_least_in rules k.thing)

pub arms_inside : {s : List ℕ} {at d n : ℕ} → Stands (arms d n) s at → 2 * n ≤ length s - at
arms_inside k = omega (arith, reach k.seen.held, arms_least k.thing, k.seen.good.2)
