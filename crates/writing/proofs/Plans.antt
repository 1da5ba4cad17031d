-- How each form is written, step by step: the plan of each writer. What is read is taken apart as those who skip do it; that the steps write the
-- form's words is an equation of words for each form.
-- Assumes nothing.
use Prim.Native.Nat.{ℕ, ◌+◌, ◌-◌, ◌%◌}
use mathlib.Core.Path.{◌≡◌, refl, sym, ap, ap₂, ◌∙◌}
use mathlib.Core.Bool.{true, false, and-eq-true_iff}
use mathlib.Core.List.{List, [], ◌∷◌, ◌++◌, append_assoc, append-nil}
use native.Mathlib.Omega.{arith}
use lib.ListN.{get_or}
use Rattle.language.specs.Term.{rules, images, Term, Terms, Arms, fun, call, bind, con, cases, op, nil, cons, size, sizeᵃ}
use Rattle.language.specs.Kinds.{operands}
use Rattle.language.specs.Words.{head, words, wordsᵗ, wordsᵃ}
use Rattle.language.specs.Run.{atom, atoms}
use Rattle.language.specs.Image.{lam, passing, carried, carrieds, chain, passingᵃ, calling, making, working}
use Rattle.language.specs.Limits.{Rangedᵗ, Rangedᵃ, r_nil, r_cons, r_none, r_arm}
use Rattle.language.specs.declared.Parts.TheVariants.{Nothing, Body, FunctionAndArguments, BoundAndBody, CountAndArguments, SubjectAndArms, HighAndLow, TwoParts}
use Rattle.language.proofs.Forms.{passing_atom, passing_build, size_carrieds, size_passingᵃ}
use Rattle.language.proofs.Places.{first_word, next_words}
use Rattle.atoms.specs.Standing.{term, terms, arms, atomic, atomics, Seen, AtomAt, Parted}
use Rattle.atoms.proofs.Opened.{Opened, o_var, o_fun, o_call, o_bind, o_con, o_cases, o_num, o_op, opened}
use Rattle.atoms.proofs.Standing.{open_var, open_fun, open_call, open_bind, open_con, open_cases, open_num, open_op, open_nil, open_cons, open_none, open_arm}
use Rattle.writing.specs.Jobs.{Job, passed, kept, keeps, chained, branches, before, after, skipped, copied, ◌next◌, linked, handed, links}
use Rattle.writing.proofs.Jobs.{As, Plan}

-- "A chain is, for each of its terms in order, 0201 0401 and the term's passing form; then 0201 and the ending."
words_chain : (ts : Terms) (e : Term) → 0x0201 ∷ words images (chain ts e) ≡ links ts ++ (0x0201 ∷ words images e)
unfolding words passing links
words_chain nil e = refl
words_chain (cons t ts) e = simp (append-nil, words_chain ts e, append_assoc)

-- a passing form that is a chain with the end e, where e is the end that the code writes
chain_words : (ts : Terms) {e e' : Term} → e ≡ e' → words images (lam (chain ts e)) ≡ links ts ++ (0x0201 ∷ words images e')
unfolding words
chain_words ts {e} q = words_chain ts e ∙ ap (λ (x : Term). links ts ++ (0x0201 ∷ words images x)) q

-- the words of the passing forms and of the carried forms, in the runs in which they are written
atom_words : (t : Term) → atom t ≡ true → words images (passing t) ≡ (0x0201 ∷ 0x0401 ∷ head 9 0 ∷ []) ++ words images (carried t)
unfolding words
atom_words t e = ap (words images) (passing_atom t e) ∙ ap (λ (l : List ℕ). 0x0201 ∷ 0x0401 ∷ head 9 0 ∷ l) (append-nil (words images (carried t)))

call_words_are : (f : Term) (ps : Terms) {n : ℕ} → size ps ≡ n
    → words images (passing (call f ps)) ≡ links (cons f ps) ++ (0x0201 ∷ words images (calling n))
unfolding passing
call_words_are f ps e = chain_words (cons f ps) (ap calling e)

build_words : (t : ℕ) (ps : Terms) {m n : ℕ} → atoms ps ≡ false → t ≡ m → size ps ≡ n
    → words images (passing (con t ps)) ≡ links ps ++ (0x0201 ∷ words images (making m n))
build_words t ps a q e = ap (words images) (passing_build t ps a) ∙ chain_words ps (ap₂ making q e)

op_words : (o : ℕ) (ps : Terms) {m n : ℕ} → o ≡ m → size ps ≡ n
    → words images (passing (op o ps)) ≡ links ps ++ (0x0201 ∷ words images (working m n))
unfolding passing
op_words o ps q e = chain_words ps (ap₂ working q e)

bind_words : (m b : Term) → words images (passing (bind m b))
    ≡ (0x0201 ∷ 0x0401 ∷ words images (passing m)) ++ ((0x0201 ∷ 0x0500 ∷ head 9 0 ∷ []) ++ (0x0401 ∷ (words images (passing b) ++ (head 9 1 ∷ []))))
unfolding words passing
bind_words m b = ap (λ (l : List ℕ). 0x0201 ∷ 0x0401 ∷ (words images (passing m) ++ l))
    (append-nil (0x0201 ∷ 0x0500 ∷ head 9 0 ∷ 0x0401 ∷ (words images (passing b) ++ (head 9 1 ∷ []))))

cases_words : (m : Term) (ps : Arms) {w : ℕ} → w ≡ head 7 (sizeᵃ ps) → words images (passing (cases m ps))
    ≡ (0x0201 ∷ 0x0401 ∷ words images (passing m)) ++ ((0x0201 ∷ w ∷ head 9 0 ∷ []) ++ wordsᵃ images (passingᵃ ps))
unfolding words passing
cases_words m ps e = ap (λ (l : List ℕ). 0x0201 ∷ 0x0401 ∷ (words images (passing m) ++ l))
    (append-nil (0x0201 ∷ head 7 (sizeᵃ (passingᵃ ps)) ∷ head 9 0 ∷ wordsᵃ images (passingᵃ ps))
    ∙ ap (λ (w : ℕ). 0x0201 ∷ w ∷ head 9 0 ∷ wordsᵃ images (passingᵃ ps)) (ap (head 7) (size_passingᵃ ps) ∙ sym e))

fun_words : (o a : ℕ) (b : Term) {w : ℕ} → w ≡ head (2 + o) (a + 0)
    → words images (carried (fun o a b)) ≡ ((w + 1) ∷ []) ++ (0x0401 ∷ (words images (passing b) ++ (head 9 0 ∷ [])))
unfolding words carried
fun_words o a b e = ap (λ (w : ℕ). w ∷ 0x0401 ∷ (words images (passing b) ++ (head 9 0 ∷ []))) (omega arith)

con_words : (t : ℕ) (ps : Terms) → words images (carried (con t ps)) ≡ (head 6 t ∷ size ps ∷ []) ++ wordsᵗ images (carrieds ps)
unfolding words carried
con_words t ps = let z = size_carrieds ps in cc

-- an atom among the terms
pub loosened : {s : List ℕ} {at to d : ℕ} {t : Term} → Seen (atomic d) s at to t → Seen (term d) s at to t
loosened k = record { good = (k.good.0, k.good.1); held = k.held }

loosenedᵗ : {s : List ℕ} {at to d n : ℕ} {ts : Terms} → Seen (atomics d n) s at to ts → Seen (terms d n) s at to ts
loosenedᵗ k = record { good = (k.good.0, k.good.1, k.good.2); held = k.held }

-- the job of a writer of a chain: m words are passed over, the links of n terms are written, and then the end e
abbrev pub chaining : ℕ → ℕ → ℕ → Term → Job
chaining d m n e = skipped m next after (chained (d - 1) n) (0x0201 ∷ words images e)

-- what stands at a place, as the plan of its writer has it
module _ {s : List ℕ} {at to d : ℕ} where
  as_call : {t : Term} → Opened FunctionAndArguments t → Seen (term d) s at to t
      → As (passed d) (chaining d 1 (get_or s at 0 % 256 + 1) (calling (get_or s at 0 % 256))) s at to t
  unfolding words open_call
  as_call (o_call {f} {ps} h r rs) k = let y = open_call (o_call h r rs) k in
      record { thing = y.thing; seen = y.seen; same = call_words_are f ps (omega (arith, first_word k.held)) }

  as_let : {t : Term} → Opened BoundAndBody t → Seen (term d) s at to t
      → As (passed d) (skipped 1 next linked (d - 1) next before (0x0201 ∷ 0x0500 ∷ head 9 0 ∷ []) (handed (d - 1) (head 9 1))) s at to t
  unfolding open_bind
  as_let (o_bind {m} {b} r r') k = let y = open_bind (o_bind r r') k in record { thing = y.thing; seen = y.seen; same = bind_words m b }

  as_build : {t : Term} {n : ℕ} → n ≡ get_or s (at + 1) 0 → atom t ≡ false → Opened CountAndArguments t → Seen (term d) s at to t
      → As (passed d) (chaining d 2 n (making (get_or s at 0 % 256) n)) s at to t
  unfolding words atom open_con
  as_build e a (o_con {t} {ps} h l rs) k = let y = open_con e (o_con h l rs) k in record {
    thing = y.thing;
    seen = y.seen;
    same = build_words t ps a (omega (arith, first_word k.held)) (sym (e ∙ first_word (next_words k.held)));
  }

  as_operation : {t : Term} → Opened TwoParts t → Seen (term d) s at to t
      → As (passed d) (chaining d 1 operands (working (get_or s at 0 % 256) operands)) s at to t
  unfolding words open_op
  as_operation (o_op {o} {ps} h e rs) k = let y = open_op (o_op h e rs) k in
      record { thing = y.thing; seen = y.seen; same = op_words o ps (omega (arith, first_word k.held)) e }

  as_match : {t : Term} → Opened SubjectAndArms t → Seen (term d) s at to t
      → As (passed d) (skipped 1 next linked (d - 1) next before (0x0201 ∷ get_or s at 0 ∷ head 9 0 ∷ []) (branches (d - 1) (get_or s at 0 % 256))) s at to t
  unfolding words open_cases
  as_match (o_cases {m} {ps} h r rs) k = let y = open_cases (o_cases h r rs) k in
      record { thing = y.thing; seen = y.seen; same = cases_words m ps (first_word k.held) }

  -- the carried forms
  as_var : {t : Term} → Opened Nothing t → Seen (atomic d) s at to t → As (kept d) (after (skipped 1) (head 1 (get_or s at 0 % 256) ∷ [])) s at to t
  unfolding words carried open_var
  as_var (o_var {i} h) k = let y = open_var (o_var h) (loosened k) in
      record { thing = y.thing; seen = y.seen; same = ap (λ (j : ℕ). head 1 j ∷ []) (omega (arith, first_word k.held)) }

  as_number : {t : Term} → Opened HighAndLow t → Seen (atomic d) s at to t → As (kept d) (copied 3) s at to t
  unfolding words carried open_num
  as_number o_num k = let y = open_num o_num (loosened k) in record { thing = y.thing; seen = y.seen; same = refl }

  as_function : {t : Term} → Opened Body t → Seen (atomic d) s at to t
      → As (kept d) (skipped 1 next before ((get_or s at 0 + 1) ∷ []) (handed (d - 1) (head 9 0))) s at to t
  unfolding words open_fun
  as_function (o_fun {o} {a} {b} e h r) k = let y = open_fun (o_fun e h r) (loosened k) in
      record { thing = y.thing; seen = y.seen; same = fun_words o a b (first_word k.held) }

  as_constructor : {t : Term} {n : ℕ} → n ≡ get_or s (at + 1) 0 → Opened CountAndArguments t → Seen (atomic d) s at to t
      → As (kept d) (copied 2 next keeps (d - 1) n) s at to t
  unfolding words atom open_con
  as_constructor e (o_con {t} {ps} h l rs) k = let y = open_con e (o_con h l rs) (loosened k) in record {
    thing = y.thing;
    seen = record {
      good = (y.seen.good.0, (y.seen.good.1.0, y.seen.good.1.1, y.seen.good.1.2, k.good.2));
      held = y.seen.held;
    };
    same = con_words t ps;
  }

  -- n things, where n is 0 and where it is not
  module _ {n : ℕ} where
    no_links : {ts : Terms} → n ≡ 0 → Rangedᵗ rules ts → Seen (terms d n) s at to ts → As (chained d n) (skipped 0) s at to ts
    unfolding links open_nil size
    no_links z r_nil k = let y = open_nil z r_nil k in record { thing = y.thing; seen = y.seen; same = refl }
    no_links z (r_cons r rs) k = absurd (omega (arith, k.good.2))

    more_links : {ts : Terms} → (n ≡ 0 → ⊥) → Rangedᵗ rules ts → Seen (terms d n) s at to ts
        → As (chained d n) (linked d next chained d (n - 1)) s at to ts
    unfolding links open_cons
    more_links z r_nil k = absurd (z (sym k.good.2))
    more_links z (r_cons r rs) k = let y = open_cons z (r_cons r rs) k in record { thing = y.thing; seen = y.seen; same = refl }

    no_atoms : {ts : Terms} → n ≡ 0 → Rangedᵗ rules ts → Seen (atomics d n) s at to ts → As (keeps d n) (skipped 0) s at to ts
    unfolding words carried open_nil size
    no_atoms z r_nil k = let y = open_nil z r_nil (loosenedᵗ k) in record { thing = y.thing; seen = y.seen; same = refl }
    no_atoms z (r_cons r rs) k = absurd (omega (arith, k.good.2))

    more_atoms : {ts : Terms} → (n ≡ 0 → ⊥) → Rangedᵗ rules ts → Seen (atomics d n) s at to ts
        → As (keeps d n) (kept d next keeps d (n - 1)) s at to ts
    unfolding words carried atom open_cons
    more_atoms z r_nil k = absurd (z (sym k.good.2))
    more_atoms z (r_cons {t} {ts} r rs) k =
        let y = open_cons z (r_cons r rs) (loosenedᵗ k) in
        let a = (and-eq-true_iff (atom t) (atoms ts)).0 k.good.3 in
        let g = y.seen.good in record {
          thing = y.thing;
          seen = record { good = ((g.0.0, g.0.1, a.0), (g.1.0, g.1.1, g.1.2, a.1)); held = y.seen.held };
          same = refl;
        }

    no_arms : {ps : Arms} → n ≡ 0 → Rangedᵃ rules ps → Seen (arms d n) s at to ps → As (branches d n) (skipped 0) s at to ps
    unfolding words passingᵃ open_none sizeᵃ
    no_arms z r_none k = let y = open_none z r_none k in record { thing = y.thing; seen = y.seen; same = refl }
    no_arms z (r_arm h l r rs) k = absurd (omega (arith, k.good.2))

    more_arms : {ps : Arms} → (n ≡ 0 → ⊥) → Rangedᵃ rules ps → Seen (arms d n) s at to ps
        → As (branches d n) (copied 2 next handed d (head 9 1) next branches d (n - 1)) s at to ps
    unfolding words passingᵃ open_arm
    more_arms z r_none k = absurd (z (sym k.good.2))
    more_arms z (r_arm {t} {n = m} {b} {ps} h l r rs) k = let y = open_arm z (r_arm h l r rs) k in record { thing = y.thing; seen = y.seen; same = refl }

-- the plan of each writer, by what the code has tested
module _ {s : List ℕ} {at d : ℕ} where
  pub plan_atom : AtomAt d s at true → Plan (passed d) (before (0x0201 ∷ 0x0401 ∷ head 9 0 ∷ []) (kept d)) s at
  plan_atom A = record {
    plan = λ t to k.
        let a = sym (A.is t to k) in
        record { thing = t; seen = record { good = (k.good.0, k.good.1, a); held = k.held }; same = atom_words t a };
  }

  pub plan_call : {a : ℕ} → Parted FunctionAndArguments d s at → a ≡ get_or s at 0 % 256 → Plan (passed d) (chaining d 1 (a + 1) (calling a)) s at
  plan_call H e = rw e record { plan = λ t to k. as_call (opened k.good.0 k.held H.is) k }

  pub plan_let : Parted BoundAndBody d s at
      → Plan (passed d) (skipped 1 next linked (d - 1) next before (0x0201 ∷ 0x0500 ∷ head 9 0 ∷ []) (handed (d - 1) (head 9 1))) s at
  plan_let H = record { plan = λ t to k. as_let (opened k.good.0 k.held H.is) k }

  pub plan_build : {a n : ℕ} → Parted CountAndArguments d s at → n ≡ get_or s (at + 1) 0 → AtomAt d s at false → a ≡ get_or s at 0 % 256
      → Plan (passed d) (chaining d 2 n (making a n)) s at
  plan_build H e A q = rw q record { plan = λ t to k. as_build e (sym (A.is t to k)) (opened k.good.0 k.held H.is) k }

  pub plan_operation : {a : ℕ} → Parted TwoParts d s at → a ≡ get_or s at 0 % 256 → Plan (passed d) (chaining d 1 operands (working a operands)) s at
  plan_operation H e = rw e record { plan = λ t to k. as_operation (opened k.good.0 k.held H.is) k }

  pub plan_match : Parted SubjectAndArms d s at
      → Plan (passed d) (skipped 1 next linked (d - 1) next before (0x0201 ∷ get_or s at 0 ∷ head 9 0 ∷ []) (branches (d - 1) (get_or s at 0 % 256))) s at
  plan_match H = record { plan = λ t to k. as_match (opened k.good.0 k.held H.is) k }

  pub plan_var : Parted Nothing d s at → Plan (kept d) (after (skipped 1) (head 1 (get_or s at 0 % 256) ∷ [])) s at
  plan_var H = record { plan = λ t to k. as_var (opened k.good.0 k.held H.is) k }

  pub plan_number : Parted HighAndLow d s at → Plan (kept d) (copied 3) s at
  plan_number H = record { plan = λ t to k. as_number (opened k.good.0 k.held H.is) k }

  pub plan_function : Parted Body d s at → Plan (kept d) (skipped 1 next before ((get_or s at 0 + 1) ∷ []) (handed (d - 1) (head 9 0))) s at
  plan_function H = record { plan = λ t to k. as_function (opened k.good.0 k.held H.is) k }

  pub plan_constructor : {n : ℕ} → Parted CountAndArguments d s at → n ≡ get_or s (at + 1) 0
      → Plan (kept d) (copied 2 next keeps (d - 1) n) s at
  plan_constructor H e = record { plan = λ t to k. as_constructor e (opened k.good.0 k.held H.is) k }

  module _ {n : ℕ} where
    pub plan_no_links : n ≡ 0 → Plan (chained d n) (skipped 0) s at
    plan_no_links z = record { plan = λ ts to k. no_links z k.good.0 k }

    pub plan_links : (n ≡ 0 → ⊥) → Plan (chained d n) (linked d next chained d (n - 1)) s at
    plan_links z = record { plan = λ ts to k. more_links z k.good.0 k }

    pub plan_no_atoms : n ≡ 0 → Plan (keeps d n) (skipped 0) s at
    plan_no_atoms z = record { plan = λ ts to k. no_atoms z k.good.0 k }

    pub plan_atoms : (n ≡ 0 → ⊥) → Plan (keeps d n) (kept d next keeps d (n - 1)) s at
    plan_atoms z = record { plan = λ ts to k. more_atoms z k.good.0 k }

    pub plan_no_arms : n ≡ 0 → Plan (branches d n) (skipped 0) s at
    plan_no_arms z = record { plan = λ ps to k. no_arms z k.good.0 k }

    pub plan_arms : (n ≡ 0 → ⊥) → Plan (branches d n) (copied 2 next handed d (head 9 1) next branches d (n - 1)) s at
    plan_arms z = record { plan = λ ps to k. more_arms z k.good.0 k }
