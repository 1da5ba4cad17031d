-- One law for each call in the writers of forms, and for each way out of them: what was tested and called on the way, and what is then ready
-- for the next call or was done. `search` finds a law's premises in what is known at that place of the code.
-- Assumes nothing.
use Prim.Native.Nat.{ℕ, ◌+◌, ◌-◌, ◌%◌, ◌≤◌, ◌<◌}
use mathlib.Core.Path.{◌≡◌, refl, sym, ◌∙◌}
use mathlib.Core.Bool.{true, false, false≢true}
use mathlib.Core.Logic.{◌⊎◌, inl, inr}
use mathlib.Core.List.{List, [], ◌∷◌}
use native.Mathlib.Omega.{arith}
use borrow.Author.Rules.{rules as bounds}
use lib.ListN.{length, get_or, length-append}
use Rattle.language.specs.Term.{rules, images, Term}
use Rattle.language.specs.Words.{head, words}
use Rattle.language.specs.Image.{passing, calling, making, working}
use Rattle.language.specs.Kinds.{most_byte, operands}
use Rattle.language.specs.Limits.{deepest, Ranged, r_var, r_kvar, r_fun, r_call, r_bind, r_con, r_cases, r_num, r_op}
use Rattle.language.specs.Places.{Held}
use Rattle.language.proofs.Places.{first_word, next_words, there}
use Rattle.language.specs.declared.Parts.{Parts}
use Rattle.language.specs.declared.Parts.TheVariants.{Nothing, Body, FunctionAndArguments, BoundAndBody, CountAndArguments, SubjectAndArms, ArityAndBody, HighAndLow, TwoParts}
use Rattle.atoms.specs.Standing.{term, Seen, Stands, TermAt, AtomAt, Parted, FormAt, Counted}
use Rattle.atoms.proofs.Standing.{no_arm, arms_inside}
use Rattle.atoms.proofs.Opened.{Opened, o_call, opened}
use Rattle.atoms.proofs.Ways.{parted}
use Rattle.atoms.proofs.Tests.{Settles, settled, told, atom_settled}
use Rattle.output.specs.Stored.{Room, Put}
use Rattle.output.proofs.Stored.{put_as, room_left}
use Rattle.sizes.proofs.Lengths.{of_calling, of_making, of_working}
use Rattle.writing.specs.Jobs.{Job, passed, kept, keeps, chained, branches, before, after, copied, ◌next◌, linked, handed, imaged, Ready, Done}
use Rattle.writing.proofs.Jobs.{before_room, before_ready, before_done, copied_done, after_ready, after_room, after_done, next_first, next_second, next_done, skipped_done, Plan, ready_as, done_as, Left, left_as, left_none, left_second}
use Rattle.writing.proofs.Plans.{loosened, chaining, plan_atom, plan_call, plan_let, plan_build, plan_operation, plan_match, plan_var, plan_number, plan_function, plan_constructor, plan_no_links, plan_links, plan_no_atoms, plan_atoms, plan_no_arms, plan_arms}

-- numbers that are small enough for what is done with them
few_arguments : {s : List ℕ} {at to d : ℕ} {t : Term} → Opened FunctionAndArguments t → Seen (term d) s at to t → get_or s at 0 % 256 < most_byte
unfolding words
few_arguments (o_call h r rs) k = omega (arith, first_word k.held)

small_head : {t : Term} {s : List ℕ} {at to : ℕ} → Ranged rules t → Held s (words rules t) at to → get_or s at 0 < 0xFFFF
unfolding words
small_head (r_var h) k = omega (arith, first_word k)
small_head (r_kvar a h) k = absurd a
small_head (r_fun e l h r) k = omega (arith, first_word k)
small_head (r_call l h r rs) k = omega (arith, first_word k)
small_head (r_bind r r') k = omega (arith, first_word k)
small_head (r_con h l rs) k = omega (arith, first_word k)
small_head (r_cases l h r rs) k = omega (arith, first_word k)
small_head (r_num h) k = omega (arith, first_word k)
small_head (r_op h e rs) k = omega (arith, first_word k)

not_none : {n k : ℕ} → k < n → n - k ≡ 0 → ⊥
not_none z e = omega arith

fewer : (n k : ℕ) → n - k - 1 ≡ n - (k + 1)
fewer n k = omega arith

-- there is room for a handed form, whatever it is handed
reworded : {s : List ℕ} {at d : ℕ} {o : List ℕ} {p w v : ℕ} → Ready (handed d w) o p s at → Ready (handed d v) o p s at
reworded {w = w} {v} r =
    let ws = words images (passing r.thing) in record {
      thing = r.thing;
      to = r.to;
      seen = r.seen;
      room = record { fits = omega (arith, r.room.fits, length-append ws (w ∷ []), length-append ws (v ∷ [])) };
    }

module _ {s : List ℕ} {at : ℕ} {o : List ℕ} {p : ℕ} where
  -- a rule's image
  module _ {o' : List ℕ} {i : ℕ} (f : Put (0x0401 ∷ []) o p o' i) {o'' s' : List ℕ} {to j : ℕ} where
    pub image_left : Ready imaged o p s at → Done (passed deepest) o' i s at o'' s' to j → Room o'' j 2
    image_left r D = after_room (before_ready r f refl) D

    pub image_done : {o''' : List ℕ} {end : ℕ} → Done (passed deepest) o' i s at o'' s' to j
        → Put (0x0201 ∷ head 9 0 ∷ []) o'' j o''' end → Done imaged o p s at o''' s' to end
    image_done D g = before_done f (after_done D g)

  module _ {d : ℕ} where
    pub kept_small : Ready (kept d) o p s at → get_or s at 0 < 0xFFFF
    kept_small r = small_head r.seen.good.0 r.seen.held

    -- what is read
    pub stands_passed : Ready (passed d) o p s at → Stands (term d) s at
    stands_passed r = record { thing = r.thing; to = r.to; seen = r.seen }

    pub stands_kept : Ready (kept d) o p s at → Stands (term d) s at
    stands_kept r = record { thing = r.thing; to = r.to; seen = loosened r.seen }

    pub term_kept : Ready (kept d) o p s at → TermAt s at
    term_kept r = record { levels = d; stands = stands_kept r }

    -- no term has an arm's head, and no atom the head of a call, a let, a match or an operation
    pub no_passed : {P : Parts} → FormAt P s at → P ≡ ArityAndBody → Ready (passed d) o p s at → ⊥
    no_passed f e r = no_arm (opened r.seen.good.0 r.seen.held (parted f e (stands_passed r)).is)

    loose : {P : Parts} (Q : Parts) → FormAt P s at → P ≡ Q → Settles Q false → Ready (kept d) o p s at → ⊥
    loose Q f e l r = false≢true (settled (opened r.seen.good.0 r.seen.held (parted {Q = Q} f e (stands_kept r)).is) l ∙ r.seen.good.2)

    pub no_kept : {P : Parts} → FormAt P s at
        → (P ≡ FunctionAndArguments) ⊎ (P ≡ BoundAndBody) ⊎ (P ≡ SubjectAndArms) ⊎ (P ≡ ArityAndBody) ⊎ (P ≡ TwoParts)
        → Ready (kept d) o p s at → ⊥
    no_kept f (inl e) = loose FunctionAndArguments f e refl
    no_kept f (inr (inl e)) = loose BoundAndBody f e refl
    no_kept f (inr (inr (inl e))) = loose SubjectAndArms f e refl
    no_kept f (inr (inr (inr (inl e)))) = loose ArityAndBody f e refl
    no_kept f (inr (inr (inr (inr e)))) = loose TwoParts f e refl

    -- an atom's passing form
    module _ (A : AtomAt d s at true) where
      pub atom_room : Ready (passed d) o p s at → Room o p 3
      atom_room r = before_room (ready_as (plan_atom A) r)

      module _ {o' : List ℕ} {i : ℕ} where
        pub atom_next : {a b c : ℕ} → Ready (passed d) o p s at → Put (a ∷ b ∷ c ∷ []) o p o' i → Ready (kept d) o' i s at
        atom_next r f = before_ready (ready_as (plan_atom A) r) f refl

        pub atom_done : {o'' s' : List ℕ} {to end : ℕ} → Put (0x0201 ∷ 0x0401 ∷ head 9 0 ∷ []) o p o' i → Done (kept d) o' i s at o'' s' to end
            → Done (passed d) o p s at o'' s' to end
        atom_done f D = done_as (plan_atom A) (before_done f D)

    -- a form that is a chain, with its end e: the links are ready, there is room for the end, and then the form is done
    module _ {m n : ℕ} (e : Term) (P : Plan (passed d) (chaining d m n e) s at) where
      chaining_rest : Ready (passed d) o p s at → Ready (after (chained (d - 1) n) (0x0201 ∷ words images e)) o p s (at + m)
      chaining_rest r = next_second (ready_as P r) (skipped_done m refl)

      chaining_ready : Ready (passed d) o p s at → Ready (chained (d - 1) n) o p s (at + m)
      chaining_ready r = after_ready (chaining_rest r)

      module _ {o' s' : List ℕ} {to i : ℕ} where
        chaining_room : {l k : ℕ} → length (words images e) ≡ l → k ≡ l + 1 → Ready (passed d) o p s at
            → Done (chained (d - 1) n) o p s (at + m) o' s' to i → Room o' i k
        chaining_room q h r D = record { fits = omega (arith, (after_room (chaining_rest r) D).fits) }

        chaining_done : {o'' : List ℕ} {end : ℕ} → Done (chained (d - 1) n) o p s (at + m) o' s' to i → Put (0x0201 ∷ words images e) o' i o'' end
            → Done (passed d) o p s at o'' s' to end
        chaining_done D f = done_as P (next_done (skipped_done m refl) (after_done D f))

    -- a call: the chain over the called term and the arguments
    module _ (H : Parted FunctionAndArguments d s at) {a : ℕ} (w : a ≡ get_or s at 0 % 256) where
      pub call_few : Ready (passed d) o p s at → a < most_byte
      call_few r = omega (arith, w, few_arguments (opened r.seen.good.0 r.seen.held H.is) r.seen)

      pub call_ready : Ready (passed d) o p s at → Ready (chained (d - 1) (a + 1)) o p s (at + 1)
      call_ready = chaining_ready (calling a) (plan_call H w)

      module _ {o' s' : List ℕ} {to i : ℕ} where
        pub call_room : Ready (passed d) o p s at → Done (chained (d - 1) (a + 1)) o p s (at + 1) o' s' to i → Room o' i (a + 4)
        call_room = chaining_room (calling a) (plan_call H w) (of_calling a) (omega arith)

        pub call_done : {o'' : List ℕ} {end : ℕ} → Done (chained (d - 1) (a + 1)) o p s (at + 1) o' s' to i
            → Put (0x0201 ∷ words images (calling a)) o' i o'' end → Done (passed d) o p s at o'' s' to end
        call_done = chaining_done (calling a) (plan_call H w)

    -- an operation: the chain over its parts
    module _ (H : Parted TwoParts d s at) {w : ℕ} (q : w ≡ get_or s at 0 % 256) where
      pub operation_ready : Ready (passed d) o p s at → Ready (chained (d - 1) operands) o p s (at + 1)
      operation_ready = chaining_ready (working w operands) (plan_operation H q)

      module _ {o' s' : List ℕ} {to i : ℕ} where
        pub operation_room : Ready (passed d) o p s at → Done (chained (d - 1) operands) o p s (at + 1) o' s' to i → Room o' i (operands + 4)
        operation_room = chaining_room (working w operands) (plan_operation H q) (of_working w operands) (omega arith)

        pub operation_done : {o'' : List ℕ} {end : ℕ} → Done (chained (d - 1) operands) o p s (at + 1) o' s' to i
            → Put (0x0201 ∷ words images (working w operands)) o' i o'' end → Done (passed d) o p s at o'' s' to end
        operation_done = chaining_done (working w operands) (plan_operation H q)

    -- a let: its bound term, an added function, and its body
    module _ (H : Parted BoundAndBody d s at) where
      let_rest : Ready (passed d) o p s at
          → Ready (linked (d - 1) next before (0x0201 ∷ 0x0500 ∷ head 9 0 ∷ []) (handed (d - 1) (head 9 1))) o p s (at + 1)
      let_rest r = next_second (ready_as (plan_let H) r) (skipped_done 1 refl)

      pub let_ready : Ready (passed d) o p s at → Ready (linked (d - 1)) o p s (at + 1)
      let_ready r = next_first (let_rest r)

      module _ {o' s' : List ℕ} {i j : ℕ} where
        pub let_room : Ready (passed d) o p s at → Done (linked (d - 1)) o p s (at + 1) o' s' i j → Room o' j 3
        let_room r D = before_room (next_second (let_rest r) D)

        module _ {o'' : List ℕ} {l : ℕ} where
          pub let_next : {w : ℕ} → Ready (passed d) o p s at → Done (linked (d - 1)) o p s (at + 1) o' s' i j
              → Put (0x0201 ∷ 0x0500 ∷ head 9 0 ∷ []) o' j o'' l
              → Ready (handed (d - 1) w) o'' l s' i
          let_next r D f = reworded (before_ready (next_second (let_rest r) D) f refl)

          pub let_done : {o''' s'' : List ℕ} {to end : ℕ} → Done (linked (d - 1)) o p s (at + 1) o' s' i j
              → Put (0x0201 ∷ 0x0500 ∷ head 9 0 ∷ []) o' j o'' l
              → Done (handed (d - 1) (head 9 1)) o'' l s' i o''' s'' to end → Done (passed d) o p s at o''' s'' to end
          let_done D f E = done_as (plan_let H) (next_done (skipped_done 1 refl) (next_done D (before_done f E)))

    -- a match: its subject, an added function, and its arms
    module _ (H : Parted SubjectAndArms d s at) where
      match_rest : Ready (passed d) o p s at
          → Ready (linked (d - 1) next before (0x0201 ∷ get_or s at 0 ∷ head 9 0 ∷ []) (branches (d - 1) (get_or s at 0 % 256))) o p s (at + 1)
      match_rest r = next_second (ready_as (plan_match H) r) (skipped_done 1 refl)

      pub match_ready : Ready (passed d) o p s at → Ready (linked (d - 1)) o p s (at + 1)
      match_ready r = next_first (match_rest r)

      module _ {o' s' : List ℕ} {i j : ℕ} where
        pub match_room : Ready (passed d) o p s at → Done (linked (d - 1)) o p s (at + 1) o' s' i j → Room o' j 3
        match_room r D = before_room (next_second (match_rest r) D)

        module _ {o'' : List ℕ} {l : ℕ} where
          pub match_next : Ready (passed d) o p s at → Done (linked (d - 1)) o p s (at + 1) o' s' i j
              → Put (0x0201 ∷ get_or s at 0 ∷ head 9 0 ∷ []) o' j o'' l
              → Ready (branches (d - 1) (get_or s at 0 % 256)) o'' l s' i
          match_next r D f = before_ready (next_second (match_rest r) D) f refl

          pub match_done : {o''' s'' : List ℕ} {to end : ℕ} → Done (linked (d - 1)) o p s (at + 1) o' s' i j
              → Put (0x0201 ∷ get_or s at 0 ∷ head 9 0 ∷ []) o' j o'' l
              → Done (branches (d - 1) (get_or s at 0 % 256)) o'' l s' i o''' s'' to end → Done (passed d) o p s at o''' s'' to end
          match_done D f E = done_as (plan_match H) (next_done (skipped_done 1 refl) (next_done D (before_done f E)))

    -- a constructor: the chain over its arguments; or, of atoms, its two words and its arguments
    module _ (H : Parted CountAndArguments d s at) {n : ℕ} (N : Counted n s at) where
      module _ (A : AtomAt d s at false) {w : ℕ} (q : w ≡ get_or s at 0 % 256) where
        pub build_ready : Ready (passed d) o p s at → Ready (chained (d - 1) n) o p s (at + 2)
        build_ready = chaining_ready (making w n) (plan_build H N.is A q)

        module _ {o' s' : List ℕ} {to i : ℕ} where
          pub build_room : Ready (passed d) o p s at → Done (chained (d - 1) n) o p s (at + 2) o' s' to i → Room o' i (n + 5)
          build_room = chaining_room (making w n) (plan_build H N.is A q) (of_making w n) (omega arith)

          pub build_done : {o'' : List ℕ} {end : ℕ} → Done (chained (d - 1) n) o p s (at + 2) o' s' to i
              → Put (0x0201 ∷ words images (making w n)) o' i o'' end → Done (passed d) o p s at o'' s' to end
          build_done = chaining_done (making w n) (plan_build H N.is A q)

      pub constructor_ready : Ready (kept d) o p s at → Ready (copied 2) o p s at
      constructor_ready r = next_first (ready_as (plan_constructor H N.is) r)

      module _ {o' s' : List ℕ} {i j : ℕ} where
        pub constructor_next : Ready (kept d) o p s at → Done (copied 2) o p s at o' s' i j → Ready (keeps (d - 1) n) o' j s' i
        constructor_next r D = next_second (ready_as (plan_constructor H N.is) r) D

        pub constructor_done : {o'' s'' : List ℕ} {to end : ℕ} → Done (copied 2) o p s at o' s' i j
            → Done (keeps (d - 1) n) o' j s' i o'' s'' to end → Done (kept d) o p s at o'' s'' to end
        constructor_done D E = done_as (plan_constructor H N.is) (next_done D E)

    -- a variable's carried form, a number's, and a function's
    module _ (H : Parted Nothing d s at) where
      pub var_room : Ready (kept d) o p s at → Room o p 1
      var_room r = after_room (ready_as (plan_var H) r) (skipped_done 1 refl)

      pub var_done : {v : ℕ} {o' : List ℕ} {end : ℕ} → v ≡ get_or s at 0 % 256 → Put (head 1 v ∷ []) o p o' end
          → Done (kept d) o p s at o' s (at + 1) end
      var_done q f = done_as (plan_var H) (after_done (skipped_done 1 refl) (put_as (simp q) f))

    module _ (H : Parted HighAndLow d s at) where
      pub number_ready : Ready (kept d) o p s at → Ready (copied 3) o p s at
      number_ready r = ready_as (plan_number H) r

      -- its words one by one are those that are copied
      pub number_inside : Ready (kept d) o p s at → at + 2 < length s
      number_inside r = let q = number_ready r in go q.thing q.seen.good q.seen.held
        where
          go : (x : List ℕ) {to : ℕ} → length x ≡ 3 → Held s x at to → at + 2 < length s
          go [] l h = absurd (omega arith)
          go (a ∷ []) l h = absurd (omega arith)
          go (a ∷ b ∷ []) l h = absurd (omega arith)
          go (a ∷ b ∷ c ∷ x) l h = omega (arith, there (next_words (next_words h)))

      pub number_room : Ready (kept d) o p s at → Room o p 3
      number_room r = let q = number_ready r in record { fits = omega (arith, q.room.fits, q.seen.good) }

      pub number_put : {o' : List ℕ} {end : ℕ} → Put (get_or s at 0 ∷ get_or s (at + 1) 0 ∷ get_or s (at + 2) 0 ∷ []) o p o' end
          → Done (kept d) o p s at o' s (at + 3) end
      number_put f = done_as (plan_number H) (copied_done 3 refl (λ x e k. put_as (sym (go x k.good k.held)) f))
        where
          go : (x : List ℕ) {to : ℕ} → length x ≡ 3 → Held s x at to → (get_or s at 0 ∷ get_or s (at + 1) 0 ∷ get_or s (at + 2) 0 ∷ []) ≡ x
          go [] l h = absurd (omega arith)
          go (a ∷ []) l h = absurd (omega arith)
          go (a ∷ b ∷ []) l h = absurd (omega arith)
          go (a ∷ b ∷ c ∷ []) l h =
              let k = next_words h in
              let z : at + 1 + 1 ≡ at + 2 = omega arith in
              rw (first_word h, first_word k, (rw z at (first_word (next_words k)))) refl
          go (a ∷ b ∷ c ∷ d ∷ x) l h = absurd (omega arith)

      pub number_left : {o' : List ℕ} {i : ℕ} → Put (get_or s at 0 ∷ []) o p o' i → Ready (kept d) o p s at → Room o' i 2
      number_left f r = let q = number_ready r in room_left 2 f (omega (arith, q.room.fits, q.seen.good))

      pub number_done : {o' s' : List ℕ} {to end : ℕ} → Done (copied 3) o p s at o' s' to end → Done (kept d) o p s at o' s' to end
      number_done D = done_as (plan_number H) D

    module _ (H : Parted Body d s at) where
      function_rest : Ready (kept d) o p s at → Ready (before ((get_or s at 0 + 1) ∷ []) (handed (d - 1) (head 9 0))) o p s (at + 1)
      function_rest r = next_second (ready_as (plan_function H) r) (skipped_done 1 refl)

      pub function_room : Ready (kept d) o p s at → Room o p 1
      function_room r = before_room (function_rest r)

      module _ {o' : List ℕ} {i : ℕ} where
        pub function_next : {a w : ℕ} → Ready (kept d) o p s at → Put (a ∷ []) o p o' i → Ready (handed (d - 1) w) o' i s (at + 1)
        function_next r f = reworded (before_ready (function_rest r) f refl)

        pub function_done : {o'' s' : List ℕ} {to end : ℕ} → Put ((get_or s at 0 + 1) ∷ []) o p o' i
            → Done (handed (d - 1) (head 9 0)) o' i s (at + 1) o'' s' to end → Done (kept d) o p s at o'' s' to end
        function_done f D = done_as (plan_function H) (next_done (skipped_done 1 refl) (before_done f D))

    -- a passing form that is handed a variable
    pub handed_next : {w a : ℕ} {o' : List ℕ} {i : ℕ} → Ready (handed d w) o p s at → Put (a ∷ []) o p o' i → Ready (passed d) o' i s at
    handed_next r f = after_ready (before_ready r f refl)

    module _ {w : ℕ} {o' : List ℕ} {i : ℕ} (f : Put (0x0401 ∷ []) o p o' i) {o'' s' : List ℕ} {to j : ℕ} where
      pub handed_left : Ready (handed d w) o p s at → Done (passed d) o' i s at o'' s' to j → Room o'' j 1
      handed_left r D = after_room (before_ready r f refl) D

      pub handed_done : {o''' : List ℕ} {end : ℕ} → Done (passed d) o' i s at o'' s' to j → Put (w ∷ []) o'' j o''' end
          → Done (handed d w) o p s at o''' s' to end
      handed_done D g = before_done f (after_done D g)

    -- lists and arms, of which k things of n are done
    module _ {K : Job} {o₀ s₀ : List ℕ} {p₀ at₀ n k : ℕ} where
      pub chain_none : Left K o₀ p₀ s₀ at₀ (chained d (n - k)) o p s at → n ≤ k → Done K o₀ p₀ s₀ at₀ o s at p
      chain_none L z = left_none (plan_no_links (omega arith)) L

      pub keeps_none : Left K o₀ p₀ s₀ at₀ (keeps d (n - k)) o p s at → n ≤ k → Done K o₀ p₀ s₀ at₀ o s at p
      keeps_none L z = left_none (plan_no_atoms (omega arith)) L

      pub arms_none : Left K o₀ p₀ s₀ at₀ (branches d (n - k)) o p s at → n ≤ k → Done K o₀ p₀ s₀ at₀ o s at p
      arms_none L z = left_none (plan_no_arms (omega arith)) L

      module _ (z : k < n) where
        links_left : Left K o₀ p₀ s₀ at₀ (chained d (n - k)) o p s at → Left K o₀ p₀ s₀ at₀ (linked d next chained d (n - (k + 1))) o p s at
        links_left L = rw (← fewer n k) (left_as (plan_links (not_none z)) L)

        atoms_left : Left K o₀ p₀ s₀ at₀ (keeps d (n - k)) o p s at → Left K o₀ p₀ s₀ at₀ (kept d next keeps d (n - (k + 1))) o p s at
        atoms_left L = rw (← fewer n k) (left_as (plan_atoms (not_none z)) L)

        arms_left : Left K o₀ p₀ s₀ at₀ (branches d (n - k)) o p s at
            → Left K o₀ p₀ s₀ at₀ (copied 2 next handed d (head 9 1) next branches d (n - (k + 1))) o p s at
        arms_left L = rw (← fewer n k) (left_as (plan_arms (not_none z)) L)

        pub chain_ready : Left K o₀ p₀ s₀ at₀ (chained d (n - k)) o p s at → Ready (linked d) o p s at
        chain_ready L = next_first (links_left L).ready

        pub keeps_ready : Left K o₀ p₀ s₀ at₀ (keeps d (n - k)) o p s at → Ready (kept d) o p s at
        keeps_ready L = next_first (atoms_left L).ready

        pub arm_ready : Left K o₀ p₀ s₀ at₀ (branches d (n - k)) o p s at → Ready (copied 2) o p s at
        arm_ready L = next_first (arms_left L).ready

        pub arm_inside : Left K o₀ p₀ s₀ at₀ (branches d (n - k)) o p s at → at + 1 < length s
        arm_inside L = omega (arith, arms_inside (record { thing = L.ready.thing; to = L.ready.to; seen = L.ready.seen }))

        pub arm_room : Left K o₀ p₀ s₀ at₀ (branches d (n - k)) o p s at → Room o p 2
        arm_room L = let q = arm_ready L in record { fits = omega (arith, q.room.fits, q.seen.good) }

        module _ {o' s' : List ℕ} {i j : ℕ} where
          pub chain_next : Left K o₀ p₀ s₀ at₀ (chained d (n - k)) o p s at → Done (linked d) o p s at o' s' i j
              → Left K o₀ p₀ s₀ at₀ (chained d (n - (k + 1))) o' j s' i
          chain_next L D = left_second (links_left L) D

          pub keeps_next : Left K o₀ p₀ s₀ at₀ (keeps d (n - k)) o p s at → Done (kept d) o p s at o' s' i j
              → Left K o₀ p₀ s₀ at₀ (keeps d (n - (k + 1))) o' j s' i
          keeps_next L D = left_second (atoms_left L) D

          pub arm_next : {w : ℕ} → Left K o₀ p₀ s₀ at₀ (branches d (n - k)) o p s at → Done (copied 2) o p s at o' s' i j → Ready (handed d w) o' j s' i
          arm_next L D = reworded (next_first (left_second (arms_left L) D).ready)

          pub arms_next : {o'' s'' : List ℕ} {l m : ℕ} → Left K o₀ p₀ s₀ at₀ (branches d (n - k)) o p s at → Done (copied 2) o p s at o' s' i j
              → Done (handed d (head 9 1)) o' j s' i o'' s'' l m → Left K o₀ p₀ s₀ at₀ (branches d (n - (k + 1))) o'' m s'' l
          arms_next L D E = left_second (left_second (arms_left L) D) E

pub ruleset ways = (
  parted,
  told,
  atom_settled,
  stands_passed,
  stands_kept,
  term_kept,
  no_passed,
  no_kept,
  atom_room,
  atom_next,
  atom_done,
  call_ready,
  call_few,
  call_room,
  call_done,
  operation_ready,
  operation_room,
  operation_done,
  let_ready,
  let_room,
  let_next,
  let_done,
  match_ready,
  match_room,
  match_next,
  match_done,
  build_ready,
  build_room,
  build_done,
  constructor_ready,
  constructor_next,
  constructor_done,
  var_room,
  var_done,
  number_ready,
  number_done,
  function_room,
  function_next,
  function_done,
  handed_left,
  handed_done,
  image_left,
  image_done,
  chain_none,
  keeps_none,
  arms_none,
  chain_ready,
  keeps_ready,
  arm_ready,
  chain_next,
  keeps_next,
  arm_next,
  arms_next,
  bounds,
)
