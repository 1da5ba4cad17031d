-- One law for each way out of the functions that build a constructor's record: the sums over the arguments, and the whole record as one run of words.
-- Assumes nothing.
use Prim.Native.Nat.{ℕ, suc, ◌+◌, ◌*◌, ◌≤◌, ◌<◌, max}
use mathlib.Core.Path.{◌≡◌, refl, sym, ap, subst, ◌∙◌}
use mathlib.Core.List.{List, [], ◌∷◌, ◌++◌}
use native.Mathlib.Omega.{arith}
use lib.ListN.{length, get_or, take}
use Rattle.std.proofs.lemmas.List.{length-take-le}
use Rattle.language.specs.Kinds.{most_arguments, most_byte}
use Rattle.ticks.specs.Tick.{Closure, Closures, c_nil, c_cons, sizeᶜ}
use Rattle.output.specs.Stored.{Room, Put}
use Rattle.output.proofs.Stored.{put_none, put_then, room_left, take_more}
use Rattle.records.specs.Links.{record_words, low, high, links}
use Rattle.records.specs.Grades.{raised, grade, grades, last, lasts, capped}
use Rattle.records.specs.Memory.{a_constructor, Val, v_con, Vals, v_nil, v_cons}
use Rattle.records.proofs.Memory.{put_grown, put_words, here, vals_grown}
use Rattle.building.specs.Built.{Tells, Summed, Built}

-- one value more, behind others
record Last (s m : List ℕ) (n : ℕ) (vs : List ℕ) (v : ℕ) (cs : Closures) : Type 0 where
  pub front : Closures
  pub c : Closure
  pub others : Vals s m n vs front
  pub value : Val s m n v c
  pub graded : (g : ℕ) → grades g cs ≡ max (grades g front) (grade c)
  pub ended : (l : ℕ) → lasts l cs ≡ capped (lasts l front + last c + 1)

last_of : {s m : List ℕ} {n : ℕ} (vs : List ℕ) {v : ℕ} {cs : Closures} → Vals s m n (vs ++ (v ∷ [])) cs → Last s m n vs v cs
unfolding grades lasts
last_of [] (v_cons {c = c} u v_nil) = record { front = c_nil; c = c; others = v_nil; value = u; graded = λ g. refl; ended = λ l. refl }
last_of (x ∷ vs) (v_cons {c = c} u us) =
    let r = last_of vs us in
    record {
      front = c_cons c r.front;
      c = r.c;
      others = v_cons u r.others;
      value = r.value;
      graded = λ g. r.graded (max g (grade c));
      ended = λ l. r.ended (capped (l + last c + 1));
    }

pub s_more : (m vs : List ℕ) {i g l x y : ℕ} → Summed m (take i vs) g l → i < length vs → Tells m (get_or vs i 0) x y
    → Summed m (take (i + 1) vs) (max g x) (capped (l + y + 1))
s_more m vs {i} {g} {l} {x} {y} z h t = subst (λ (us : List ℕ). Summed m us (max g x) (capped (l + y + 1))) (sym (take_more 0 vs i h)) record {
  graded = λ s n cs u. let r = last_of (take i vs) u in rw (z.graded s n r.front r.others, t.graded s n r.c r.value) (sym (r.graded 0));
  ended = λ s n cs u. let r = last_of (take i vs) u in rw (z.ended s n r.front r.others, t.ended s n r.c r.value) (sym (r.ended 1));
}

-- the references, one after the other
length_links : (vs : List ℕ) → length (links vs) ≡ 2 * length vs
unfolding links
length_links [] = refl
length_links (v ∷ vs) = omega (arith, length_links vs)

links_more : (vs : List ℕ) (v : ℕ) → links (vs ++ (v ∷ [])) ≡ links vs ++ (low v ∷ high v ∷ [])
unfolding links
links_more [] v = refl
links_more (w ∷ vs) v = ap (λ (l : List ℕ). low w ∷ high w ∷ l) (links_more vs v)

pub p_none : (m : List ℕ) (at : ℕ) → Put (links []) m at m at
unfolding links
p_none = put_none

pub p_more : (vs : List ℕ) {m₀ m m' : List ℕ} {at next next' i x y : ℕ} → Put (links (take i vs)) m₀ at m next → i < length vs → x ≡ low (get_or vs i 0)
    → y ≡ high (get_or vs i 0) → Put (x ∷ y ∷ []) m next m' next' → Put (links (take (i + 1) vs)) m₀ at m' next'
p_more vs {i = i} p h e f q = rw (take_more 0 vs i h, links_more (take i vs) (get_or vs i 0)) (put_then p (rw (e, f) at q))

-- and there is room for the next of them
pub p_room : (vs : List ℕ) {m₀ m : List ℕ} {at next i : ℕ} → Room m₀ at (2 * length vs) → Put (links (take i vs)) m₀ at m next → i < length vs → Room m next 2
p_room vs {m₀} {at = at} {i = i} r p h =
    let k : length (links (take i vs)) ≡ 2 * i = length_links (take i vs) ∙ ap (λ (n : ℕ). 2 * n) (length-take-le i vs (omega arith)) in
    room_left 2 p (omega (arith, r.fits, k))

-- the whole record
size_vals : {s m : List ℕ} {n : ℕ} {vs : List ℕ} {cs : Closures} → Vals s m n vs cs → sizeᶜ cs ≡ length vs
unfolding sizeᶜ
size_vals v_nil = refl
size_vals (v_cons v vs) = ap suc (size_vals vs)

pub built : (vs : List ℕ) {m m₁ m₂ : List ℕ} {n t i e f l : ℕ} → Room m n record_words → t ≤ most_byte → length vs ≤ most_arguments → Summed m vs f l
    → Put (a_constructor ∷ t ∷ length vs ∷ raised f ∷ low l ∷ high l ∷ []) m n m₁ i → Put (links vs) m₁ i m₂ e → Built m m₂ n t vs
unfolding grade last
built vs {m} {m₁} {m₂} {n} {t} {f = f} {l} r b h x p q =
    let ws : List ℕ = a_constructor ∷ t ∷ length vs ∷ raised f ∷ low l ∷ high l ∷ links vs in
    let w : Put ws m n m₂ _ = put_then p q in
    let z : length ws ≤ record_words = omega (arith, length_links vs) in
    record {
      grown = put_grown w r z;
      says = λ s cs v. v_con (here n) b (size_vals v) h
          (rw (x.graded s n cs v, x.ended s n cs v) at (put_words w r z))
          (vals_grown (put_grown w r z) v);
    }
