-- Words that stand in a table: none, one, one run after another, and a run taken apart.
-- Assumes nothing.
use Prim.Native.Nat.{ℕ, ◌+◌, ◌≤◌, ◌<◌}
use mathlib.Core.Path.{◌≡◌, refl, sym, ap, ◌∙◌}
use mathlib.Core.List.{List, [], ◌∷◌, ◌++◌, append_assoc, append-nil}
use native.Mathlib.Omega.{arith}
use native.Mathlib.Nat.{add-zero}
use native.Mathlib.Numerals.{add-one}
use lib.ListN.{length, get_or, drop, length-append, length-drop}
use lib.Seq.{drop-cons, drop-drop, drop-append_seam, get_or-drop, drop-length}
use Rattle.language.specs.Places.{Held}

pub no_words : (s : List ℕ) (at : ℕ) → Held s [] at at
no_words s at = record { words = refl; past = sym (add-zero at) }

pub one_word : (s : List ℕ) (at : ℕ) → at < length s → Held s (get_or s at 0 ∷ []) at (at + 1)
one_word s at h = record { words = rw (add-one, drop-cons s at 0); past = refl }

pub join : {s xs ys : List ℕ} {at i to : ℕ} → Held s xs at i → Held s ys i to → Held s (xs ++ ys) at to
join {s} {xs} {ys} {at} {i} {to} h k = record {
  words = h.words ∙ ap (λ (l : List ℕ). xs ++ l) k.words ∙ sym (append_assoc xs ys (drop to s));
  past = omega (arith, h.past, k.past, length-append xs ys);
}

-- a whole table stands in itself
pub whole : (s : List ℕ) → Held s s 0 (length s)
whole s = record { words = sym (ap (λ (l : List ℕ). s ++ l) (drop-length s) ∙ append-nil s); past = omega arith }

-- words that stand somewhere do not reach past the end
pub ends : {s ws : List ℕ} {at to : ℕ} → 0 < length ws → Held s ws at to → to ≤ length s
ends {s} {ws} {at} {to} h k = omega (arith, k.past, ap length k.words, length-append ws (drop to s), length-drop at s, length-drop to s)

-- of two runs, what follows the first, and each of them
module _ (xs ys : List ℕ) {s : List ℕ} {at to : ℕ} (h : Held s (xs ++ ys) at to) where
  after_first : drop (at + length xs) s ≡ ys ++ drop to s
  after_first =
      sym (drop-drop (length xs) at s) ∙ ap (drop (length xs)) (h.words ∙ append_assoc xs ys (drop to s)) ∙ drop-append_seam xs (ys ++ drop to s)

  pub first_run : Held s xs at (at + length xs)
  first_run = record {
    words = h.words ∙ append_assoc xs ys (drop to s) ∙ ap (λ (l : List ℕ). xs ++ l) (sym after_first);
    past = refl;
  }

  pub second_run : Held s ys (at + length xs) to
  second_run = record { words = after_first; past = omega (arith, h.past, length-append xs ys) }

-- the first of some words: it is there, and the others follow
pub there : {s ws : List ℕ} {w at to : ℕ} → Held s (w ∷ ws) at to → at < length s
there {s} {ws} {w} {at} {to} h = omega (arith, ap length h.words, length-append ws (drop to s), length-drop at s)

pub first_word : {s ws : List ℕ} {w at to : ℕ} → Held s (w ∷ ws) at to → get_or s at 0 ≡ w
first_word {s} {ws} {w} {at} {to} h =
    ap (λ (i : ℕ). get_or s i 0) (sym (add-zero at)) ∙ sym (get_or-drop at s 0 0) ∙ ap (λ (l : List ℕ). get_or l 0 0) h.words

pub next_words : {s ws : List ℕ} {w at to : ℕ} → Held s (w ∷ ws) at to → Held s ws (at + 1) to
next_words {ws} {w} h = second_run (w ∷ []) ws h
