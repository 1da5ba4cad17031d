-- Words stored in a run: one run after another is one run, a run from the first place on stands at the front, and so the ways out of a call that
-- fills the front of its output.
-- Assumes nothing.
use Prim.Native.Nat.{ℕ, suc, ◌+◌, ◌<◌, ◌≤◌}
use mathlib.Core.Path.{◌≡◌, refl, ap, ◌∙◌}
use mathlib.Core.List.{List, [], ◌∷◌, ◌++◌}
use native.Mathlib.Omega.{arith}
use lib.ListN.{length, drop, set}
use lib.Seq.{sets, sets-eq}
use borrow.Author.Tests.{lt-ltb, le-ltb}
use Rattle.language.specs.Read.{no_place}
use Rattle.language.specs.Calls.{reply_of, told, filled}
use Rattle.language.specs.declared.Fault.TheVariants.{NoRoom}
use Rattle.std.specs.Prelude.{Ok, Err}

sets_append : {A : Type 0} (l : List A) (i : ℕ) (xs ys : List A) → sets l i (xs ++ ys) ≡ sets (sets l i xs) (i + length xs) ys
sets_append l i [] ys = let e : i ≡ i + 0 = omega arith in ap (λ (n : ℕ). sets l n ys) e
sets_append l i (x ∷ xs) ys =
    let e : suc i + length xs ≡ i + suc (length xs) = omega arith in
    sets_append (set l i x) (suc i) xs ys ∙ ap (λ (n : ℕ). sets (sets (set l i x) (suc i) xs) n ys) e

-- a run behind a run, and one word more
pub store_more : {A : Type 0} (l : List A) (at : ℕ) (xs ys : List A) {o o' : List A} {i : ℕ} → o ≡ sets l at xs → i ≡ at + length xs → o' ≡ sets o i ys
    → o' ≡ sets l at (xs ++ ys)
store_more l at xs ys e k f = rw (f, e, k, sets_append l at xs ys)

pub store_last : {A : Type 0} (l : List A) (at : ℕ) (xs : List A) (v : A) {o : List A} {i : ℕ} → o ≡ sets l at xs → i ≡ at + length xs
    → set o i v ≡ sets l at (xs ++ (v ∷ []))
store_last l at xs v e k = store_more l at xs (v ∷ []) e k refl

-- a loop that stores one run after another: what is still to be stored, stored from where the loop is, gives the whole
pub store_rest : {A : Type 0} (o goal : List A) (i : ℕ) (zs xs ys : List A) {o' : List A} {j : ℕ} → o' ≡ sets o i xs → sets o i zs ≡ goal → zs ≡ xs ++ ys
    → j ≡ i + length xs → sets o' j ys ≡ goal
store_rest o goal i zs xs ys e g q k = rw (e, k, ← sets_append o i xs ys, ← q) g

pub at_front : {A : Type 0} (l ws : List A) → length ws ≤ length l → sets l 0 ws ≡ ws ++ drop (length ws) l
at_front l ws h = let e : 0 + length ws ≡ length ws = omega arith in sets-eq ws l 0 (omega arith) ∙ ap (λ (n : ℕ). ws ++ drop n l) e

pub filled_short : (ws out : List ℕ) → length out < length ws → told {A = ℕ} (Err (record { fault = NoRoom; place = no_place })) out ≡ filled ws out
unfolding filled reply_of
filled_short ws out h = simp (lt-ltb _ _ h)

pub filled_whole : (ws out : List ℕ) {o : List ℕ} {n : ℕ} → length ws ≤ length out → n ≡ length ws → o ≡ sets out 0 ws → told (Ok n) o ≡ filled ws out
unfolding filled reply_of
filled_whole ws out h e k = simp (le-ltb _ _ h, e, k, at_front out ws h)
