-- What the words of an image and the words of records stand for: the terms of the image, and the values and bindings of a run.
use Rattle.std.specs.Prelude.{ℕ, ◌≤◌, ◌≡◌, List, [], ◌∷◌}
use Rattle.language.specs.Term.{images, Term, Terms, Arms, fun}
use Rattle.language.specs.Words.{words, wordsᵗ, wordsᵃ}
use Rattle.language.specs.Scope.{Scoped, Scopedᵗ, Scopedᵃ}
use Rattle.language.specs.Limits.{Ranged, Rangedᵗ, Rangedᵃ}
use Rattle.language.specs.Kinds.{most_arguments, most_byte}
use Rattle.language.specs.Places.{Held}
use Rattle.ticks.specs.Flat.{FlatAtom, FlatAtoms, Flatᵃ}
use Rattle.ticks.specs.Tick.{Closure, Closures, c_fun, c_con, c_num, c_nil, c_cons, sizeᶜ}
use Rattle.records.specs.Links.{low, high, links, Words, Within}
use Rattle.records.specs.Grades.{grade, last}

-- the term t of an image, of the shape F, stands in s from `at` up to `to`; c continuation variables and d source variables are bound there
pub record Laid (F : Term → Type 0) (s : List ℕ) (at to c d : ℕ) (t : Term) : Type 0 where
  pub held : Held s (words images t) at to
  pub ranged : Ranged images t
  pub flat : F t
  pub scoped : Scoped images c d t

-- the same of atoms, one after the other, and of arms
pub record Laidᵗ (s : List ℕ) (at to c d : ℕ) (ts : Terms) : Type 0 where
  pub held : Held s (wordsᵗ images ts) at to
  pub ranged : Rangedᵗ images ts
  pub flat : FlatAtoms ts
  pub scoped : Scopedᵗ images c d ts

pub record Laidᵃ (s : List ℕ) (at to c d : ℕ) (ps : Arms) : Type 0 where
  pub held : Held s (wordsᵃ images ps) at to
  pub ranged : Rangedᵃ images ps
  pub flat : Flatᵃ ps
  pub scoped : Scopedᵃ images c d ps

-- The first word of a value's record says what it is
abbrev pub a_function : ℕ
a_function = 1

abbrev pub a_constructor : ℕ
a_constructor = 2

abbrev pub a_number : ℕ
a_number = 3

-- `Val s m n r c`: of the records m, of which the words up to n are in use, the one at r holds the value c: a function its place in the image s and
-- what was bound there; a constructor its tag, its count, its grade, the place of its last word, and its arguments; a number the number.
-- `Env s m n h cs`: from the binding at h on, cs are bound.
mutual
  pub data Val (s m : List ℕ) (n : ℕ) : ℕ → Closure → Type 0 where
    v_fun : {r p to kh xh o a : ℕ} {b : Term} {ks xs : Closures} → Within r n
        → Words m r (a_function ∷ p ∷ low kh ∷ high kh ∷ low xh ∷ high xh ∷ []) → Laid FlatAtom s p to (sizeᶜ ks) (sizeᶜ xs) (fun o a b)
        → Env s m n kh ks → Env s m n xh xs → Val s m n r (c_fun o a b ks xs)
    v_con : {r t k : ℕ} {rs : List ℕ} {cs : Closures} → Within r n → t ≤ most_byte → sizeᶜ cs ≡ k → k ≤ most_arguments
        → Words m r (a_constructor ∷ t ∷ k ∷ grade (c_con t cs) ∷ low (last (c_con t cs)) ∷ high (last (c_con t cs)) ∷ links rs)
        → Vals s m n rs cs → Val s m n r (c_con t cs)
    v_num : {r i : ℕ} → Within r n → Words m r (a_number ∷ i ∷ []) → Val s m n r (c_num i)

  -- the records at rs hold the values cs, each its own
  pub data Vals (s m : List ℕ) (n : ℕ) : List ℕ → Closures → Type 0 where
    v_nil : Vals s m n [] c_nil
    v_cons : {r : ℕ} {rs : List ℕ} {c : Closure} {cs : Closures} → Val s m n r c → Vals s m n rs cs → Vals s m n (r ∷ rs) (c_cons c cs)

  pub data Env (s m : List ℕ) (n : ℕ) : ℕ → Closures → Type 0 where
    e_nil : {h : ℕ} → Env s m n h c_nil
    e_cons : {h v k : ℕ} {c : Closure} {cs : Closures} → Within h n → Words m h (low v ∷ high v ∷ low k ∷ high k ∷ [])
        → Val s m n v c → Env s m n k cs → Env s m n h (c_cons c cs)
