-- What the head word of an image's term tells: its kind and its low byte.
-- Assumes nothing.
use Prim.Native.Nat.{ℕ, ◌+◌, ◌/◌, ◌%◌, ◌≤◌}
use mathlib.Core.Path.{◌≡◌, refl, sym, subst, ◌∙◌}
use mathlib.Core.List.{List, ◌∷◌}
use native.Mathlib.Omega.{arith}
use lib.ListN.{get_or}
use Rattle.language.specs.Term.{images, Term, Terms, var, kvar, fun, call, bind, con, cases, num, op, size, sizeᵃ}
use Rattle.language.specs.Words.{head, words}
use Rattle.language.specs.Limits.{Ranged, r_var, r_kvar, r_fun, r_call, r_bind, r_con, r_cases, r_num, r_op}
use Rattle.language.specs.Places.{Held}
use Rattle.language.proofs.Places.{first_word}
use Rattle.ticks.specs.Flat.{FlatAtom, FlatAtoms, f_var, f_kvar, f_fun, f_con, f_num}
use Rattle.records.specs.Memory.{Laid}

unfoldable pub kind_of : Term → ℕ
kind_of (var i) = 1
kind_of (kvar i) = 9
kind_of (fun o a b) = 2 + o
kind_of (call f ps) = 4
kind_of (bind m b) = 5
kind_of (con t ps) = 6
kind_of (cases m ps) = 7
kind_of (num n) = 10
kind_of (op o ps) = 11

unfoldable pub low_of : Term → ℕ
low_of (var i) = i
low_of (kvar i) = i
low_of (fun o a b) = a + 1
low_of (call f ps) = size ps
low_of (bind m b) = 0
low_of (con t ps) = t
low_of (cases m ps) = sizeᵃ ps
low_of (num n) = 0
low_of (op o ps) = o

-- a head of the kind k with the low byte n, where it stands
split : {s ws : List ℕ} {at to : ℕ} (k n : ℕ) → n ≤ 255 → Held s (head k n ∷ ws) at to → (get_or s at 0 / 256 ≡ k) × (get_or s at 0 % 256 ≡ n)
split k n h e = (omega (arith, first_word e), omega (arith, first_word e))

pub told : {s : List ℕ} {t : Term} {at to : ℕ} → Ranged images t → Held s (words images t) at to → (get_or s at 0 / 256 ≡ kind_of t) × (get_or s at 0 % 256 ≡ low_of t)
unfolding words kind_of low_of
told (r_var {i} h) e = split 1 i (omega arith) e
told (r_kvar {i} a h) e = split 9 i (omega arith) e
told (r_fun {o} {a} l h k r) e = split (2 + o) (a + 1) (omega arith) e
told (r_call {ps = ps} l h r rs) e = split 4 (size ps) (omega arith) e
told (r_bind r r') e = split 5 0 (omega arith) e
told (r_con {t} {ps} h l rs) e = split 6 t (omega arith) e
told (r_cases {ps = ps} l h r rs) e = split 7 (sizeᵃ ps) (omega arith) e
told (r_num h) e = split 10 0 (omega arith) e
told (r_op {o} h l rs) e = split 11 o (omega arith) e

-- an atom, by its kind
pub data Atom : ℕ → Term → Type 0 where
  is_var : {i : ℕ} → Atom 1 (var i)
  is_kvar : {i : ℕ} → Atom 9 (kvar i)
  is_con : {t : ℕ} {ps : Terms} → FlatAtoms ps → Atom 6 (con t ps)
  is_num : {n : ℕ} → Atom 10 (num n)
  is_fun : {k o a : ℕ} {b : Term} → k ≡ 2 + o → o ≤ 1 → Atom k (fun o a b)

atom : {t : Term} → FlatAtom t → Ranged images t → Atom (kind_of t) t
unfolding kind_of
atom f_var r = is_var
atom f_kvar r = is_kvar
atom (f_fun f) (r_fun l h k r) = is_fun refl l
atom (f_con f) r = is_con f
atom f_num r = is_num

-- the atom whose head stands there
pub known : {s : List ℕ} {t : Term} {at to c d k : ℕ} → Laid FlatAtom s at to c d t → get_or s at 0 / 256 ≡ k → Atom k t
known {t = t} l q = subst (λ (i : ℕ). Atom i t) (sym (told l.ranged l.held).0 ∙ q) (atom l.flat l.ranged)
