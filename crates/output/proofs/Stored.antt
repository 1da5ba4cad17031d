-- Words written one run after another, and the room that is left for the next; and a run of words that is copied into lent memory is stored word by
-- word.
-- Assumes nothing.
use Prim.Native.Nat.{ℕ, suc, ◌+◌, ◌-◌, ◌<◌, ◌≤◌}
use mathlib.Core.Path.{◌≡◌, refl, sym, ap, subst}
use mathlib.Core.List.{List, [], ◌∷◌, ◌++◌, append_assoc}
use native.Mathlib.Omega.{arith}
use lib.ListN.{length, length-append, get_or, take}
use lib.Seq.{sets, sets-eq, drop-drop, length-sets, take-suc}
use borrow.Rule.Slice.PartMut.{put_mid}
use Rattle.language.proofs.Stores.{store_more}
use Rattle.output.specs.Stored.{Room, Put}

module _ {A : Type 0} (l ws : List A) (at : ℕ) where
  copied : at + length ws ≤ length l → put_mid at (length ws) l ws ≡ sets l at ws
  copied h = rw (drop-drop, sets-eq ws l at h, append_assoc)

  pub run_stored : {o : List A} → Room l at (length ws) → o ≡ ws → Put ws l at (put_mid at (at + length ws - at) l o) (at + length ws)
  run_stored h e =
      let n : at + length ws - at ≡ length ws = omega arith in
      record { next = refl; holds = rw (e, n) (copied h.fits) }

module _ {A : Type 0} where
  pub put_none : (o : List A) (p : ℕ) → Put [] o p o p
  put_none o p = record { next = omega arith; holds = refl }

  -- one run written after another
  pub put_then : {a b o o' o'' : List A} {p i end : ℕ} → Put a o p o' i → Put b o' i o'' end → Put (a ++ b) o p o'' end
  put_then {a} {b} {o} {p = p} f g = record {
    next = omega (arith, f.next, g.next, length-append a b);
    holds = store_more o p a b f.holds f.next g.holds;
  }

  -- the room that is left behind a run
  pub room_left : {a o o' : List A} {p i : ℕ} (n : ℕ) → Put a o p o' i → p + length a + n ≤ length o → Room o' i n
  room_left {a} {o} {p = p} n f h = record { fits = omega (arith, h, f.next, ap length f.holds, length-sets o p a) }

  pub put_as : {a b o o' : List A} {p end : ℕ} → a ≡ b → Put b o p o' end → Put a o p o' end
  put_as {o = o} {o'} {p} {end} e f = subst (λ (l : List A). Put l o p o' end) (sym e) f

-- in a loop over words: one word more than the first i
pub take_more : {A : Type 0} (d : A) (xs : List A) (i : ℕ) → i < length xs → take (i + 1) xs ≡ take i xs ++ (get_or xs i d ∷ [])
take_more d xs i h = let e : suc i ≡ i + 1 = omega arith in rw e at (take-suc xs i d h)
