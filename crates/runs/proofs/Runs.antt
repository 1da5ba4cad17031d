-- The variables that end a chain, written one by one; and the ends of chains, in the runs in which they are written.
-- Assumes nothing.
use Prim.Native.Nat.{ℕ, zero, suc, ◌+◌, ◌-◌, ◌<◌}
use mathlib.Core.Path.{◌≡◌, refl, ap, ◌∙◌}
use mathlib.Core.List.{List, [], ◌∷◌, ◌++◌, append-nil}
use native.Mathlib.Omega.{arith}
use native.Mathlib.Numerals.{sub-one}
use borrow.Author.Rules.{rules}
use Rattle.language.specs.Term.{images, Term, kvar, con, op, size}
use Rattle.language.specs.Words.{head, words, wordsᵗ}
use Rattle.language.specs.Image.{to, downto, calling, making, working}
use Rattle.language.proofs.Forms.{size_downto}
use Rattle.output.specs.Stored.{Put, HasRoom, Writes}
use Rattle.output.specs.declared.Output.{Output}
use Rattle.output.proofs.Stored.{put_none, put_then, room_left, put_as}

-- "k_(n-1) down to k_0", and the ends of chains
downs_none : (n : ℕ) → n ≡ 0 → wordsᵗ images (downto n) ≡ []
unfolding words downto
downs_none zero z = refl
downs_none (suc n) z = absurd (omega arith)

downs_more : (n : ℕ) → (n ≡ 0 → ⊥) → wordsᵗ images (downto n) ≡ (head 9 (n - 1) ∷ []) ++ wordsᵗ images (downto (n - 1))
unfolding words downto
downs_more zero z = absurd (z refl)
downs_more (suc n) z = rw sub-one

-- in the loop that writes them: the variables from k_(i-1) down are left, and whoever writes them has written all
pub record Downward (n i : ℕ) (o o' : Output ℕ) : Type 0 where
  pub same : o'.words.ghost_name ≡ o.words.ghost_name
  pub room : HasRoom o' i
  pub rest : (w : List ℕ) (e : ℕ) → Put (wordsᵗ images (downto i)) o'.words.now o'.pos w e → Put (wordsᵗ images (downto n)) o.words.now o.pos w e

module _ {n i : ℕ} {o o' : Output ℕ} (d : Downward n i o o') where
  pub down_next : {o'' : Output ℕ} → 0 < i → Writes (head 9 (i - 1) ∷ []) o' o'' → Downward n (i - 1) o o''
  down_next l f = record {
    same = f.same ∙ d.same;
    room = room_left (i - 1) f.put (omega (arith, l, d.room.fits));
    rest = λ v k h. d.rest v k (put_as (downs_more i (omega arith)) (put_then f.put h));
  }

  pub down_end : i ≡ 0 → Writes (wordsᵗ images (downto n)) o o'
  down_end z = record { same = d.same; put = d.rest _ _ (put_as (downs_none i z) (put_none _ _)) }

calling_words : (n : ℕ) → 0x0201 ∷ words images (calling n)
    ≡ (0x0201 ∷ (0x0400 + n + 1) ∷ head 9 n ∷ head 9 (n + 1) ∷ []) ++ wordsᵗ images (downto n)
unfolding words
calling_words n =
    let e : suc n ≡ n + 1 = omega arith in
    let k : head 4 (suc (size (downto n))) ≡ 0x0400 + n + 1 = omega (arith, size_downto n) in
    cc

handing_words : (n : ℕ) (t : Term) (ws : List ℕ) → words images t ≡ ws ++ wordsᵗ images (downto n)
    → 0x0201 ∷ words images (to (kvar n) t) ≡ (0x0201 ∷ 0x0401 ∷ head 9 n ∷ []) ++ (ws ++ wordsᵗ images (downto n))
unfolding words
handing_words n t ws e = ap (λ (l : List ℕ). 0x0201 ∷ 0x0401 ∷ head 9 n ∷ l) (append-nil (words images t) ∙ e)

-- One law for each way out of the writers of runs: what was written on the way, and what then was written in all.
module _ {o o' : Output ℕ} where
  pub calling_put : (n : ℕ) {f g : ℕ} {o'' : Output ℕ} → f ≡ head 9 n → g ≡ head 9 (n + 1) → Writes (0x0201 ∷ (0x0400 + n + 1) ∷ f ∷ g ∷ []) o o'
      → Writes (wordsᵗ images (downto n)) o' o'' → Writes (0x0201 ∷ words images (calling n)) o o''
  calling_put n e k h r = record {
    same = r.same ∙ h.same;
    put = put_as (calling_words n) (put_then {a = 0x0201 ∷ (0x0400 + n + 1) ∷ head 9 n ∷ head 9 (n + 1) ∷ []} (put_as (simp (e, k)) h.put) r.put);
  }

  -- the end that hands k_n a term, whose words are ws and then k_(n-1) down to k_0: a constructor's end, and an operation's
  pub making_put : (t n : ℕ) → Writes ((0x0201 ∷ 0x0401 ∷ head 9 n ∷ []) ++ ((head 6 t ∷ n ∷ []) ++ wordsᵗ images (downto n))) o o'
      → Writes (0x0201 ∷ words images (making t n)) o o'
  unfolding words
  making_put t n h = record {
    same = h.same;
    put = put_as (handing_words n (con t (downto n)) (head 6 t ∷ n ∷ []) (ap (λ (m : ℕ). head 6 t ∷ m ∷ wordsᵗ images (downto n)) (size_downto n))) h.put;
  }

  pub working_put : (w n : ℕ) → Writes ((0x0201 ∷ 0x0401 ∷ head 9 n ∷ []) ++ ((head 11 w ∷ []) ++ wordsᵗ images (downto n))) o o'
      → Writes (0x0201 ∷ words images (working w n)) o o'
  unfolding words
  working_put w n h = record { same = h.same; put = put_as (handing_words n (op w (downto n)) (head 11 w ∷ []) refl) h.put }

pub ruleset runs = (down_next, down_end, calling_put, making_put, working_put, rules)
