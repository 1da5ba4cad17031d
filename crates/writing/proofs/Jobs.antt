-- Jobs done one after another, a job that is done as another, and what a loop has left of a job: what is ready for the next step, and what was done
-- when all steps were.
-- Assumes nothing.
use Prim.Native.Nat.{ℕ, ◌+◌}
use mathlib.Core.Path.{◌≡◌, refl, sym, ap, subst}
use mathlib.Core.List.{List, ◌++◌}
use native.Mathlib.Omega.{arith}
use lib.ListN.{length, length-append}
use Rattle.atoms.specs.Standing.{over, Thing, Seen}
use Rattle.atoms.proofs.Standing.{first, second, ends_over, ends_then}
use Rattle.output.specs.Stored.{Room, Put}
use Rattle.output.proofs.Stored.{put_none, put_then, room_left, put_as}
use Rattle.writing.specs.Jobs.{Job, before, after, skipped, copied, ◌next◌, reads, target, Ready, Done, SameOutput}
use Rattle.writing.specs.declared.Translator.{Translator}

-- room for two runs of words: for the first, and behind it for the second
module _ (xs ys : List ℕ) {o : List ℕ} {p : ℕ} (r : Room o p (length (xs ++ ys))) where
  room_first : Room o p (length xs)
  room_first = record { fits = omega (arith, r.fits, length-append xs ys) }

  room_second : {v o' : List ℕ} {i : ℕ} → Put v o p o' i → length v ≡ length xs → Room o' i (length ys)
  room_second f e = room_left (length ys) f (omega (arith, r.fits, length-append xs ys))

module _ {s : List ℕ} {at : ℕ} {o : List ℕ} {p : ℕ} where
  -- words, and then a job
  module _ {ws : List ℕ} {J : Job} where
    pub before_room : Ready (before ws J) o p s at → Room o p (length ws)
    before_room r = room_first ws (target J r.thing) r.room

    pub before_ready : {v o' : List ℕ} {i : ℕ} → Ready (before ws J) o p s at → Put v o p o' i → length v ≡ length ws → Ready J o' i s at
    before_ready r f e = record { thing = r.thing; to = r.to; seen = r.seen; room = room_second ws (target J r.thing) r.room f e }

    pub before_done : {o' o'' s' : List ℕ} {i to end : ℕ} → Put ws o p o' i → Done J o' i s at o'' s' to end
        → Done (before ws J) o p s at o'' s' to end
    before_done f D = record { same = D.same; ends = D.ends; puts = λ x e k. put_then f (D.puts x e k) }

    -- a job, and then words
    pub after_ready : Ready (after J ws) o p s at → Ready J o p s at
    after_ready r = record { thing = r.thing; to = r.to; seen = r.seen; room = room_first (target J r.thing) ws r.room }

    pub after_room : {o' s' : List ℕ} {to i : ℕ} → Ready (after J ws) o p s at → Done J o p s at o' s' to i → Room o' i (length ws)
    after_room r D = room_second (target J r.thing) ws r.room (D.puts r.thing r.to r.seen) refl

    pub after_done : {o' o'' s' : List ℕ} {to i end : ℕ} → Done J o p s at o' s' to i → Put ws o' i o'' end
        → Done (after J ws) o p s at o'' s' to end
    after_done D f = record { same = D.same; ends = D.ends; puts = λ x e k. put_then (D.puts x e k) f }

  -- one job, and then another
  module _ {J K : Job} where
    pub next_first : Ready (J next K) o p s at → Ready J o p s at
    next_first r = record {
      thing = r.thing.0;
      to = _;
      seen = first r.seen;
      room = room_first (target J r.thing.0) (target K r.thing.1) r.room;
    }

    pub next_second : {o' s' : List ℕ} {i j : ℕ} → Ready (J next K) o p s at → Done J o p s at o' s' i j → Ready K o' j s' i
    next_second {o'} {i} {j} r D = subst (λ (w : List ℕ). Ready K o' j w i) (sym D.same) (record {
      thing = r.thing.1;
      to = r.to;
      seen = second r.seen D.ends;
      room = room_second (target J r.thing.0) (target K r.thing.1) r.room (D.puts r.thing.0 _ (first r.seen)) refl;
    })

    pub next_done : {o' s' o'' s'' : List ℕ} {i j to end : ℕ} → Done J o p s at o' s' i j → Done K o' j s' i o'' s'' to end
        → Done (J next K) o p s at o'' s'' to end
    next_done {o'} {o''} {s''} {i} {j} {to} {end} D E' = let E = subst (λ (w : List ℕ). Done K o' j w i o'' s'' to end) D.same E' in record {
      same = E.same;
      ends = ends_then D.ends E.ends;
      puts = λ x e k. put_then (D.puts x.0 _ (first k)) (E.puts x.1 e (second k D.ends));
    }

  -- words that are read and not written
  pub skipped_done : (n : ℕ) {to : ℕ} → to ≡ at + n → Done (skipped n) o p s at o s to p
  skipped_done n e = record { same = refl; ends = ends_over n e; puts = λ x i k. put_none o p }

  -- words that are read, where the same words are written
  pub copied_done : (n : ℕ) {to : ℕ} {o' : List ℕ} {end : ℕ} → to ≡ at + n → ((x : List ℕ) (e : ℕ) → Seen (over n) s at e x → Put x o p o' end)
      → Done (copied n) o p s at o' s to end
  copied_done n e f = record { same = refl; ends = ends_over n e; puts = f }

-- x, which J reads, as something that K reads, of which the same words are written
pub record As (J K : Job) (s : List ℕ) (at to : ℕ) (x : Thing (reads J)) : Type 0 where
  pub thing : Thing (reads K)
  pub seen : Seen (reads K) s at to thing
  pub same : target J x ≡ target K thing

-- the job J, of what stands at `at`, can be done as the job K
pub record Plan (J K : Job) (s : List ℕ) (at : ℕ) : Type 0 where
  pub plan : (x : Thing (reads J)) (to : ℕ) → Seen (reads J) s at to x → As J K s at to x

module _ {J K : Job} {s : List ℕ} {at : ℕ} (P : Plan J K s at) where
  pub ready_as : {o : List ℕ} {p : ℕ} → Ready J o p s at → Ready K o p s at
  ready_as r = let y = P.plan r.thing r.to r.seen in
      record { thing = y.thing; to = r.to; seen = y.seen; room = record { fits = omega (arith, r.room.fits, ap length y.same) } }

  pub done_as : {o o' s' : List ℕ} {p to end : ℕ} → Done K o p s at o' s' to end → Done J o p s at o' s' to end
  done_as D = record {
    same = D.same;
    ends = record { end = λ x e k. let y = P.plan x e k in D.ends.end y.thing e y.seen };
    puts = λ x e k. let y = P.plan x e k in put_as y.same (D.puts y.thing e y.seen);
  }

-- in a loop: J is all that is left of the job K, which was begun on o₀ at p₀ and on s₀ at at₀
pub record Left (K : Job) (o₀ : List ℕ) (p₀ : ℕ) (s₀ : List ℕ) (at₀ : ℕ) (J : Job) (o : List ℕ) (p : ℕ) (s : List ℕ) (at : ℕ) : Type 0 where
  pub ready : Ready J o p s at
  pub whole : {o' s' : List ℕ} {to end : ℕ} → Done J o p s at o' s' to end → Done K o₀ p₀ s₀ at₀ o' s' to end

-- the same of a translator, which began as t₀ and has the same output
pub record Going (K : Job) (t₀ : Translator) (J : Job) (t : Translator) : Type 0 where
  pub same : SameOutput t₀ t
  pub left : Left K t₀.out.now.words.now t₀.out.now.pos t₀.rule.now t₀.at J t.out.now.words.now t.out.now.pos t.rule.now t.at

module _ {K : Job} {o₀ s₀ : List ℕ} {p₀ at₀ : ℕ} {o s : List ℕ} {p at : ℕ} where
  pub left_as : {J A : Job} → Plan J A s at → Left K o₀ p₀ s₀ at₀ J o p s at → Left K o₀ p₀ s₀ at₀ A o p s at
  left_as P L = record { ready = ready_as P L.ready; whole = λ D. L.whole (done_as P D) }

  pub left_none : {J : Job} → Plan J (skipped 0) s at → Left K o₀ p₀ s₀ at₀ J o p s at → Done K o₀ p₀ s₀ at₀ o s at p
  left_none P L = L.whole (done_as P (skipped_done 0 (omega arith)))

  pub left_second : {A B : Job} {o' s' : List ℕ} {i j : ℕ} → Left K o₀ p₀ s₀ at₀ (A next B) o p s at → Done A o p s at o' s' i j
      → Left K o₀ p₀ s₀ at₀ B o' j s' i
  left_second L D = record { ready = next_second L.ready D; whole = λ E. L.whole (next_done D E) }
