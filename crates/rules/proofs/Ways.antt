-- The ways out of the writing call, in the words of the code: one law for each.
-- Assumes nothing.
use Prim.Native.Nat.{ℕ, ◌<◌, ◌≤◌}
use mathlib.Core.Path.{◌≡◌, refl, sym, ap, ◌∙◌}
use mathlib.Core.List.{List}
use native.Mathlib.Omega.{arith}
use lib.ListN.{length}
use borrow.Author.Tests.{le-ltb}
use Rattle.std.specs.Prelude.{Result, Ok, Err}
use Rattle.language.specs.Faults.{number_of}
use Rattle.language.specs.Term.{images, Term}
use Rattle.language.specs.Setting.{Setting}
use Rattle.language.specs.Words.{words}
use Rattle.language.specs.Image.{image}
use Rattle.language.specs.Read.{no_place, Reading, accepted, refused, read}
use Rattle.language.specs.Calls.{reply_of, told, measured, filled, written}
use Rattle.language.specs.declared.Fault.TheVariants.{NoRoom}
use Rattle.language.specs.declared.Refusal.{Refusal}
use Rattle.language.proofs.Clash.{never}
use Rattle.language.proofs.Stores.{filled_short}
use Rattle.writing.specs.Written.{Writable, SomeWritable, ImageWritten}
use Rattle.trust.specs.Promises.{Fit}
use Rattle.trust.proofs.Accepted.{accepted_are_rules}

-- what the measuring call's answer says of the reading
measured_refusal : (g : Reading) {a : Result ℕ Refusal} {q : Refusal} → reply_of a ≡ measured g → a ≡ Err q → g ≡ refused (number_of q.fault) q.place
unfolding measured reply_of
measured_refusal (accepted t) h k = never cc
measured_refusal (refused n i) h k = let e = sym h ∙ ap reply_of k in cc

measured_count : (g : Reading) (n : ℕ) → reply_of (Ok n) ≡ measured g → (t : Term) × (g ≡ accepted t) × (n ≡ length (words images (image t)))
unfolding measured reply_of
measured_count (accepted t) n h = (t, refl, cc)
measured_count (refused e p) n h = never cc

-- the words are a rule's, and there is room for its image
module _ (S : Setting) (ws out : List ℕ) (fit : Fit ws) (n : ℕ) (h : reply_of (Ok n) ≡ measured (read S ws)) where
  writable : n ≤ length out → (t : Term) × Writable t out ws × (read S ws ≡ accepted t) × (n ≡ length (words images (image t)))
  writable l =
      let m = measured_count (read S ws) n h in
      let r = accepted_are_rules S ws m.0 fit m.1 in
      (m.0, record { ranged = r.1.ranged; shallow = r.1.shallow; is = r.0; room = omega (arith, m.2) }, m.1, m.2)

  pub w_room : n ≤ length out → SomeWritable out ws
  w_room l = let w = writable l in record { term = w.0; writable = w.1 }

  pub w_short : {q : Refusal} → length out < n → q ≡ record { fault = NoRoom; place = no_place } → told {A = ℕ} (Err q) out ≡ written (read S ws) out
  unfolding written
  w_short l i =
      let m = measured_count (read S ws) n h in rw (i, m.1) (filled_short (words images (image m.0)) out (omega (arith, m.2)))

  pub w_whole : {r : ℕ} {o : List ℕ} → n ≤ length out → ImageWritten out ws o r → told (Ok r) o ≡ written (read S ws) out
  unfolding written filled reply_of
  w_whole l i =
      let w = writable l in
      rw w.2 (simp (le-ltb (length out) (length (words images (image w.0))) (omega (arith, w.3)), i.count w.0 w.1, i.output w.0 w.1))

pub w_refused : (S : Setting) (ws out : List ℕ) {a : Result ℕ Refusal} {q : Refusal} → reply_of a ≡ measured (read S ws) → a ≡ Err q
    → told {A = ℕ} (Err q) out ≡ written (read S ws) out
unfolding written reply_of
w_refused S ws out h k = rw (measured_refusal (read S ws) h k)
