-- What every call with an output does to it: it refuses and leaves the output as it was, or it fills the output's front. Laws about all outcomes follow
-- from these two shapes, and need not look at the tests.
-- Assumes nothing.
use Prim.Native.Nat.{ℕ, ◌+◌, ◌*◌, ◌≤◌}
use mathlib.Core.Path.{◌≡◌, refl}
use mathlib.Core.Bool.{Bool, true, false, cond}
use mathlib.Core.List.{List, ◌++◌}
use lib.Dec.{ltb, eqb}
use lib.ListN.{length, drop}
use borrow.Author.Tests.{ltb-false}
use Rattle.language.specs.Kinds.{known}
use Rattle.language.specs.Read.{no_place, Reading, accepted, refused}
use Rattle.language.specs.Calls.{Outcome, success, refuses, filled, written}
use Rattle.files.specs.Files.{most, header_bytes, version_in, count_in, marked, packing, taking}
use Rattle.files.specs.declared.Form.{Form}

pub data Shaped (out : List ℕ) : Outcome ℕ → Type 0 where
  stays : (e p : ℕ) → Shaped out (refuses e p out)
  fills : (ws : List ℕ) → length ws ≤ length out → Shaped out (record { reply = success (length ws); output = ws ++ drop (length ws) out })

tested : {out : List ℕ} (b : Bool) {x y : Outcome ℕ} → Shaped out x → Shaped out y → Shaped out (cond b x y)
tested true h k = h
tested false h k = k

pub filled_shaped : (ws out : List ℕ) → Shaped out (filled ws out)
unfolding filled
filled_shaped ws out = go (ltb (length out) (length ws)) (ltb-false (length out) (length ws))
  where
    go : (b : Bool) → (b ≡ false → length ws ≤ length out)
        → Shaped out (cond b (refuses 9 no_place out) (record { reply = success (length ws); output = ws ++ drop (length ws) out }))
    go true h = stays 9 no_place
    go false h = fills ws (h refl)

pub written_shaped : (g : Reading) (out : List ℕ) → Shaped out (written g out)
unfolding written
written_shaped (accepted t) out = filled_shaped _ out
written_shaped (refused e p) out = stays e p

pub packing_shaped : (f : Form) (v : ℕ) (ws out : List ℕ) → Shaped out (packing f v ws out)
unfolding packing
packing_shaped f v ws out =
    tested (known v)
    (tested (eqb (length ws) 0) (stays 1 no_place) (tested (ltb (most f) (length ws)) (stays 2 no_place) (filled_shaped _ out)))
    (stays 11 no_place)

pub taking_shaped : (f : Form) (bs out : List ℕ) → Shaped out (taking f bs out)
unfolding taking
taking_shaped f bs out =
    tested (marked f bs)
    (tested (known (version_in bs))
    (tested (eqb (length bs) (header_bytes + 2 * count_in bs))
    (tested (eqb (count_in bs) 0) (stays 1 no_place) (tested (ltb (most f) (count_in bs)) (stays 2 no_place) (filled_shaped _ out)))
    (stays 12 no_place))
    (stays 11 no_place))
    (stays 10 no_place)
