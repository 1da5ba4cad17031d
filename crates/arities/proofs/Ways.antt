-- The ways out of the readers of second words, of an arm's behind the look among the earlier marks; and what an arm's two words tell a caller where
-- they are read. A law's first letter says of which function: c second_at, u unlike_at.
-- Assumes nothing.
use Prim.Native.Nat.{ℕ, ◌+◌, ◌/◌, ◌%◌, ◌<◌, ◌≤◌}
use mathlib.Core.Path.{◌≡◌, refl, sym, ap, ◌∙◌}
use mathlib.Core.Bool.{Bool, true, false, cond}
use mathlib.Core.List.{List}
use native.Mathlib.Omega.{arith}
use lib.Dec.{ltb}
use lib.ListN.{length, get_or}
use borrow.Author.Tests.{ltb-true, lt-ltb, le-ltb, lt-leb, le-leb}
use Rattle.std.specs.Prelude.{Result, Ok, Err}
use Rattle.language.specs.Setting.{Setting}
use Rattle.language.specs.Kinds.{most_arguments, at_arm, Head, Refused, Opens, head_of}
use Rattle.language.specs.Dead.{dead}
use Rattle.language.specs.Read.{Got, found, fault, then, word, headed, second, unlike}
use Rattle.language.specs.declared.Fault.TheVariants.{NoneLeft, OutOfRange, DeadArm}
use Rattle.language.specs.declared.Refusal.{Refusal}
use Rattle.language.proofs.Clash.{never}
use Rattle.trust.proofs.Good.{holds_found, second_good, unlike_good}
use Rattle.arities.specs.Marks.{mark_of, arity, counted}
use Rattle.arities.specs.declared.Counted.{Counted}

-- what a count says of the reading that it answers for
pub is_found : (g : Got ℕ) {y : Result Counted Refusal} {c : Counted} → counted y ≡ g → y ≡ Ok c → g ≡ found c.count c.to
is_found g h k = sym h ∙ ap counted k

-- a second word
module _ (s : List ℕ) (at : ℕ) where
  pub c_none : length s ≤ at → counted (Err (record { fault = NoneLeft; place = length s })) ≡ second s at
  unfolding second
  c_none h = simp (le-ltb _ _ h)

  pub c_high : at < length s → most_arguments < get_or s at 0 → counted (Err (record { fault = OutOfRange; place = at })) ≡ second s at
  unfolding second
  c_high h k = simp (lt-ltb _ _ h, lt-leb _ _ k)

  pub c_is : at < length s → get_or s at 0 ≤ most_arguments → counted (Ok (record { count = get_or s at 0; to = at + 1 })) ≡ second s at
  unfolding second
  c_is h k = simp (lt-ltb _ _ h, le-leb _ _ k)

-- an arm's second word, where it is told whether the arm's mark is among the earlier ones
module _ (s : List ℕ) (at w : ℕ) (before : List (ℕ × ℕ)) {m to : ℕ} (e : found m to ≡ second s at) {x : ℕ} (q : x ≡ mark_of w m) {b : Bool}
    (d : b ≡ dead (x / 256) (x % 256) before) where
  tested : b ≡ dead (w % 256) m before
  tested =
      let l = (holds_found (second_good s at) (sym e)).most in
      let t : x / 256 ≡ w % 256 = omega arith in
      let n : x % 256 ≡ m = omega arith in
      rw (← t, ← n) d

  pub dead_there : b ≡ true → fault 18 at ≡ unlike s before (w % 256) at
  unfolding unlike then
  dead_there h = rw (← e, ← tested, h)

  pub alive_there : b ≡ false → found m to ≡ unlike s before (w % 256) at
  unfolding unlike then
  alive_there h = rw (← e, ← tested, h)

-- the same ways out by the count that the second word gives
module _ (s : List ℕ) (at w : ℕ) (before : List (ℕ × ℕ)) {y : Result Counted Refusal} (e : counted y ≡ second s at) where
  pub u_not : {r : Refusal} → y ≡ Err r → counted (Err r) ≡ unlike s before (w % 256) at
  unfolding unlike then
  u_not i = rw (← e, i) refl

  pub u_dead : {c : Counted} → y ≡ Ok c → {x : ℕ} → x ≡ mark_of w c.count → {b : Bool} → b ≡ dead (x / 256) (x % 256) before → b ≡ true
      → counted (Err (record { fault = DeadArm; place = at })) ≡ unlike s before (w % 256) at
  u_dead i q d h = dead_there s at w before (sym (is_found (second s at) e i)) q d h

-- what an arm's two words tell where they are read
pub arity_known : (S : Setting) (s : List ℕ) (before : List (ℕ × ℕ)) (at : ℕ) {m to : ℕ} → found m to ≡ arity S s before at → (at < length s) × (m ≤ most_arguments)
unfolding arity
arity_known S s before at {m} {to} e = go (ltb at (length s)) (ltb-true at (length s)) (head_of S.version at_arm (get_or s at 0)) (sym e)
  where
    go : (b : Bool) → (b ≡ true → at < length s) → (h : Head)
        → cond b (headed h at (λ r. unlike s before (get_or s at 0 % 256) (at + 1))) (fault 3 (length s)) ≡ found m to → (at < length s) × (m ≤ most_arguments)
    go true l (Refused b) e = never cc
    go true l (Opens r) e = (l refl, (holds_found (unlike_good s before (get_or s at 0 % 256) (at + 1)) e).second.most)
    go false l h e = never cc

pub a_there : (S : Setting) (s : List ℕ) (before : List (ℕ × ℕ)) (at : ℕ) {m to : ℕ} → found m to ≡ arity S s before at → at < length s
a_there S s before at e = (arity_known S s before at e).0

module _ (S : Setting) (s : List ℕ) (before : List (ℕ × ℕ)) (at : ℕ) {A : Type 0} (f : ℕ → ℕ → Got A) where
  pub arity_then : word s at (λ w. headed (head_of S.version at_arm w) at (λ r. then (unlike s before (w % 256) (at + 1)) f)) ≡ then (arity S s before at) f
  unfolding arity then
  arity_then = go (ltb at (length s)) (head_of S.version at_arm (get_or s at 0))
    where
      second_word : Got ℕ
      second_word = unlike s before (get_or s at 0 % 256) (at + 1)

      go : (b : Bool) (h : Head) → cond b (headed h at (λ r. then second_word f)) (fault 3 (length s))
          ≡ then (cond b (headed h at (λ r. second_word)) (fault 3 (length s))) f
      go true (Refused e) = refl
      go true (Opens r) = refl
      go false h = refl
