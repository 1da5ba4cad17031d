-- What stands in the words of a rule from a place on, where it ends, and whether it is all atoms: what the contracts of those who read the
-- words of a checked rule are made of.
use Rattle.std.specs.Prelude.{ℕ, ◌+◌, ◌≤◌, ◌<◌, ◌≡◌, Bool, true, List, ◌++◌, length, get_or}
use Rattle.language.specs.Term.{rules, Term, Terms, Arms, size, sizeᵃ}
use Rattle.language.specs.Words.{words, wordsᵗ, wordsᵃ}
use Rattle.language.specs.Limits.{Ranged, Rangedᵗ, Rangedᵃ, depth, depthᵗ, depthᵃ}
use Rattle.language.specs.Run.{atom, atoms}
use Rattle.language.specs.Places.{Held}
use Rattle.language.specs.Kinds.{most_byte, row_of}
use Rattle.language.specs.declared.Parts.{Parts}

-- A part of a rule: a term of at most d levels; n terms, or n arms, each of at most d levels; an atom, or n atoms, of at most d levels;
-- n words, whatever they are; one part and then another.
infixr 20 ◌then◌
pub data Part : Type 0 where
  term : ℕ → Part
  terms : ℕ → ℕ → Part
  arms : ℕ → ℕ → Part
  atomic : ℕ → Part
  atomics : ℕ → ℕ → Part
  over : ℕ → Part
  ◌then◌ : Part → Part → Part

-- what such a part is, what is asked of it, and its words
abbrev pub Thing : Part → Type 0
Thing (term d) = Term
Thing (terms d n) = Terms
Thing (arms d n) = Arms
Thing (atomic d) = Term
Thing (atomics d n) = Terms
Thing (over n) = List ℕ
Thing (P then Q) = Thing P × Thing Q

abbrev pub Good : (P : Part) → Thing P → Type 0
Good (term d) t = Ranged rules t × (depth t ≤ d)
Good (terms d n) ts = Rangedᵗ rules ts × (depthᵗ ts ≤ d) × (size ts ≡ n)
Good (arms d n) ps = Rangedᵃ rules ps × (depthᵃ ps ≤ d) × (sizeᵃ ps ≡ n)
Good (atomic d) t = Ranged rules t × (depth t ≤ d) × (atom t ≡ true)
Good (atomics d n) ts = Rangedᵗ rules ts × (depthᵗ ts ≤ d) × (size ts ≡ n) × (atoms ts ≡ true)
Good (over n) ws = length ws ≡ n
Good (P then Q) x = Good P x.0 × Good Q x.1

abbrev pub source : (P : Part) → Thing P → List ℕ
source (term d) t = words rules t
source (terms d n) ts = wordsᵗ rules ts
source (arms d n) ps = wordsᵃ rules ps
source (atomic d) t = words rules t
source (atomics d n) ts = wordsᵗ rules ts
source (over n) ws = ws
source (P then Q) x = source P x.0 ++ source Q x.1

-- the words of x, a good part P, stand in s from `at` up to `to`
pub record Seen (P : Part) (s : List ℕ) (at to : ℕ) (x : Thing P) : Type 0 where
  pub good : Good P x
  pub held : Held s (source P x) at to

-- a good part P stands in s at `at`
pub record Stands (P : Part) (s : List ℕ) (at : ℕ) : Type 0 where
  pub thing : Thing P
  pub to : ℕ
  pub seen : Seen P s at to thing

-- a term of however many levels stands in s at `at`
pub record TermAt (s : List ℕ) (at : ℕ) : Type 0 where
  pub levels : ℕ
  pub stands : Stands (term levels) s at

-- each good part P that stands in s at `at` ends at `to`
pub record Ends (P : Part) (s : List ℕ) (at to : ℕ) : Type 0 where
  pub end : (x : Thing P) (e : ℕ) → Seen P s at e x → to ≡ e

-- b tells whether a term of at most d levels that stands in s at `at` is an atom
pub record AtomAt (d : ℕ) (s : List ℕ) (at : ℕ) (b : Bool) : Type 0 where
  pub is : (t : Term) (to : ℕ) → Seen (term d) s at to t → b ≡ atom t

-- the same of the term that stands there, of however many levels it is
pub record IsAtom (b : Bool) (s : List ℕ) (at : ℕ) : Type 0 where
  pub each : (d : ℕ) → AtomAt d s at b

-- what follows the head at `at`, by the row of its kind: one table serves every version, and a rule that was accepted has heads of its version alone
unfoldable pub form_at : List ℕ → ℕ → Parts
unfolding row_of
form_at s at = (row_of (get_or s at 0)).parts

-- P is what follows the head of a term of at most d levels that stands in s at `at`
pub record Parted (P : Parts) (d : ℕ) (s : List ℕ) (at : ℕ) : Type 0 where
  pub is : form_at s at ≡ P
  pub inside : at < length s
  pub deep : 1 ≤ d

-- P is what follows the head of the term that stands in s at `at`, of however many levels it is
pub record FormAt (P : Parts) (s : List ℕ) (at : ℕ) : Type 0 where
  pub each : (d : ℕ) → Stands (term d) s at → Parted P d s at

-- n is the second word of what stands in s at `at`
pub record Counted (n : ℕ) (s : List ℕ) (at : ℕ) : Type 0 where
  pub is : n ≡ get_or s (at + 1) 0
  pub inside : at + 1 < length s
  pub few : n ≤ most_byte
