-- What a reader of the definitions may rely on.
use Rattle.std.specs.Prelude.{ℕ, ◌+◌, ◌<◌, ◌≤◌, max, ◌≡◌, List, ◌++◌, length, get_or, take}
use Rattle.std.proofs.Math.Option.{some}
use Rattle.language.specs.Term.{Lang, rules, images, Term, Terms, Arms, var, kvar, fun, call, bind, con, cases, num, op, nil, cons, none, arm, size}
use Rattle.language.specs.Setting.{Setting, in_version}
use Rattle.language.specs.Kinds.{oldest, newest}
use Rattle.language.specs.Words.{word_end, added, words}
use Rattle.language.specs.Limits.{most_words, Ranged, Kinded, Rule}
use Rattle.language.specs.Run.{took}
use Rattle.language.specs.Dead.{behind, Taken, Live}
use Rattle.language.specs.Image.{image}
use Rattle.language.specs.Read.{no_place, read, accepted, refused}

-- every one of the words fits: "16-bit words"
pub record Fit (ws : List ℕ) : Type 0 where
  pub word : (i : ℕ) → get_or ws i 0 < word_end

-- what is accepted is exactly the words of its term, and that term is a rule: closed, within the ranges, the depth and the words, of its version's
-- kinds
abbrev pub AcceptedAreRules : Type 0
AcceptedAreRules = (S : Setting) (ws : List ℕ) (t : Term) → Fit ws → read S ws ≡ accepted t → (ws ≡ words rules t) × Rule S t

-- the words of every rule are accepted, with that term
abbrev pub RulesAreAccepted : Type 0
RulesAreAccepted = (S : Setting) (t : Term) → Rule S t → read S (words rules t) ≡ accepted t

-- document 02, Wish 13: "4 allows 10 and 11 in version 2 only". What is accepted in version 1 has neither kind
abbrev pub NoNumbersInVersion1 : Type 0
NoNumbersInVersion1 = (S : Setting) (ws : List ℕ) (t : Term) → S.version ≡ oldest → read S ws ≡ accepted t → Kinded (λ k. k < 10) t

-- and is accepted in version 2, with the same term
abbrev pub StillAccepted : Type 0
StillAccepted = (ws : List ℕ) (t : Term) → Fit ws → read (in_version oldest) ws ≡ accepted t → read (in_version newest) ws ≡ accepted t

-- the refusals that test a word given: 4 to 8, and Wish 4's "18, with its place"
pub data OfWord : ℕ → Type 0 where
  of_rule : {e : ℕ} → 4 ≤ e → e ≤ 8 → OfWord e
  of_dead_arm : OfWord 18

-- what the place of a refusal tells its reader. of_version and of_length: 11, 1 and 2, which test no word. of_end: "3 carries the number of words
-- given". of_word: "the place of the word tested" is that of a word given, and the words up to it decide: whatever follows them, in at most 4,096
-- words, the refusal is the same
pub data Placed (S : Setting) (ws : List ℕ) : ℕ → ℕ → Type 0 where
  of_version : Placed S ws 11 no_place
  of_length : {e : ℕ} → 1 ≤ e → e ≤ 2 → Placed S ws e no_place
  of_end : length ws ≤ most_words → Placed S ws 3 (length ws)
  of_word : {e p : ℕ} → length ws ≤ most_words → OfWord e → p < length ws
      → ((more : List ℕ) → length (take (p + 1) ws ++ more) ≤ most_words → read S (take (p + 1) ws ++ more) ≡ refused e p) → Placed S ws e p

-- document 02, Wish 1: "Show the author the word."
abbrev pub PlacesHelp : Type 0
PlacesHelp = (S : Setting) (ws : List ℕ) (e p : ℕ) → read S ws ≡ refused e p → Placed S ws e p

-- document 02, Wish 4: "No dead arms." In an accepted rule every arm of every match can be taken
abbrev pub ArmsCanBeTaken : Type 0
ArmsCanBeTaken = (S : Setting) (ws : List ℕ) (t : Term) → read S ws ≡ accepted t → Live t

-- and the value by which an arm can be taken takes it in its match, whatever arms stand behind it
abbrev pub TakenInItsMatch : Type 0
TakenInItsMatch =
    (before after : Arms) (t n : ℕ) (b : Term) (x : Taken before t n b)
    → took x.tag (size x.arguments) (behind before (arm t n b after)) ≡ some b

-- the words of a term in the ranges of its language fit 16 bits
abbrev pub WordsFit : Type 0
WordsFit = (L : Lang) (t : Term) → Ranged L t → Fit (words L t)

-- an image's functions and calls have at least one argument, and one more at most than a rule's ("so images reach 16 arguments"), and its indices are
-- 0 to 255
abbrev pub ImagesInRange : Type 0
ImagesInRange = (t : Term) → Ranged rules t → Ranged images (image t)

-- in either language the words of a term determine it, so that a statement about an image's words is one about the image
abbrev pub WordsDetermine : Type 0
WordsDetermine = (L : Lang) (t u : Term) → Ranged L t → Ranged L u → words L t ≡ words L u → t ≡ u

-- so of every accepted rule: each word of its image fits 16 bits, and each number in it is within the image ranges
abbrev pub AcceptedImagesFit : Type 0
AcceptedImagesFit = (S : Setting) (ws : List ℕ) (t : Term) → Fit ws → read S ws ≡ accepted t → Ranged images (image t) × Fit (words images (image t))

-- the most arguments that a function, a call, a constructor or an arm of a term has in the language L
unfoldable mutual
  pub widest : Lang → Term → ℕ
  widest L (var i) = 0
  widest L (kvar i) = 0
  widest L (fun o a b) = max (a + added L) (widest L b)
  widest L (call f ps) = max (size ps) (max (widest L f) (widestᵗ L ps))
  widest L (bind m b) = max (widest L m) (widest L b)
  widest L (con t ps) = max (size ps) (widestᵗ L ps)
  widest L (cases m ps) = max (widest L m) (widestᵃ L ps)
  widest L (num n) = 0
  widest L (op o ps) = widestᵗ L ps

  pub widestᵗ : Lang → Terms → ℕ
  widestᵗ L nil = 0
  widestᵗ L (cons t ts) = max (widest L t) (widestᵗ L ts)

  pub widestᵃ : Lang → Arms → ℕ
  widestᵃ L none = 0
  widestᵃ L (arm t n b ps) = max n (max (widest L b) (widestᵃ L ps))

-- document 02, Wish 5: no accepted rule has more than 15 and no image more than 16, and there is one that has both: "so images reach 16 arguments"
pub record FifteenAndSixteen : Type 0 where
  pub most : (S : Setting) (ws : List ℕ) (t : Term) → Fit ws → read S ws ≡ accepted t → (widest rules t ≤ 15) × (widest images (image t) ≤ 16)
  pub reached : (S : Setting) × (ws : List ℕ) × (t : Term) × (read S ws ≡ accepted t) × (widest rules t ≡ 15) × (widest images (image t) ≡ 16)
