-- What the contracts of the writers of forms are made of: jobs, each of which is what a writer reads, and what it writes of it.
use Rattle.std.specs.Prelude.{ℕ, ◌≡◌, Bool, List, [], ◌∷◌, ◌++◌, length}
use Rattle.language.specs.Term.{images, Terms, nil, cons}
use Rattle.language.specs.Words.{words, wordsᵗ, wordsᵃ}
use Rattle.language.specs.Limits.{deepest}
use Rattle.language.specs.Image.{passing, carried, carrieds, passingᵃ}
use Rattle.output.specs.Stored.{Room, Put}
use Rattle.atoms.specs.Standing.{Part, term, terms, arms, atomic, atomics, over, ◌then◌, Thing, Seen, Ends, AtomAt, Parted}
use Rattle.language.specs.declared.Parts.{Parts}
use Rattle.writing.specs.declared.Translator.{Translator}

-- "for each of its terms in order, 0201 0401 and the term's passing form"
unfoldable pub links : Terms → List ℕ
links nil = []
links (cons t ts) = (0x0201 ∷ 0x0401 ∷ words images (passing t)) ++ links ts

-- What a writer may be asked to do, of terms, lists and arms of at most d levels.
-- passed: the passing form. kept: the carried form of an atom; keeps: of n atoms. chained: the links of n terms. branches: n arms.
-- before: these words, and then a job. after: a job, and then these words. skipped: n words are read, and none is written; copied: they are
-- written. next: two jobs.
infixr 20 ◌next◌
pub data Job : Type 0 where
  passed : ℕ → Job
  kept : ℕ → Job
  keeps : ℕ → ℕ → Job
  chained : ℕ → ℕ → Job
  branches : ℕ → ℕ → Job
  before : List ℕ → Job → Job
  after : Job → List ℕ → Job
  skipped : ℕ → Job
  copied : ℕ → Job
  ◌next◌ : Job → Job → Job

-- what it reads, and the words that it writes
abbrev pub reads : Job → Part
reads (passed d) = term d
reads (kept d) = atomic d
reads (keeps d n) = atomics d n
reads (chained d n) = terms d n
reads (branches d n) = arms d n
reads (before ws J) = reads J
reads (after J ws) = reads J
reads (skipped n) = over n
reads (copied n) = over n
reads (J next K) = reads J then reads K

abbrev pub target : (J : Job) → Thing (reads J) → List ℕ
target (passed d) t = words images (passing t)
target (kept d) t = words images (carried t)
target (keeps d n) ts = wordsᵗ images (carrieds ts)
target (chained d n) ts = links ts
target (branches d n) ps = wordsᵃ images (passingᵃ ps)
target (before ws J) x = ws ++ target J x
target (after J ws) x = target J x ++ ws
target (skipped n) ws = []
target (copied n) ws = ws
target (J next K) x = target J x.0 ++ target K x.1

-- "0201 0401 and the term's passing form"
abbrev pub linked : ℕ → Job
linked d = before (0x0201 ∷ 0x0401 ∷ []) (passed d)

-- a call of a passing form, which is handed a variable, whose word is w: "0401, its body's passing form, 0901"
abbrev pub handed : ℕ → ℕ → Job
handed d w = before (0x0401 ∷ []) (after (passed d) (w ∷ []))

-- "The image of a rule is 0401, its passing form, 0201 0900."
abbrev pub imaged : Job
imaged = before (0x0401 ∷ []) (after (passed deepest) (0x0201 ∷ 0x0900 ∷ []))

-- what J reads stands in s at `at`, and there is room in o from p on for what is to be written of it
pub record Ready (J : Job) (o : List ℕ) (p : ℕ) (s : List ℕ) (at : ℕ) : Type 0 where
  pub thing : Thing (reads J)
  pub to : ℕ
  pub seen : Seen (reads J) s at to thing
  pub room : Room o p (length (target J thing))

-- whatever J reads and stands in s at `at`, it was read up to `to`, and what is to be written of it was written into o from p up to `end`; the
-- words that are read, s' by now, are the same
pub record Done (J : Job) (o : List ℕ) (p : ℕ) (s : List ℕ) (at : ℕ) (o' : List ℕ) (s' : List ℕ) (to end : ℕ) : Type 0 where
  pub same : s' ≡ s
  pub ends : Ends (reads J) s at to
  pub puts : (x : Thing (reads J)) (e : ℕ) → Seen (reads J) s at e x → Put (target J x) o p o' end

-- the same of a translator
abbrev pub ReadyFor : Job → Translator → Type 0
ReadyFor J t = Ready J t.out.now.words.now t.out.now.pos t.rule.now t.at

-- it has the same output, and that the same memory
abbrev pub SameOutput : Translator → Translator → Type 0
SameOutput t t' = (t'.out.ghost_name ≡ t.out.ghost_name) × (t'.out.now.words.ghost_name ≡ t.out.now.words.ghost_name)

-- J was done by a translator, which was t and is t' by now; it has the same output
pub record Does (J : Job) (t t' : Translator) : Type 0 where
  pub same : SameOutput t t'
  pub done : Done J t.out.now.words.now t.out.now.pos t.rule.now t.at t'.out.now.words.now t'.rule.now t'.at t'.out.now.pos

-- of a translator that reads a term of at most d levels next: P is what follows its head, and b tells whether it is an atom
abbrev pub NextIs : Parts → ℕ → Translator → Type 0
NextIs P d t = Parted P d t.rule.now t.at

abbrev pub NextIsAtom : Bool → ℕ → Translator → Type 0
NextIsAtom b d t = AtomAt d t.rule.now t.at b
