-- The functions that read terms, lists and arms through each other end: the levels left fall from a term to its parts, and among the readers of one
-- level each calls those below it alone. The loops over a list's terms and over a match's arms keep: what was read, joined to what is still to be
-- read, is the whole.
use Rattle.std.proofs.Common.{◌≡◌, ℕ, ◌+◌, ◌-◌, ◌*◌, ◌≤◌, length, false, []}
use Rattle.std.proofs.Math.ListN.{take}
use Rattle.language.specs.Setting.{in_version}
use Rattle.language.specs.Kinds.{most_arms}
use Rattle.language.specs.Read.{many, arms_of, term}
use Rattle.arities.specs.Marks.{unmarked}
use Rattle.reading.specs.Steps.{small, terms_step, arms_step}
use Rattle.reading.proofs.Steps.{joined_of}
use Rattle.reading.proofs.Table.+terms.Given as goal

-- a reader of a thing of d levels, which calls no reader of d levels but those of a lower number; the numbers are 0 to 3
abbrev rank : ℕ → ℕ → ℕ
rank d n = 3 * d + n

abbrev pub decreases-arms : goal.decreases-arms
decreases-arms l = rank l.level.left 0

abbrev pub decreases-opened : goal.decreases-opened
decreases-opened l = rank l.level.left 1

abbrev pub decreases-term : goal.decreases-term
decreases-term l = rank l.level.left 2

abbrev pub decreases-list : goal.decreases-list
decreases-list l = rank l.level.left 3

abbrev pub invariant-arms-loop-i : goal.invariant-arms-loop-i
invariant-arms-loop-i l = record {
  read : joined_of false l.arms.words (arms_step (arms_of (in_version l.self.version) l.self.words.now (term (in_version l.self.version) l.self.words.now (l.level.left - 1))
      (unmarked (take l.i l.marks)) l.level.bound (l.count - l.i) l.arms.to))
      ≡ arms_step (arms_of (in_version l.self.version) l.self.words.now (term (in_version l.self.version) l.self.words.now (l.level.left - 1)) [] l.level.bound l.count l.at);
  no_atoms : l.arms.atoms ≡ false;
  few : l.arms.words ≤ 2 * small * l.i;
  table : length l.marks ≡ most_arms;
}

abbrev pub invariant-list-loop : goal.invariant-list-loop
invariant-list-loop l = record {
  read : joined_of l.list.atoms l.list.words (terms_step (many (term (in_version l.self.version) l.self.words.now l.level.left l.level.bound) (l.count - l.counter) l.list.to))
      ≡ terms_step (many (term (in_version l.self.version) l.self.words.now l.level.left l.level.bound) l.count l.at);
  few : l.list.words ≤ 2 * small * l.counter;
}
