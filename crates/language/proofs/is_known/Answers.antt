-- `language::is_known` meets its contract: the two tests are the definition's.
use borrow.Author.Tests.{le-leb, lt-leb}
use Rattle.language.specs.Kinds.{known}
use Rattle.language.proofs.is_known.Goals as goal

pub returns-then-version : goal.returns-then-version
unfolding known
returns-then-version c = simp (le-leb _ _ c.if-version.true)

pub returns-else-version : goal.returns-else-version
unfolding known
returns-else-version c = simp (lt-leb _ _ c.if-version.false)
