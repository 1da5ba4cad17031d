-- `arities::is_among` meets its contract: a mark is among others exactly where its arm is dead behind theirs.
use Rattle.std.proofs.Common.{ℕ, nat_eq, rules, tests}
use Rattle.std.proofs.lemmas.Iterator.{YieldsList-from_slice}
use Rattle.std.proofs.lemmas.Iterator.Search.{any_from_yields_List}
use Rattle.arities.proofs.Marks.{among}
use Rattle.arities.proofs.is_among.Goals as goal

pub returns : goal.returns
returns c = among c.args.x c.args.marks.now
    (any_from_yields_List (λ (y : ℕ). nat_eq y c.args.x) _ _ _ c.any.ensures.ran (YieldsList-from_slice c.args.marks.now cc) (λ x b q k. search (rules, tests)))
