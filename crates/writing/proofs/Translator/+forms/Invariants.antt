-- The writers of forms, of lists and of arms end: the levels left fall from a term to its parts, and among the writers of one level each calls those
-- below it alone. The loops over lists and arms keep: what is still to be written is all that is left of the whole.
use Rattle.std.proofs.Common.{ℕ, ◌+◌, ◌-◌, ◌*◌}
use Rattle.writing.specs.Jobs.{keeps, chained, branches}
use Rattle.writing.proofs.Jobs.{Going}
use Rattle.writing.proofs.Translator.+forms.Given as goal

-- a writer of a thing of d levels, which calls no writer of d levels but those of a lower number; the numbers are 0 to 5
abbrev rank : ℕ → ℕ → ℕ
rank d n = 6 * d + n

abbrev pub decreases-put_arms : goal.decreases-put_arms
decreases-put_arms l = rank l.depth 5

abbrev pub decreases-put_atom : goal.decreases-put_atom
decreases-put_atom l = rank l.depth 2

abbrev pub decreases-put_build : goal.decreases-put_build
decreases-put_build l = rank l.depth 0

abbrev pub decreases-put_call : goal.decreases-put_call
decreases-put_call l = rank l.depth 0

abbrev pub decreases-put_carried : goal.decreases-put_carried
decreases-put_carried l = rank l.depth 1

abbrev pub decreases-put_carrieds : goal.decreases-put_carrieds
decreases-put_carrieds l = rank l.depth 5

abbrev pub decreases-put_chain : goal.decreases-put_chain
decreases-put_chain l = rank l.depth 5

abbrev pub decreases-put_constructor : goal.decreases-put_constructor
decreases-put_constructor l = rank l.depth 0

abbrev pub decreases-put_function : goal.decreases-put_function
decreases-put_function l = rank l.depth 0

abbrev pub decreases-put_handed : goal.decreases-put_handed
decreases-put_handed l = rank l.depth 4

abbrev pub decreases-put_let : goal.decreases-put_let
decreases-put_let l = rank l.depth 0

abbrev pub decreases-put_link : goal.decreases-put_link
decreases-put_link l = rank l.depth 4

abbrev pub decreases-put_match : goal.decreases-put_match
decreases-put_match l = rank l.depth 0

abbrev pub decreases-put_operation : goal.decreases-put_operation
decreases-put_operation l = rank l.depth 0

abbrev pub decreases-put_passing : goal.decreases-put_passing
decreases-put_passing l = rank l.depth 3

abbrev pub invariant-put_arms-arms : goal.invariant-put_arms-arms
invariant-put_arms-arms l = Going (branches l.depth l.count) l.initial.self (branches l.depth (l.count - l.counter)) l.self

abbrev pub invariant-put_carrieds-atoms : goal.invariant-put_carrieds-atoms
invariant-put_carrieds-atoms l = Going (keeps l.depth l.count) l.initial.self (keeps l.depth (l.count - l.counter)) l.self

abbrev pub invariant-put_chain-links : goal.invariant-put_chain-links
invariant-put_chain-links l = Going (chained l.depth l.count) l.initial.self (chained l.depth (l.count - l.counter)) l.self
