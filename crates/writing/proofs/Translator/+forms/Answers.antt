-- The writers of forms, of lists and of arms meet their contracts: each way out and each call's need is a law of `Ways`.
use Rattle.std.proofs.Common.{arith}
use Rattle.writing.proofs.Ways.{kept_small, ways}
use Rattle.writing.proofs.Translator.+forms.Goals as goal

pub put_arms-arms-preserved : goal.put_arms-arms-preserved
put_arms-arms-preserved t c = search ways

pub put_arms-put_copied-requires-clause-ready : goal.put_arms-put_copied-requires-clause-ready
put_arms-put_copied-requires-clause-ready t c = search ways

pub put_arms-put_handed-requires : goal.put_arms-put_handed-requires
put_arms-put_handed-requires t c = search ways

pub put_arms-returns : goal.put_arms-returns
put_arms-returns t c = search ways

pub put_atom-put_added-requires : goal.put_atom-put_added-requires
put_atom-put_added-requires t c = search ways

pub put_atom-put_carried-requires : goal.put_atom-put_carried-requires
put_atom-put_carried-requires t c = search ways

pub put_atom-returns : goal.put_atom-returns
put_atom-returns t c = search ways

pub put_build-put_chain-requires : goal.put_build-put_chain-requires
put_build-put_chain-requires t c = search ways

pub put_build-put_making-requires : goal.put_build-put_making-requires
put_build-put_making-requires t c = search ways

pub put_build-returns : goal.put_build-returns
put_build-returns t c = search ways

pub put_call-put_calling-requires : goal.put_call-put_calling-requires
put_call-put_calling-requires t c = search ways

pub put_call-put_chain-requires : goal.put_call-put_chain-requires
put_call-put_chain-requires t c = search ways

pub put_call-returns : goal.put_call-returns
put_call-returns t c = search ways

pub put_carried-parts_at-requires : goal.put_carried-parts_at-requires
put_carried-parts_at-requires t c = search ways

pub put_carried-put_constructor-requires : goal.put_carried-put_constructor-requires
put_carried-put_constructor-requires t c = search ways

pub put_carried-put_function-requires : goal.put_carried-put_function-requires
put_carried-put_function-requires t c = search ways

pub put_carried-put_number-requires-clause-form : goal.put_carried-put_number-requires-clause-form
put_carried-put_number-requires-clause-form t c = search ways

pub put_carried-put_variable-requires-clause-form : goal.put_carried-put_variable-requires-clause-form
put_carried-put_variable-requires-clause-form t c = search ways

pub put_carried-unreachable-requires : goal.put_carried-unreachable-requires
put_carried-unreachable-requires t c = search ways

pub put_carrieds-atoms-preserved : goal.put_carrieds-atoms-preserved
put_carrieds-atoms-preserved t c = search ways

pub put_carrieds-put_carried-requires : goal.put_carrieds-put_carried-requires
put_carrieds-put_carried-requires t c = search ways

pub put_carrieds-returns : goal.put_carrieds-returns
put_carrieds-returns t c = search ways

pub put_chain-links-preserved : goal.put_chain-links-preserved
put_chain-links-preserved t c = search ways

pub put_chain-put_link-requires : goal.put_chain-put_link-requires
put_chain-put_link-requires t c = search ways

-- The chain is done where no term is left
-- behind the last link.
pub put_chain-returns : goal.put_chain-returns
put_chain-returns t c = search ways

pub put_constructor-count_at-count-requires : goal.put_constructor-count_at-count-requires
put_constructor-count_at-count-requires t c = search ways

pub put_constructor-put_carrieds-requires : goal.put_constructor-put_carrieds-requires
put_constructor-put_carrieds-requires t c = search ways

pub put_constructor-put_copied-requires-clause-ready : goal.put_constructor-put_copied-requires-clause-ready
put_constructor-put_copied-requires-clause-ready t c = search ways

pub put_constructor-returns : goal.put_constructor-returns
put_constructor-returns t c = search ways

pub put_function-overflow_add-head : goal.put_function-overflow_add-head
put_function-overflow_add-head t c = omega (arith, kept_small c.requires.ready)

pub put_function-put-requires : goal.put_function-put-requires
put_function-put-requires t c = search ways

pub put_function-put_handed-requires : goal.put_function-put_handed-requires
put_function-put_handed-requires t c = search ways

pub put_function-returns : goal.put_function-returns
put_function-returns t c = search ways

pub put_handed-put_continuation-requires : goal.put_handed-put_continuation-requires
put_handed-put_continuation-requires t c = search ways

pub put_handed-returns : goal.put_handed-returns
put_handed-returns t c = search ways

pub put_let-put_added-requires : goal.put_let-put_added-requires
put_let-put_added-requires t c = search ways

pub put_let-put_handed-requires : goal.put_let-put_handed-requires
put_let-put_handed-requires t c = search ways

pub put_let-put_link-requires : goal.put_let-put_link-requires
put_let-put_link-requires t c = search ways

pub put_let-returns : goal.put_let-returns
put_let-returns t c = search ways

pub put_match-put_added-requires : goal.put_match-put_added-requires
put_match-put_added-requires t c = search ways

pub put_match-put_arms-requires : goal.put_match-put_arms-requires
put_match-put_arms-requires t c = search ways

pub put_match-put_link-requires : goal.put_match-put_link-requires
put_match-put_link-requires t c = search ways

pub put_match-returns : goal.put_match-returns
put_match-returns t c = search ways

pub put_operation-put_chain-requires : goal.put_operation-put_chain-requires
put_operation-put_chain-requires t c = search ways

pub put_operation-put_working-requires : goal.put_operation-put_working-requires
put_operation-put_working-requires t c = search ways

pub put_operation-returns : goal.put_operation-returns
put_operation-returns t c = search ways

pub put_passing-put_atom-requires : goal.put_passing-put_atom-requires
put_passing-put_atom-requires t c = search ways

pub put_passing-put_build-requires : goal.put_passing-put_build-requires
put_passing-put_build-requires t c = search ways

pub put_passing-put_call-requires : goal.put_passing-put_call-requires
put_passing-put_call-requires t c = search ways

pub put_passing-put_let-requires : goal.put_passing-put_let-requires
put_passing-put_let-requires t c = search ways

pub put_passing-put_match-requires : goal.put_passing-put_match-requires
put_passing-put_match-requires t c = search ways

pub put_passing-put_operation-requires : goal.put_passing-put_operation-requires
put_passing-put_operation-requires t c = search ways

pub put_passing-unreachable-requires : goal.put_passing-unreachable-requires
put_passing-unreachable-requires t c = search ways
