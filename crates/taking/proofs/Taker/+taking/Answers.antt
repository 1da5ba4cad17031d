-- The functions that take an atom, a constructor and some atoms meet their contracts. The words behind the place fall.
use Rattle.taking.proofs.All.{alls}
use Rattle.std.proofs.Common.{arith, refl, ◌∙◌}
use Rattle.taking.proofs.Ways.{b_none, b_kept, some_taken, t_freed, ways}
use Rattle.taking.proofs.Taker.+taking.Goals as goal
use Rattle.taking.proofs.Taker.+taking.Goals.{take_all-then-i-count, take_all-else-i-count}

pub build-returns-in_err-take_all : goal.build-returns-in_err-take_all
build-returns-in_err-take_all t c = record {
  same = c.take_all.ensures.same;
  freed = λ e. c.take_all.ensures.freed c.in_err-take_all.was;
  took = b_none _ c.requires.0 c.count_at-count.ensures (omega (arith, c.count_at-count.ensures.few)) c.take_all.ensures.took c.in_err-take_all.was
      c.from_residual.ensures;
}

pub build-returns-in_default : goal.build-returns-in_default
build-returns-in_default t c = record {
  same = c.keep_constructor.ensures.same ∙ c.take_all.ensures.same;
  freed = λ e. refl;
  took = t_freed c.in_default.is (b_kept _ c.requires.0 c.count_at-count.ensures (omega (arith, c.count_at-count.ensures.few)) c.take_all.ensures.took c.requires.1
      c.in_ok-take_all.was c.keep_constructor.ensures.built);
}

pub build-returns : goal.build-returns
build-returns t c = record {
  same = c.keep_constructor.ensures.same ∙ c.take_all.ensures.same;
  freed = some_taken;
  took = rw c.in-Some.is at (b_kept _ c.requires.0 c.count_at-count.ensures (omega (arith, c.count_at-count.ensures.few)) c.take_all.ensures.took c.requires.1
      c.in_ok-take_all.was c.keep_constructor.ensures.built);
}

pub take-offset_bounds-self-at : goal.take-offset_bounds-self-at
take-offset_bounds-self-at t c = search ways

pub take-bounds-self-at : goal.take-bounds-self-at
take-bounds-self-at t c = search ways

pub take-number_at-requires : goal.take-number_at-requires
take-number_at-requires t c = search (ways, c.in-Number.ensures)

pub take-build-requires : goal.take-build-requires
take-build-requires t c = search (ways, c.in-Constructor.ensures)

pub take-overflow_cast-at : goal.take-overflow_cast-at
take-overflow_cast-at t c = search ways

pub take-returns-in-Source : goal.take-returns-in-Source
take-returns-in-Source t c = search (ways, c.in-Source.ensures)

pub take-returns-in-Continuation : goal.take-returns-in-Continuation
take-returns-in-Continuation t c = search (ways, c.in-Continuation.ensures)

pub take-returns-in-Number : goal.take-returns-in-Number
take-returns-in-Number t c = search (ways, c.in-Number.ensures)

pub take-returns-in-Function : goal.take-returns-in-Function
take-returns-in-Function t c = search (ways, c.in-Function.ensures)

pub take_all-loop-i-init : goal.take_all-loop-i-init
take_all-loop-i-init t c = search alls

pub take_all-take-requires : goal.take_all-take-requires
take_all-take-requires t c = search alls

pub take_all-returns-in_default : goal.take_all-returns-in_default
take_all-returns-in_default t c = record {
  same = c.take.ensures.same ∙ c.loop-i.invariant.0;
  freed = λ e. refl;
  took = search (alls, c.in_default.is);
}

pub take_all-skip-place-requires : goal.take_all-skip-place-requires
take_all-skip-place-requires t c = search alls

pub take_all-loop-i-preserved : goal.take_all-loop-i-preserved
take_all-loop-i-preserved t c = elim c.if-i-count.branch [
  | take_all-then-i-count w ↦ rw w.place-is (search (alls, c.in-Some.is))
  | take_all-else-i-count w ↦ rw w.place-is (search (alls, c.in-Some.is))
]

pub take_all-returns : goal.take_all-returns
take_all-returns t c = record { same = c.loop-i.invariant.0; freed = some_taken; took = search alls }
