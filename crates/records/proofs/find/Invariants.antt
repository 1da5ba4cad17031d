-- `records::find` meets its contract. The loop keeps: what is found from here on is what is found from the last binding on.
use Rattle.std.proofs.Common.{◌≡◌, ◌-◌}
use Rattle.records.specs.Links.{found_from}
use Rattle.records.proofs.find.Given as goal

abbrev pub invariant-loop : goal.invariant-loop
invariant-loop l = found_from l.records l.binding (l.index - l.counter) ≡ found_from l.records l.last l.index
