-- `tracking::fill` meets its contract. The invariant: the rows and the sets are filled for the nodes before n (`FilledTo`).
use Rattle.std.proofs.Common.{◌-◌}
use Rattle.circuit.specs.Packed.{unpacked}
use Rattle.circuit.proofs.TrackLaws.{FilledTo}
use Rattle.circuit.proofs.tracking.fill.Given as goal

abbrev pub invariant-loop-n : goal.invariant-loop-n
invariant-loop-n l = FilledTo l.design.table.now l.status l.second l.value l.occupant l.rows (unpacked l.sets) (l.n - 1)
