-- `tracking::arm_all` meets its contract. The invariant: arming the rest from `at` on makes of the sets now what arming the chain makes of
-- those at the start (`Arming`). The measure is that rest.
use Rattle.std.proofs.Common.{◌≡◌, ◌≤◌}
use Rattle.table.specs.Bytes.{nodes}
use Rattle.table.specs.Naming.{chain}
use Rattle.circuit.specs.Working.{leading}
use Rattle.circuit.specs.Packed.{unpacked}
use Rattle.circuit.proofs.ChainLaws.{rest}
use Rattle.circuit.proofs.TrackLaws.{Arming}
use Rattle.circuit.proofs.tracking.arm_all.Given as goal

abbrev pub invariant-loop-at : goal.invariant-loop-at
invariant-loop-at l = (l.at.0 ≤ nodes l.design.table.now)
    × Arming (leading l.defs (chain l.design.table.now l.initial.at.0)) (leading l.defs (chain l.design.table.now l.at.0))
    (unpacked l.initial.sets)
    (unpacked l.sets) × (l.sets.held ≡ l.initial.sets.held)

abbrev pub decreases-loop-at : goal.decreases-loop-at
decreases-loop-at l = rest l.design.table.now l.at.0
