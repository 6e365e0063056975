-- `chain::last_of` meets its contract. The invariant: the last node is that of the rest, or `at` where there is none.
-- The measure is the rest.
use Rattle.std.proofs.Common.{◌≡◌, ◌≤◌}
use Rattle.table.specs.Bytes.{nodes}
use Rattle.table.specs.Naming.{chain}
use Rattle.circuit.specs.Working.{last_from}
use Rattle.circuit.proofs.ChainLaws.{rest}
use Rattle.circuit.proofs.chain.last_of.Given as goal

abbrev pub invariant-loop-on : goal.invariant-loop-on
invariant-loop-on l = (l.on.0 ≤ nodes l.design.table.now) × (l.at.0 ≤ nodes l.design.table.now)
    × (last_from 0 (chain l.design.table.now l.initial.on.0) ≡ last_from l.at.0 (chain l.design.table.now l.on.0))

abbrev pub decreases-loop-on : goal.decreases-loop-on
decreases-loop-on l = rest l.design.table.now l.on.0
