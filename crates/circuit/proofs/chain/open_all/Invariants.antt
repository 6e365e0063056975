-- `chain::open_all` meets its contract. The invariant: opening the rest from `at` on makes what opening the chain does.
-- The measure is that rest.
use Rattle.std.proofs.Common.{◌≡◌, ◌≤◌}
use Rattle.table.specs.Bytes.{nodes}
use Rattle.table.specs.Naming.{chain}
use Rattle.rules.specs.State.{opened}
use Rattle.circuit.specs.Working.{leading}
use Rattle.circuit.proofs.ChainLaws.{rest}
use Rattle.circuit.proofs.chain.open_all.Given as goal

abbrev pub invariant-loop-at : goal.invariant-loop-at
invariant-loop-at l = (l.at.0 ≤ nodes l.design.table.now) × (opened l.initial.status (leading l.defs
    (chain l.design.table.now l.initial.at.0))
    ≡ opened l.status (leading l.defs (chain l.design.table.now l.at.0)))

abbrev pub decreases-loop-at : goal.decreases-loop-at
decreases-loop-at l = rest l.design.table.now l.at.0
