-- `chain::all_done` meets its contract. The invariant: what is asked of the chain is asked of its rest from `at` on.
-- The measure is that rest.
use Rattle.std.proofs.Common.{◌≡◌, ◌≤◌}
use Rattle.table.specs.Bytes.{nodes}
use Rattle.table.specs.Naming.{chain}
use Rattle.rules.specs.State.{entry}
use Rattle.circuit.specs.Working.{each_done, leading}
use Rattle.circuit.proofs.ChainLaws.{rest}
use Rattle.circuit.proofs.chain.all_done.Given as goal

abbrev pub invariant-loop-at : goal.invariant-loop-at
invariant-loop-at l = (l.at.0 ≤ nodes l.design.table.now)
    × (each_done (entry l.status 0) (leading l.defs (chain l.design.table.now l.initial.at.0))
    ≡ each_done (entry l.status 0) (leading l.defs (chain l.design.table.now l.at.0)))

abbrev pub decreases-loop-at : goal.decreases-loop-at
decreases-loop-at l = rest l.design.table.now l.at.0
