-- `faults::chain_length` meets its contract. The invariant: `count` siblings lie before `at`. The measure is the rest of the chain.
use Rattle.table.proofs.ChainLoop.{rest, ChainTo}
use Rattle.table.proofs.faults.chain_length.Given as goal

abbrev pub invariant-loop-at : goal.invariant-loop-at
invariant-loop-at l = ChainTo l.table l.initial.at.0 l.at.0 l.count

abbrev pub decreases-loop-at : goal.decreases-loop-at
decreases-loop-at l = rest l.table l.at.0
