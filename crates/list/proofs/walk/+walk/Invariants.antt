-- The walks meet their contracts together: each at one measure, given the others below it.
-- What falls at each call of the walk is the weight of a node, and at one node the chain's walk comes before the node's, that before the
-- inner node's, that before what it enters and its children's, and that before the walk that holds these against each other.
use Rattle.std.proofs.Common.{◌≡◌, ◌+◌, ◌-◌}
use Rattle.table.specs.Bytes.{nodes, next}
use Rattle.list.proofs.WalkMeasure.{weight}
use Rattle.list.proofs.SiblingLaws.{Along}
use Rattle.list.proofs.walk.+walk.Given as goal

abbrev pub decreases-body_walk : goal.decreases-body_walk
decreases-body_walk l = weight l.design.now.table.now l.g.0 0

abbrev pub decreases-chain_walk : goal.decreases-chain_walk
decreases-chain_walk l = weight l.design.now.table.now l.f.0 l.c.0 + 4

abbrev pub decreases-enter_walk : goal.decreases-enter_walk
decreases-enter_walk l = weight l.design.now.table.now l.f.0 l.n.0 + 1

abbrev pub decreases-inner_walk : goal.decreases-inner_walk
decreases-inner_walk l = weight l.design.now.table.now l.f.0 l.n.0 + 2

abbrev pub decreases-kids_walk : goal.decreases-kids_walk
decreases-kids_walk l = weight l.design.now.table.now l.f.0 l.n.0 + 1

abbrev pub decreases-node_walk : goal.decreases-node_walk
decreases-node_walk l = weight l.design.now.table.now l.f.0 l.n.0 + 3

abbrev pub decreases-side_walk : goal.decreases-side_walk
decreases-side_walk l = weight l.design.now.table.now l.f.0 l.n.0

-- Siblings, one after the other: what was walked so far, and which one comes next.
abbrev pub invariant-chain_walk-loop-next : goal.invariant-chain_walk-loop-next
invariant-chain_walk-loop-next l =
    Along l.design.table.now l.f.0 l.initial.at.0 l.defs l.at.0 l.once l.twice l.initial.set l.set l.initial.kept l.kept
    × (l.next.0 ≡ next l.design.table.now l.at.0)

abbrev pub decreases-chain_walk-loop-next : goal.decreases-chain_walk-loop-next
decreases-chain_walk-loop-next l = nodes l.design.table.now - l.at.0
