use Rattle.list.proofs.TagLoops.{lowest_none}
use Rattle.list.proofs.HoldingLaws.{covered_more}
use Rattle.list.proofs.holding.covered.Goals as goal

pub loop-i-init : goal.loop-i-init
loop-i-init c = lowest_none _

pub loop-i-preserved : goal.loop-i-preserved
loop-i-preserved c = covered_more _ _ _ c.loop-i.invariant c.if-set-i.false
