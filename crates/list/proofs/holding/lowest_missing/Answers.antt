use Rattle.std.proofs.Common.{sym, ◌∙◌, arith}
use Rattle.list.specs.Tags.{holds_at}
use Rattle.list.proofs.TagLoops.{found_here, passed_here}
use Rattle.list.proofs.HoldingLaws.{holds_other, holds_tagged, holds_not}
use Rattle.list.proofs.holding.lowest_missing.Goals as goal
use Rattle.list.proofs.holding.lowest_missing.Goals.{else-marks-via-then-marks+else-not-marks, else-marks-via-else-marks}

pub returns-then-not-marks : goal.returns-then-not-marks
returns-then-not-marks c = found_here (holds_at _ _) _ _ (omega arith) c.loop-n.invariant (omega arith)
    (holds_not _ _ _ (sym c.marks.ensures ∙ c.if-marks.true) (sym c.marks-then-marks.ensures ∙ c.if-not-marks.true))

pub loop-n-preserved : goal.loop-n-preserved
loop-n-preserved c = passed_here _ _ 0 (omega arith) c.loop-n.invariant (elim c.else-marks.branch [
  | else-marks-via-then-marks+else-not-marks w ↦ holds_tagged _ _ _ (sym w.marks-then-marks.ensures ∙ w.if-not-marks.false)
  | else-marks-via-else-marks w ↦ holds_other _ _ _ (sym c.marks.ensures ∙ w.if-marks.false)
])
