use Rattle.std.proofs.Common.{refl, arith}
use Rattle.list.proofs.Meets.{united_none, united_more, united_skip}
use Rattle.list.proofs.kept.Kept.union.Goals as goal
use Rattle.list.proofs.kept.Kept.union.Goals.{then-mask-h-eq1, else-mask-h-eq1}

pub loop-h-init : goal.loop-h-init
loop-h-init c = (refl, united_none _ _)

pub loop-h-preserved : goal.loop-h-preserved
loop-h-preserved c = let l = c.loop-h in
    elim c.if-mask-h-eq1.branch [
      | then-mask-h-eq1 w ↦ rw w.all-is
          (w.join.ensures.size, united_more _ _ _ _ (omega arith) l.invariant.1 _ w.if-mask-h-eq1.true w.join.ensures)
      | else-mask-h-eq1 w ↦ rw w.all-is (l.invariant.0, united_skip _ _ _ _ (omega arith) l.invariant.1 w.if-mask-h-eq1.false)
    ]
