use Rattle.std.proofs.Common.{◌≡◌, ◌-◌, sym, ap, ◌∙◌, arith}
use Rattle.table.specs.Find.{lowest}
use Rattle.list.specs.Tags.{cell_fits}
use Rattle.list.proofs.TagLoops.{lowest_none, found_here, passed_here, found_none}
use Rattle.list.proofs.TagsFit.{untagged, tag_fits, tag_unfit, free_byte, fit_eight}
use Rattle.list.proofs.tags.lowest_unfit.Goals as goal
use Rattle.list.proofs.tags.lowest_unfit.Goals.{else-marks-via-then-marks+else-unfit, else-marks-via-else-marks}
use Rattle.list.proofs.tags.lowest_unfit.Goals.{In-loop-n, then-byte-ne0+else-loop-n-test, else-byte-ne0}

-- in a turn the numbers below n fit
below : (c : In-loop-n) → lowest (cell_fits c.args.cells.now c.args.tags.now) (c.loop-n.n - 1) ≡ 0
below c = ap (lowest _) (omega arith) ∙ c.loop-n.invariant.1

pub loop-i-init : goal.loop-i-init
loop-i-init c = ap (lowest _) (omega arith) ∙ lowest_none _

pub loop-n-init : goal.loop-n-init
loop-n-init c = (omega arith, ap (lowest _) (omega arith) ∙ c.loop-i.invariant)

pub returns-then-unfit : goal.returns-then-unfit
returns-then-unfit c = found_here (cell_fits _ _) _ _ (omega arith) (below (goal.at.returns-then-unfit c).In-loop-n)
    (omega (arith, c.last-last.ensures))
    (tag_unfit _ _ _ (sym c.marks.ensures ∙ c.if-marks.true) (sym c.unfit.ensures ∙ c.if-unfit.true))

pub loop-n-preserved : goal.loop-n-preserved
loop-n-preserved c = (
  omega arith,
  ap (lowest _) (omega arith) ∙ passed_here _ _ 0 (omega arith) (below (goal.at.loop-n-preserved c).In-loop-n)
      (elim c.else-marks.branch [
        | else-marks-via-then-marks+else-unfit w ↦ tag_fits _ _ _ (sym w.unfit.ensures ∙ w.if-unfit.false)
        | else-marks-via-else-marks w ↦ untagged _ _ _ (sym c.marks.ensures ∙ w.if-marks.false)
      ]),
)

pub loop-i-preserved : goal.loop-i-preserved
loop-i-preserved c = let p = cell_fits c.args.cells.now c.args.tags.now in
    elim c.if-byte-ne0.branch [
      | then-byte-ne0+else-loop-n-test w ↦
          ap (lowest p) (omega (arith, w.loop-n.invariant.0)) ∙ w.loop-n.invariant.1
      | else-byte-ne0 w ↦ fit_eight p _ _ c.loop-i.invariant (λ n a b. untagged _ _ n (free_byte _ _ w.if-byte-ne0.false n a b))
    ]

pub returns : goal.returns
returns c = found_none _ _ (ap (lowest _) (omega (arith, c.last-last.ensures)) ∙ c.loop-i.invariant)
