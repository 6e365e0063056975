use Rattle.std.proofs.Common.{◌≡◌, sym, refl, ◌∙◌, arith}
use Rattle.table.specs.Bytes.{next}
use Rattle.table.proofs.Reading.{told}
use Rattle.list.specs.Working.{Bit}
use Rattle.circuit.proofs.ChainLaws.{ok, next_in, falls, leading_last, leading_more, leading_ends}
use Rattle.circuit.proofs.TrackLaws.{arming_start, arming_more, arming_end}
use Rattle.circuit.proofs.tracking.arm_all.Goals as goal
use Rattle.circuit.proofs.tracking.arm_all.Lts as lts
use Rattle.circuit.proofs.tracking.arm_all.Reads as reads
use Rattle.circuit.proofs.tracking.arm_all.Tie as tie

abbrev Next : Type 0
Next = lts.After-next tie.the-claims reads.Pre reads.Post goal.the-invariant-loop-at goal.the-decreases-loop-at

-- what was read is the next sibling
read : (c : Next) → c.next-on.result.0 ≡ next c.args.design.now.table.now c.loop-at.at.0
read c = told _ _ c.args.design.now.read _ (omega arith, c.loop-at.invariant.0) 5 _ (omega arith) c.next-on.ensures

-- the node has a bit
bit : (c : Next) → Bit c.loop-at.at.0
bit c = (omega arith, omega (arith, c.loop-at.invariant.0, (ok _ c.args.design.now.read.taken).n_high))

pub loop-at-init : goal.loop-at-init
loop-at-init c = (c.requires, arming_start _ _, refl)

pub returns-then-ends : goal.returns-then-ends
returns-then-ends c = let l = c.loop-at.invariant in (
  arming_end _ _ _ _ l.1 (leading_last _ c.args.design.now.read.taken c.args.defs _ c.loop-at-test.true l.0
      _ (read (search)) (sym c.ends.ensures ∙ c.if-ends.true)),
  l.2,
)

pub place-requires : goal.place-requires
place-requires c = bit (search)

pub loop-at-smaller : goal.loop-at-smaller
loop-at-smaller c = falls _ c.args.design.now.read.taken _ c.loop-at-test.true c.loop-at.invariant.0 _ (read (search))

pub loop-at-preserved : goal.loop-at-preserved
loop-at-preserved c = let p = c.requires in
    let l = c.loop-at.invariant in
    let some = c.loop-at-test.true in (
      next_in _ c.args.design.now.read.taken _ some l.0 _ (read (search)),
      arming_more _ _ _ _ l.1 _ _
          (leading_more _ c.args.design.now.read.taken c.args.defs _ some l.0 _ (read (search)) (sym c.ends.ensures ∙ c.if-ends.false))
          _ c.place.ensures.0,
      c.place.ensures.1 ∙ l.2,
    )

pub returns : goal.returns
returns c = let l = c.loop-at.invariant in
    (arming_end _ _ _ _ l.1 (leading_ends _ c.args.design.now.read.taken c.args.defs _ c.loop-at-test.false), l.2)
