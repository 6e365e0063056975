use Rattle.std.proofs.Common.{◌≡◌, sym, refl, ap, ◌∙◌, arith}
use Rattle.table.specs.Bytes.{next}
use Rattle.table.specs.Naming.{chain}
use Rattle.table.proofs.Reading.{told}
use Rattle.rules.specs.State.{opened}
use Rattle.circuit.specs.Working.{leading}
use Rattle.circuit.proofs.ChainLaws.{ok, next_in, falls, open_last, open_more, open_ends}
use Rattle.circuit.proofs.chain.open_all.Goals as goal
use Rattle.circuit.proofs.chain.open_all.Lts as lts
use Rattle.circuit.proofs.chain.open_all.Reads as reads
use Rattle.circuit.proofs.chain.open_all.Tie as tie

abbrev Next : Type 0
Next = lts.After-next tie.the-claims reads.Pre reads.Post goal.the-invariant-loop-at goal.the-decreases-loop-at

-- what was read is the next sibling
read : (c : Next) → c.next-on.result.0 ≡ next c.args.design.now.table.now c.loop-at.at.0
read c = told _ _ c.args.design.now.read _ (omega arith, c.loop-at.invariant.0) 5 _ (omega arith) c.next-on.ensures

pub loop-at-init : goal.loop-at-init
loop-at-init c = (c.requires, refl)

pub returns-then-ends : goal.returns-then-ends
returns-then-ends c = sym (c.loop-at.invariant.1 ∙ open_last _ c.args.design.now.read.taken c.args.defs
    _ c.loop-at-test.true c.loop-at.invariant.0
    _ (read (search)) _
    (sym c.ends.ensures ∙ c.if-ends.true))

pub set_status-requires : goal.set_status-requires
set_status-requires c = omega (arith, c.loop-at.invariant.0, (ok _ c.args.design.now.read.taken).n_high)

pub loop-at-smaller : goal.loop-at-smaller
loop-at-smaller c = falls _ c.args.design.now.read.taken _ c.loop-at-test.true c.loop-at.invariant.0 _ (read (search))

pub loop-at-preserved : goal.loop-at-preserved
loop-at-preserved c = (
  next_in _ c.args.design.now.read.taken _ c.loop-at-test.true c.loop-at.invariant.0 _ (read (search)),
  c.loop-at.invariant.1 ∙ open_more _ c.args.design.now.read.taken c.args.defs _ c.loop-at-test.true c.loop-at.invariant.0 _
      (read (search)) _
      (sym c.ends.ensures ∙ c.if-ends.false)
      ∙ ap (λ x. opened x (leading c.args.defs (chain c.args.design.now.table.now c.next-on.result.0)))
      (sym c.set_status.ensures),
)

pub returns : goal.returns
returns c = sym (c.loop-at.invariant.1 ∙ open_ends _ c.args.design.now.read.taken c.args.defs _ c.loop-at-test.false _)
