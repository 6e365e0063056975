use Rattle.std.proofs.Common.{◌≡◌, sym, refl, ◌∙◌, arith}
use Rattle.table.specs.Bytes.{next}
use Rattle.table.proofs.Reading.{told}
use Rattle.circuit.proofs.ChainLaws.{next_in, falls, last_more, last_ends}
use Rattle.circuit.proofs.chain.last_of.Goals as goal
use Rattle.circuit.proofs.chain.last_of.Lts as lts
use Rattle.circuit.proofs.chain.last_of.Reads as reads
use Rattle.circuit.proofs.chain.last_of.Tie as tie

abbrev Next : Type 0
Next = lts.After-next tie.the-claims reads.Pre reads.Post goal.the-invariant-loop-on goal.the-decreases-loop-on

-- what was read is the next sibling
read : (c : Next) → c.next-on.result.0 ≡ next c.args.design.now.table.now c.loop-on.on.0
read c = told _ _ c.args.design.now.read _ (omega arith, c.loop-on.invariant.0) 5 _ (omega arith) c.next-on.ensures

pub loop-on-init : goal.loop-on-init
loop-on-init c = (c.requires, omega arith, refl)

pub loop-on-smaller : goal.loop-on-smaller
loop-on-smaller c = falls _ c.args.design.now.read.taken _ c.loop-on-test.true c.loop-on.invariant.0 _ (read (search))

pub loop-on-preserved : goal.loop-on-preserved
loop-on-preserved c = (
  next_in _ c.args.design.now.read.taken _ c.loop-on-test.true c.loop-on.invariant.0 _ (read (search)),
  c.loop-on.invariant.0,
  c.loop-on.invariant.2 ∙ last_more _ c.args.design.now.read.taken _ c.loop-on-test.true c.loop-on.invariant.0 _ (read (search)) _,
)

pub returns : goal.returns
returns c = (sym (c.loop-on.invariant.2 ∙ last_ends _ c.args.design.now.read.taken _ c.loop-on-test.false _), c.loop-on.invariant.1)
