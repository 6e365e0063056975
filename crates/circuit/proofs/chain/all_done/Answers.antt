use Rattle.std.proofs.Common.{◌≡◌, sym, refl, ◌∙◌, arith}
use Rattle.table.specs.Bytes.{next}
use Rattle.table.proofs.Reading.{told}
use Rattle.rules.specs.State.{entry}
use Rattle.circuit.proofs.ChainLaws.{ok, next_in, falls, done_last, done_more, done_stops, done_ends}
use Rattle.circuit.proofs.chain.all_done.Goals as goal
use Rattle.circuit.proofs.chain.all_done.Lts as lts
use Rattle.circuit.proofs.chain.all_done.Reads as reads
use Rattle.circuit.proofs.chain.all_done.Tie as tie

abbrev Next : Type 0
Next = lts.After-next tie.the-claims reads.Pre reads.Post goal.the-invariant-loop-at goal.the-decreases-loop-at

-- what was read is the next sibling
read : (c : Next) → c.next-on.result.0 ≡ next c.args.design.now.table.now c.loop-at.at.0
read c = told _ _ c.args.design.now.read _ (omega arith, c.loop-at.invariant.0) 5 _ (omega arith) c.next-on.ensures

pub loop-at-init : goal.loop-at-init
loop-at-init c = (c.requires, refl)

pub returns-then-ends : goal.returns-then-ends
returns-then-ends c = sym (c.loop-at.invariant.1 ∙ done_last _ c.args.design.now.read.taken c.args.defs
    _ c.loop-at-test.true c.loop-at.invariant.0
    _ (read (search)) (entry _ 0)
    (sym c.ends.ensures ∙ c.if-ends.true))

pub status_at-requires : goal.status_at-requires
status_at-requires c = omega (arith, c.loop-at.invariant.0, (ok _ c.args.design.now.read.taken).n_high)

pub returns-then-status_at-ne3 : goal.returns-then-status_at-ne3
returns-then-status_at-ne3 c = sym (c.loop-at.invariant.1 ∙ done_stops _ c.args.design.now.read.taken c.args.defs _ c.loop-at-test.true
    c.loop-at.invariant.0
    _ (read (search)) (entry _ 0)
    (sym c.ends.ensures ∙ c.if-ends.false) _ c.status_at.ensures c.if-status_at-ne3.true)

pub loop-at-smaller : goal.loop-at-smaller
loop-at-smaller c = falls _ c.args.design.now.read.taken _ c.loop-at-test.true c.loop-at.invariant.0 _ (read (search))

pub loop-at-preserved : goal.loop-at-preserved
loop-at-preserved c = (
  next_in _ c.args.design.now.read.taken _ c.loop-at-test.true c.loop-at.invariant.0 _ (read (search)),
  c.loop-at.invariant.1 ∙ done_more _ c.args.design.now.read.taken c.args.defs _ c.loop-at-test.true c.loop-at.invariant.0 _
      (read (search)) (entry _ 0)
      (sym c.ends.ensures ∙ c.if-ends.false) _ c.status_at.ensures c.if-status_at-ne3.false,
)

pub returns : goal.returns
returns c = sym (c.loop-at.invariant.1 ∙ done_ends _ c.args.design.now.read.taken c.args.defs _ c.loop-at-test.false (entry _ 0))
