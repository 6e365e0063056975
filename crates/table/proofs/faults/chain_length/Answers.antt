use native.Mathlib.Omega.{arith}
use mathlib.Core.Path.{◌≡◌, ◌∙◌}
use Rattle.table.specs.Bytes.{next}
use Rattle.table.proofs.ChainLoop.{chain_start, chain_next, chain_falls, chain_end}
use Rattle.table.proofs.faults.chain_length.Goals as goal
use Rattle.table.proofs.faults.chain_length.Lts as lts
use Rattle.table.proofs.faults.chain_length.Reads as reads
use Rattle.table.proofs.faults.chain_length.Tie as tie

abbrev AfterNext : Type 0
AfterNext = lts.After-next tie.the-claims reads.Pre reads.Post goal.the-invariant-loop-at goal.the-decreases-loop-at

-- what was read is the next sibling
read : (c : AfterNext) → c.next-at.result.0 ≡ next c.args.table.now c.loop-at.at.0
read c =
    c.next-at.ensures ∙ c.requires.2.node _ 5 (omega arith, c.loop-at.invariant.inside) (omega arith)

pub loop-at-init : goal.loop-at-init
loop-at-init c = chain_start _ _ c.requires.3

pub overflow_add-count : goal.overflow_add-count
overflow_add-count c = omega (arith, c.loop-at.invariant.few c.loop-at-test.true, c.loop-at.invariant.inside, c.requires.0.n_high)

pub loop-at-smaller : goal.loop-at-smaller
loop-at-smaller c = chain_falls _ c.requires.1 _ _ _ c.loop-at.invariant c.loop-at-test.true _ (read (search))

pub loop-at-preserved : goal.loop-at-preserved
loop-at-preserved c = chain_next _ c.requires.1 _ _ _ c.loop-at.invariant c.loop-at-test.true _ (read (search))

pub returns : goal.returns
returns c = chain_end _ c.requires.1 _ _ _ c.loop-at.invariant c.loop-at-test.false
