use native.Mathlib.Omega.{arith}
use mathlib.Core.Path.{◌≡◌, refl, sym, ap, ◌∙◌}
use Prim.Native.Nat.{suc, ◌≤◌}
use lib.Dec.{eqb}
use borrow.Author.Tests.{eqb-true, eqb-false}
use Rattle.table.specs.Naming.{parent, under_last}
use Rattle.table.specs.Working.{IsNode}
use Rattle.table.proofs.ChainLoop.{under_none, under_child, under_up}
use Rattle.table.proofs.Family.{parent_lower}
use Rattle.table.proofs.faults.under_last.Goals as goal
use Rattle.table.proofs.faults.under_last.Lts as lts
use Rattle.table.proofs.faults.under_last.Reads as reads
use Rattle.table.proofs.faults.under_last.Tie as tie

abbrev Turn : Type 0
Turn = lts.Then1 tie.the-claims reads.Pre reads.Post goal.the-invariant-loop-a goal.the-decreases-loop-a

abbrev Up : Type 0
Up = lts.After-parent tie.the-claims reads.Pre reads.Post goal.the-invariant-loop-a goal.the-decreases-loop-a

-- a is a node, and what was read is its parent, which is lower
node : (c : Turn) → IsNode c.args.table.now c.loop-a.a.0
node c = (omega arith, c.loop-a.invariant.0)

read : (c : Up) → c.parent-up.result.0 ≡ parent c.args.table.now c.loop-a.a.0
read c = c.parent-up.ensures ∙ c.requires.0.read.node _ 7 (node (search)) (omega arith)

lower : (c : Up) → suc c.parent-up.result.0 ≤ c.loop-a.a.0
lower c = omega (arith, read c, parent_lower c.args.table.now c.loop-a.a.0 (node (search)).0)

pub loop-a-init : goal.loop-a-init
loop-a-init c = (c.requires.0.node.1, refl)

pub returns-then-eq : goal.returns-then-eq
returns-then-eq c = ap (λ x. eqb x 0) (c.next.ensures ∙ c.requires.0.read.node _ 5 (node (search)) (omega arith))
    ∙ sym (c.loop-a.invariant.1 ∙ under_child _ _ c.requires.1 _ (node (search)).0
    (sym (read (search)) ∙ eqb-true _ _ (sym c.if-eq.ensures)))

pub loop-a-smaller : goal.loop-a-smaller
loop-a-smaller c = omega (arith, lower (search))

pub loop-a-preserved : goal.loop-a-preserved
loop-a-preserved c = (
  omega (arith, lower (search), c.loop-a.invariant.0),
  c.loop-a.invariant.1 ∙ under_up _ _ c.requires.1 _ (node (search)).0 (λ e. eqb-false _ _ (sym c.if-eq.ensures) (read (search) ∙ e))
      ∙ ap (under_last _ _) (sym (read (search))),
)

pub returns : goal.returns
returns c = sym (c.loop-a.invariant.1 ∙ under_none _ _ c.requires.1 _ c.loop-a-test.false)
