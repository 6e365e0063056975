use native.Mathlib.Omega.{arith}
use mathlib.Core.Path.{◌≡◌, refl, sym, ◌∙◌}
use Rattle.table.specs.Bytes.{nodes}
use Rattle.table.specs.Find.{lowest}
use Rattle.table.specs.Check.{linked}
use Rattle.table.specs.Working.{IsNode}
use Rattle.table.proofs.Turns.{lowest_turn, lowest_here}
use Rattle.table.proofs.NameLoops.{told_linked}
use Rattle.table.proofs.names.lowest_unlinked.Goals as goal
use Rattle.table.proofs.names.lowest_unlinked.Lts as lts
use Rattle.table.proofs.names.lowest_unlinked.Reads as reads
use Rattle.table.proofs.names.lowest_unlinked.Tie as tie

abbrev Turn : Type 0
Turn = lts.In-loop tie.the-claims reads.Pre reads.Post goal.the-invariant-loop-n goal.the-decreases-loop-n

-- a turn: n is a node
module _ (c : Turn) where
  node : IsNode c.args.table.now c.loop-n.n
  node = (omega arith, omega (arith, c.last-last.ensures, c.requires.1.own 1 (omega arith)))

abbrev Told : Type 0
Told = lts.After-linked_at tie.the-claims reads.Pre reads.Post goal.the-invariant-loop-n goal.the-decreases-loop-n

-- the test at a node is refusal 4's
tests : (c : Told) → c.linked_at.result ≡ linked c.args.table.now c.loop-n.n
tests c =
    let i = node (search) in
    let p = c.requires in
    c.linked_at.ensures ∙ told_linked _ _ _ _ _ _ _ (c.first-first.ensures ∙ p.1.node _ 4 i (omega arith))
    (c.next-next.ensures ∙ p.1.node _ 5 i (omega arith)) (p.2 _ i) (p.3 _ i)
    (c.last-last.ensures ∙ p.1.own 1 (omega arith))

pub loop-n-init : goal.loop-n-init
unfolding lowest
loop-n-init c = refl

pub returns-then-not-linked_at : goal.returns-then-not-linked_at
returns-then-not-linked_at c = (
  lowest_here (linked _) _ (omega arith) c.loop-n.invariant (sym (tests (search)) ∙ c.if-not-linked_at.true) _ (node (search)).1,
  omega arith,
)

pub loop-n-preserved : goal.loop-n-preserved
loop-n-preserved c =
    lowest_turn (linked _) _ _ (omega arith) (omega arith) c.loop-n.invariant (sym (tests (search)) ∙ c.if-not-linked_at.false)

pub returns-else-not-linked_at : goal.returns-else-not-linked_at
returns-else-not-linked_at c =
    let e : c.loop-n.n ≡ nodes c.args.table.now = omega (arith, c.last-last.ensures, c.requires.1.own 1 (omega arith)) in
    lowest_turn (linked _) _ _ (omega arith) (sym e) c.loop-n.invariant (sym (tests (search)) ∙ c.if-not-linked_at.false)
