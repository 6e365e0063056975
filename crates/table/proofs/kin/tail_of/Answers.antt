-- `kin::tail_of` meets its contract, by the kind of the parent.
use native.Mathlib.Omega.{arith}
use mathlib.Core.Path.{◌≡◌, ◌∙◌}
use Rattle.std.proofs.lemmas.Grind.{common_steps}
use Rattle.std.proofs.lemmas.Bool.Decides.{nat_tests}
use Rattle.table.specs.Bytes.{kind, first, next}
use Rattle.table.specs.Naming.{tail_child}
use Rattle.table.specs.Working.{IsNode}
use Rattle.table.proofs.kin.tail_of.Goals as goal
use Rattle.table.proofs.kin.tail_of.Lts as lts
use Rattle.table.proofs.kin.tail_of.Reads as reads
use Rattle.table.proofs.kin.tail_of.Tie as tie

abbrev AfterKind : Type 0
AfterKind = lts.After-kind tie.the-claims reads.Pre reads.Post

abbrev AfterFirst : Type 0
AfterFirst = lts.After-first tie.the-claims reads.Pre reads.Post

abbrev AfterNext : Type 0
AfterNext = lts.After-next tie.the-claims reads.Pre reads.Post

above : (c : AfterKind) → IsNode c.args.table.now c.args.p.0
above c = (omega arith, omega (arith, c.requires.1.1))

kinded : (c : AfterKind) → c.kind.result ≡ kind c.args.table.now c.args.p.0
kinded c = c.kind.ensures ∙ c.requires.0.node _ 0 (above (search)) (omega arith)

firsts : (c : AfterFirst) → c.first.result.0 ≡ first c.args.table.now c.args.p.0
firsts c = c.first.ensures ∙ c.requires.0.node _ 4 (above (search)) (omega arith)

nexts : (c : AfterNext) → c.next.result.0 ≡ next c.args.table.now c.args.n.0
nexts c = c.next.ensures ∙ c.requires.0.node _ 5 c.requires.1 (omega arith)

pub returns-then-ne : goal.returns-then-ne
unfolding tail_child
returns-then-ne c = grind (arith, nat_tests, common_steps, kinded (search), firsts (search))

pub returns-else-ne : goal.returns-else-ne
unfolding tail_child
returns-else-ne c = grind (arith, nat_tests, common_steps, kinded (search), firsts (search))

pub returns-then-next-eq0 : goal.returns-then-next-eq0
unfolding tail_child
returns-then-next-eq0 c = grind (arith, nat_tests, common_steps, kinded (search), nexts (search))

pub returns-else-next-eq0 : goal.returns-else-next-eq0
unfolding tail_child
returns-else-next-eq0 c = grind (arith, nat_tests, common_steps, kinded (search), nexts (search))

pub returns-in_default : goal.returns-in_default
unfolding tail_child
returns-in_default c = grind (arith, nat_tests, common_steps, kinded (search))
