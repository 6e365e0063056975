-- `sorts::of_other` meets its contract: a call in its second phase waits for the callee's root, in its first for its arguments.
use Rattle.std.proofs.Common.{◌≡◌, sym, ap, subst, arith}
use Rattle.table.specs.Bytes.{first, root}
use Rattle.table.proofs.Reading.{told, told_root}
use Rattle.table.specs.Working.{IsFunction}
use Rattle.rules.specs.Sets.{sort}
use Rattle.circuit.proofs.ActBy.{callee_in}
use Rattle.circuit.proofs.ChainLaws.{ok, first_in_lem}
use Rattle.circuit.proofs.PlanLaws.{enter_not}
use Rattle.circuit.proofs.SortLaws.{sort_call, inside_sort, waits_sort}
use Rattle.circuit.proofs.sorts.of_other.Goals as goal
use Rattle.circuit.proofs.sorts.of_other.Lts as lts
use Rattle.circuit.proofs.sorts.of_other.Reads as reads
use Rattle.circuit.proofs.sorts.of_other.Tie as tie

abbrev AfterFirst : Type 0
AfterFirst = lts.After-first tie.the-claims reads.Pre reads.Post

abbrev AfterRoot : Type 0
AfterRoot = lts.After-root tie.the-claims reads.Pre reads.Post

-- what was read is the node's first child
read : (c : AfterFirst) → c.first-c.result.0 ≡ first c.args.design.now.table.now c.args.n.0
read c = told _ _ c.args.design.now.read _ c.requires.0 4 _ (omega arith) c.first-c.ensures

callee : (c : AfterRoot) → IsFunction c.args.design.now.table.now c.args.g.0
callee c =
    let p = c.requires in
    subst (IsFunction _) (sym p.3) (callee_in _ c.args.design.now.read.taken _ p.0 p.2)

roots : (c : AfterRoot) → c.root.result.0 ≡ root c.args.design.now.table.now c.args.g.0
roots c = told_root _ _ c.args.design.now.read _ (callee c) _ c.root.ensures

pub second_at-requires : goal.second_at-requires
second_at-requires c = omega (arith, c.requires.0.1, (ok _ c.args.design.now.read.taken).n_high)

pub once_done-requires : goal.once_done-requires
once_done-requires c = let passes = ok _ c.args.design.now.read.taken in
    omega (arith, roots (search), (passes.linking.roots _ (callee (search))).1, passes.n_high)

pub returns-then-second_at : goal.returns-then-second_at
returns-then-second_at c = let p = c.requires in
    λ v d e. sort_call _ c.args.design.now.read.taken _ p.0 _ _ v d e p.1 _ p.2 p.4 (inside_sort _ _ _ v e _ _ p.3 _
    c.second_at.ensures c.if-second_at.true _ (roots (search)) _ c.once_done.ensures)

pub all_done-requires : goal.all_done-requires
all_done-requires c = first_in_lem _ c.args.design.now.read.taken _ c.requires.0 _ (read (search))

pub returns-then-all_done : goal.returns-then-all_done
returns-then-all_done c = let p = c.requires in
    λ v d e. sort_call _ c.args.design.now.read.taken _ p.0 _ _ v d e p.1 _ p.2 p.4 (waits_sort _ _ _ v e _ _ p.3 _
    c.second_at.ensures c.if-second_at.false _ (read (search)) _ c.all_done.ensures c.if-all_done.true)

pub returns-else-all_done : goal.returns-else-all_done
returns-else-all_done c = let p = c.requires in
    λ v d e. sort_call _ c.args.design.now.read.taken _ p.0 _ _ v d e p.1 _ p.2 p.4 (ap sort (enter_not _ _ _ v e _ _ p.3 _
    c.second_at.ensures c.if-second_at.false _ (read (search)) _ c.all_done.ensures c.if-all_done.false))
