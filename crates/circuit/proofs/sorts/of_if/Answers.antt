-- `sorts::of_if` meets its contract: an if in its second phase waits for the branch, in its first for the condition.
use Rattle.std.proofs.Common.{◌≡◌, ◌≤◌, eqb, sym, subst, arith}
use Rattle.table.specs.Bytes.{first, next}
use Rattle.table.proofs.Reading.{told}
use Rattle.table.specs.Working.{IsNode}
use Rattle.rules.specs.State.{entry}
use Rattle.circuit.proofs.ActBy.{three_in}
use Rattle.circuit.proofs.ChainLaws.{ok}
use Rattle.circuit.proofs.PlanLaws.{branch_small}
use Rattle.circuit.proofs.SortLaws.{sort_cond, cond_second, cond_first}
use Rattle.circuit.proofs.sorts.of_if.Goals as goal
use Rattle.circuit.proofs.sorts.of_if.Lts as lts
use Rattle.circuit.proofs.sorts.of_if.Reads as reads
use Rattle.circuit.proofs.sorts.of_if.Tie as tie

abbrev AfterFirst : Type 0
AfterFirst = lts.After-first tie.the-claims reads.Pre reads.Post

-- what was read is the node's first child
read : (c : AfterFirst) → c.first-a.result.0 ≡ first c.args.design.now.table.now c.args.n.0
read c = told _ _ c.args.design.now.read _ c.requires.0 4 _ (omega arith) c.first-a.ensures

-- an if has three children
three : (c : AfterFirst) → let t = c.args.design.now.table.now in let n = c.args.n.0 in
    IsNode t (first t n) × IsNode t (next t (first t n)) × IsNode t (next t (next t (first t n)))
three c =
    let p = c.requires in
    three_in _ c.args.design.now.read.taken _ p.0 p.2

condition : (c : AfterFirst) → IsNode c.args.design.now.table.now c.first-a.result.0
condition c = subst (IsNode _) (sym (read c)) (three c).0

pub second_at-requires : goal.second_at-requires
second_at-requires c = omega (arith, c.requires.0.1, (ok _ c.args.design.now.read.taken).n_high)

pub branch-design-requires : goal.branch-design-requires
branch-design-requires c = (
  condition (search),
  subst (λ m. IsNode c.args.design.now.table.now (next c.args.design.now.table.now m)) (sym (read (search)))
      (three (search)).1,
)

pub once_done-requires : goal.once_done-requires
once_done-requires c = let n = (ok _ c.args.design.now.read.taken).n_high in
    let t = c.args.design.now.table.now in
    let x = subst (λ m. next t (next t m) ≤ 512) (sym (read (search))) (omega (arith, (three (search)).2.1, n)) in
    let y = subst (λ m. next t m ≤ 512) (sym (read (search))) (omega (arith, (three (search)).1.1, n)) in
    branch_small (eqb (entry c.args.value.now 0 c.first-a.result.0) 0) _ _ _ 512 c.branch-design.ensures x y

pub returns-then-second_at : goal.returns-then-second_at
returns-then-second_at c = let p = c.requires in
    λ d e. sort_cond _ c.args.design.now.read.taken _ p.0 _ _ _ d e p.1 _ p.2 (cond_second _ _ _ _ _ _ (read
    (search)) _ c.second_at.ensures _
    c.if-second_at.true _ c.branch-design.ensures c.once_done.ensures)

pub once_done-requires-2 : goal.once_done-requires-2
once_done-requires-2 c = omega (arith, (condition (search)).1, (ok _ c.args.design.now.read.taken).n_high)

pub returns : goal.returns
returns c = let p = c.requires in
    λ d e. sort_cond _ c.args.design.now.read.taken _ p.0 _ _ _ d e p.1 _ p.2 (cond_first _ _ _ _ _ _ (read
    (search)) _ c.second_at.ensures _
    c.if-second_at.false c.once_done-2.ensures)
