-- `plan::of_if` meets its contract: an if in its second phase is done, in its first it opens the branch.
use Rattle.std.proofs.Common.{◌≡◌, ◌≤◌, eqb, sym, refl, ap, ◌∙◌, subst, arith}
use Rattle.table.specs.Bytes.{first, next}
use Rattle.table.proofs.Reading.{told}
use Rattle.rules.specs.State.{entry}
use Rattle.table.specs.Working.{IsNode}
use Rattle.circuit.proofs.ActBy.{three_in}
use Rattle.circuit.proofs.ChainLaws.{ok}
use Rattle.circuit.proofs.PlanLaws.{acts_cond, branch_small, pass_yes, taken_branch, cond_pass, cond_turn}
use Rattle.circuit.proofs.MoveLaws.{cond_pass_done, cond_turn_done}
use Rattle.circuit.proofs.plan.of_if.Goals as goal
use Rattle.circuit.proofs.plan.of_if.Lts as lts
use Rattle.circuit.proofs.plan.of_if.Reads as reads
use Rattle.circuit.proofs.plan.of_if.Tie as tie

abbrev AfterFirst : Type 0
AfterFirst = lts.After-first tie.the-claims reads.Pre reads.Post

-- what was read is the node's first child
read : (c : AfterFirst) → c.first-a.result.0 ≡ first c.args.design.now.table.now c.args.n.0
read c = told _ _ c.args.design.now.read _ c.requires.0 4 _ (omega arith) c.first-a.ensures

-- an if has three children
three : (c : AfterFirst) → let t = c.args.design.now.table.now in let n = c.args.n.0 in
    IsNode t (first t n) × IsNode t (next t (first t n)) × IsNode t (next t (next t (first t n)))
three c =
    let p = c.requires in
    three_in _ c.args.design.now.read.taken _ p.0 p.1

pub branch-r-requires : goal.branch-r-requires
branch-r-requires c = (
  subst (IsNode _) (sym (read (search))) (three (search)).0,
  subst (λ m. IsNode c.args.design.now.table.now (next c.args.design.now.table.now m)) (sym (read (search)))
      (three (search)).1,
)

pub second_at-requires : goal.second_at-requires
second_at-requires c = omega (arith, c.requires.0.1, (ok _ c.args.design.now.read.taken).n_high)

pub value_at-requires : goal.value_at-requires
value_at-requires c = let n = (ok _ c.args.design.now.read.taken).n_high in
    let t = c.args.design.now.table.now in
    let x = subst (λ m. next t (next t m) ≤ 512) (sym (read (search))) (omega (arith, (three (search)).2.1, n)) in
    let y = subst (λ m. next t m ≤ 512) (sym (read (search))) (omega (arith, (three (search)).1.1, n)) in
    branch_small (eqb (entry c.args.value.now 0 c.first-a.result.0) 0) _ _ _ 512 c.branch-r.ensures x y

pub returns-then-second_at : goal.returns-then-second_at
returns-then-second_at c = let p = c.requires in
    λ a d e busy h. acts_cond _ c.args.design.now.read.taken _ p.0 a _ _ d e _ busy p.1 (cond_pass _ a _ _ _ _ (read
    (search)) _ c.branch-r.ensures _
    c.second_at.ensures _ c.if-second_at.true (pass_yes a _ _ _ refl _ c.value_at.ensures
    (ap (entry a 0) (taken_branch _ a _ _ _ _ (read (search)) _ c.branch-r.ensures _ c.second_at.ensures)
    ∙ cond_pass_done _ c.args.design.now.read.taken _ p.0 a _ _ d e h busy p.1 (sym c.second_at.ensures ∙ c.if-second_at.true))))

pub returns : goal.returns
returns c = let p = c.requires in
    λ a d e busy h. acts_cond _ c.args.design.now.read.taken _ p.0 a _ _ d e _ busy p.1 (cond_turn _ a _ _ _ _ (read
    (search)) _ c.branch-r.ensures _
    c.second_at.ensures c.if-second_at.false _ refl (ap (entry a 0) (read (search))
    ∙ cond_turn_done _ c.args.design.now.read.taken _ p.0 a _ _ d e h busy p.1 (sym c.second_at.ensures ∙ c.if-second_at.false)))
