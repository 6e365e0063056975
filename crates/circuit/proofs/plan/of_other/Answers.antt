-- `plan::of_other` meets its contract: a call in its second phase leaves, in its first it enters.
use Rattle.std.proofs.Common.{◌≡◌, sym, refl, ap, ◌∙◌, subst, arith}
use Rattle.table.specs.Bytes.{root}
use Rattle.table.proofs.Reading.{told_root}
use Rattle.table.specs.Working.{IsFunction}
use Rattle.rules.specs.State.{entry}
use Rattle.circuit.proofs.ActBy.{callee_in}
use Rattle.circuit.proofs.ChainLaws.{ok}
use Rattle.circuit.proofs.PlanLaws.{acts_call, leave_yes, enter_yes}
use Rattle.circuit.proofs.MoveLaws.{kids_done, leave_done, enter_free}
use Rattle.circuit.proofs.WidthLaws.{own_read}
use Rattle.circuit.proofs.plan.of_other.Goals as goal
use Rattle.circuit.proofs.plan.of_other.Lts as lts
use Rattle.circuit.proofs.plan.of_other.Reads as reads
use Rattle.circuit.proofs.plan.of_other.Tie as tie

abbrev AfterRoot : Type 0
AfterRoot = lts.After-root tie.the-claims reads.Pre reads.Post

callee : (c : AfterRoot) → IsFunction c.args.design.now.table.now c.args.g.0
callee c =
    let p = c.requires in
    subst (IsFunction _) (sym p.2) (callee_in _ c.args.design.now.read.taken _ p.0 p.1)

roots : (c : AfterRoot) → c.root-r.result.0 ≡ root c.args.design.now.table.now c.args.g.0
roots c = told_root _ _ c.args.design.now.read _ (callee c) _ c.root-r.ensures

pub second_at-requires : goal.second_at-requires
second_at-requires c = omega (arith, c.requires.0.1, (ok _ c.args.design.now.read.taken).n_high)

pub value_at-v-requires : goal.value_at-v-requires
value_at-v-requires c = let passes = ok _ c.args.design.now.read.taken in
    omega (arith, roots (search), (passes.linking.roots _ (callee (search))).1, passes.n_high)

pub keep-requires : goal.keep-requires
keep-requires c = (own_read _ _ c.args.design.now.read _ c.requires.0 _ c.owner.ensures).1

pub returns-then-second_at : goal.returns-then-second_at
returns-then-second_at c = let p = c.requires in
    λ a d e busy h. acts_call _ c.args.design.now.read.taken _ p.0 a _ _ d e _ busy p.1 p.3 (leave_yes _ a _ _ e _ _ p.2 _
    c.second_at.ensures c.if-second_at.true _ (roots (search)) _ refl
    (ap (entry a 0) (roots (search) ∙ ap (root _) p.2) ∙ leave_done _ c.args.design.now.read.taken _ p.0 a _ _ d e h busy p.1 p.3
    (sym c.second_at.ensures ∙ c.if-second_at.true)) _ _ _ c.value_at-v.ensures
    (own_read _ _ c.args.design.now.read _ p.0 _ c.owner.ensures).0
    c.keep.ensures)

pub returns : goal.returns
returns c = let p = c.requires in
    λ a d e busy h. let z = enter_free _ c.args.design.now.read.taken _ p.0 a _ _ d e h busy p.1 p.3
    (sym c.second_at.ensures ∙ c.if-second_at.false) in
    acts_call _ c.args.design.now.read.taken _ p.0 a _ _ d e _ busy p.1 p.3 (enter_yes _ a _ _ e _ _ p.2 _
    c.second_at.ensures c.if-second_at.false _ refl _ refl (kids_done _ a _ _ refl z.0) _ refl
    (ap (entry e 0) p.2 ∙ z.1))
