-- `plan::of_call` meets its contract, by whether the call is of its own function.
use Rattle.std.proofs.Common.{◌≡◌, sym, refl, ◌∙◌, subst, arith}
use borrow.Author.Tests.{eqb-true, eqb-false}
use Rattle.table.specs.Bytes.{word}
use Rattle.table.proofs.Reading.{told, told_low}
use Rattle.table.specs.Naming.{owner}
use Rattle.rules.specs.Step.{does, restarts}
use Rattle.circuit.specs.Working.{kept_by}
use Rattle.circuit.proofs.ActBy.{self_by, callee_in}
use Rattle.circuit.proofs.ChainLaws.{ok}
use Rattle.circuit.proofs.PlanLaws.{acts_self, self_yes}
use Rattle.circuit.proofs.MoveLaws.{kids_done, self_done}
use Rattle.circuit.proofs.plan.of_call.Goals as goal
use Rattle.circuit.proofs.plan.of_call.Lts as lts
use Rattle.circuit.proofs.plan.of_call.Reads as reads
use Rattle.circuit.proofs.plan.of_call.Tie as tie

abbrev AfterCallee : Type 0
AfterCallee = lts.After-callee tie.the-claims reads.Pre reads.Post

abbrev AfterOwner : Type 0
AfterOwner = lts.After-owner tie.the-claims reads.Pre reads.Post

word_read : (c : AfterCallee) → c.callee-callee.result.0 ≡ word c.args.design.now.table.now c.args.n.0
word_read c =
    let p = c.requires in
    told_low _ _ c.args.design.now.read _ p.0 (omega (
      arith,
      (callee_in _ c.args.design.now.read.taken _ p.0 p.1).1,
      (ok _ c.args.design.now.read.taken).f_high,
    )) _
    c.callee-callee.ensures

own_read : (c : AfterOwner) → c.owner-own.result.0 ≡ owner c.args.design.now.table.now c.args.n.0
own_read c =
    let p = c.requires in
    told _ _ c.args.design.now.read _ p.0 6 _ (omega arith) c.owner-own.ensures

pub returns-then-eq : goal.returns-then-eq
returns-then-eq c = let p = c.requires in
    let w = sym (word_read (search)) ∙ eqb-true _ _ (sym c.eq.ensures ∙ c.if-eq.true) ∙ own_read (search) in
    λ a d e busy h. acts_self _ c.args.design.now.read.taken _ p.0 a _ _ d e _ busy p.1 w
    (subst (λ f. does (restarts f (kept_by c.args.design.now.table.now c.args.value.now f c.args.n.0))
    ≡ self_by c.args.design.now.table.now a c.args.value.now c.args.n.0) (sym (own_read (search)))
    (self_yes _ a _ _ refl _ refl _ (kids_done _ a _ _ refl (self_done _ c.args.design.now.read.taken _ p.0 a _ _ d e h busy p.1 w))))

pub of_other-requires : goal.of_other-requires
of_other-requires c = let p = c.requires in
    let other = eqb-false _ _ (sym c.eq.ensures ∙ c.if-eq.false) in
    (p.0, p.1, word_read (search), λ q. other (word_read (search) ∙ q ∙ sym (own_read (search))))

pub returns : goal.returns
returns c = λ a d e. c.of_other.ensures a d e
