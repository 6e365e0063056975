-- `sorts::of_call` meets its contract, by whether the call is of its own function.
use Rattle.std.proofs.Common.{◌≡◌, sym, ◌∙◌, arith}
use borrow.Author.Tests.{eqb-true, eqb-false}
use Rattle.table.specs.Bytes.{word}
use Rattle.table.proofs.Reading.{told, told_low}
use Rattle.table.specs.Naming.{owner}
use Rattle.circuit.proofs.ActBy.{callee_in}
use Rattle.circuit.proofs.ChainLaws.{ok}
use Rattle.circuit.proofs.SortLaws.{sort_self, gathered_self}
use Rattle.circuit.proofs.sorts.of_call.Goals as goal
use Rattle.circuit.proofs.sorts.of_call.Lts as lts
use Rattle.circuit.proofs.sorts.of_call.Reads as reads
use Rattle.circuit.proofs.sorts.of_call.Tie as tie

abbrev AfterCallee : Type 0
AfterCallee = lts.After-callee tie.the-claims reads.Pre reads.Post

abbrev AfterOwner : Type 0
AfterOwner = lts.After-owner tie.the-claims reads.Pre reads.Post

word_read : (c : AfterCallee) → c.callee-callee.result.0 ≡ word c.args.design.now.table.now c.args.n.0
word_read c =
    let p = c.requires in
    told_low _ _ c.args.design.now.read _ p.0 (omega (
      arith,
      (callee_in _ c.args.design.now.read.taken _ p.0 p.2).1,
      (ok _ c.args.design.now.read.taken).f_high,
    )) _
    c.callee-callee.ensures

own_read : (c : AfterOwner) → c.owner.result.0 ≡ owner c.args.design.now.table.now c.args.n.0
own_read c =
    let p = c.requires in
    told _ _ c.args.design.now.read _ p.0 6 _ (omega arith) c.owner.ensures

pub returns-then-eq : goal.returns-then-eq
returns-then-eq c = let p = c.requires in
    let same = eqb-true _ _ (sym c.eq.ensures ∙ c.if-eq.true) in
    λ v d e. sort_self _ c.args.design.now.read.taken _ p.0 _ _ v d e p.1 _ p.2 (sym (word_read (search)) ∙ same ∙ own_read (search))
    (gathered_self _ _ _ _ _ c.once_all_done.ensures)

pub of_other-requires : goal.of_other-requires
of_other-requires c = let p = c.requires in
    let other = eqb-false _ _ (sym c.eq.ensures ∙ c.if-eq.false) in
    (p.0, p.1, p.2, word_read (search), λ q. other (word_read (search) ∙ q ∙ sym (own_read (search))))

pub returns : goal.returns
returns c = λ v d e. c.of_other.ensures v d e
