-- `tracking::is_call` meets its contract, by kind.
use Rattle.std.proofs.Common.{◌≡◌, sym, ◌∙◌, arith}
use Rattle.table.specs.Bytes.{kind}
use Rattle.table.proofs.Reading.{told, told_low}
use Rattle.circuit.proofs.ActBy.{callee_in}
use Rattle.circuit.proofs.ChainLaws.{ok}
use Rattle.circuit.proofs.TrackLaws.{call_is, call_not}
use Rattle.circuit.proofs.tracking.is_call.Goals as goal
use Rattle.circuit.proofs.tracking.is_call.Lts as lts
use Rattle.circuit.proofs.tracking.is_call.Reads as reads
use Rattle.circuit.proofs.tracking.is_call.Tie as tie

abbrev AfterKind : Type 0
AfterKind = lts.After-kind tie.the-claims reads.Pre reads.Post

-- what was read is the node's kind
kinds : (c : AfterKind) → c.kind.result ≡ kind c.args.design.now.table.now c.args.n.0
kinds c = told _ _ c.args.design.now.read _ c.requires 0 _ (omega arith) c.kind.ensures

pub returns-then-kind-eq4 : goal.returns-then-kind-eq4
returns-then-kind-eq4 c = let p = c.requires in
    let four = sym (kinds (search)) ∙ c.if-kind-eq4.true in
    c.ne.ensures ∙ call_is _ _ _ (kinds (search)) c.if-kind-eq4.true _ _
    (told_low _ _ c.args.design.now.read _ p (omega (
      arith,
      (callee_in _ c.args.design.now.read.taken _ p four).1,
      (ok _ c.args.design.now.read.taken).f_high,
    )) _
    c.callee.ensures)
    (told _ _ c.args.design.now.read _ p 6 _ (omega arith) c.owner.ensures)

pub returns : goal.returns
returns c = call_not _ _ _ (kinds (search)) c.if-kind-eq4.false
