-- `tracking::barred` meets its contract, by whether the node is a call.
use Rattle.std.proofs.Common.{◌≡◌, arith}
use Rattle.table.specs.Bytes.{word}
use Rattle.table.specs.Working.{IsFunction}
use Rattle.table.proofs.Reading.{told_low}
use Rattle.circuit.specs.Meaning.{state_as}
use Rattle.circuit.proofs.ActBy.{callee_in}
use Rattle.circuit.proofs.ChainLaws.{ok}
use Rattle.circuit.proofs.TrackLaws.{call_kind, held_is, held_not}
use Rattle.circuit.proofs.tracking.barred.Goals as goal
use Rattle.circuit.proofs.tracking.barred.Lts as lts
use Rattle.circuit.proofs.tracking.barred.Reads as reads
use Rattle.circuit.proofs.tracking.barred.Tie as tie

abbrev AfterCallee : Type 0
AfterCallee = lts.After-callee tie.the-claims reads.Pre reads.Post

-- a call's word is a function
function : (c : AfterCallee) → IsFunction c.args.design.now.table.now (word c.args.design.now.table.now c.args.n.0)
function c =
    let p = c.requires in
    callee_in _ c.args.design.now.read.taken _ p (call_kind _ _ _ c.is_call.ensures c.if-is_call.true)

-- which was read
read : (c : AfterCallee) → c.callee.result.0 ≡ word c.args.design.now.table.now c.args.n.0
read c =
    let p = c.requires in
    told_low _ _ c.args.design.now.read _ p (omega (arith, (function c).1, (ok _ c.args.design.now.read.taken).f_high)) _ c.callee.ensures

pub occupant_at-requires : goal.occupant_at-requires
occupant_at-requires c = omega (arith, read (search), (function (search)).1, (ok _ c.args.design.now.read.taken).f_high)

pub returns-then-is_call : goal.returns-then-is_call
returns-then-is_call c = λ x y z u. held_is _ c.args.design.now.read.taken _ c.requires _ c.is_call.ensures
    (state_as x y z u c.args.occupant.now)
    c.if-is_call.true _ _ (read (search)) c.occupant_at.ensures

pub returns : goal.returns
returns c = λ x y z u. held_not _ c.args.design.now.read.taken _ c.requires _ c.is_call.ensures (state_as x y z u c.args.occupant.now)
    c.if-is_call.false
