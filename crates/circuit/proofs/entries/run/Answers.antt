use Rattle.std.proofs.Common.{sym, refl, ap, ◌∙◌, arith}
use Rattle.rules.specs.State.{State512}
use Rattle.circuit.specs.Meaning.{reply_of, state_as}
use Rattle.circuit.proofs.EntryLaws.{run_stops, run_goes_on, run_stands, run_whole}
use Rattle.circuit.proofs.entries.run.Goals as goal
use Rattle.circuit.proofs.entries.run.Lts as lts
use Rattle.circuit.proofs.entries.run.Reads as reads
use Rattle.circuit.proofs.entries.run.Tie as tie

abbrev Head : Type 0
Head = lts.At-loop tie.the-claims reads.Pre reads.Post goal.the-invariant-loop-i goal.the-decreases-loop-i

-- the state at the loop's head
abbrev state : Head → State512
state h = let l = h.loop-i in state_as l.status l.second l.value l.registers l.occupant

pub returns-in-Refused : goal.returns-in-Refused
returns-in-Refused c = let p = c.requires in
    run_stops _ _ p.0 (state (search)) _ _ c.loop-i-test.true (reply_of c.turn-answer.result) _ c.turn-answer.ensures _ _
    (ap reply_of c.in-Refused.is) _ refl ∙ sym c.loop-i.invariant.1

pub loop-i-preserved : goal.loop-i-preserved
loop-i-preserved c = let p = c.requires in
    let some = c.loop-i-test.true in
    let r = reply_of c.turn-answer.result in
    let e = c.turn-answer.ensures in (
      run_stands _ _ p.0 (state (search)) c.args.nodes.now _ some r _ e c.loop-i.invariant.0,
      c.loop-i.invariant.1 ∙ run_goes_on _ _ p.0 (state (search)) _ _ some r _ e c.turn-answer.result c.in_default.not-Refused refl,
    )

pub returns : goal.returns
returns c = run_whole _ _ c.requires.0 (state (search)) c.args.nodes.now c.loop-i.i (omega arith) _ refl ∙ sym c.loop-i.invariant.1
