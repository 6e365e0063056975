-- `entries::step` meets its contract: 12, 24, then the rest.
use Rattle.std.proofs.Common.{◌≡◌, arith}
use Rattle.table.specs.Bytes.{nodes}
use Rattle.table.proofs.Reading.{told_last}
use Rattle.rules.specs.State.{State512}
use Rattle.circuit.specs.Meaning.{state_as}
use Rattle.circuit.proofs.EntryLaws.{step_stray}
use Rattle.circuit.proofs.TurnLaws.{turn_zero, turn_past}
use Rattle.circuit.proofs.entries.step.Goals as goal
use Rattle.circuit.proofs.entries.step.Lts as lts
use Rattle.circuit.proofs.entries.step.Reads as reads
use Rattle.circuit.proofs.entries.step.Tie as tie

abbrev Start : Type 0
Start = lts.Start tie.the-claims reads.Pre reads.Post

abbrev AfterLast : Type 0
AfterLast = lts.After-last tie.the-claims reads.Pre reads.Post

abbrev state : Start → State512
state s = state_as s.args.status.now s.args.second.now s.args.value.now s.args.registers.now s.args.occupant.now

last : (c : AfterLast) → c.last-last.result.0 ≡ nodes c.args.design.now.table.now
last c = told_last _ _ c.args.design.now.read _ c.last-last.ensures

pub returns-then-n-eq0 : goal.returns-then-n-eq0
returns-then-n-eq0 c = turn_zero _ _ c.args.design.now.read.taken (state (search)) _ c.if-n-eq0.true

pub returns-then-last-n : goal.returns-then-last-n
returns-then-last-n c = turn_past _ _ c.args.design.now.read.taken (state (search)) _ c.if-n-eq0.false (omega
    (arith, c.if-last-n.true, last (search)))

pub returns-then-strays : goal.returns-then-strays
returns-then-strays c = step_stray _ _ c.args.design.now.read.taken (state (search)) _ c.if-n-eq0.false
    (omega (arith, c.if-last-n.false, last (search))) _
    c.strays.ensures c.if-strays.true
