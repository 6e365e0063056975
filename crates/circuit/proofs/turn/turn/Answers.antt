-- `turn::turn` meets its contract: each way out is one line of `circuit_of`, by a law of `TurnLaws`.
use Rattle.table.proofs.Reading.{told_last}
use Rattle.std.proofs.Common.{◌≡◌, sym, ◌∙◌, arith}
use Rattle.table.specs.Working.{IsNode}
use Rattle.rules.specs.State.{State512}
use Rattle.rules.specs.Step.{Act, Stepped}
use Rattle.rules.specs.Circuit.{act_of, circuit_of}
use Rattle.circuit.specs.Meaning.{state_as}
use Rattle.circuit.proofs.TurnLaws.{turn_zero, turn_past, turn_over, turn_on, Out, out_refused, out_moved}
use Rattle.circuit.proofs.turn.turn.Goals as goal
use Rattle.circuit.proofs.turn.turn.Lts as lts
use Rattle.circuit.proofs.turn.turn.Reads as reads
use Rattle.circuit.proofs.turn.turn.Tie as tie

abbrev Start : Type 0
Start = lts.Start tie.the-claims reads.Pre reads.Post

abbrev Else2 : Type 0
Else2 = lts.Else2 tie.the-claims reads.Pre reads.Post

abbrev Else3 : Type 0
Else3 = lts.Else3 tie.the-claims reads.Pre reads.Post

-- the state that comes in, what `circuit_of` says of it, and the step's act and outcome
abbrev state : Start → State512
state s = state_as s.args.status.now s.args.second.now s.args.value.now s.args.registers.now s.args.occupant.now

abbrev said : Start → Stepped
said s = circuit_of s.args.design.now.table.now s.args.tags.now (state s) s.args.n.0

abbrev act : Start → Act
act s = act_of s.args.design.now.table.now (state s) s.args.n.0

abbrev outcome : Start → Stepped
outcome s = Out s.args.design.now.table.now s.args.tags.now s.args.design.now.read.taken (state s) s.args.n.0 (act s)

node : (c : Else2) → IsNode c.args.design.now.table.now c.args.n.0
node c =
    (omega (arith, c.if-n-eq0.false), omega (arith, c.if-last-n.false, told_last _ _ c.args.design.now.read _ c.last-last.ensures))

on : (c : Else3) → said ((search)) ≡ outcome ((search))
on c =
    turn_on _ _ c.args.design.now.read.taken (state (search)) _ c.if-n-eq0.false (node (search)).1 c.requires.1 _ _ c.top-root.ensures.0
    c.status_at.ensures c.if-status_at-eq3.false

pub returns-then-n-eq0 : goal.returns-then-n-eq0
returns-then-n-eq0 c = turn_zero _ _ c.args.design.now.read.taken (state (search)) _ c.if-n-eq0.true

pub returns-then-last-n : goal.returns-then-last-n
returns-then-last-n c = turn_past _ _ c.args.design.now.read.taken (state (search)) _ c.if-n-eq0.false (omega (
  arith,
  c.if-last-n.true,
  told_last _ _ c.args.design.now.read _
      c.last-last.ensures,
))

pub returns-then-status_at-eq3 : goal.returns-then-status_at-eq3
returns-then-status_at-eq3 c = turn_over _ _ c.args.design.now.read.taken (state (search)) _ c.if-n-eq0.false (node
    (search)).1 c.requires.1 _ _
    c.top-root.ensures.0
    c.status_at.ensures c.if-status_at-eq3.true

pub returns-in-Some : goal.returns-in-Some
returns-in-Some c = out_refused _ c.args.tags.now c.args.design.now.read.taken (state (search)) c.args.n.0 (act (search)) c.in-Some.why
    (c.in-Some.ensures _)
    ∙ sym (on (search))

pub returns : goal.returns
returns c = let m = c.take.ensures in
    out_moved _ c.args.tags.now c.args.design.now.read.taken (state (search)) c.args.n.0 c.take.result m.0 _ m.1 _
    c.top-root.ensures.0 _ c.told.ensures ∙ sym (on (search))
