-- `tracking::entered` meets its contract, by phase and status.
use Rattle.std.proofs.Common.{arith}
use Rattle.circuit.specs.Meaning.{state_as}
use Rattle.circuit.proofs.ChainLaws.{ok}
use Rattle.circuit.proofs.TrackLaws.{inside_is, inside_idle, inside_first}
use Rattle.circuit.proofs.tracking.entered.Goals as goal

pub second_at-requires : goal.second_at-requires
second_at-requires c = omega (arith, c.requires.1, (ok _ c.args.design.now.read.taken).n_high)

pub status_at-requires : goal.status_at-requires
status_at-requires c = omega (arith, c.requires.1, (ok _ c.args.design.now.read.taken).n_high)

pub returns-then-status_at-eq2 : goal.returns-then-status_at-eq2
returns-then-status_at-eq2 c = λ x y z. inside_is _ c.args.design.now.read.taken _ c.requires _ c.is_call.ensures
    (state_as c.args.status.now c.args.second.now x y z) _ c.status_at.ensures c.if-status_at-eq2.true
    _ c.second_at.ensures c.if-second_at.true

pub returns-else-status_at-eq2 : goal.returns-else-status_at-eq2
returns-else-status_at-eq2 c = λ x y z. inside_idle _ c.args.design.now.read.taken _ c.requires
    (state_as c.args.status.now c.args.second.now x y z) _
    c.status_at.ensures c.if-status_at-eq2.false

pub returns-else-second_at : goal.returns-else-second_at
returns-else-second_at c = λ x y z. inside_first _ c.args.design.now.read.taken _ c.requires
    (state_as c.args.status.now c.args.second.now x y z) _
    c.second_at.ensures c.if-second_at.false
