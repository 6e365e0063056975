-- `plan::plan_at` meets its contract, by status.
use Rattle.std.proofs.Common.{sym, ◌∙◌, arith}
use Rattle.circuit.proofs.ChainLaws.{ok}
use Rattle.circuit.proofs.plan.plan_at.Goals as goal

pub status_at-requires : goal.status_at-requires
status_at-requires c = omega (arith, c.requires.1, (ok _ c.args.design.now.read.taken).n_high)

pub returns-then-status_at-eq1 : goal.returns-then-status_at-eq1
returns-then-status_at-eq1 c = λ e. c.of_open.ensures _ _ e (sym c.status_at.ensures ∙ c.if-status_at-eq1.true)

pub returns : goal.returns
returns c = λ e. c.of_busy.ensures _ _ e (λ q. c.if-status_at-eq1.false (c.status_at.ensures ∙ q))
