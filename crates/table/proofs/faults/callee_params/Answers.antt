-- `faults::callee_params` meets its contract: only a call's word is read as a function.
use native.Mathlib.Omega.{arith}
use mathlib.Core.Path.{◌∙◌}
use Rattle.table.proofs.faults.callee_params.Goals as goal

pub returns-then-kind-ne4 : goal.returns-then-kind-ne4
returns-then-kind-ne4 c = λ e. absurd (c.if-kind-ne4.true e)

pub overflow_cast-f : goal.overflow_cast-f
overflow_cast-f c = omega (arith, (c.requires.2 c.if-kind-ne4.false).1, c.requires.0.f_high)

pub returns : goal.returns
returns c = λ e. c.params.ensures ∙ c.requires.1.function _ 0 (c.requires.2 e) (omega arith)
