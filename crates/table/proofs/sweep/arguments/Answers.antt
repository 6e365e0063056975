-- `sweep::arguments` meets its contract: a call's callee is read, and nothing else is.
use native.Mathlib.Omega.{arith}
use mathlib.Core.Path.{refl}
use Rattle.table.proofs.DecodeLaws.{params_byte}
use Rattle.table.proofs.sweep.arguments.Goals as goal

pub overflow_mul-result : goal.overflow_mul-result
overflow_mul-result c = let callee = c.requires.1 c.if-call-eq1.true in
    record { fits = omega (arith, c.requires.0.f_high, callee.1) }

pub bounds-table-word : goal.bounds-table-word
bounds-table-word c = let callee = c.requires.1 c.if-call-eq1.true in
    omega (arith, c.requires.0.size, callee.1)

pub returns-then-call-eq1 : goal.returns-then-call-eq1
returns-then-call-eq1 c = (λ e. params_byte _ _ _ (c.requires.1 e) (omega arith), λ e. absurd (e c.if-call-eq1.true))

pub returns-else-call-eq1 : goal.returns-else-call-eq1
returns-else-call-eq1 c = (λ e. absurd (c.if-call-eq1.false e), λ e. refl)
