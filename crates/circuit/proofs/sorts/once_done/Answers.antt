-- `sorts::once_done` meets its contract
use Rattle.std.proofs.Common.{sym, refl, ◌∙◌, eq-eqb, ne_eqb}
use Rattle.circuit.proofs.sorts.once_done.Goals as goal

pub returns-then-status_at-eq3 : goal.returns-then-status_at-eq3
returns-then-status_at-eq3 c = sym (rw (eq-eqb _ 3 (sym c.status_at.ensures ∙ c.if-status_at-eq3.true)) refl)

pub returns-else-status_at-eq3 : goal.returns-else-status_at-eq3
returns-else-status_at-eq3 c = sym (rw (ne_eqb _ 3 (λ e. c.if-status_at-eq3.false (c.status_at.ensures ∙ e))) refl)
