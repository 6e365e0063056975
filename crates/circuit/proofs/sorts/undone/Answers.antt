-- `sorts::undone` meets its contract
use Rattle.std.proofs.Common.{sym, refl, eq-eqb, ne_eqb}
use Rattle.circuit.proofs.sorts.undone.Goals as goal

pub returns-then-d-eq0 : goal.returns-then-d-eq0
returns-then-d-eq0 c = sym (rw (eq-eqb _ 0 c.if-d-eq0.true) refl)

pub returns : goal.returns
returns c = sym (rw (ne_eqb _ 0 c.if-d-eq0.false, sym c.status_at.ensures) refl)
