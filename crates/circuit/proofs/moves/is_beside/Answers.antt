-- `moves::is_beside` meets its contract
use Rattle.std.proofs.Common.{sym, refl, eq-eqb, ne_eqb}
use Rattle.circuit.proofs.moves.is_beside.Goals as goal

pub returns-then-d-n : goal.returns-then-d-n
returns-then-d-n c = sym (rw (ne_eqb _ _ c.if-d-n.true) refl)

pub returns : goal.returns
returns c = sym (rw (eq-eqb _ _ c.if-d-n.false, sym c.status_at.ensures) refl)
