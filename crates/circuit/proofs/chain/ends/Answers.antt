-- `chain::ends` meets its contract.
use Rattle.circuit.proofs.chain.ends.Goals as goal

pub returns-then-defs : goal.returns-then-defs
returns-then-defs c = simp c.if-defs.true

pub returns-else-defs : goal.returns-else-defs
returns-else-defs c = simp c.if-defs.false
