-- `budget::query` meets its contract. The invariant: no node below n has a step.
use Rattle.circuit.specs.Meaning.{state_as}
use Rattle.circuit.proofs.QueryLaws.{NoneBelow}
use Rattle.circuit.proofs.budget.query.Given as goal

abbrev pub invariant-loop-n : goal.invariant-loop-n
invariant-loop-n l = NoneBelow l.design.table.now (state_as l.status l.second l.value l.registers l.occupant) l.n
