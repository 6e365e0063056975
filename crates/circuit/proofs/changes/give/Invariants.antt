-- `changes::give` meets its contract. The invariant: the first i registers are filled, and the arguments from `at` on are left (`GivenTo`).
use Rattle.std.proofs.Common.{map}
use Rattle.table.specs.Naming.{chain}
use Rattle.rules.specs.Arithmetic.{keep_all, arithmetic}
use Rattle.rules.specs.State.{entry}
use Rattle.circuit.proofs.GiveLaws.{GivenTo}
use Rattle.circuit.proofs.changes.give.Given as goal

abbrev pub invariant-loop-i : goal.invariant-loop-i
invariant-loop-i l = GivenTo ((arithmetic l.design.table.now).keep l.g.0) l.design.table.now l.value
    (keep_all (arithmetic l.design.table.now) l.g.0 (map (entry l.value 0) (chain l.design.table.now l.initial.at.0))) l.initial.registers
    l.registers l.f l.i l.at.0
