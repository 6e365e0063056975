-- `entries::run` meets its contract. The invariant: the run of all asked nodes is that of those from i on, i steps later, and
-- the state passes 24.
use Rattle.std.proofs.Common.{◌≡◌, drop}
use Rattle.rules.specs.Runs.{run_from}
use Rattle.circuit.specs.Meaning.{state_as}
use Rattle.circuit.specs.Working.{Stands}
use Rattle.circuit.proofs.EntryLaws.{plus}
use Rattle.circuit.proofs.entries.run.Given as goal

abbrev pub invariant-loop-i : goal.invariant-loop-i
invariant-loop-i l = Stands l.design.table.now (state_as l.status l.second l.value l.registers l.occupant) ×
    (run_from l.design.table.now l.tags (state_as l.initial.status l.initial.second l.initial.value l.initial.registers
    l.initial.occupant) l.nodes ≡ plus l.i
    (run_from l.design.table.now l.tags (state_as l.status l.second l.value l.registers l.occupant) (drop l.i l.nodes)))
