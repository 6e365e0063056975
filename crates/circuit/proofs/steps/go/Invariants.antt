-- `steps::go` meets its contract. The invariant: the run so far (`Run`), and the budget fits. The measure is the budget left.
use Rattle.std.proofs.Common.{◌-◌, ◌≤◌}
use Rattle.rules.specs.Sets.{first_in}
use Rattle.circuit.specs.Meaning.{state_as}
use Rattle.circuit.specs.Packed.{unpacked, Names}
use Rattle.circuit.proofs.StepsLaws.{Run}
use Rattle.circuit.proofs.steps.go.Given as goal

abbrev pub invariant-loop-first : goal.invariant-loop-first
invariant-loop-first l = Run l.design.table.now l.tags l.top.0 l.budget l.taken
    (state_as l.initial.status l.initial.second l.initial.value l.initial.registers l.initial.occupant)
    (state_as l.status l.second l.value l.registers l.occupant) (unpacked l.sets) × (l.budget ≤ 4294967295)
    × Names l.first (first_in (unpacked l.sets) 512)

abbrev pub decreases-loop-first : goal.decreases-loop-first
decreases-loop-first l = l.budget - l.taken
