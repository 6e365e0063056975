-- `begin::fill_main` meets its contract: main's eight registers are written one after the other.
use Rattle.std.proofs.Common.{◌≡◌}
use Rattle.table.specs.Bytes as Bytes
use Rattle.rules.specs.Arithmetic.{keep_all, arithmetic}
use Rattle.circuit.proofs.GiveLaws.{FilledTo}
use Rattle.circuit.proofs.begin.fill_main.Given as goal

abbrev pub invariant-loop-i : goal.invariant-loop-i
invariant-loop-i l = (l.width ≡ Bytes.width l.table l.f) × FilledTo (keep_all (arithmetic l.table) l.f l.args)
    l.initial.registers l.registers l.f l.i
