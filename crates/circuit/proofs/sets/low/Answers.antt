-- `sets::low` meets its contract
use Rattle.std.proofs.Common.{arith}
use lib.Count.{trailing_le}
use Rattle.circuit.proofs.PackedLaws.{trailing}
use Rattle.circuit.proofs.sets.low.Goals as goal

pub overflow_cast-result : goal.overflow_cast-result
overflow_cast-result c = record { fits = omega (arith, trailing_le 64 c.args.x) }

pub returns : goal.returns
returns c = trailing 64 c.args.x (omega arith) c.requires
