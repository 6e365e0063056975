-- `widths::cut` meets its contract: a width is at most 32, so that 64 bits hold 2^w.
use Rattle.std.proofs.Common.{◌*◌, ◌%◌, ◌^◌, arith}
use native.Mathlib.Nat.{mod-le}
use Rattle.circuit.proofs.WidthLaws.{over_some, cut_is}
use Rattle.circuit.proofs.widths.cut.Goals as goal

pub nonzero_rem-result : goal.nonzero_rem-result
nonzero_rem-result c = over_some _ c.requires

pub overflow_cast-result-2 : goal.overflow_cast-result-2
overflow_cast-result-2 c = omega (arith, mod-le c.args.v (1 * 2 ^ c.args.width % 2 ^ 64))

pub returns : goal.returns
returns c = cut_is _ c.requires c.args.v
