-- `sheet_fill` meets its contract: a sheet's length is small.
use native.Mathlib.Omega.{arith}
use Rattle.pages.proofs.SheetLaws.{bytes_fit}
use Rattle.exports.proofs.sheets.sheet_fill.Goals as goal

pub overflow_add-result : goal.overflow_add-result
overflow_add-result c = record { fits = omega (arith, c.in-Ok.ensures.counted, bytes_fit c.args.bytes.now) }
