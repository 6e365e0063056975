-- The sheet has no more bytes than the text, so what is printed is a part of it.
use Rattle.std.proofs.Common.{arith}
use Rattle.pages.proofs.SheetLaws.{bytes_fit}
use Rattle.sheet.proofs.show.Goals as goal

pub shared_ref_as_front-write_all : goal.shared_ref_as_front-write_all
shared_ref_as_front-write_all g c = omega (arith, c.in-Ok.ensures.counted, bytes_fit c.args.table.now)
