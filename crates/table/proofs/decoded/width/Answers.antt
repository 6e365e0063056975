-- `decoded::width` meets its contract, by whether the byte is 0.
use mathlib.Core.Path.{◌≡◌, sym, ap, ◌∙◌}
use borrow.Author.Rules.{rules}
use Rattle.table.specs.Bytes.{bits}
use Rattle.table.specs.Decoded.{cell_at, function_slot}
use Rattle.table.proofs.WidthLaws.{bits_none, bits_some}
use Rattle.table.proofs.decoded.width.Goals as goal
use Rattle.table.proofs.decoded.width.Lts as lts
use Rattle.table.proofs.decoded.width.Reads as reads
use Rattle.table.proofs.decoded.width.Tie as tie

abbrev AfterByte : Type 0
AfterByte = lts.After-get tie.the-claims reads.Pre reads.Post

byte : (c : AfterByte) → c.get-byte.result ≡ cell_at c.args.cells.now (function_slot c.args.f.0) 1
byte c = search rules

pub returns-then-byte-eq0 : goal.returns-then-byte-eq0
returns-then-byte-eq0 c = sym (bits_none _ c.if-byte-eq0.true) ∙ ap bits (byte (search))

pub returns-else-byte-eq0 : goal.returns-else-byte-eq0
returns-else-byte-eq0 c = sym (bits_some _ c.if-byte-eq0.false) ∙ ap bits (byte (search))
