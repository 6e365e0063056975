-- `read::width` meets its contract: byte 1 of the function's record, by whether it is 0.
use Prim.Native.Nat.{◌+◌}
use mathlib.Core.Path.{◌≡◌, sym, ap, ◌∙◌}
use Rattle.table.specs.Bytes.{byte_at, width_byte, bits, width}
use Rattle.table.proofs.WidthLaws.{bits_none, bits_some}
use Rattle.table.proofs.read.width.Goals as goal
use Rattle.table.proofs.read.width.Lts as lts
use Rattle.table.proofs.read.width.Reads as reads
use Rattle.table.proofs.read.width.Tie as tie

abbrev AfterByteAt : Type 0
AfterByteAt = lts.After-byte_at tie.the-claims reads.Pre reads.Post

byte : (c : AfterByteAt) → c.byte_at-byte.result ≡ width_byte c.args.table.now c.args.f.0
unfolding width_byte
byte c =
    c.byte_at-byte.ensures ∙ ap (λ i. byte_at c.args.table.now (i + 1)) c.function_at-at.ensures.0

pub returns-then-byte-eq0 : goal.returns-then-byte-eq0
unfolding width
returns-then-byte-eq0 c = sym (bits_none _ c.if-byte-eq0.true) ∙ ap bits (byte (search))

pub returns-else-byte-eq0 : goal.returns-else-byte-eq0
unfolding width
returns-else-byte-eq0 c = sym (bits_some _ c.if-byte-eq0.false) ∙ ap bits (byte (search))
