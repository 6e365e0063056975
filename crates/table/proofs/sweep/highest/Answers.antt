-- `sweep::highest` meets its contract: of a byte of at most 32, all ones are shifted.
use native.Mathlib.Omega.{arith}
use Prim.Native.Nat.{◌^◌, ◌≤◌}
use mathlib.Core.Path.{ap, ◌∙◌}
use Rattle.table.specs.Bytes.{bits, width}
use Rattle.table.proofs.HandEnd.{width_few}
use Rattle.table.proofs.WidthLaws.{highest_told}
use Rattle.table.proofs.sweep.highest.Goals as goal
use Rattle.table.proofs.sweep.highest.Lts as lts
use Rattle.table.proofs.sweep.highest.Reads as reads
use Rattle.table.proofs.sweep.highest.Tie as tie

abbrev AfterWidthByte : Type 0
AfterWidthByte = lts.After-width_byte tie.the-claims reads.Pre reads.Post

few : (c : AfterWidthByte) → c.width_byte-byte.result ≤ 32
few c =
    omega (arith, c.width_byte-byte.ensures, width_few _ c.requires.1 _ c.requires.2)

pub overflow_sub-result : goal.overflow_sub-result
overflow_sub-result c = search few

pub overflow_shr-result : goal.overflow_shr-result
overflow_shr-result c = omega arith

pub returns : goal.returns
unfolding width
returns c = highest_told _ (few (search)) ∙ ap (λ b. 2 ^ bits b) c.width_byte-byte.ensures
