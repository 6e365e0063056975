-- `marks` meets its contract: 0 has no bit, any other number the one before it.
use Rattle.std.proofs.Common.{sym, refl, ◌∙◌, arith}
use Rattle.list.specs.Tags.{tagged}
use Rattle.list.proofs.BitLaws.{tagged_bit}
use Rattle.list.proofs.marks.Goals as goal

pub returns-then-n-ne0 : goal.returns-then-n-ne0
returns-then-n-ne0 c = c.bit_at.ensures ∙ sym (tagged_bit c.args.tags.now c.args.n.0 (omega arith))

pub returns-else-n-ne0 : goal.returns-else-n-ne0
unfolding tagged
returns-else-n-ne0 c = rw c.if-n-ne0.false refl
