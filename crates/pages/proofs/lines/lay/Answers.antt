-- `lines::lay` meets its contract.
use Prim.Native.Nat.{◌+◌, ◌-◌}
use lib.ListN.{length}
use mathlib.Core.Path.{ap, ◌∙◌}
use native.Mathlib.Omega.{arith}
use borrow.Rule.Slice.PartMut.{put_mid}
use Rattle.pages.proofs.OverLaws.{copied_over}
use Rattle.pages.proofs.lines.lay.Goals as goal

pub returns : goal.returns
returns c = let a = c.args in
    let n = length a.bytes.now in
    ap (put_mid a.at (a.at + n - a.at) a.text.now) c.copy_from_slice.ensures.after
    ∙ copied_over a.text.now a.bytes.now a.at _ (omega arith) (omega arith)
