-- `sets::put_at` meets its contract
use Rattle.std.proofs.Common.{◌+◌, ◌-◌, ◌*◌, ◌/◌, get_or, set, sym, subst}
use lib.Bits.{bit_or}
use Rattle.list.specs.Working.{PutAt}
use Rattle.list.proofs.WordLaws.{put_row}
use Rattle.circuit.proofs.sets.put_at.Goals as goal

pub returns : goal.returns
returns c = let a = c.args in
    let p = c.requires in
    let x = a.rows.now in
    let n = a.n.0 in
    let at = 8 * a.k + (n - 1) / 64 in
    subst (λ v. PutAt a.k n x (set x at (bit_or (get_or x at 0) v))) (sym c.bit.ensures) (put_row x a.k n c.told-rows p.0 p.1)
