-- `bits::put` meets its contract
use Rattle.std.proofs.Common.{◌-◌, ◌/◌, eqb, get_or, set, sym, subst}
use lib.Bits.{bit_or}
use Rattle.list.specs.Working.{Adds}
use Rattle.list.proofs.WordLaws.{adds_one}
use Rattle.list.proofs.bits.put.Goals as goal

pub returns : goal.returns
returns c = let a = c.args in
    let x = a.set.now in
    let n = a.n.0 in
    subst (λ v. Adds (eqb n) x (set x ((n - 1) / 64) (bit_or (get_or x ((n - 1) / 64) 0) v))) (sym c.bit.ensures)
    (adds_one x n c.told-set c.requires)
