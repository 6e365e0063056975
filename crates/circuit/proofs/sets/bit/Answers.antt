-- `sets::bit` meets its contract
use Rattle.std.proofs.Common.{◌≡◌, ◌-◌, ◌*◌, ◌%◌, ◌^◌, arith}
use Rattle.list.proofs.BitLaws.{bit_is}
use Rattle.circuit.proofs.sets.bit.Goals as goal

pub returns : goal.returns
returns c = let n = c.args.n.0 in
    let e : (1 * 2 ^ ((n - 1) % 64)) % 2 ^ 64 ≡ 2 ^ ((n - 1) % 64) = bit_is _ 64 (omega arith) in
    e
