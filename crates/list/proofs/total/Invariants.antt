-- `total` meets its contract. The invariant: the sum is that of the bytes so far, modulo 2^64.
use Rattle.std.proofs.Common.{◌≡◌, ◌%◌, ◌^◌, take}
use Rattle.list.specs.Tags.{bits_set}
use Rattle.list.proofs.total.Given as goal

abbrev pub invariant-loop-byte : goal.invariant-loop-byte
invariant-loop-byte l = l.sum ≡ bits_set (take l.byte-index l.tags) % 2 ^ 64
