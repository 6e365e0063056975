-- what falls at every call of the walk: 513 times the function's number, plus N, minus the node's number. It is taken five times, so that
-- at one node the chain's walk comes before the node's, that before the inner node's, that before its children's, and that before the
-- walk that holds them against each other
use Rattle.std.proofs.Common.{ℕ, ◌+◌, ◌-◌, ◌*◌, List}
use Rattle.table.specs.Bytes.{nodes}

abbrev pub weight : List ℕ → ℕ → ℕ → ℕ
weight t f n = 5 * (513 * f + (nodes t - n))
