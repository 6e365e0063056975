-- `standing::odd_status` meets its contract. The invariant: a status before s is over 3 where the highest is.
use Rattle.std.proofs.Common.{◌≡◌, ltb}
use Rattle.rules.specs.Step.{over}
use Rattle.circuit.proofs.standing.odd_status.Given as goal

abbrev pub invariant-loop-s : goal.invariant-loop-s
invariant-loop-s l = over 3 l.s-index l.status ≡ ltb 3 l.highest
