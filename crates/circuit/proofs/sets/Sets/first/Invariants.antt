-- `Sets::first` meets its contract. The invariant: the words up to i have no node that is ready.
use Rattle.std.proofs.Common.{◌≡◌, ℕ, ◌<◌}
use Rattle.circuit.proofs.PackedLaws.{ready_word}
use Rattle.circuit.proofs.sets.Sets.first.Given as goal

abbrev pub invariant-loop-i : goal.invariant-loop-i
invariant-loop-i l = (k : ℕ) → k < l.i → ready_word l.self.armed l.self.waiting l.self.held k ≡ 0
