-- No more arguments are kept than there is room for.
use Rattle.std.proofs.Common.{◌≤◌}
use Rattle.replay.proofs.input.given_arguments.Given as goal

abbrev pub invariant-loop-i : goal.invariant-loop-i
invariant-loop-i g l = l.count ≤ 9
