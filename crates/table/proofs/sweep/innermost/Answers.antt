-- `sweep::innermost` meets its contract: a flag keeps what it is multiplied with, or leaves nothing.
use native.Mathlib.Omega.{arith}
use Prim.Native.Nat.{◌-◌, ◌*◌, ◌≤◌}
use Rattle.table.proofs.RuleLaws.{flag_times}
use Rattle.table.proofs.sweep.innermost.Goals as goal
use Rattle.table.proofs.sweep.innermost.Lts as lts
use Rattle.table.proofs.sweep.innermost.Reads as reads

abbrev Start : Type 0
Start = lts.Start reads.Pre reads.Post

module _ (s : Start) where
  outer : s.args.outer.0 * (1 - s.args.body) ≤ s.args.outer.0
  outer = flag_times _ _ (omega arith)

  inner : s.args.up.0 * s.args.body ≤ s.args.up.0
  inner = flag_times _ _ s.requires.2

pub overflow_mul-inner : goal.overflow_mul-inner
overflow_mul-inner c = record { fits = omega (arith, outer (search)) }

pub overflow_mul-inner-2 : goal.overflow_mul-inner-2
overflow_mul-inner-2 c = record { fits = omega (arith, inner (search)) }

pub overflow_add-inner : goal.overflow_add-inner
overflow_add-inner c = record { fits = omega (arith, outer (search), inner (search)) }

pub overflow_cast-inner-3 : goal.overflow_cast-inner-3
overflow_cast-inner-3 c = omega (arith, outer (search), inner (search))
