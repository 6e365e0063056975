-- `scope::outer` meets its contract.
use native.Mathlib.Omega.{arith}
use Prim.Native.Nat.{◌%◌}
use mathlib.Core.Path.{◌≡◌, ◌∙◌}
use lib.ListN.{get_or}
use Rattle.table.specs.Sweep.{around}
use Rattle.table.proofs.SiftLaws.{around_most, down_around}
use Rattle.table.proofs.scope.outer.Goals as goal
use Rattle.table.proofs.scope.outer.Lts as lts
use Rattle.table.proofs.scope.outer.Reads as reads
use Rattle.table.proofs.scope.outer.Tie as tie

abbrev Start : Type 0
Start = lts.Start tie.the-claims reads.Pre reads.Post

told : (s : Start) → get_or s.args.offspring.now s.args.a.0 0 % 1024 ≡ around s.args.table.now s.args.a.0
told s = down_around _ _ (omega (arith, s.requires.2, s.requires.0.n_high)) _ (s.requires.1.told s.args.a.0 s.requires.2)

pub returns : goal.returns
returns c = let is = c.let_in.ensures ∙ told (search) in
    (is, omega (arith, is, around_most c.args.table.now c.args.a.0, c.requires.2))
