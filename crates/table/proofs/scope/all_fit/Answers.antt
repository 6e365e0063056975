use native.Mathlib.Omega.{arith}
use Prim.Native.Nat.{◌<◌}
use lib.Seq.{get_or-take}
use borrow.Author.Count.{below_more}
use Rattle.table.proofs.ScopeLaws.{bound_in}
use Rattle.table.proofs.scope.all_fit.Goals as goal

pub loop-n-preserved : goal.loop-n-preserved
loop-n-preserved c =
    let inside : c.loop-n.n-index < c.args.count = omega arith in
    let here = rw get_or-take at (c.bound_fits.ensures c.if-not-bound_fits.false) in
    below_more _ _ c.loop-n.invariant (bound_in _ _ here)
