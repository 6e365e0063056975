-- `decoded::get` meets its contract: each arm of the match is a case of `field_of`.
use native.Mathlib.Omega.{arith}
use mathlib.Core.Path.{ap}
use Prim.Native.Nat.{◌/◌, ◌%◌}
use lib.ListN.{get_or}
use borrow.Author.Tests.{ne_eqb}
use Rattle.table.specs.Decoded.{number_at, cell_at}
use Rattle.table.proofs.decoded.get.Goals as goal

pub returns-in-0 : goal.returns-in-0
unfolding cell_at number_at
returns-in-0 c = rw c.in-0.is (ap (λ i. get_or c.args.cells.now i 0 % 256) (omega arith))

pub returns-in-1 : goal.returns-in-1
unfolding cell_at number_at
returns-in-1 c = rw c.in-1.is (ap (λ i. get_or c.args.cells.now i 0 / 256) (omega arith))

pub returns-in-6 : goal.returns-in-6
unfolding cell_at number_at
returns-in-6 c = rw c.in-6.is

pub returns-in-7 : goal.returns-in-7
unfolding cell_at number_at
returns-in-7 c = rw c.in-7.is

pub returns-in_default : goal.returns-in_default
unfolding cell_at number_at
returns-in_default c = let k = c.args.k in
    let other = c.in_default.in_default-own.rest in
    simp (ne_eqb k 0 other.0.0.0.1, ne_eqb k 1 other.0.0.1, ne_eqb k 6 other.0.1, ne_eqb k 7 other.1)
    (ap (λ i. get_or c.args.cells.now i 0) (omega (arith, other.0.0.0.1)))
