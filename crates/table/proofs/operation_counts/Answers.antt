-- `operation_counts` meets its contract: each arm of the match is a case of `operation_counts`.
use borrow.Author.Tests.{ne_eqb, le-leb, lt-leb}
use native.Mathlib.Omega.{arith}
use Rattle.table.specs.Check.{operation_counts}
use Rattle.table.proofs.operation_counts.Goals as goal

pub returns-in-10 : goal.returns-in-10
unfolding operation_counts
returns-in-10 c = rw c.in-10.is

pub returns-in-5-to-7 : goal.returns-in-5-to-7
unfolding operation_counts
returns-in-5-to-7 c = let o = c.args.op in
    simp (lt-leb o 4 (omega arith), lt-leb 8 o (omega arith), le-leb 5 o (omega arith), le-leb o 7 (omega arith))

pub returns-in_default : goal.returns-in_default
unfolding operation_counts
returns-in_default c = let o = c.args.op in
    simp (
      lt-leb o 4 (omega arith),
      le-leb 8 o (omega arith),
      lt-leb o 9 (omega arith),
      le-leb 5 o (omega arith),
      lt-leb o 7
          (omega arith),
      ne_eqb o 10 c.in_default.in_default-own.rest.1,
    )

pub returns-in-0-to-4 : goal.returns-in-0-to-4
unfolding operation_counts
returns-in-0-to-4 c = let o = c.args.op in
    simp (le-leb o 4 (omega arith))

pub returns-in-0-to-4-2 : goal.returns-in-0-to-4-2
unfolding operation_counts
returns-in-0-to-4-2 c = let o = c.args.op in
    simp (lt-leb o 4 (omega arith), le-leb 8 o (omega arith), le-leb o 9 (omega arith))
