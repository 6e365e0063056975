-- `kinds::child_counts` meets its contract: each arm of the match is a case of `counts_of`.
use borrow.Author.Tests.{ne_eqb}
use mathlib.Core.Path.{sym, ◌∙◌}
use Rattle.table.specs.Check.{counts_of}
use Rattle.table.proofs.kinds.child_counts.Goals as goal

pub overflow_cast-op : goal.overflow_cast-op
overflow_cast-op c = record { fits = c.requires c.in-3.is }

pub returns-in-3 : goal.returns-in-3
unfolding counts_of
returns-in-3 c = c.operation_counts.ensures ∙ sym (rw c.in-3.is)

pub returns-in-4 : goal.returns-in-4
unfolding counts_of
returns-in-4 c = rw c.in-4.is

pub returns-in-5 : goal.returns-in-5
unfolding counts_of
returns-in-5 c = rw c.in-5.is

pub returns-in-6 : goal.returns-in-6
unfolding counts_of
returns-in-6 c = rw c.in-6.is

pub returns-in_default : goal.returns-in_default
unfolding counts_of
returns-in_default c = let k = c.args.kind in
    simp (
      ne_eqb k 3 c.in_default.in_default-own.rest.0.0.0.1,
      ne_eqb k 4 c.in_default.in_default-own.rest.0.0.1,
      ne_eqb k 5 c.in_default.in_default-own.rest.0.1,
      ne_eqb k 6
          c.in_default.in_default-own.rest.1,
    )
