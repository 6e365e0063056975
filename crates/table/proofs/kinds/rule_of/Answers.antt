-- `kinds::rule_of` meets its contract: each arm of the match is a case of `rule_of`.
use mathlib.Core.Path.{subst, sym}
use Rattle.table.specs.Check.{counts_of, operation_counts}
use Rattle.table.proofs.RuleLaws.{Few, counts_few, no_kind}
use Rattle.table.proofs.kinds.rule_of.Goals as goal

pub packed-requires : goal.packed-requires
packed-requires c = subst Few (sym c.child_counts.ensures) (counts_few _ _)

pub returns-in-1 : goal.returns-in-1
unfolding counts_of operation_counts
returns-in-1 c = rw (c.packed.ensures, c.child_counts.ensures, c.in-1.is)

pub returns-in-2 : goal.returns-in-2
unfolding counts_of operation_counts
returns-in-2 c = rw (c.packed.ensures, c.child_counts.ensures, c.in-2.is)

pub returns-in-3 : goal.returns-in-3
unfolding counts_of operation_counts
returns-in-3 c = rw (c.packed.ensures, c.child_counts.ensures, c.in-3.is)

pub returns-in-4 : goal.returns-in-4
unfolding counts_of operation_counts
returns-in-4 c = rw (c.packed.ensures, c.child_counts.ensures, c.in-4.is)

pub returns-in-5 : goal.returns-in-5
unfolding counts_of operation_counts
returns-in-5 c = rw (c.packed.ensures, c.child_counts.ensures, c.in-5.is)

pub returns-in-6 : goal.returns-in-6
unfolding counts_of operation_counts
returns-in-6 c = rw (c.packed.ensures, c.child_counts.ensures, c.in-6.is)

pub returns-in-7 : goal.returns-in-7
unfolding counts_of operation_counts
returns-in-7 c = rw (c.packed.ensures, c.child_counts.ensures, c.in-7.is)

pub returns-in_default : goal.returns-in_default
unfolding counts_of operation_counts
returns-in_default c = rw (c.packed.ensures, c.child_counts.ensures, no_kind _ c.requires c.in_default.in_default-own.rest)
