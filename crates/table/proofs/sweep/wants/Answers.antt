-- `sweep::wants` meets its contract: what its operation, its kind and its callee give a node is how many children it may have.
use native.Mathlib.Omega.{arith}
use native.Mathlib.Decide.{ℕ_discrete}
use Prim.Native.Nat.{ℕ, ◌+◌, ◌*◌, ◌≤◌}
use lib.Dec.{eqb}
use mathlib.Core.Path.{◌≡◌, refl, subst, sym, ap, ap₂, ◌∙◌}
use Rattle.table.specs.Find.{one}
use Rattle.table.specs.Check.{operation_counts, counts_of}
use Rattle.table.specs.Sweep.{packed}
use Rattle.table.proofs.RuleLaws.{Few, Small, flag_times, operation_few, rule_small, wants_told}
use Rattle.table.proofs.sweep.wants.Goals as goal
use Rattle.table.proofs.sweep.wants.Lts as lts
use Rattle.table.proofs.sweep.wants.Reads as reads
use Rattle.table.proofs.sweep.wants.Tie as tie

abbrev Start : Type 0
Start = lts.Start tie.the-claims reads.Pre reads.Post

-- what a call has more
more : (s : Start) → s.args.params ≤ 8
more s = go (ℕ_discrete s.args.kind 4)
  where
    go : Dec (s.args.kind ≡ 4) → s.args.params ≤ 8
    go (yes e) = s.requires.2 e
    go (no e) = omega (arith, s.requires.3 e)

-- the operation's counts
abbrev Own : Type 0
Own = lts.After-packed tie.the-claims reads.Pre reads.Post

module _ (o : Own) where
  own_told : o.packed-own.result ≡ packed (operation_counts o.args.extra)
  own_told = o.packed-own.ensures ∙ ap packed o.operation_counts.ensures

  own_few : o.packed-own.result ≤ 2313
  own_few = omega (arith, own_told, operation_few o.args.extra)

  small : Small o.args.rule
  small = rule_small _ _ o.requires.0

  primitive_few : o.packed-own.result * o.args.rule.primitive ≤ 2313
  primitive_few = omega (arith, own_few, flag_times o.packed-own.result o.args.rule.primitive small.primitive)

  -- and the kind's
  abbrev x : ℕ
  x = o.args.rule.counts + o.packed-own.result * o.args.rule.primitive

  told : x ≡ packed (counts_of o.args.kind 11 0) + packed (operation_counts o.args.extra) * one (eqb o.args.kind 3)
  told = ap₂ (λ x y. x + y) (ap (λ r. r.counts) o.requires.0) (ap₂ (λ x y. x * y) own_told (ap (λ r. r.primitive) o.requires.0))

  few : x ≤ 6410
  few = omega (arith, primitive_few, small.counts)

pub packed-own-requires : goal.packed-own-requires
packed-own-requires c = subst Few (sym c.operation_counts.ensures) (operation_few _)

pub overflow_mul-operation : goal.overflow_mul-operation
overflow_mul-operation c = record { fits = omega (arith, primitive_few (search)) }

pub overflow_add-counts : goal.overflow_add-counts
overflow_add-counts c = record { fits = omega (arith, few (search)) }

pub overflow_mul-counts : goal.overflow_mul-counts
overflow_mul-counts c = record { fits = omega (arith, more (search)) }

pub overflow_add-counts-2 : goal.overflow_add-counts-2
overflow_add-counts-2 c = record { fits = omega (arith, few (search), more (search)) }

pub overflow_cast-result : goal.overflow_cast-result
overflow_cast-result c = record { fits = omega (arith, few (search), more (search)) }

pub returns : goal.returns
returns c = wants_told c.args.kind c.args.extra c.args.params (x (search)) _ (told (search)) (more (search)) c.requires.3 refl
