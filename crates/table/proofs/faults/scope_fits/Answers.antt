-- `faults::scope_fits` meets its contract, by kind.
use native.Mathlib.Omega.{arith}
use mathlib.Core.Path.{sym, ap, ap₂, ◌∙◌}
use lib.Dec.{ltb}
use Rattle.table.specs.Bytes.{params}
use Rattle.table.specs.Naming.{in_scope}
use Rattle.table.proofs.CountLaws.{scoped_param, scoped_bound, scoped_other}
use Rattle.table.proofs.Family.{owner_in}
use Rattle.table.proofs.faults.scope_fits.Goals as goal

pub returns-then-kind-eq2 : goal.returns-then-kind-eq2
returns-then-kind-eq2 c = let p = c.requires in
    let i = owner_in _ p.0.place.links _ p.0.place.node in
    ap₂ (λ x y. ltb x y) p.0.extras (c.params.ensures
    ∙ p.0.place.read.function _ 0 (omega (arith, p.1, i.0), omega (arith, p.1, i.1)) (omega arith)
    ∙ ap (params c.args.table.now) p.1) ∙ sym (scoped_param _ _ (sym p.0.kinded ∙ c.if-kind-eq2.true))

pub in_scope-requires : goal.in_scope-requires
in_scope-requires c = c.requires.0.place

pub returns-then-kind-eq7 : goal.returns-then-kind-eq7
returns-then-kind-eq7 c = let p = c.requires.0 in
    c.in_scope.ensures ∙ ap (λ x. in_scope c.args.table.now x c.args.n.0) p.worded
    ∙ sym (scoped_bound _ _ (sym p.kinded ∙ c.if-kind-eq7.true))

pub returns : goal.returns
returns c = let p = c.requires.0 in
    sym (scoped_other _ _ (λ e. c.if-kind-eq2.false (p.kinded ∙ e)) (λ e. c.if-kind-eq7.false (p.kinded ∙ e)))
