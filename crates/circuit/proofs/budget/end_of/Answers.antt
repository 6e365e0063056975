-- `budget::end_of` meets its contract
use Rattle.std.proofs.Common.{◌≡◌, sym, refl, ap, ◌∙◌, arith, eq-eqb, ne_eqb}
use Rattle.rules.specs.Runs.{gave}
use Rattle.rules.specs.Sets.{first_in}
use Rattle.circuit.specs.Packed.{unpacked}
use Rattle.circuit.proofs.budget.end_of.Goals as goal

pub returns-then-status_at-eq3 : goal.returns-then-status_at-eq3
returns-then-status_at-eq3 c = ap gave c.value_at.ensures ∙ sym
    (rw (eq-eqb _ 3 (sym c.status_at.ensures ∙ c.if-status_at-eq3.true)) refl)

pub returns-in-None : goal.returns-in-None
returns-in-None c = sym (rw (
  ne_eqb _ 3 (λ z. c.if-status_at-eq3.false (c.status_at.ensures ∙ z)),
  eq-eqb _ 0 c.in-None.ensures,
) refl)

pub returns-in-Some : goal.returns-in-Some
returns-in-Some c = let some : first_in (unpacked c.args.sets.now) 512 ≡ 0 → ⊥ =
    λ z. omega (arith, c.in-Some.ensures.0, c.in-Some.ensures.1, z) in sym (rw (
      ne_eqb _ 3 (λ z. c.if-status_at-eq3.false (c.status_at.ensures ∙ z)),
      ne_eqb _ 0 some,
    ) refl)
