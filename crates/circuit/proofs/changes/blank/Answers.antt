-- `changes::blank` meets its contract: eight registers are overwritten by zeros.
use Rattle.std.proofs.Common.{◌≡◌, ◌+◌, ◌-◌, ◌*◌, replicate, length, length-take, length-drop, refl, ap, ◌∙◌, arith}
use borrow.Rule.Slice.PartMut.{mid_of}
use Rattle.circuit.proofs.GiveLaws.{blanked}
use Rattle.circuit.proofs.changes.blank.Goals as goal

pub returns : goal.returns
returns c = let a = c.args in
    let base = 8 * (a.g.0 - 1) in
    let k : base + 8 - base ≡ 8 = omega arith in
    let many : length (mid_of base (base + 8 - base) a.registers.now) ≡ 8 =
    simp (length-take, length-drop) (omega (arith, c.told-registers)) in
    rw k (blanked a.registers.now a.g.0 c.requires.0 (omega (arith, c.told-registers)) _ refl _
    (c.fill.ensures.after (λ y e. e) ∙ ap (λ n. replicate n 0) many))
