use Rattle.std.proofs.Common.{◌≡◌, refl, subst, arith}
use Rattle.list.proofs.Entrywise.{Upto}
use Rattle.list.proofs.Meets.{met_none, met_bits}
use Rattle.list.proofs.kept.Kept.meet.Goals as goal

pub returns-then-once-twice : goal.returns-then-once-twice
returns-then-once-twice c = met_none _ _ _ _ c.if-twice-lt2.true c.if-once-twice.true

pub returns : goal.returns
returns c = let inv = c.loop-i.invariant in
    let e : c.loop-i.i ≡ 8 = omega (arith, inv.0) in
    record { bits = met_bits _ _ _ _ _ (subst (Upto _ _ _) e inv.1) c.shared-all.ensures.1; others = refl }
