use Rattle.std.proofs.Common.{sym, arith}
use Rattle.rules.specs.Sets.{first_in}
use Rattle.circuit.proofs.PackedLaws.{ready_bit, lowest_none, lowest_in}
use Rattle.circuit.proofs.sets.Sets.first.Goals as goal

pub returns-then-x-ne0 : goal.returns-then-x-ne0
unfolding first_in
returns-then-x-ne0 c =
    let e = sym (lowest_in _ _ (ready_bit _ _ c.args.self.now.inside _) _ c.loop-i.invariant (omega arith) _ c.low.ensures) in
    (e, omega (arith, e))

pub returns : goal.returns
unfolding first_in
returns c = lowest_none _ _ (ready_bit _ _ c.args.self.now.inside _) _ c.loop-i.invariant (omega arith)
