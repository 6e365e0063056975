-- `operations::of_two` meets its contract: operation by operation.
use Rattle.std.proofs.Common.{◌≡◌, sym, ◌∙◌, arith}
use Rattle.rules.specs.Operations.{operate, wrap}
use Rattle.circuit.proofs.PlanLaws.{op_last}
use Rattle.circuit.proofs.OperationLaws.{doubled, subtracted, chosen}
use Rattle.circuit.proofs.operations.of_two.Goals as goal

pub returns-in-0 : goal.returns-in-0
unfolding operate wrap
returns-in-0 c = let e : c.args.op ≡ 0 = omega arith in
    sym (rw e)

pub returns-in_default-op : goal.returns-in_default-op
unfolding operate wrap
returns-in_default-op c = let e : c.args.op ≡ 1 = omega arith in
    subtracted _ _ (omega arith) ∙ sym (rw e)

pub returns-in-2 : goal.returns-in-2
unfolding operate wrap
returns-in-2 c = let e : c.args.op ≡ 2 = omega arith in
    sym (rw e)

pub returns-in-3 : goal.returns-in-3
unfolding operate wrap
returns-in-3 c = let e : c.args.op ≡ 3 = omega arith in
    sym (rw e)

pub returns-in_default-op-2 : goal.returns-in_default-op-2
unfolding operate wrap
returns-in_default-op-2 c = let e : c.args.op ≡ 4 = omega arith in
    sym (rw e)

pub returns-in-5 : goal.returns-in-5
unfolding operate wrap
returns-in-5 c = let e : c.args.op ≡ 5 = omega arith in
    doubled _ ∙ sym (rw e)

pub returns-in-6 : goal.returns-in-6
unfolding operate wrap
returns-in-6 c = let e : c.args.op ≡ 6 = omega arith in
    sym (rw e)

pub returns-in_default-op-3 : goal.returns-in_default-op-3
unfolding operate wrap
returns-in_default-op-3 c = let e : c.args.op ≡ 7 = omega arith in
    sym (rw e)

pub returns-in-8 : goal.returns-in-8
unfolding operate wrap
returns-in-8 c = let e : c.args.op ≡ 8 = omega arith in
    c.from.ensures ∙ chosen _ ∙ sym (rw e)

pub returns-in_default-op-4 : goal.returns-in_default-op-4
unfolding operate wrap
returns-in_default-op-4 c = let e : c.args.op ≡ 9 = omega arith in
    c.from-in_default-op-4.ensures ∙ chosen _ ∙ sym (rw e)

pub returns-in_default : goal.returns-in_default
returns-in_default c = sym (op_last _ _ _ c.args.last (omega arith))
