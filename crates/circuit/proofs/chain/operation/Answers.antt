-- `chain::operation` meets its contract: beside looks at the last value, any other operation at the first two.
use Rattle.std.proofs.Common.{◌≡◌, arith}
use Rattle.table.specs.Bytes.{next}
use Rattle.table.proofs.Reading.{told}
use Rattle.circuit.proofs.ChainLaws.{ok, next_in}
use Rattle.circuit.proofs.PlanLaws.{of_none, of_last, of_two}
use Rattle.circuit.proofs.chain.operation.Goals as goal
use Rattle.circuit.proofs.chain.operation.Lts as lts
use Rattle.circuit.proofs.chain.operation.Reads as reads
use Rattle.circuit.proofs.chain.operation.Tie as tie

abbrev AfterNext : Type 0
AfterNext = lts.After-next tie.the-claims reads.Pre reads.Post

read : (c : AfterNext) → c.next-d.result.0 ≡ next c.args.design.now.table.now c.args.c.0
read c =
    told _ _ c.args.design.now.read _ (omega arith, c.requires) 5 _ (omega arith) c.next-d.ensures

pub returns-then-c-eq0 : goal.returns-then-c-eq0
returns-then-c-eq0 c = of_none _ c.args.design.now.read.taken _ _ _ c.if-c-eq0.true _ c.of_two.ensures

pub last_of-last-requires : goal.last_of-last-requires
last_of-last-requires c = c.requires

pub value_at-requires : goal.value_at-requires
value_at-requires c = omega (arith, c.last_of-last.ensures.1, (ok _ c.args.design.now.read.taken).n_high)

pub returns-then-op-gt9 : goal.returns-then-op-gt9
returns-then-op-gt9 c = of_last _ c.args.design.now.read.taken _ _ _ c.if-c-eq0.false c.requires c.if-op-gt9.true
    _ c.last_of-last.ensures.0 _
    c.value_at.ensures _
    c.of_two-then-op-gt9.ensures

pub value_at-x-requires : goal.value_at-x-requires
value_at-x-requires c = omega (arith, c.requires, (ok _ c.args.design.now.read.taken).n_high)

pub value_at-y-requires : goal.value_at-y-requires
value_at-y-requires c = omega (
  arith,
  next_in _ c.args.design.now.read.taken _ c.if-c-eq0.false c.requires _ (read (search)),
  (ok _ c.args.design.now.read.taken).n_high,
)

pub returns : goal.returns
returns c = of_two _ c.args.design.now.read.taken _ _ _ c.if-c-eq0.false c.requires c.if-op-gt9.false _ (read
    (search)) _ _ c.value_at-x.ensures
    c.value_at-y.ensures
    _ c.of_two-2.ensures
