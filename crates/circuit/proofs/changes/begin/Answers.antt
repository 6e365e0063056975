-- `changes::begin` meets its contract, by kind.
use Rattle.std.proofs.Common.{◌≡◌, arith}
use Rattle.table.specs.Bytes.{kind, first}
use Rattle.table.proofs.Reading.{told}
use Rattle.circuit.proofs.ChainLaws.{ok, first_in_lem}
use Rattle.circuit.proofs.PerformLaws.{begin_if, begin_let, begin_all}
use Rattle.circuit.proofs.changes.begin.Goals as goal
use Rattle.circuit.proofs.changes.begin.Lts as lts
use Rattle.circuit.proofs.changes.begin.Reads as reads
use Rattle.circuit.proofs.changes.begin.Tie as tie

abbrev AfterFirst : Type 0
AfterFirst = lts.After-first tie.the-claims reads.Pre reads.Post

-- what was read is the node's kind and first child
kinds : (c : AfterFirst) → c.kind-kind.result ≡ kind c.args.design.now.table.now c.args.n.0
kinds c = told _ _ c.args.design.now.read _ c.requires 0 _ (omega arith) c.kind-kind.ensures

firsts : (c : AfterFirst) → c.first-c.result.0 ≡ first c.args.design.now.table.now c.args.n.0
firsts c = told _ _ c.args.design.now.read _ c.requires 4 _ (omega arith) c.first-c.ensures

pub set_status-requires : goal.set_status-requires
set_status-requires c = omega (arith, c.requires.1, (ok _ c.args.design.now.read.taken).n_high)

pub set_status-requires-then-kind-eq5 : goal.set_status-requires-then-kind-eq5
set_status-requires-then-kind-eq5 c = omega (
  arith,
  first_in_lem _ c.args.design.now.read.taken _ c.requires _ (firsts (search)),
  (ok _ c.args.design.now.read.taken).n_high,
)

pub returns-then-kind-eq5 : goal.returns-then-kind-eq5
returns-then-kind-eq5 c = begin_if _ _ _ (kinds (search)) _ (firsts (search)) _ _ c.set_status.ensures c.if-kind-eq5.true _
    c.set_status-then-kind-eq5.ensures

pub open_all-requires : goal.open_all-requires
open_all-requires c = first_in_lem _ c.args.design.now.read.taken _ c.requires _ (firsts (search))

pub returns-then-kind-eq6 : goal.returns-then-kind-eq6
returns-then-kind-eq6 c = begin_let _ _ _ (kinds (search)) _ (firsts (search)) _ _ c.set_status.ensures c.if-kind-eq6.true
    _ c.open_all.ensures

pub open_all-requires-2 : goal.open_all-requires-2
open_all-requires-2 c = first_in_lem _ c.args.design.now.read.taken _ c.requires _ (firsts (search))

pub returns : goal.returns
returns c = begin_all _ _ _ (kinds (search)) _ (firsts (search)) _ _ c.set_status.ensures c.if-kind-eq5.false c.if-kind-eq6.false _
    c.open_all-2.ensures
