-- `changes::reset` meets its contract.
use Rattle.std.proofs.Common.{◌≡◌, ◌∙◌, arith}
use Rattle.table.specs.Bytes.{root}
use Rattle.table.proofs.Reading.{told_root}
use Rattle.rules.specs.State.{write}
use Rattle.circuit.proofs.ChainLaws.{ok}
use Rattle.circuit.proofs.changes.reset.Goals as goal
use Rattle.circuit.proofs.changes.reset.Lts as lts
use Rattle.circuit.proofs.changes.reset.Reads as reads
use Rattle.circuit.proofs.changes.reset.Tie as tie

abbrev AfterRoot : Type 0
AfterRoot = lts.After-root tie.the-claims reads.Pre reads.Post

read : (c : AfterRoot) → c.root-r.result.0 ≡ root c.args.design.now.table.now c.args.g.0
read c = told_root _ _ c.args.design.now.read _ c.requires.1 _ c.root-r.ensures

pub give-requires : goal.give-requires
give-requires c = (c.requires.1, c.requires.2)

pub clear_nodes-requires : goal.clear_nodes-requires
clear_nodes-requires c = (c.requires.0, c.requires.1)

pub set_status-requires : goal.set_status-requires
set_status-requires c = omega (
  arith,
  read (search),
  ((ok _ c.args.design.now.read.taken).linking.roots _ c.requires.1).1,
  (ok _ c.args.design.now.read.taken).n_high,
)

pub returns : goal.returns
returns c = (
  c.set_status.ensures ∙ (λ i. write (c.clear_nodes.ensures.0 i) (read (search) i) 1),
  c.clear_nodes.ensures.1,
  c.clear_nodes.ensures.2,
  c.give.ensures,
)
