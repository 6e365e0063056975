-- `plan::of_primitive` meets its contract.
use Rattle.std.proofs.Common.{◌≡◌, refl, arith}
use Rattle.table.specs.Bytes.{first}
use Rattle.table.proofs.Reading.{told}
use Rattle.circuit.proofs.ChainLaws.{first_in_lem}
use Rattle.circuit.proofs.PlanLaws.{acts_prim, prim_yes}
use Rattle.circuit.proofs.MoveLaws.{kids_done, prim_done}
use Rattle.circuit.proofs.WidthLaws.{own_read}
use Rattle.circuit.proofs.plan.of_primitive.Goals as goal
use Rattle.circuit.proofs.plan.of_primitive.Lts as lts
use Rattle.circuit.proofs.plan.of_primitive.Reads as reads
use Rattle.circuit.proofs.plan.of_primitive.Tie as tie

abbrev AfterFirst : Type 0
AfterFirst = lts.After-first tie.the-claims reads.Pre reads.Post

-- what was read is the node's first child
read : (c : AfterFirst) → c.first-c.result.0 ≡ first c.args.design.now.table.now c.args.n.0
read c = told _ _ c.args.design.now.read _ c.requires.0 4 _ (omega arith) c.first-c.ensures

pub operation-v-requires : goal.operation-v-requires
operation-v-requires c = first_in_lem _ c.args.design.now.read.taken _ c.requires.0 _ (read (search))

pub keep-requires : goal.keep-requires
keep-requires c = (own_read _ _ c.args.design.now.read _ c.requires.0 _ c.owner.ensures).1

pub returns : goal.returns
returns c = let p = c.requires in
    λ a b d e busy h. acts_prim _ c.args.design.now.read.taken _ p.0 a b _ d e _ busy p.1 (prim_yes _ a _ _ (read (search)) _ refl _ _ _ _ _
    (kids_done _ a _ _ (read (search)) (prim_done _ c.args.design.now.read.taken _ p.0 a b _ d e h busy p.1))
    (told _ _ c.args.design.now.read _ p.0 1 _ (omega arith) c.extra.ensures) c.operation-v.ensures
    (own_read _ _ c.args.design.now.read _ p.0 _ c.owner.ensures).0
    c.keep.ensures)
