-- `sorts::once_all_done` meets its contract, by whether the children from the first on are done.
use Rattle.std.proofs.Common.{◌≡◌, sym, refl, ap, ◌∙◌, arith}
use Rattle.table.specs.Bytes.{first}
use Rattle.table.specs.Naming.{chain, children}
use Rattle.table.proofs.Reading.{told}
use Rattle.rules.specs.State.{entry}
use Rattle.circuit.specs.Working.{each_done}
use Rattle.circuit.proofs.ChainLaws.{first_in_lem}
use Rattle.circuit.proofs.sorts.once_all_done.Goals as goal
use Rattle.circuit.proofs.sorts.once_all_done.Lts as lts
use Rattle.circuit.proofs.sorts.once_all_done.Reads as reads
use Rattle.circuit.proofs.sorts.once_all_done.Tie as tie

abbrev AfterFirst : Type 0
AfterFirst = lts.After-first tie.the-claims reads.Pre reads.Post

-- what was read is the node's first child
read : (c : AfterFirst) → c.first-c.result.0 ≡ first c.args.design.now.table.now c.args.n.0
read c = told _ _ c.args.design.now.read _ c.requires 4 _ (omega arith) c.first-c.ensures

abbrev AfterAllDone : Type 0
AfterAllDone = lts.After-all_done tie.the-claims reads.Pre reads.Post

-- its children are those from there on
all : (c : AfterAllDone) → each_done (entry c.args.status.now 0) (children c.args.design.now.table.now c.args.n.0) ≡ c.all_done.result
unfolding children
all c = sym (c.all_done.ensures ∙ ap (λ m. each_done (entry c.args.status.now 0) (chain c.args.design.now.table.now m)) (read (search)))

pub all_done-requires : goal.all_done-requires
all_done-requires c = first_in_lem _ c.args.design.now.read.taken _ c.requires _ (read (search))

pub returns-then-all_done : goal.returns-then-all_done
returns-then-all_done c = sym (rw (all (search) ∙ c.if-all_done.true) refl)

pub returns-else-all_done : goal.returns-else-all_done
returns-else-all_done c = sym (rw (all (search) ∙ c.if-all_done.false) refl)
