-- `sorts::of_let` meets its contract: a let in its second phase waits for the body, in its first for the definientia.
use Rattle.std.proofs.Common.{◌≡◌, refl, ap, arith}
use Rattle.table.specs.Bytes.{first}
use Rattle.table.proofs.Reading.{told}
use Rattle.rules.specs.Sets.{sort}
use Rattle.circuit.proofs.ChainLaws.{ok, first_in_lem}
use Rattle.circuit.proofs.PlanLaws.{bind_turn, bind_wait}
use Rattle.circuit.proofs.SortLaws.{sort_bind, bind_second}
use Rattle.circuit.proofs.sorts.of_let.Goals as goal
use Rattle.circuit.proofs.sorts.of_let.Lts as lts
use Rattle.circuit.proofs.sorts.of_let.Reads as reads
use Rattle.circuit.proofs.sorts.of_let.Tie as tie

abbrev AfterFirst : Type 0
AfterFirst = lts.After-first tie.the-claims reads.Pre reads.Post

-- what was read is the node's first child
read : (c : AfterFirst) → c.first-c.result.0 ≡ first c.args.design.now.table.now c.args.n.0
read c = told _ _ c.args.design.now.read _ c.requires.0 4 _ (omega arith) c.first-c.ensures

pub second_at-requires : goal.second_at-requires
second_at-requires c = omega (arith, c.requires.0.1, (ok _ c.args.design.now.read.taken).n_high)

pub last_of-requires : goal.last_of-requires
last_of-requires c = first_in_lem _ c.args.design.now.read.taken _ c.requires.0 _ (read (search))

pub once_done-requires : goal.once_done-requires
once_done-requires c = omega (arith, c.last_of.ensures.1, (ok _ c.args.design.now.read.taken).n_high)

pub returns-then-second_at : goal.returns-then-second_at
returns-then-second_at c = let p = c.requires in
    λ v d e. sort_bind _ c.args.design.now.read.taken _ p.0 _ _ v d e p.1 _ p.2 (bind_second _ _ _ v _ _ (read
    (search)) _ c.last_of.ensures.0 _
    c.second_at.ensures c.if-second_at.true _ c.once_done.ensures)

pub all_done-requires : goal.all_done-requires
all_done-requires c = first_in_lem _ c.args.design.now.read.taken _ c.requires.0 _ (read (search))

pub returns-then-all_done : goal.returns-then-all_done
returns-then-all_done c = let p = c.requires in
    λ v d e. sort_bind _ c.args.design.now.read.taken _ p.0 _ _ v d e p.1 _ p.2 (ap sort (bind_turn _ _ _ v _ _ (read (search)) _ refl _
    c.second_at.ensures c.if-second_at.false _ c.all_done.ensures c.if-all_done.true))

pub returns-else-all_done : goal.returns-else-all_done
returns-else-all_done c = let p = c.requires in
    λ v d e. sort_bind _ c.args.design.now.read.taken _ p.0 _ _ v d e p.1 _ p.2 (ap sort (bind_wait _ _ _ v _ _ (read (search)) _ refl _
    c.second_at.ensures c.if-second_at.false _ c.all_done.ensures c.if-all_done.false))
