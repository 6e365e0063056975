-- `faults::count_fits` meets its contract: the children are counted along their chain.
use native.Mathlib.Omega.{arith}
use mathlib.Core.Path.{◌≡◌, sym, ◌∙◌}
use borrow.Author.Tests.{le-leb, lt-leb}
use Rattle.table.specs.Bytes.{first}
use Rattle.table.specs.Check.{within, counted}
use Rattle.table.proofs.CountLaws.{told_counted, first_inside}
use Rattle.table.proofs.faults.count_fits.Goals as goal
use Rattle.table.proofs.faults.count_fits.Lts as lts
use Rattle.table.proofs.faults.count_fits.Reads as reads
use Rattle.table.proofs.faults.count_fits.Tie as tie

abbrev AfterFirst : Type 0
AfterFirst = lts.After-first tie.the-claims reads.Pre reads.Post

abbrev AfterChainLength : Type 0
AfterChainLength = lts.After-chain_length tie.the-claims reads.Pre reads.Post

read : (c : AfterFirst) → c.first-first.result.0 ≡ first c.args.table.now c.args.n.0
read c =
    let p = c.requires.0.place in
    c.first-first.ensures ∙ p.read.node _ 4 p.node (omega arith)

-- the test by the counts is refusal 7's
tests : (c : AfterChainLength) →
    within c.child_counts-c.result c.chain_length-j.result ≡ counted c.args.table.now c.args.n.0
tests c =
    let at = c.requires.0 in
    told_counted _ _ _ _ _ _ _ _ _ at.kinded at.extras at.worded c.callee_params-p.ensures c.child_counts-c.ensures
    (read (search)) c.chain_length-j.ensures

pub callee_params-p-requires : goal.callee_params-p-requires
callee_params-p-requires c = (c.requires.0.place.framed, c.requires.0.place.read, c.requires.1)

pub child_counts-c-requires : goal.child_counts-c-requires
child_counts-c-requires c = c.requires.2

pub chain_length-j-requires : goal.chain_length-j-requires
chain_length-j-requires c = let p = c.requires.0.place in
    (p.framed, p.links, p.read, omega (arith, read (search), first_inside _ p.links _ p.node))

pub returns-then-c-j : goal.returns-then-c-j
returns-then-c-j c = sym (sym (tests (search)) ∙ simp (le-leb _ _ c.if-c-j.true))

pub returns-else-c-j : goal.returns-else-c-j
returns-else-c-j c = sym (sym (tests (search)) ∙ simp (lt-leb _ _ c.if-c-j.false))
