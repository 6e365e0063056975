-- `tracking::renew` meets its contract, by whether the function is entered anew.
use Rattle.std.proofs.Common.{◌≡◌, ◌≤◌, arith}
use Rattle.table.specs.Bytes.{root}
use Rattle.table.proofs.Reading.{told_root}
use Rattle.list.specs.Working.{Bit}
use Rattle.circuit.proofs.ChainLaws.{ok}
use Rattle.circuit.proofs.UpdateLaws.{node_bit, renewed, entered_anew}
use Rattle.circuit.proofs.tracking.renew.Goals as goal
use Rattle.circuit.proofs.tracking.renew.Lts as lts
use Rattle.circuit.proofs.tracking.renew.Reads as reads
use Rattle.circuit.proofs.tracking.renew.Tie as tie

abbrev Start : Type 0
Start = lts.Start tie.the-claims reads.Pre reads.Post

abbrev AfterRoot : Type 0
AfterRoot = lts.After-root tie.the-claims reads.Pre reads.Post

-- there are at most 32 functions
few : (s : Start) → s.args.g.0 ≤ 32
few s = omega (arith, s.requires.1.1, (ok _ s.args.design.now.read.taken).f_high)

roots : (c : AfterRoot) → c.root.result.0 ≡ root c.args.design.now.table.now c.args.g.0
roots c = told_root _ _ c.args.design.now.read _ c.requires.1 _ c.root.ensures

root_bit : (c : AfterRoot) → Bit c.root.result.0
root_bit c =
    let passes = ok _ c.args.design.now.read.taken in
    let in_table = passes.linking.roots _ c.requires.1 in
    (omega (arith, roots c, in_table.0), omega (arith, roots c, in_table.1, passes.n_high))

pub row-own-requires : goal.row-own-requires
row-own-requires c = omega (arith, few (search))

pub row-sites-requires : goal.row-sites-requires
row-sites-requires c = omega (arith, few (search))

pub mark-requires : goal.mark-requires
mark-requires c = root_bit (search)

pub mark-requires-then-anew : goal.mark-requires-then-anew
mark-requires-then-anew c = node_bit _ c.args.design.now.read.taken _ c.requires.0

pub mark-requires-then-anew-2 : goal.mark-requires-then-anew-2
mark-requires-then-anew-2 c = node_bit _ c.args.design.now.read.taken _ c.requires.0

pub returns-then-anew : goal.returns-then-anew
returns-then-anew c =
    entered_anew _ c.args.design.now.read.taken _ c.requires.2 _ c.requires.1 _ (roots
    (search)) _ _ _ c.row-own.ensures c.row-sites.ensures _ _ _
    c.common-callers.ensures _ _ _ _ _ c.lose.ensures c.lose-2.ensures c.mark.ensures
    c.lose-3.ensures c.lose-4.ensures _ c.requires.0 _ _ _ _ c.mark-then-anew.ensures c.mark-then-anew-2.ensures
    c.gain.ensures _ c.if-anew.true

pub returns-else-anew : goal.returns-else-anew
returns-else-anew c =
    renewed _ c.args.design.now.read.taken _ c.requires.2 _ c.requires.1 _ (roots
    (search)) _ _ _ c.row-own.ensures c.row-sites.ensures _ _ _
    c.common-callers.ensures _ _ _ _ _ c.lose.ensures c.lose-2.ensures c.mark.ensures
    c.lose-3.ensures c.lose-4.ensures _ _ _ c.if-anew.false
