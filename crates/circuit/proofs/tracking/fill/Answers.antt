use Rattle.std.proofs.Common.{◌≡◌, ◌+◌, ◌-◌, refl, ap, arith}
use Rattle.table.specs.Bytes.{nodes}
use Rattle.table.specs.Working.{IsNode}
use Rattle.table.proofs.Reading.{told_last}
use Rattle.list.specs.Working.{packed}
use Rattle.circuit.specs.Packed.{unpacked}
use Rattle.circuit.proofs.ChainLaws.{ok}
use Rattle.circuit.proofs.TrackLaws.{FilledTo, filled_start, filled_rows, filled_next, filled_rowed, filled_tracks}
use Rattle.circuit.proofs.tracking.fill.Goals as goal
use Rattle.circuit.proofs.tracking.fill.Lts as lts
use Rattle.circuit.proofs.tracking.fill.Reads as reads
use Rattle.circuit.proofs.tracking.fill.Tie as tie

abbrev Turn : Type 0
Turn = lts.In-loop tie.the-claims reads.Pre reads.Post goal.the-invariant-loop-n goal.the-decreases-loop-n

abbrev Done : Type 0
Done = lts.After-read_anew tie.the-claims reads.Pre reads.Post goal.the-invariant-loop-n goal.the-decreases-loop-n

node : (c : Turn) → IsNode c.args.design.now.table.now c.loop-n.n
node c = (c.loop-n.auto.n, omega (arith, c.loop-n-test.true, told_last _ _ c.args.design.now.read _ c.last-last.ensures))

next : (c : Turn) → c.loop-n.n ≡ c.loop-n.n - 1 + 1
next c = omega (arith, c.loop-n.auto.n)

-- past a node's turn
filled : (c : Done) → let a = c.args in
    FilledTo a.design.now.table.now a.status.now a.second.now a.value.now a.occupant.now c.enlist.new.rows
    (unpacked c.read_anew.new.sets) c.loop-n.n
filled c = let a = c.args in
    let e = c.enlist.ensures in
    let z = c.read_anew.ensures in
    filled_next _ _ _ _ _ _ _ _ c.loop-n.invariant _ (next (search))
    (omega (arith, (node (search)).1, (ok _ c.args.design.now.read.taken).n_high)) _ e.0
    _ _ (λ m. (refl, refl, refl)) (λ d. (e.1 a.status.now a.second.now a.value.now d).bits) (λ d. z.1 d a.occupant.now)
    (λ m. ap (λ l. packed l m) z.2)

pub loop-n-init : goal.loop-n-init
loop-n-init c = rw (c.requires.0, c.requires.1) (filled_start _ _ _ _ _)

pub enlist-requires : goal.enlist-requires
enlist-requires c = (node (search), filled_rows _ _ _ _ _ _ _ _ c.loop-n.invariant _ (next (search)))

pub read_anew-requires : goal.read_anew-requires
read_anew-requires c = node (search)

pub loop-n-preserved : goal.loop-n-preserved
loop-n-preserved c = let e : c.loop-n.n + 1 - 1 ≡ c.loop-n.n = omega arith in rw e (filled (search))

-- a table has a node, so that the loop ends after a turn
pub returns : goal.returns
returns c = absurd (omega (
  arith,
  c.loop-n-test.false,
  c.loop-n.auto.n-end,
  told_last _ _ c.args.design.now.read _ c.last-last.ensures,
  (ok _ c.args.design.now.read.taken).n_low,
))

pub returns-2 : goal.returns-2
returns-2 c = let f = filled (search) in
    let all : c.loop-n.n ≡ nodes c.args.design.now.table.now = omega (arith, told_last _ _ c.args.design.now.read _ c.last-last.ensures) in
    (filled_rowed _ _ _ _ _ _ _ _ f all, filled_tracks _ _ _ _ _ _ _ _ f all)
