-- `tracking::enlist` meets its contract, by whether the node is a call.
use Rattle.std.proofs.Common.{◌≡◌, ◌≤◌, arith}
use Rattle.table.specs.Bytes.{word}
use Rattle.table.specs.Naming.{owner}
use Rattle.table.specs.Working.{IsFunction}
use Rattle.table.proofs.Reading.{told, told_low}
use Rattle.list.specs.Working.{Bit}
use Rattle.circuit.proofs.ActBy.{own_in, callee_in}
use Rattle.circuit.proofs.ChainLaws.{ok}
use Rattle.circuit.proofs.TrackLaws.{call_kind, rowed_call, rowed_other, marked_as}
use Rattle.circuit.proofs.tracking.enlist.Goals as goal
use Rattle.circuit.proofs.tracking.enlist.Lts as lts
use Rattle.circuit.proofs.tracking.enlist.Reads as reads
use Rattle.circuit.proofs.tracking.enlist.Tie as tie

abbrev Start : Type 0
Start = lts.Start tie.the-claims reads.Pre reads.Post

abbrev AfterOwner : Type 0
AfterOwner = lts.After-owner tie.the-claims reads.Pre reads.Post

abbrev AfterCallee : Type 0
AfterCallee = lts.After-callee tie.the-claims reads.Pre reads.Post

-- the node has a bit
bit : (s : Start) → Bit s.args.n.0
bit s = (s.requires.0.0, omega (arith, s.requires.0.1, (ok _ s.args.design.now.read.taken).n_high))

-- what was read is the node's function
own_read : (c : AfterOwner) → c.owner-f.result.0 ≡ owner c.args.design.now.table.now c.args.n.0
own_read c = told _ _ c.args.design.now.read _ c.requires.0 6 _ (omega arith) c.owner-f.ensures

few : (c : AfterOwner) → c.owner-f.result.0 ≤ 32
few c =
    let p = c.requires in
    omega (arith, own_read c, (own_in _ c.args.design.now.read.taken _ p.0).1, (ok _ c.args.design.now.read.taken).f_high)

abbrev start : AfterCallee → Start
start c = (search)

-- a call's word is a function
function : (c : AfterCallee) → IsFunction (start c).args.design.now.table.now (word (start c).args.design.now.table.now (start c).args.n.0)
function c =
    let s = start c in
    callee_in _ s.args.design.now.read.taken _ s.requires.0 (call_kind _ _ _ c.is_call.ensures c.if-is_call.true)

-- which was read
word_read : (c : AfterCallee) → c.callee-g.result.0 ≡ word (start c).args.design.now.table.now (start c).args.n.0
word_read c =
    let s = start c in
    let r = s.args.design.now.read in
    told_low _ _ r _ s.requires.0 (omega (arith, (function c).1, (ok _ r.taken).f_high)) _ c.callee-g.ensures

pub mark-requires : goal.mark-requires
mark-requires c = bit (search)

pub put_at-requires : goal.put_at-requires
put_at-requires c = (omega (arith, few (search)), bit (search))

pub put_at-requires-then-is_call : goal.put_at-requires-then-is_call
put_at-requires-then-is_call c = (
  omega (
    arith,
    word_read (search),
    (function (search)).1,
    (ok _ (start (search)).args.design.now.read.taken).f_high,
  ),
  bit (start (search)),
)

pub returns-then-is_call : goal.returns-then-is_call
returns-then-is_call c = let s = start (search) in
    let p = s.requires in (
      rowed_call _ s.args.design.now.read.taken _ p.0 _ p.1 _ (own_read (search)) (few (search)) _ c.put_at.ensures _
          c.is_call.ensures c.if-is_call.true _ (word_read (search)) (omega (arith, word_read (search), (function (search)).0)) _
          c.put_at-then-is_call.ensures,
      λ x y z u. marked_as _ _ _ s.args.held.now _ (c.barred.ensures x y z u) c.mark.ensures,
    )

pub returns-else-is_call : goal.returns-else-is_call
returns-else-is_call c = let p = c.requires in (
  rowed_other _ c.args.design.now.read.taken _ p.0 _ p.1 _ (own_read (search)) (few (search)) _ c.put_at.ensures _ c.is_call.ensures
      c.if-is_call.false,
  λ x y z u. marked_as _ _ _ c.args.held.now _ (c.barred.ensures x y z u) c.mark.ensures,
)
