-- `faults::lowest` meets its contract: a node more is one more that may be the lowest.
use Rattle.std.proofs.Common.{◌≡◌, ◌∙◌, arith}
use native.Mathlib.Numerals.{unary_clauses}
use Rattle.table.specs.Bytes.{nodes}
use Rattle.table.specs.Working.{IsNode}
use Rattle.table.proofs.FaultLaws.{SoFar, lowest_start, lowest_turn, lowest_told}
use Rattle.table.proofs.faults.lowest.Goals as goal
use Rattle.table.proofs.faults.lowest.Lts as lts
use Rattle.table.proofs.faults.lowest.Reads as reads
use Rattle.table.proofs.faults.lowest.Tie as tie

abbrev Turn : Type 0
Turn = lts.In-loop tie.the-claims reads.Pre reads.Post goal.the-invariant-loop-n goal.the-decreases-loop-n tie.handed_clauses

abbrev Told : Type 0
Told = lts.After-lower tie.the-claims reads.Pre reads.Post goal.the-invariant-loop-n goal.the-decreases-loop-n tie.handed_clauses

lasts : (c : Turn) → c.last-last.result.0 ≡ nodes c.args.table.now
lasts c = c.last-last.ensures ∙ c.requires.2.own 1 (omega arith)

node : (c : Turn) → IsNode c.args.table.now c.loop-n.n
node c = (omega arith, omega (arith, lasts c, c.loop-n-test.true))

told : (c : Told) → SoFar c.args.table.now c.loop-n.n c.lower-best.result
told c = let low = c.lower-best.ensures in
    lowest_turn _ _ _ _ _ (omega arith) c.loop-n.invariant c.fault_at-met.ensures.first low.lowest low.low

pub loop-n-init : goal.loop-n-init
loop-n-init c = (lowest_start _, tt)

pub bounds-tails-n : goal.bounds-tails-n
bounds-tails-n c = let i = node (search) in omega (arith, i.1, c.requires.0.n_high)

pub fault_at-met-requires : goal.fault_at-met-requires
fault_at-met-requires c = let p = c.requires in
    let i = node (search) in record {
      within = record { framed = p.0; links = p.1; read = p.2; node = i };
      own_value = (c.owner-own.ensures ∙ p.2.node _ 6 i (omega arith), p.3 _ i);
    }

pub loop-n-preserved : goal.loop-n-preserved
loop-n-preserved c = simp unary_clauses (told (search))

pub returns-2 : goal.returns-2
returns-2 c = let e : c.loop-n.n ≡ nodes c.args.table.now = omega (arith, lasts (search)) in
    lowest_told _ _ (rw e at (told (search)))
