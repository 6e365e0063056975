-- `changes::perform` meets its contract: each arm does what its plan says.
use Rattle.std.proofs.Common.{◌≡◌, ℕ, ◌≤◌, sym, ap, ◌∙◌, subst, arith}
use Rattle.table.specs.Bytes.{nodes, first}
use Rattle.table.specs.Decoded.{cell_at, node_slot}
use Rattle.table.specs.Working.{IsFunction}
use Rattle.table.proofs.Reading.{told}
use Rattle.rules.specs.State.{State512}
use Rattle.circuit.specs.declared.plan.Plan.{Plan}
use Rattle.circuit.specs.Meaning.{state_as}
use Rattle.circuit.specs.Working.{Planned, performed, Sound}
use Rattle.circuit.proofs.ChainLaws.{ok, first_in_lem}
use Rattle.circuit.proofs.PerformLaws.{sound, begun, turned, finished, left, entered, restarted}
use Rattle.circuit.proofs.changes.perform.Goals as goal
use Rattle.circuit.proofs.changes.perform.Lts as lts
use Rattle.circuit.proofs.changes.perform.Reads as reads
use Rattle.circuit.proofs.changes.perform.Tie as tie

abbrev Start : Type 0
Start = lts.Start tie.the-claims reads.Pre reads.Post

-- the state that comes in
abbrev state : Start → State512
state s = state_as s.args.status.now s.args.second.now s.args.value.now s.args.registers.now s.args.occupant.now

-- the plan is p
plans_as : (s : Start) (p : Plan) → s.args.plan ≡ p → Planned s.args.design.now.table.now (state s) s.args.n.0 p
plans_as s p e = subst (Planned s.args.design.now.table.now (state s) s.args.n.0) e s.requires.2

back : (s : Start) (p : Plan) → s.args.plan ≡ p → (x : State512) → x ≡ performed s.args.design.now.table.now (state s) s.args.n.0 p
    → x ≡ performed s.args.design.now.table.now (state s) s.args.n.0 s.args.plan
back s p e x q = q ∙ ap (performed s.args.design.now.table.now (state s) s.args.n.0) (sym e)

-- n is at most 512
n_high : (s : Start) → s.args.n.0 ≤ 512
n_high s = omega (arith, s.requires.0.1, (ok _ s.args.design.now.read.taken).n_high)

-- what the plan names is there
names : (s : Start) (p : Plan) → s.args.plan ≡ p → Sound s.args.design.now.table.now s.args.n.0 p
names s p e = sound _ s.args.design.now.read.taken _ s.requires.0 _ _ _ _ _ p (plans_as s p e)

-- what was read is the node's first child
read : (s : Start) {k : ℕ} → k ≡ cell_at s.args.design.now.cells.now (node_slot s.args.n.0) 4
    → k ≡ first s.args.design.now.table.now s.args.n.0
read s e = told _ _ s.args.design.now.read _ s.requires.0 4 _ (omega arith) e

-- a function named is at most 32
f_high : (s : Start) (g : ℕ) → IsFunction s.args.design.now.table.now g → g ≤ 32
f_high s g i = omega (arith, i.1, (ok _ s.args.design.now.read.taken).f_high)

-- the node's first child, where it is read
first_low : (s : Start) (c : ℕ) → c ≡ first s.args.design.now.table.now s.args.n.0 → c ≤ nodes s.args.design.now.table.now
first_low s c e = first_in_lem _ s.args.design.now.read.taken _ s.requires.0 _ e

pub set_status-requires : goal.set_status-requires
set_status-requires c = omega (arith, (names (search) _ c.in-Turns.is).1, (ok _ c.args.design.now.read.taken).n_high)

pub set_second-requires : goal.set_second-requires
set_second-requires c = n_high (search)

pub finish-requires : goal.finish-requires
finish-requires c = n_high (search)

pub reset-requires : goal.reset-requires
reset-requires c = (c.requires.1, names (search) _ c.in-Enters.is, first_low (search) _ (read (search) c.first-c.ensures))

pub set_second-requires-in-Enters : goal.set_second-requires-in-Enters
set_second-requires-in-Enters c = n_high (search)

pub set_occupant-requires : goal.set_occupant-requires
set_occupant-requires c = f_high (search) _ (names (search) _ c.in-Enters.is)

pub reset-requires-in-Restarts : goal.reset-requires-in-Restarts
reset-requires-in-Restarts c = (
  c.requires.1,
  names (search) _ c.in-Restarts.is,
  first_low (search) _ (read
      (search) c.first-c-in-Restarts.ensures),
)

pub finish-requires-in-Leaves : goal.finish-requires-in-Leaves
finish-requires-in-Leaves c = n_high (search)

pub set_occupant-requires-in-Leaves : goal.set_occupant-requires-in-Leaves
set_occupant-requires-in-Leaves c = f_high (search) _ (names (search) _ c.in-Leaves.is)

pub returns-in-Begins : goal.returns-in-Begins
returns-in-Begins c = back (search) _ c.in-Begins.is _ (begun _ c.args.design.now.read.taken _ c.requires.0 _ _ _ _ _ _ c.begin.ensures)

pub returns-in-Turns : goal.returns-in-Turns
returns-in-Turns c = back (search) _ c.in-Turns.is _ (turned _ c.args.design.now.read.taken _ c.requires.0 _ _ _ _ _ _ _
    _ c.set_status.ensures
    c.set_second.ensures)

pub returns-in-Finishes : goal.returns-in-Finishes
returns-in-Finishes c = let e = c.finish.ensures in
    back (search) _ c.in-Finishes.is _ (finished _ c.args.design.now.read.taken _ c.requires.0 _ _ _ _ _ _ _ _ _ e.0 e.1 e.2)

pub returns-in-Enters : goal.returns-in-Enters
returns-in-Enters c = let e = c.reset.ensures in
    back (search) _ c.in-Enters.is _ (entered _ c.args.design.now.read.taken _ c.requires.0 _ _ _ _ _ _ (names (search) _ c.in-Enters.is) _
    (read (search) c.first-c.ensures) _ _ _ _ e.0 e.1 e.2 e.3 _ c.set_second-in-Enters.ensures _ c.set_occupant.ensures)

pub returns-in-Restarts : goal.returns-in-Restarts
returns-in-Restarts c = let e = c.reset-in-Restarts.ensures in
    back (search) _ c.in-Restarts.is _ (restarted _ c.args.design.now.read.taken _ c.requires.0 _ _ _ _ _ _ (names
    (search) _ c.in-Restarts.is) _
    (read (search) c.first-c-in-Restarts.ensures) _ _ _ _ e.0 e.1 e.2 e.3)

pub returns-in-Leaves : goal.returns-in-Leaves
returns-in-Leaves c = let e = c.finish-in-Leaves.ensures in
    back (search) _ c.in-Leaves.is _ (left _ c.args.design.now.read.taken _ c.requires.0 _ _ _ _ _ _ _ _ _ e.0 e.1 e.2 _ _
    c.set_occupant-in-Leaves.ensures)
