use Rattle.std.proofs.Common.{◌≡◌, true, Some, refl, subst, arith}
use Rattle.table.specs.Working.{IsNode}
use Rattle.rules.specs.State.{State512, entry}
use Rattle.rules.specs.Circuit.{act_of}
use Rattle.rules.specs.Sets.{first_in, goes}
use Rattle.circuit.specs.Meaning.{state_as}
use Rattle.circuit.specs.Packed.{unpacked, Names}
use Rattle.circuit.proofs.PerformLaws.{sound}
use Rattle.circuit.proofs.StepsLaws.{Going, goes_on, run_start, run_node, run_goes, run_next, run_rests, run_stops}
use Rattle.circuit.proofs.steps.go.Goals as goal
use Rattle.circuit.proofs.steps.go.Lts as lts
use Rattle.circuit.proofs.steps.go.Reads as reads
use Rattle.circuit.proofs.steps.go.Tie as tie

abbrev Head : Type 0
Head = lts.At-loop tie.the-claims reads.Pre reads.Post goal.the-invariant-loop-first goal.the-decreases-loop-first

-- a turn, in which there is a node, and past the test
abbrev Turn : Type 0
Turn = lts.After-going tie.the-claims reads.Pre reads.Post goal.the-invariant-loop-first goal.the-decreases-loop-first

abbrev Going-on : Type 0
Going-on = lts.Else1 tie.the-claims reads.Pre reads.Post goal.the-invariant-loop-first goal.the-decreases-loop-first

-- the state at the loop's head
abbrev state : Head → State512
state c = let l = c.loop-first in state_as l.status l.second l.value l.registers l.occupant

pub loop-first-init : goal.loop-first-init
loop-first-init c = (run_start _ _ _ _ _ _ _ c.requires.3, omega arith, c.first-first.ensures)

-- the node is the first one
named : (c : Turn) → Names (Some c.in-Some.n) (first_in (unpacked c.loop-first.sets) 512)
named c = subst (λ r. Names r (first_in (unpacked c.loop-first.sets) 512)) c.in-Some.is c.loop-first.invariant.2

some : (c : Turn) → c.in-Some.n.0 ≡ 0 → ⊥
some c z = omega (arith, (named c).1, z)

-- past the test there is budget left, and main's root isn't done
on : (c : Going-on) → Going c.loop-first.taken c.args.budget (entry c.loop-first.status 0 c.args.top.0)
on c = goes_on _ _ _ _ c.going.ensures c.if-not-going.false

pub going-requires : goal.going-requires
going-requires c = (c.requires.1, c.requires.2)

pub returns-then-not-going : goal.returns-then-not-going
returns-then-not-going c = let f = c.requires.3 in
    run_stops _ _ _ _ _ f.agreed f.main _ (state (search)) _ c.loop-first.invariant.0 _ (named (search)).0 (some (search)) _
    c.going.ensures c.if-not-going.true

-- the node has a move
here : (c : Going-on) → IsNode c.args.design.now.table.now c.in-Some.n.0
    × (goes (act_of c.args.design.now.table.now (state (search)) c.in-Some.n.0) ≡ true)
here c =
    let f = c.requires.3 in
    let r = c.loop-first.invariant.0 in
    let e = (named (search)).0 in (
      run_node _ _ _ _ _ f.agreed f.main _ (state (search)) _ r _ e (some (search)) (on c).undone,
      run_goes _ _ _ _ _ f.agreed f.main _ (state (search)) _ r _ e (some (search)) (on c).undone,
    )

pub take-plan-requires : goal.take-plan-requires
take-plan-requires c = ((here (search)).0, c.requires.0, (here (search)).1)

pub overflow_add-taken : goal.overflow_add-taken
overflow_add-taken c = omega (arith, (on (search)).room, c.loop-first.invariant.1)

pub follow-first-requires : goal.follow-first-requires
follow-first-requires c = (
  (here (search)).0,
  sound _ c.args.design.now.read.taken _ (here
      (search)).0 _ _ _ _ _ c.take-plan.result c.take-plan.ensures.0,
  c.requires.3.rowed,
  (named (search)).0,
)

pub loop-first-smaller : goal.loop-first-smaller
loop-first-smaller c = omega (arith, (on (search)).room)

pub loop-first-preserved : goal.loop-first-preserved
loop-first-preserved c = let f = c.requires.3 in
    let r = c.loop-first.invariant.0 in
    let g = on (search) in
    let m = c.take-plan.ensures in
    let z = c.follow-first.ensures _ _ (state (search)) r.turning.sized m.0 m.1 (record { exact = r.turning.exact; past = r.past }) in (
      run_next _ _ _ _ _ f.agreed f.main _ (state (search)) _ r _ (named (search)).0 (some (search)) g.undone g.room c.take-plan.result
          m.0 _
          m.1 _ z.0,
      c.loop-first.invariant.1,
      z.1,
    )

pub returns : goal.returns
returns c = let f = c.requires.3 in
    let none : first_in (unpacked c.loop-first.sets) 512 ≡ 0 =
    subst (λ r. Names r (first_in (unpacked c.loop-first.sets) 512)) c.in_default.is c.loop-first.invariant.2 in
    run_rests _ _ _ _ _ f.agreed f.main _ (state (search)) _ c.loop-first.invariant.0 _ refl none
