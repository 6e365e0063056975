-- `moves::update` meets its contract, plan by plan.
use Rattle.std.proofs.Common.{◌≡◌, Option, None, sym, subst}
use Rattle.table.specs.declared.Node.{Node}
use Rattle.circuit.specs.declared.plan.Plan.{Plan}
use Rattle.circuit.specs.declared.sets.Sets.{Sets as SetsCode}
use Rattle.circuit.specs.Working.{Sound}
use Rattle.circuit.specs.Packed.{unpacked}
use Rattle.circuit.specs.Following.{Onward}
use Rattle.circuit.proofs.moves.update.Goals as goal
use Rattle.circuit.proofs.moves.update.Lts as lts
use Rattle.circuit.proofs.moves.update.Reads as reads
use Rattle.circuit.proofs.moves.update.Tie as tie

abbrev Start : Type 0
Start = lts.Start tie.the-claims reads.Pre reads.Post

-- the plan is p
sound_as : (s : Start) (p : Plan) → s.args.plan ≡ p → Sound s.args.design.now.table.now s.args.n.0 p
sound_as s p e = subst (Sound s.args.design.now.table.now s.args.n.0) e s.requires.1

abbrev Next : (s : Start) → Plan → Option Node → SetsCode → Type 0
Next s p r y = Onward s.args.design.now.table.now s.args.n.0 p s.args.status.now s.args.second.now s.args.value.now
    (unpacked s.args.sets.now) r
    (unpacked y)

told : (s : Start) (p : Plan) → s.args.plan ≡ p → (r : Option Node) (y : SetsCode) → Next s p r y → Next s s.args.plan r y
told s p e r y x = subst (λ q. Next s q r y) (sym e) x

pub begun-requires : goal.begun-requires
begun-requires c = (c.requires.0, sound_as (search) Plan.Begins c.in-Begins.is, c.requires.3)

pub returns-in-Begins : goal.returns-in-Begins
returns-in-Begins c = told (search) _ c.in-Begins.is _ _ c.begun.ensures

pub turned-requires : goal.turned-requires
turned-requires c = (c.requires.0, sound_as (search) (Plan.Turns c.in-Turns.m) c.in-Turns.is)

pub returns-in-Turns : goal.returns-in-Turns
returns-in-Turns c = told (search) _ c.in-Turns.is None _ (λ d e s₀ sized q eq tr. (c.turned.ensures d e s₀ sized q eq tr, tt))

pub called-requires : goal.called-requires
called-requires c = (c.requires.0, sound_as (search) (Plan.Enters c.in-Enters.g) c.in-Enters.is, c.requires.2, c.requires.3)

pub returns-in-Enters : goal.returns-in-Enters
returns-in-Enters c = told (search) _ c.in-Enters.is _ _ c.called.ensures

pub called-requires-in-Restarts : goal.called-requires-in-Restarts
called-requires-in-Restarts c = (
  c.requires.0,
  sound_as (search) (Plan.Restarts c.in-Restarts.f) c.in-Restarts.is,
  c.requires.2,
  c.requires.3,
)

pub returns-in-Restarts : goal.returns-in-Restarts
returns-in-Restarts c = told (search) _ c.in-Restarts.is _ _ c.called-in-Restarts.ensures
