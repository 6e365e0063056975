-- the theorems on the entries, for a reader; that each entry does what the rules say is its own promise (src/lib.rt)
use Rattle.circuit.specs.Entries.{StartOfEntry, DemandOfEntries, DemandOfReached}
use Rattle.circuit.specs.EitherOrder.{OrderOfSteps, RivalsInOrder}
use Rattle.circuit.proofs.EntryDemand as EntryDemand
use Rattle.circuit.proofs.ReachedDemand as ReachedDemand
use Rattle.circuit.proofs.EitherOrder as EitherOrder

-- what start takes (document 02, Q-7), said of what it returns
pub start_of_entry : StartOfEntry
start_of_entry = EntryDemand.start_of_entry

-- demand 3 of what start and step return, whatever is asked
pub demand_of_entries : DemandOfEntries
demand_of_entries = EntryDemand.demand_of_entries

-- and of what step, query and runs return after any steps and runs from a start
pub demand_of_reached : DemandOfReached
demand_of_reached = ReachedDemand.demand_of_reached

-- two hands, either order (document 02, Q-6), of what step returns in a state so reached; and the second of two rivals is refused 22
pub order_of_steps : OrderOfSteps
order_of_steps = EitherOrder.order_of_steps

pub rivals_in_order : RivalsInOrder
rivals_in_order = EitherOrder.rivals_in_order
