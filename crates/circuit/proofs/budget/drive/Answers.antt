-- `budget::drive` meets its contract: the sets are filled, the steps are taken, and the sets tell how it ends.
use Rattle.circuit.proofs.budget.drive.Goals as goal

pub go-requires : goal.go-requires
go-requires c = (
  c.group-groups.ensures,
  c.top-top.ensures.2,
  c.top-top.ensures.1,
  record {
    agreed = c.requires.0;
    main = c.top-top.ensures.0;
    rowed = c.fill.ensures.0;
    sized = record {
      statuses = c.told-status;
      seconds = c.told-second;
      valued = c.told-value;
      registered = c.told-registers;
      occupied = c.told-occupant;
    };
    stands = c.requires.1;
    tracks = c.fill.ensures.1 _;
  },
)
