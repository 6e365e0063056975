-- what the check of a table gives: document 01's number and values of each answer
use Rattle.std.specs.Prelude.{Result, Ok, Err}
use Rattle.table.specs.declared.Design.{Design}
use Rattle.table.specs.declared.refusals.Refusal.{Refusal}
use Rattle.table.specs.Check.{Verdict, accepted, refused}
use Rattle.table.specs.Refusals.{number_of}

-- accepted with main's number F and the last node's number N; refused with number and place
abbrev pub verdict_of : Result Design Refusal → Verdict
verdict_of (Ok d) = accepted d.main.0 d.last.0
verdict_of (Err r) = refused (number_of r.reason) r.place.0
