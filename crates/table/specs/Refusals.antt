-- the numbers that documents 01 and 02 give to the reasons of a refusal, and how a refusal is written
use Rattle.std.specs.Prelude.{ℕ, List, ◌++◌, codes, decimal}
use Rattle.table.specs.declared.refusals.Reason.{Reason}
use Rattle.table.specs.declared.refusals.Refusal.{Refusal}
use Rattle.table.specs.declared.refusals.Reason.TheVariants.{
  Short,
  Sizes,
  Length,
  Links,
  Fields,
  Callee,
  Children,
  Scope,
  Tail,
  Tags,
  Arguments,
  NoNode,
  Done,
  NoStep,
  Waits,
  Collides,
  Astray,
  Constant,
  Untagged,
}

abbrev pub number_of : Reason → ℕ
number_of Short = 1
number_of Sizes = 2
number_of Length = 3
number_of Links = 4
number_of Fields = 5
number_of Callee = 6
number_of Children = 7
number_of Scope = 8
number_of Tail = 9
number_of Tags = 10
number_of Arguments = 11
number_of NoNode = 12
number_of Done = 20
number_of NoStep = 21
number_of Waits = 22
number_of Collides = 23
number_of Astray = 24
number_of Constant = 25
number_of Untagged = 26

-- its number, then its place
abbrev pub refusal_text : Refusal → List ℕ
refusal_text r = codes "refused " ++ decimal (number_of r.reason) ++ codes " " ++ decimal r.place.0
