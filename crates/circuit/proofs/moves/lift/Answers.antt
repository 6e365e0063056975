-- `moves::lift` meets its contract, by whether the parent gathers its children.
use Rattle.std.proofs.Common.{◌≡◌, true, sym, refl, ◌∙◌}
use Rattle.list.specs.Working.{Bit}
use Rattle.circuit.specs.Working.{gathers_at}
use Rattle.circuit.proofs.GrowLaws.{grows_armed, grows_none, grows_waits, grows_arms}
use Rattle.circuit.proofs.SortLaws.{is_yes}
use Rattle.circuit.proofs.TrackLaws.{marked_as}
use Rattle.circuit.proofs.UpdateLaws.{node_bit}
use Rattle.circuit.proofs.moves.lift.Goals as goal
use Rattle.circuit.proofs.moves.lift.Lts as lts
use Rattle.circuit.proofs.moves.lift.Reads as reads
use Rattle.circuit.proofs.moves.lift.Tie as tie

abbrev Start : Type 0
Start = lts.Start tie.the-claims reads.Pre reads.Post

abbrev Else1 : Type 0
Else1 = lts.Else1 tie.the-claims reads.Pre reads.Post

bit : (s : Start) → Bit s.args.p.0
bit s = node_bit _ s.args.design.now.read.taken _ s.requires.0

-- it gathers
gathers : (c : Else1) → gathers_at c.args.design.now.table.now c.args.status.now c.args.second.now
    c.args.p.0 ≡ true
gathers c =
    sym c.gathers.ensures ∙ c.if-not-gathers.false

pub mark-requires : goal.mark-requires
mark-requires c = bit (search)

pub returns-then-not-gathers : goal.returns-then-not-gathers
returns-then-not-gathers c = (
  c.sort_at-k.ensures,
  grows_armed _ (bit (search)) _ _ _ _ _ _ (sym c.gathers.ensures ∙ c.if-not-gathers.true) _
      (marked_as _ _ _ _ _ (c.eq.ensures ∙ is_yes _) c.mark.ensures),
  refl,
)

pub gathered-requires : goal.gathered-requires
gathered-requires c = (c.requires.0, gathers (search), c.requires.1)

pub returns-in-No : goal.returns-in-No
returns-in-No c = (
  λ d e. c.in-No.ensures c.args.value.now d e,
  grows_none _ (bit (search)) _ _ _ _ _ _ (gathers (search)) refl,
  refl,
)

pub mark-requires-in-IfFree : goal.mark-requires-in-IfFree
mark-requires-in-IfFree c = bit (search)

pub returns-in-IfFree : goal.returns-in-IfFree
returns-in-IfFree c = (
  λ d e. c.in-IfFree.ensures c.args.value.now d e,
  grows_waits _ (bit (search)) _ _ _ _ _ _ (gathers (search)) refl _ c.mark-in-IfFree.ensures,
  refl,
)

pub mark-requires-in-Yes : goal.mark-requires-in-Yes
mark-requires-in-Yes c = bit (search)

pub returns-in-Yes : goal.returns-in-Yes
returns-in-Yes c = (
  λ d e. c.in-Yes.ensures c.args.value.now d e,
  grows_arms _ (bit (search)) _ _ _ _ _ _ (gathers (search)) refl _ c.mark-in-Yes.ensures,
  refl,
)
