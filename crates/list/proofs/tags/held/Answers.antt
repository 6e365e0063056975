-- `tags::held` meets its contract, one cause of refusal 10 after the other.
use Rattle.std.proofs.Common.{◌≡◌, ◌+◌, ◌-◌, ◌*◌, ◌/◌, true, not, length, sym, ◌∙◌, arith}
use Rattle.table.specs.Decoded.{cell_at, table_slot}
use Rattle.table.specs.Find.{all}
use Rattle.list.specs.Tags.{tagged}
use Rattle.list.proofs.TagLoops.{found_is, found_not}
use Rattle.list.proofs.TagVerdicts.{wrong_length, past_is, past_last, unfit, held_fit}
use Rattle.list.proofs.tags.held.Goals as goal
use Rattle.list.proofs.tags.held.Goals.{Else-tags-size, Else-not-none_past}

-- past the test of the length it is right, and past that of the last bits none is set past the last node
right : (c : Else-tags-size) → length c.args.tags.now ≡ (c.last-last.result.0 + 7) / 8
right c = c.if-tags-size.false ∙ c.size.ensures

clear : (c : Else-not-none_past)
    → all (λ i. not (tagged c.args.tags.now (cell_at c.args.cells.now table_slot 2 + i)))
    (8 * length c.args.tags.now - cell_at c.args.cells.now table_slot 2) ≡ true
clear c = sym (past_is _ _ _ c.last-last.ensures) ∙ sym c.none_past.ensures ∙ c.if-not-none_past.false

pub returns-then-tags-size : goal.returns-then-tags-size
returns-then-tags-size c = rw c.into.ensures
    (wrong_length _ _ _ c.last-last.ensures (λ q. c.if-tags-size.true (q ∙ sym c.size.ensures)))

pub returns-then-not-none_past : goal.returns-then-not-none_past
returns-then-not-none_past c = let e = c.last-last.ensures in
    rw c.into-then-not-none_past.ensures (past_last _ _ _ e (right (goal.at.returns-then-not-none_past c).Else-tags-size)
    (sym (past_is _ _ _ e) ∙ sym c.none_past.ensures ∙ c.if-not-none_past.true))

pub lowest_unfit-requires : goal.lowest_unfit-requires
lowest_unfit-requires c = let e = c.last-last.ensures in
    let l = right (goal.at.lowest_unfit-requires c).Else-tags-size in
    (omega (arith, l), omega (arith, l, e))

pub returns-in-Some : goal.returns-in-Some
returns-in-Some c = let f = found_is _ _ (sym c.in-Some.is ∙ c.lowest_unfit.ensures) in
    unfit _ _ _ _ c.last-last.ensures (right (goal.at.returns-in-Some c).Else-tags-size)
    (clear (goal.at.returns-in-Some c).Else-not-none_past) f.0 (λ z. f.1 (sym f.0 ∙ z))

pub returns : goal.returns
returns c =
    held_fit _ _ _ _ c.last-last.ensures c.main-main.ensures (right (goal.at.returns c).Else-tags-size)
    (clear (goal.at.returns c).Else-not-none_past) (found_not _ (sym c.in_default.is ∙ c.lowest_unfit.ensures))
