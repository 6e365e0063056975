-- what a text gets of a table: the sheet where it is accepted, nothing where it is refused
use Prim.Native.Nat.{ℕ, ◌-◌, ◌≤◌}
use mathlib.Core.Path.{◌≡◌, refl, sym, ap, ap₂, ◌∙◌}
use mathlib.Core.List.{List, [], ◌++◌}
use native.Mathlib.Omega.{arith}
use lib.ListN.{length, take, drop, replicate, length-replicate}
use lib.Seq.{sets, take_at}
use Rattle.table.specs.Check.{Verdict, accepted, refused, if_accepted, check_of}
use Rattle.table.proofs.SurveyLaws.{taken_by}
use Rattle.list.specs.declared.Record.{Record}
use Rattle.list.specs.declared.Listing.{Listing}
use Rattle.list.specs.Records.{records_of, padded, Ordered}
use Rattle.list.proofs.RecordSlice.{drop_replicate}
use Rattle.pages.specs.Rows.{rows_of}
use Rattle.pages.specs.Sheet.{sheet_of, sheet_bytes, room, sheet_over}
use Rattle.pages.proofs.OverLaws.{sets_front}
use Rattle.pages.proofs.RowTexts.{lines_size}
use Rattle.pages.proofs.BoundLaws.{few_pages}

module _ (t : List ℕ) where
  pub bytes_of : (F N : ℕ) → check_of t ≡ accepted F N → sheet_bytes t ≡ sheet_of t
  unfolding sheet_bytes
  bytes_of F N e = rw e refl

  no_bytes : (k p : ℕ) → check_of t ≡ refused k p → sheet_bytes t ≡ []
  unfolding sheet_bytes
  no_bytes k p e = rw e refl

  -- the text of an accepted table, and of a refused one, which is left as it was
  pub over_in : (before after : List ℕ) (F N : ℕ) → check_of t ≡ accepted F N → after ≡ sets before 0 (sheet_of t)
      → after ≡ sheet_over t before
  unfolding sheet_over
  over_in before after F N e q = q ∙ ap (sets before 0) (sym (bytes_of F N e))

  pub over_none : (text : List ℕ) (k p : ℕ) → check_of t ≡ refused k p → text ≡ sheet_over t text
  unfolding sheet_over
  over_none text k p e = ap (sets text 0) (sym (no_bytes k p e))

  -- there is room for it in any case
  pub bytes_fit : length (sheet_bytes t) ≤ room
  unfolding sheet_bytes sheet_of
  bytes_fit = go (check_of t) refl
    where
      go : (v : Verdict) → check_of t ≡ v → length (if_accepted v (sheet_of t) []) ≤ room
      go (accepted F N) e = omega (
        arith,
        lines_size (rows_of (records_of t)),
        few_pages t (taken_by t F N (sym e)).0,
      )
      go (refused k p) e = omega arith

  -- over a text that has the room
  pub over_room : (text : List ℕ) → length text ≡ room → sheet_over t text ≡ sheet_bytes t ++ drop (length (sheet_bytes t)) text
  unfolding sheet_over
  over_room text e = sets_front text (sheet_bytes t) (omega (arith, bytes_fit, e))

  -- and by value over zeros
  pub printed_by : (text : List ℕ) → text ≡ sheet_over t (replicate room 0)
      → text ≡ sheet_bytes t ++ replicate (room - length (sheet_bytes t)) 0
  printed_by text e = e ∙ over_room (replicate room 0) (length-replicate {A = ℕ} room 0)
      ∙ ap (λ l. sheet_bytes t ++ l) (drop_replicate (length (sheet_bytes t)) room 0)

-- the records in front of a listing are all of them
pub found_records : (t : List ℕ) (l : Listing) → Ordered t l → take l.count l.items ≡ records_of t
unfolding padded
found_records t l a =
    ap₂ (λ (n : ℕ) (r : List Record). take n r) a.counted a.ordered ∙ take_at (records_of t) _ _ refl
