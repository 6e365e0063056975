-- a record read off the list by value, and what its number says
use Prim.Native.Nat.{ℕ, ◌-◌, ◌≤◌, ◌<◌}
use mathlib.Core.Bool.{Bool}
use mathlib.Core.Path.{◌≡◌, ap, sym, ◌∙◌}
use mathlib.Core.List.{List}
use native.Mathlib.Omega.{arith}
use lib.Dec.{ltb}
use lib.ListN.{length, get_or, replicate, length-append, get_or-append}
use borrow.Author.Tests.{lt-ltb, le-ltb}
use Rattle.table.specs.Pick.{pick}
use Rattle.table.specs.Check.{accepted, refused, check_of}
use Rattle.list.specs.declared.Listing.{Listing}
use Rattle.list.specs.Records.{no_record, padded, records_of, Ordered}
use Rattle.exports.specs.Codes.{value_code, refusal_code, record_code, item, past, item_after, item_of, item_code}

module _ (t : List ℕ) where
  pub item_unlisted : (k p i : ℕ) → check_of t ≡ refused k p → refusal_code k p ≡ item_code (item_of t i)
  item_unlisted k p i e = sym (ap (λ v. item_code (item_after v (records_of t) i)) e)

  module _ (l : Listing) (h : Ordered t l) where
    -- there is room for every record
    pub few : length l.items ≡ 512 → l.count ≤ 512
    unfolding padded
    few size =
        let r = records_of t in
        let a = ap length h.ordered in
        let b = length-append r (replicate (512 - length r) no_record) in
        omega (arith, a, b, h.counted)

    module _ (F N : ℕ) (e : check_of t ≡ accepted F N) (i : ℕ) where
      -- by whether there is a record at i
      chosen : (b : Bool) → ltb i (length (records_of t)) ≡ b
          → item_code (pick b (item (get_or (records_of t) i no_record)) past) ≡ item_code (item_of t i)
      chosen b q =
          ap (λ x. item_code (pick x (item (get_or (records_of t) i no_record)) past)) (sym q)
          ∙ sym (ap (λ v. item_code (item_after v (records_of t) i)) e)

      pub item_at : (k : ℕ) → k ≡ value_code (record_code (get_or l.items i no_record)) → i < l.count → k ≡ item_code (item_of t i)
      unfolding padded
      item_at k c b =
          let q : i < length (records_of t) = omega (arith, h.counted) in
          c ∙ ap (λ x. value_code (record_code (get_or x i no_record))) h.ordered
          ∙ ap (λ r. value_code (record_code r))
          (get_or-append (records_of t) (replicate (512 - length (records_of t)) no_record) no_record i q)
          ∙ chosen _ (lt-ltb i (length (records_of t)) q)

      pub item_past : l.count ≤ i → 0 ≡ item_code (item_of t i)
      item_past b = chosen _ (le-ltb i (length (records_of t)) (omega (arith, h.counted)))
