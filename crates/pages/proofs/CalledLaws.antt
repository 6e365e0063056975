-- each record of a table's list has a function for its callee: its number is not 0
use Prim.Native.Nat.{ℕ, zero, suc, ◌≤◌}
use mathlib.Core.Path.{◌≡◌, refl}
use mathlib.Core.Bool.{Bool, true, false, ◌&&◌}
use mathlib.Core.List.{List, [], ◌∷◌, ◌++◌}
use native.Mathlib.Omega.{arith}
use lib.Dec.{eqb}
use borrow.Author.Tests.{eqb-true}
use Rattle.table.specs.Pick.{pick}
use Rattle.table.specs.Bytes.{functions, nodes}
use Rattle.list.specs.declared.Record.{Record}
use Rattle.list.specs.Tags.{callee_of, listed}
use Rattle.list.specs.Records.{record_at, calls_from, records_from, records_of}
use Rattle.list.proofs.ArbiterFacts.{and_both}
use Rattle.pages.specs.Working.{Called, no_call, a_call}

both_called : (l m : List Record) → Called l → Called m → Called (l ++ m)
both_called [] m no_call d = d
both_called (r ∷ l) m (a_call h c) d = a_call h (both_called l m c d)

module _ (t : List ℕ) where
  calls_called : (f k n : ℕ) → 1 ≤ f → Called (calls_from t f k n)
  unfolding calls_from
  calls_called f zero n low = no_call
  calls_called f (suc k) n low = go (listed t n && eqb (callee_of t n) f) refl (calls_called f k (suc n) low)
    where
      go : (b : Bool) → listed t n && eqb (callee_of t n) f ≡ b → Called (calls_from t f k (suc n))
          → Called (pick b (record_at t n ∷ calls_from t f k (suc n)) (calls_from t f k (suc n)))
      go false e next = next
      go true e next = a_call (omega (arith, low, eqb-true (callee_of t n) f (and_both (listed t n) (eqb (callee_of t n) f) e).1)) next

  records_called : (k f : ℕ) → 1 ≤ f → Called (records_from t k f)
  unfolding records_from
  records_called zero f low = no_call
  records_called (suc k) f low =
      both_called (calls_from t f (nodes t) 1) (records_from t k (suc f)) (calls_called f (nodes t) 1 low)
      (records_called k (suc f) (omega arith))

  pub all_called : Called (records_of t)
  unfolding records_of
  all_called = records_called (functions t) 1 (omega arith)
