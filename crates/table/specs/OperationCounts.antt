-- what is claimed of the operations' child counts (document 02, Q-4): of every byte they are those of document 01
use Rattle.std.specs.Prelude.{ℕ, ◌<◌, ◌≡◌, List, [], ◌∷◌, ltb, length, get_or}
use Rattle.table.specs.declared.Counts.{Counts}
use Rattle.table.specs.Check.{between, fields, operation_counts}

-- document 01's operations, each at the place of its number: the fewest and the most children
unfoldable pub counts_by_number : List Counts
counts_by_number =
    between 2 2  -- 0 add
    ∷ (between 2 2  -- 1 subtract
    ∷ (between 2 2  -- 2 and
    ∷ (between 2 2  -- 3 or
    ∷ (between 2 2  -- 4 xor
    ∷ (between 1 1  -- 5 double
    ∷ (between 1 1  -- 6 halve
    ∷ (between 1 1  -- 7 low bit
    ∷ (between 2 2  -- 8 equal
    ∷ (between 2 2  -- 9 less
    ∷ (between 1 8  -- 10 beside
    ∷ []))))))))))

-- of a byte past the last operation
abbrev pub no_counts : Counts
no_counts = between 0 0

pub record CountsOfBytes : Type 0 where
  pub ruled : (op : ℕ) → op < 256 → operation_counts op ≡ get_or counts_by_number op no_counts
  -- the bytes that are operations are those with which a primitive is not refused 5, its word being 0, whatever its first child is
  pub known : (op first : ℕ) → op < 256 → fields 3 op 0 first ≡ ltb op (length counts_by_number)
