-- the operations' child counts, byte by byte
use Prim.Native.Nat.{ℕ}
use mathlib.Core.Bool.{Bool, ◌&&◌, not}
use mathlib.Core.Path.{◌≡◌}
use lib.Dec.{T, eqb, ltb, eqb→eq}
use lib.ListN.{length, get_or}
use Rattle.table.specs.declared.Counts.{Counts}
use Rattle.table.specs.Pick.{pick}
use Rattle.table.specs.Find.{all}
use Rattle.table.specs.Check.{fields, operation_counts}
use Rattle.table.specs.OperationCounts.{counts_by_number, no_counts, CountsOfBytes}
use Rattle.table.proofs.Tests.{t_same}
use Rattle.table.proofs.FindLaws.{both, by_trying}

-- two counts compared, number by number
abbrev alike : Counts → Counts → Bool
alike c d = eqb c.low d.low && eqb c.high d.high

alike_same : (c d : Counts) → T (alike c d) → c ≡ d
alike_same c d h =
    let p = both (eqb c.low d.low) (eqb c.high d.high) h in
    let low = eqb→eq c.low d.low p.0 in
    let high = eqb→eq c.high d.high p.1 in
    λ i. record { low = low i; high = high i }

abbrev in_list : ℕ → Bool
in_list op = ltb op (length counts_by_number)

-- all 256 bytes are tried
pub counts_of_bytes : CountsOfBytes
unfolding all counts_by_number operation_counts fields
counts_of_bytes = record {
  ruled = λ op b. alike_same _ _ (by_trying (λ op. alike (operation_counts op) (get_or counts_by_number op no_counts)) 256 tt op b);
  known = λ op first b. t_same _ _ (by_trying (λ op. pick (fields 3 op 0 first) (in_list op) (not (in_list op))) 256 tt op b);
}
