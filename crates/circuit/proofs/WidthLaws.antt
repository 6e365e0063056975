-- what is kept of a value by a width, and the width that is read of a function's cells; which function a node's is
use Rattle.std.proofs.Common.{◌≡◌, ℕ, ◌*◌, ◌%◌, ◌^◌, ◌<◌, ◌≤◌, List, sym, ap, subst, arith, pow_pos}
use Rattle.table.specs.Bytes.{bits, width}
use Rattle.table.specs.Naming.{owner}
use Rattle.table.specs.Decoded.{cell_at, node_slot, function_slot}
use Rattle.table.specs.Working.{IsNode, IsFunction, Read}
use Rattle.table.proofs.Family.{owner_in}
use Rattle.table.proofs.Reading.{told, told_width}
use Rattle.table.proofs.Widths.{width_range}
use Rattle.table.proofs.WidthLaws.{one_shifted}
use Rattle.rules.specs.Arithmetic.{narrow}
use Rattle.circuit.proofs.ChainLaws.{ok}

-- 2^w as the shift gives it, where 64 bits hold it
module _ (w : ℕ) (few : w ≤ 32) where
  over_is : 1 * 2 ^ w % 2 ^ 64 ≡ 2 ^ w
  over_is = one_shifted w 64 (omega (arith, few))

  pub over_some : 0 < 1 * 2 ^ w % 2 ^ 64
  over_some = subst (λ x. 0 < x) (sym over_is) (pow_pos w)

  pub cut_is : (v : ℕ) → v % (1 * 2 ^ w % 2 ^ 64) ≡ narrow w v
  unfolding narrow
  cut_is v = ap (λ x. v % x) over_is

-- a function's width, as it is read of its cells
module _ (t cells : List ℕ) (rd : Read t cells) (f : ℕ) (i : IsFunction t f) (w : ℕ)
    (ew : w ≡ bits (cell_at cells (function_slot f) 1)) where
  pub is_width : w ≡ width t f
  is_width = told_width t cells rd f i w ew

  pub few : w ≤ 32
  few = subst (λ x. x ≤ 32) (sym is_width) (width_range t rd.taken f i).1

-- the function that is read of a node's cells
pub own_read : (t cells : List ℕ) → Read t cells → (n : ℕ) → IsNode t n → (r : ℕ) → r ≡ cell_at cells (node_slot n) 6 → (r ≡ owner t n)
    × IsFunction t r
own_read t cells rd n i r e =
    let own = told t cells rd n i 6 r (omega arith) e in
    (own, subst (IsFunction t) (sym own) (owner_in t (ok t rd.taken).linking n i))
