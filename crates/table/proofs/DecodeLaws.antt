-- what the bytes at a record's places are, and the slots that they were put into
use Prim.Native.Nat.{ℕ, ◌+◌, ◌-◌, ◌*◌}
use mathlib.Core.Path.{◌≡◌, ap}
use mathlib.Core.List.{List}
use native.Mathlib.Omega.{arith}
use Rattle.table.specs.Bytes.{byte_at, two_at, functions, nodes, function_at, node_at, params, width_byte, root}
use Rattle.table.specs.Decoded.{put_number, put_numbers, node_slot, function_slot, table_slot, node_number, function_number, table_number}
use Rattle.table.specs.Working.{IsFunction, At}
use Rattle.table.specs.Naming.{owner, parent}

-- node n's record begins at `at`
module _ (t : List ℕ) (base n at : ℕ) (p : At t base n) (e : at ≡ base + 10 * n - 10) where
  place : at ≡ node_at t n
  unfolding node_at
  place = omega (arith, p.start, p.low)

  -- bytes 2k and 2k + 1 of it
  node_bytes : (k i : ℕ) → i ≡ at + 2 * k → two_at t i ≡ two_at t (node_at t n + 2 * k)
  node_bytes k i q = ap (two_at t) (omega (arith, place))

  -- numbers put one after the other
  pub node_put : (s : ℕ) (a b c d e f : List ℕ) (u v w x y : ℕ) → s ≡ node_slot n → u ≡ two_at t at → v ≡ two_at t (at + 2)
      → w ≡ two_at t (at + 4) → x ≡ two_at t (at + 6) → y ≡ two_at t (at + 8) → b ≡ put_number a s 0 u → c ≡ put_number b s 1 v
      → d ≡ put_number c s 2 w → e ≡ put_number d s 3 x → f ≡ put_number e s 4 y → f ≡ put_numbers 5 (node_slot n) (node_number t n) a
  unfolding put_numbers
  node_put s a b c d e f u v w x y es eu ev ew ex ey eb ec ed ee ef = cc (
    node_bytes 0 at (omega arith),
    node_bytes 1 (at + 2) (omega arith),
    node_bytes 2 (at + 4) (omega arith),
    node_bytes 3 (at + 6) (omega arith),
    node_bytes 4 (at + 8) (omega arith),
  )

-- function f's begins at `at`
module _ (t : List ℕ) (f at : ℕ) (i : IsFunction t f) (e : at ≡ 4 * f) where
  record_place : at ≡ function_at f
  unfolding function_at
  record_place = omega (arith, i.0)

  pub params_byte : byte_at t at ≡ params t f
  unfolding params
  params_byte = ap (byte_at t) record_place

  pub second_byte : byte_at t (at + 1) ≡ width_byte t f
  unfolding width_byte
  second_byte = ap (λ i. byte_at t (i + 1)) record_place

  pub root_bytes : two_at t (at + 2) ≡ root t f
  unfolding root
  root_bytes = ap (λ i. two_at t (i + 2)) record_place

  pub function_put : (s : ℕ) (a b c : List ℕ) (x y : ℕ) → s ≡ function_slot f → b ≡ put_number a s 0 x → x ≡ two_at t at
      → c ≡ put_number b s 1 y → y ≡ two_at t (at + 2) → c ≡ put_numbers 2 (function_slot f) (function_number t f) a
  unfolding put_numbers
  function_put s a b c x y es eb ex ec ey =
      let first : two_at t at ≡ function_number t f 0 = ap (two_at t) (omega (arith, record_place)) in
      let second : two_at t (at + 2) ≡ function_number t f 1 = ap (two_at t) (omega (arith, record_place)) in
      cc

-- a node's function and parent put after its record
pub whole_put : (t : List ℕ) (n s : ℕ) (a b c : List ℕ) (x : ℕ) → s ≡ node_slot n → b ≡ put_numbers 5 (node_slot n) (node_number t n) a
    → c ≡ put_number b s 5 x → x ≡ owner t n + 64 * parent t n → c ≡ put_numbers 6 (node_slot n) (node_number t n) a
unfolding put_numbers
whole_put t n s a b c x es eb ec ex = cc

pub sizes_put : (t a b c : List ℕ) (x y : ℕ) → b ≡ put_number a table_slot 0 x → x ≡ functions t → c ≡ put_number b table_slot 1 y
    → y ≡ nodes t → c ≡ put_numbers 2 table_slot (table_number t) a
unfolding put_numbers
sizes_put t a b c x y eb ex ec ey = cc
