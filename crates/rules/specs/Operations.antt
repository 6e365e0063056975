-- the operations of a primitive (document 01, "The table") on 32-bit values
use Rattle.std.specs.Prelude.{ℕ, ◌+◌, ◌-◌, ◌*◌, ◌/◌, ◌%◌, ◌^◌, List, [], ◌∷◌, eqb, ltb, get_or}
use Rattle.std.specs.Int.Bits.{bit_and, bit_or, bit_xor}
use Rattle.table.specs.Pick.{pick}

-- "beside gives its last child's value"
unfoldable pub last_value : List ℕ → ℕ
last_value [] = 0
last_value (v ∷ []) = v
last_value (v ∷ (w ∷ ws)) = last_value (w ∷ ws)

-- modulo 2^32
unfoldable pub wrap : ℕ → ℕ
wrap x = x % 2 ^ 32

-- by number: add, subtract, and, or, xor, double, halve, low bit, equal, less, beside; a comparison is of unsigned numbers, 1 or 0
unfoldable pub operate : (operation : ℕ) → (values : List ℕ) → ℕ
unfolding wrap
operate op vs =
    let x = get_or vs 0 0 in
    let y = get_or vs 1 0 in
    pick (eqb op 0) (wrap (x + y))
    (pick (eqb op 1) (wrap (x + 2 ^ 32 - y))
    (pick (eqb op 2) (bit_and x y)
    (pick (eqb op 3) (bit_or x y)
    (pick (eqb op 4) (bit_xor x y)
    (pick (eqb op 5) (wrap (2 * x))
    (pick (eqb op 6) (x / 2)
    (pick (eqb op 7) (x % 2)
    (pick (eqb op 8) (pick (eqb x y) 1 0)
    (pick (eqb op 9) (pick (ltb x y) 1 0)
    (last_value vs))))))))))
