-- the eleven operations on closed values, each with what tells it from its neighbours: order of operands, wrapping, rounding; and reduced
use mathlib.Core.Path.{◌≡◌, refl}
use mathlib.Core.List.{[], ◌∷◌}
use Rattle.rules.specs.Operations.{last_value, wrap, operate}
use Rattle.rules.specs.Arithmetic.{narrow}

-- add, subtract and double wrap modulo 2^32
wrapping : (operate 0 (3 ∷ 4 ∷ []) ≡ 7) × (operate 0 (4294967295 ∷ 2 ∷ []) ≡ 1) × (operate 1 (7 ∷ 4 ∷ []) ≡ 3)
    × (operate 1 (0 ∷ 1 ∷ []) ≡ 4294967295) × (operate 5 (3 ∷ []) ≡ 6) × (operate 5 (2147483649 ∷ []) ≡ 2)
unfolding operate wrap last_value
wrapping = (refl, refl, refl, refl, refl, refl)

-- and, or, xor
bitwise : (operate 2 (12 ∷ 10 ∷ []) ≡ 8) × (operate 3 (12 ∷ 10 ∷ []) ≡ 14) × (operate 4 (12 ∷ 10 ∷ []) ≡ 6)
unfolding operate wrap last_value
bitwise = (refl, refl, refl)

-- halve rounds down; low bit
halving : (operate 6 (7 ∷ []) ≡ 3) × (operate 6 (4294967295 ∷ []) ≡ 2147483647) × (operate 7 (6 ∷ []) ≡ 0) × (operate 7 (7 ∷ []) ≡ 1)
unfolding operate wrap last_value
halving = (refl, refl, refl, refl)

-- equal and less (unsigned) give 1 or 0
comparing : (operate 8 (5 ∷ 5 ∷ []) ≡ 1) × (operate 8 (5 ∷ 6 ∷ []) ≡ 0) × (operate 9 (1 ∷ 2 ∷ []) ≡ 1) × (operate 9 (2 ∷ 1 ∷ []) ≡ 0)
    × (operate 9 (2 ∷ 2 ∷ []) ≡ 0) × (operate 9 (4294967295 ∷ 0 ∷ []) ≡ 0)
unfolding operate wrap last_value
comparing = (refl, refl, refl, refl, refl, refl)

-- beside gives its last child's value
besides : (operate 10 (4 ∷ []) ≡ 4) × (operate 10 (4 ∷ 5 ∷ 6 ∷ []) ≡ 6)
unfolding operate wrap last_value
besides = (refl, refl)

-- in 4 bits: 9 + 9, 0 - 1 and twice 9 wrap; 32 bits are kept whole, and of 1 bit the lowest
narrowing : (narrow 4 (operate 0 (9 ∷ 9 ∷ [])) ≡ 2) × (narrow 4 (operate 1 (0 ∷ 1 ∷ [])) ≡ 15) × (narrow 4 (operate 5 (9 ∷ [])) ≡ 2)
    × (narrow 32 4294967295 ≡ 4294967295) × (narrow 1 6 ≡ 0) × (narrow 1 7 ≡ 1)
unfolding operate wrap last_value narrow
narrowing = (refl, refl, refl, refl, refl, refl)

-- halve, unlike the operations 0 to 5, tells whether its operand was reduced first
halving_order : (narrow 4 (operate 6 (16 ∷ [])) ≡ 8) × (narrow 4 (operate 6 (narrow 4 16 ∷ [])) ≡ 0)
unfolding operate wrap last_value narrow
halving_order = (refl, refl)
