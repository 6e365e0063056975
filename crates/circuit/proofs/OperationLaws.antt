-- the operations: of two values and a last one, and the machine's wrapping sums
use Rattle.std.proofs.Common.{◌≡◌, ℕ, Bool, true, false, refl, ◌+◌, ◌-◌, ◌*◌, ◌%◌, ◌^◌, ◌<◌, [], ◌∷◌, arith}
use mir.Val.{bool_byte}
use Rattle.table.specs.Pick.{pick}
use Rattle.rules.specs.Operations.{operate}

-- an operation on two values; beside has its last child's
abbrev pub operate_by : (op x y last : ℕ) → ℕ
operate_by op x y last = operate op (x ∷ (y ∷ (last ∷ [])))

pub doubled : (x : ℕ) → (x + x) % 2 ^ 32 ≡ (2 * x) % 2 ^ 32
doubled x = omega arith

pub subtracted : (x y : ℕ) → y < 4294967296 → (x + (2 ^ 32 - y)) % 2 ^ 32 ≡ (x + 2 ^ 32 - y) % 2 ^ 32
subtracted x y b = omega arith

-- a test as a number
pub chosen : (b : Bool) → bool_byte b ≡ pick b 1 0
chosen true = refl
chosen false = refl
