-- what a function makes of values (document 02, Q-2): what its primitives give, and what it keeps of a value that comes from another
-- function, from a round of its own or from a start
use Rattle.std.specs.Prelude.{ℕ, ◌%◌, ◌^◌, List, map}
use Rattle.table.specs.Bytes.{width}
use Rattle.rules.specs.Operations.{operate}

-- the arithmetic units of a design, by function
pub record Arithmetic : Type 0 where
  -- the value of a primitive in the body of function f
  pub result : (f op : ℕ) → List ℕ → ℕ
  -- what function f keeps of an argument that it gets, or of an answer that it takes
  pub keep : (f v : ℕ) → ℕ

-- the same of all of its arguments
abbrev pub keep_all : Arithmetic → (f : ℕ) → List ℕ → List ℕ
keep_all units f vs = map (units.keep f) vs

-- "reduced modulo 2^w"
unfoldable pub narrow : (w v : ℕ) → ℕ
narrow w v = v % 2 ^ w

-- what a primitive gives, and what is kept, is reduced by the function's own width
abbrev pub narrowed : (bits_of : ℕ → ℕ) → Arithmetic
narrowed bits_of = record { result = λ f op vs. narrow (bits_of f) (operate op vs); keep = λ f v. narrow (bits_of f) v }

-- the arithmetic of a table
abbrev pub arithmetic : (t : List ℕ) → Arithmetic
arithmetic t = narrowed (width t)
