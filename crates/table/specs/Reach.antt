-- the functions that main reaches by calls; a table may hold others beside them
use Rattle.std.specs.Prelude.{ℕ, List}
use Rattle.table.specs.Syntax.{Expr}
use Rattle.table.specs.Bytes.{functions}
use Rattle.table.specs.Naming.{owner}
use Rattle.table.specs.Expressions.{body_of}
use Rattle.table.specs.Well.{CallIn}

-- main, which is F, is reached, and so is a function called in a reached body; a self call reaches nothing new
pub data Reached (F : ℕ) (body : ℕ → Expr) : ℕ → Type 0 where
  main : Reached F body F
  called : (f c g : ℕ) → Reached F body f → CallIn c g (body f) → Reached F body g

-- node n of a table stands in the body of a function that main reaches
abbrev pub InReach : List ℕ → ℕ → Type 0
InReach t n = Reached (functions t) (body_of t) (owner t n)
