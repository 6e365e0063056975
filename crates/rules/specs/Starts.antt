-- what is claimed of a start (document 02, Q-7): what it takes, and what it is turned back for last
use Rattle.std.specs.Prelude.{ℕ, ◌≡◌, ◌↔◌, List, length}
use Rattle.table.specs.Bytes.{functions, nodes, params}
use Rattle.table.specs.Check.{accepted, refused, check_of}
use Rattle.list.specs.Tags.{InOrder, Holding, Lacks, check_with}
use Rattle.rules.specs.State.{State512}
use Rattle.rules.specs.Circuit.{started, turned, opening, start_of}

-- what passes the table, 10 and 11
pub record Fitting (t tags args : List ℕ) : Type 0 where
  pub table : check_of t ≡ accepted (functions t) (nodes t)
  pub order : InOrder t tags
  pub count : length args ≡ params t (functions t)

-- of any table, tags and arguments; the four cases leave no other
pub record StartsExactly (t tags args : List ℕ) : Type 0 where
  -- table and tags come first, and 11 after them
  pub first : (number place : ℕ) → check_with t tags ≡ refused number place → start_of t tags args ≡ turned number place
  pub second : (F N : ℕ) → check_with t tags ≡ accepted F N → (length args ≡ params t (functions t) → ⊥)
      → start_of t tags args ≡ turned 11 0
  -- start takes what passes those three with tags that hold the list, and nothing else; its state is the one that the rules name
  pub taken : (s : State512) → (start_of t tags args ≡ started s) ↔ (Fitting t tags args × Holding t tags × (s ≡ opening t args))
  -- 26 at n: those three are passed, and n is the lowest that is listed and has no tag
  pub lacking : (n : ℕ) → (start_of t tags args ≡ turned 26 n) ↔ (Fitting t tags args × Lacks t tags n)
