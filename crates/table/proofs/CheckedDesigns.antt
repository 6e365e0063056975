-- the check run on the tables of document 01's proved designs
use Prim.Native.Nat.{ℕ}
use mathlib.Core.Path.{◌≡◌, refl}
use mathlib.Core.List.{List, [], ◌∷◌, ◌++◌}
use Rattle.table.specs.Designs.{header, function, node, twice, pair, layered, mult, nested, letting, fir}
use Rattle.table.specs.Bytes.{two_at, four_at, functions, nodes, function_at, node_at, params, width_byte, bits, width, root}
use Rattle.table.specs.Bytes.{kind, extra, word, first, next}
use Rattle.table.specs.Find.{total, highest, lowest, all, back_by, back}
use Rattle.table.specs.Naming.{mentions, root_of, names, namer, owner, parent, tail_child, tail, under_last, definiens, in_scope}
use Rattle.table.specs.Naming.{chain_by, chain, children}
use Rattle.table.specs.Syntax.{const, param, prim, call, self, cond, bind, bound, none, some}
use Rattle.table.specs.Expressions.{cond_of, bind_of, node_of, exprs_by, exprs_at, expr_at, body_of}
use Rattle.table.specs.Check.{accepted, refused, sizes, whole, root_fits, forward, linked, record_fits, fields, formed, callee_fits}
use Rattle.table.specs.Check.{operation_counts, counts_of, counted, scoped, tailed, const_fits, stage, check_of}

-- what closed evaluation has to see through
unfoldable pub bytes_open : Unit {0}
unfolding two_at four_at functions nodes function_at node_at params width_byte bits width root kind extra word first next
bytes_open = tt

unfoldable pub find_open : Unit {0}
unfolding total highest lowest all back_by back
find_open = tt

unfoldable pub naming_open : Unit {0}
unfolding mentions root_of names namer owner parent tail_child tail under_last definiens in_scope chain_by chain children
naming_open = tt

unfoldable pub tests_open : Unit {0}
unfolding sizes whole root_fits forward linked record_fits fields formed callee_fits operation_counts counts_of counted
    scoped tailed const_fits
tests_open = tt

unfoldable pub check_open : Unit {0}
unfolding bytes_open find_open naming_open tests_open stage check_of
check_open = tt

twice_accepted : check_of twice ≡ accepted 2 4
unfolding check_open
twice_accepted = refl

pair_accepted : check_of pair ≡ accepted 2 6
unfolding check_open
pair_accepted = refl

layered_accepted : check_of layered ≡ accepted 3 8
unfolding check_open
layered_accepted = refl

fir_accepted : check_of fir ≡ accepted 5 37
unfolding check_open
fir_accepted = refl

mult_accepted : check_of mult ≡ accepted 1 21
unfolding check_open
mult_accepted = refl

nested_refused : check_of nested ≡ refused 9 2
unfolding check_open
nested_refused = refl

letting_accepted : check_of (letting 2) ≡ accepted 1 5
unfolding check_open
letting_accepted = refl

letting_refused : check_of (letting 3) ≡ refused 8 5
unfolding check_open
letting_refused = refl

short_refused : check_of (1 ∷ 0 ∷ 1 ∷ []) ≡ refused 1 0
unfolding check_open
short_refused = refl

-- F 0, F 33, N 513
sizes_refused : (check_of (header 0 1) ≡ refused 2 0) × (check_of (header 33 1) ≡ refused 2 0)
    × (check_of (1 ∷ 0 ∷ 1 ∷ 2 ∷ []) ≡ refused 2 0)
unfolding check_open
sizes_refused = (refl, refl, refl)

-- one table, f(x) = x and main(x) = f(x), with one thing wrong at a time
abbrev wrong : (function₂ node₁ node₂ node₃ : List ℕ) → List ℕ
wrong f a b c = header 2 3 ++ function 1 1 ++ f ++ a ++ b ++ c

abbrev Refused : ℕ → ℕ → (function₂ node₁ node₂ node₃ : List ℕ) → Type 0
Refused k n f a b c = check_of (wrong f a b c) ≡ refused k n

right : check_of (wrong (function 1 2) (node 2 0 0 0 0) (node 4 0 1 3 0) (node 2 0 0 0 0)) ≡ accepted 2 3
unfolding check_open
right = refl

long_refused : check_of (wrong (function 1 2) (node 2 0 0 0 0) (node 4 0 1 3 0) (node 2 0 0 0 0 ++ node 2 0 0 0 0)) ≡ refused 3 0
unfolding check_open
long_refused = refl

-- a root past N; a first that is its own node; a node named twice, one never named; a root with a next
links_refused : Refused 4 0 (function 1 4) (node 2 0 0 0 0) (node 4 0 1 3 0) (node 2 0 0 0 0)
    × Refused 4 2 (function 1 2) (node 2 0 0 0 0) (node 4 0 1 2 0) (node 2 0 0 0 0)
    × Refused 4 1 (function 1 1) (node 2 0 0 0 0) (node 4 0 1 3 0) (node 2 0 0 0 0)
    × Refused 4 3 (function 1 2) (node 2 0 0 0 0) (node 4 0 1 0 0) (node 2 0 0 0 0)
    × Refused 4 1 (function 1 2) (node 2 0 0 0 3) (node 4 0 1 0 0) (node 2 0 0 0 0)
unfolding check_open
links_refused = (refl, refl, refl, refl, refl)

-- nine parameters; a kind 8; operation 11; a parameter with a word; a call with an extra
fields_refused : Refused 5 0 (function 9 2) (node 2 0 0 0 0) (node 4 0 1 3 0) (node 2 0 0 0 0)
    × Refused 5 1 (function 1 2) (node 8 0 0 0 0) (node 4 0 1 3 0) (node 2 0 0 0 0)
    × Refused 5 2 (function 1 2) (node 2 0 0 0 0) (node 3 11 0 3 0) (node 2 0 0 0 0)
    × Refused 5 3 (function 1 2) (node 2 0 0 0 0) (node 4 0 1 3 0) (node 2 0 1 0 0)
    × Refused 5 2 (function 1 2) (node 2 0 0 0 0) (node 4 1 1 3 0) (node 2 0 0 0 0)
unfolding check_open
fields_refused = (refl, refl, refl, refl, refl)

-- callee 0, callee above the caller; an addition of one; a parameter index too high; a bound node without a let
rest_refused : Refused 6 2 (function 1 2) (node 2 0 0 0 0) (node 4 0 0 3 0) (node 2 0 0 0 0)
    × Refused 6 1 (function 1 2) (node 4 0 2 0 0) (node 4 0 1 3 0) (node 2 0 0 0 0)
    × Refused 7 2 (function 1 2) (node 2 0 0 0 0) (node 3 0 0 3 0) (node 2 0 0 0 0)
    × Refused 8 3 (function 1 2) (node 2 0 0 0 0) (node 4 0 1 3 0) (node 2 1 0 0 0)
    × Refused 8 3 (function 1 2) (node 2 0 0 0 0) (node 4 0 1 3 0) (node 7 0 1 0 0)
unfolding check_open
rest_refused = (refl, refl, refl, refl, refl)

-- the abstract syntax that the tables stand for
unfoldable pub syntax_open : Unit {0}
unfolding bytes_open find_open naming_open cond_of bind_of node_of exprs_by exprs_at expr_at body_of
syntax_open = tt

twice_body : body_of twice 2 ≡ call 2 1 (some (call 3 1 (some (param 4 0) none)) none)
unfolding syntax_open
twice_body = refl

letting_body : body_of (letting 2) 1 ≡ bind 1 (some (param 2 0) none) (prim 3 0 (some (bound 4 2) (some (bound 5 2) none)))
unfolding syntax_open
letting_body = refl

mult_body : body_of mult 1 ≡ cond 1
    (prim 2 3 (some (prim 3 8 (some (param 4 0) (some (const 5 0) none)))
    (some (prim 6 8 (some (param 7 1) (some (const 8 0) none))) none)))
    (param 9 2)
    (self 10 (some (prim 11 5 (some (param 12 0) none)) (some (prim 13 6 (some (param 14 1) none)) (some
    (cond 15 (prim 16 7 (some (param 17 1) none)) (prim 18 0 (some (param 19 2) (some (param 20 0) none))) (param 21 2)) none))))
unfolding syntax_open
mult_body = refl
