-- eight small designs that tell wrong readings of what main reaches apart (document 02, Q-5), as tables; nodes are numbered in the order
-- written
use Rattle.std.specs.Prelude.{ℕ, List, ◌++◌}
use Rattle.table.specs.Designs.{header, function, node}

-- f(x) = x; g(x) = beside(f(x), f(x)); main(x) = x: nodes 1; 2; 3, 4; 5, 6; 7. Of g, the record and nodes 2, 5 and 6 as given
abbrev pub uncalled_but : (record₂ node₂ node₅ node₆ : List ℕ) → List ℕ
uncalled_but r a b c =
    header 3 7 ++ function 1 1 ++ r ++ function 1 7
    ++ node 2 0 0 0 0
    ++ a ++ node 4 0 1 4 5 ++ node 2 0 0 0 0 ++ b ++ c
    ++ node 2 0 0 0 0

abbrev pub uncalled : List ℕ
uncalled = uncalled_but (function 1 2) (node 3 10 0 3 0) (node 4 0 1 6 0) (node 2 0 0 0 0)

-- f(x) = x; g(x) = beside(f(x), f(x)); h(x) = g(x); main(x) = h(x): nodes 1; 2; 3, 4; 5, 6; 7, 8; 9, 10
abbrev pub two_levels : List ℕ
two_levels =
    header 4 10 ++ function 1 1 ++ function 1 2 ++ function 1 7 ++ function 1 9
    ++ node 2 0 0 0 0
    ++ node 3 10 0 3 0 ++ node 4 0 1 4 5 ++ node 2 0 0 0 0 ++ node 4 0 1 6 0 ++ node 2 0 0 0 0
    ++ node 4 0 2 8 0 ++ node 2 0 0 0 0
    ++ node 4 0 3 10 0 ++ node 2 0 0 0 0

-- f(x) = x; g(x) = beside(f(x), f(x)); h(x) = g(x); main(x) = f(x): nodes 1; 2; 3, 4; 5, 6; 7, 8; 9, 10
abbrev pub spare_caller : List ℕ
spare_caller =
    header 4 10 ++ function 1 1 ++ function 1 2 ++ function 1 7 ++ function 1 9
    ++ node 2 0 0 0 0
    ++ node 3 10 0 3 0 ++ node 4 0 1 4 5 ++ node 2 0 0 0 0 ++ node 4 0 1 6 0 ++ node 2 0 0 0 0
    ++ node 4 0 2 8 0 ++ node 2 0 0 0 0
    ++ node 4 0 1 10 0 ++ node 2 0 0 0 0

-- f(x) = x; g(x) = f(x); h(x) = beside(g(x), g(x)); main(x) = g(x): nodes 1; 2, 3; 4; 5, 6; 7, 8; 9, 10
abbrev pub spare_rival : List ℕ
spare_rival =
    header 4 10 ++ function 1 1 ++ function 1 2 ++ function 1 4 ++ function 1 9
    ++ node 2 0 0 0 0
    ++ node 4 0 1 3 0 ++ node 2 0 0 0 0
    ++ node 3 10 0 5 0 ++ node 4 0 2 6 7 ++ node 2 0 0 0 0 ++ node 4 0 2 8 0 ++ node 2 0 0 0 0
    ++ node 4 0 2 10 0 ++ node 2 0 0 0 0

-- f(x) = x; g(x) = beside(f(x), f(x)); main(x) = beside(f(x), f(x)): nodes 1; 2; 3, 4; 5, 6; 7; 8, 9; 10, 11
abbrev pub spare_twin : List ℕ
spare_twin =
    header 3 11 ++ function 1 1 ++ function 1 2 ++ function 1 7
    ++ node 2 0 0 0 0
    ++ node 3 10 0 3 0 ++ node 4 0 1 4 5 ++ node 2 0 0 0 0 ++ node 4 0 1 6 0 ++ node 2 0 0 0 0
    ++ node 3 10 0 8 0 ++ node 4 0 1 9 10 ++ node 2 0 0 0 0 ++ node 4 0 1 11 0 ++ node 2 0 0 0 0

-- f(x) = x; g(x) = beside(f(x), f(x)); main(x) = if x then main(halve(x)) else x: nodes 1; 2; 3, 4; 5, 6; 7; 8; 9 the self call, 10, 11; 12
abbrev pub self_alone : List ℕ
self_alone =
    header 3 12 ++ function 1 1 ++ function 1 2 ++ function 1 7
    ++ node 2 0 0 0 0
    ++ node 3 10 0 3 0 ++ node 4 0 1 4 5 ++ node 2 0 0 0 0 ++ node 4 0 1 6 0 ++ node 2 0 0 0 0
    ++ node 5 0 0 8 0 ++ node 2 0 0 0 9 ++ node 4 0 3 10 12 ++ node 3 6 0 11 0 ++ node 2 0 0 0 0 ++ node 2 0 0 0 0

-- f(x) = x; g(x) = if x then g(beside(f(x), f(x))) else x; main(x) = f(x): nodes 1; 2; 3; 4 the self call, 5; 6, 7; 8, 9; 10; 11, 12
abbrev pub self_spare : List ℕ
self_spare =
    header 3 12 ++ function 1 1 ++ function 1 2 ++ function 1 11
    ++ node 2 0 0 0 0
    ++ node 5 0 0 3 0 ++ node 2 0 0 0 4 ++ node 4 0 2 5 10 ++ node 3 10 0 6 0
    ++ node 4 0 1 7 8 ++ node 2 0 0 0 0 ++ node 4 0 1 9 0 ++ node 2 0 0 0 0 ++ node 2 0 0 0 0
    ++ node 4 0 1 12 0 ++ node 2 0 0 0 0

-- f(x) = x; g(x) = beside(f(x), f(x)); main(x) = if x then main(g(x)) else x: nodes 1; 2; 3, 4; 5, 6; 7; 8; 9 the self call, 10, 11; 12
abbrev pub self_argument : List ℕ
self_argument =
    header 3 12 ++ function 1 1 ++ function 1 2 ++ function 1 7
    ++ node 2 0 0 0 0
    ++ node 3 10 0 3 0 ++ node 4 0 1 4 5 ++ node 2 0 0 0 0 ++ node 4 0 1 6 0 ++ node 2 0 0 0 0
    ++ node 5 0 0 8 0 ++ node 2 0 0 0 9 ++ node 4 0 3 10 12 ++ node 4 0 2 11 0 ++ node 2 0 0 0 0 ++ node 2 0 0 0 0
