-- six small designs that tell wrong readings of the arbiter list apart, as tables; nodes are numbered in the order written
use Rattle.std.specs.Prelude.{ℕ, List, ◌++◌}
use Rattle.table.specs.Designs.{header, function, node}

-- f(x) = x; main(x) = if x then f(x) else f(x): nodes 1; 2; 3; 4, 5; 6, 7
abbrev pub branches : List ℕ
branches =
    header 2 7 ++ function 1 1 ++ function 1 2
    ++ node 2 0 0 0 0
    ++ node 5 0 0 3 0 ++ node 2 0 0 0 4 ++ node 4 0 1 5 6 ++ node 2 0 0 0 0 ++ node 4 0 1 7 0 ++ node 2 0 0 0 0

-- f(x) = x; main(x) = if f(x) then f(x) else 0: nodes 1; 2; 3, 4; 5, 6; 7
abbrev pub condition : List ℕ
condition =
    header 2 7 ++ function 1 1 ++ function 1 2
    ++ node 2 0 0 0 0
    ++ node 5 0 0 3 0 ++ node 4 0 1 4 5 ++ node 2 0 0 0 0 ++ node 4 0 1 6 7 ++ node 2 0 0 0 0 ++ node 1 0 0 0 0

-- f(x) = x; main(x, y) = if x then main(f(x), f(y)) else 0: nodes 1; 2; 3; 4 the self call, 5, 6; 7, 8; 9
abbrev pub self_arguments : List ℕ
self_arguments =
    header 2 9 ++ function 1 1 ++ function 2 2
    ++ node 2 0 0 0 0
    ++ node 5 0 0 3 0 ++ node 2 0 0 0 4
    ++ node 4 0 2 5 9 ++ node 4 0 1 6 7 ++ node 2 0 0 0 0 ++ node 4 0 1 8 0 ++ node 2 1 0 0 0
    ++ node 1 0 0 0 0

-- f(x) = x; main(x) = let a = f(x), b = f(x) in f(a): nodes 1; 2; 3, 4; 5, 6; 7, 8
abbrev pub definientia : List ℕ
definientia =
    header 2 8 ++ function 1 1 ++ function 1 2
    ++ node 2 0 0 0 0
    ++ node 6 0 0 3 0 ++ node 4 0 1 4 5 ++ node 2 0 0 0 0 ++ node 4 0 1 6 7 ++ node 2 0 0 0 0 ++ node 4 0 1 8 0 ++ node 7 0 3 0 0

-- g(x) = if x then g(halve(x)) else x; main(x) = beside(g(x), g(x)): nodes 1; 2; 3 the self call, 4, 5; 6; 7; 8, 9; 10, 11
abbrev pub self_call : List ℕ
self_call =
    header 2 11 ++ function 1 1 ++ function 1 7
    ++ node 5 0 0 2 0 ++ node 2 0 0 0 3 ++ node 4 0 1 4 6 ++ node 3 6 0 5 0 ++ node 2 0 0 0 0 ++ node 2 0 0 0 0
    ++ node 3 10 0 8 0 ++ node 4 0 1 9 10 ++ node 2 0 0 0 0 ++ node 4 0 1 11 0 ++ node 2 0 0 0 0

-- f(x) = x; h(x, y) = x; main(x) = h(f(x), f(x)): nodes 1; 2; 3; 4, 5; 6, 7
abbrev pub call_arguments : List ℕ
call_arguments =
    header 3 7 ++ function 1 1 ++ function 2 2 ++ function 1 3
    ++ node 2 0 0 0 0
    ++ node 2 0 0 0 0
    ++ node 4 0 2 4 0 ++ node 4 0 1 5 6 ++ node 2 0 0 0 0 ++ node 4 0 1 7 0 ++ node 2 0 0 0 0
