-- small designs with widths, as tables, each by the width bytes of its functions (0 means 32 bits)
use Rattle.std.specs.Prelude.{ℕ, List, ◌++◌}
use Rattle.table.specs.Designs.{header, node}
use Rattle.table.specs.WidthDesigns.{sized}

-- main(x, y) = x op y: nodes 1; 2, 3
abbrev pub binary : (byte op : ℕ) → List ℕ
binary b op = header 1 3 ++ sized 2 b 1 ++ node 3 op 0 2 0 ++ node 2 0 0 0 3 ++ node 2 1 0 0 0

-- f(x) = x; main(x) = f(x): nodes 1; 2 call, 3
abbrev pub passing : (callee main : ℕ) → List ℕ
passing c m = header 2 3 ++ sized 1 c 1 ++ sized 1 m 2 ++ node 2 0 0 0 0 ++ node 4 0 1 3 0 ++ node 2 0 0 0 0

-- f(x) = x / 2; main(x) = f(x + x): nodes 1, 2; 3 call, 4, 5, 6
abbrev pub halving : (callee main : ℕ) → List ℕ
halving c m =
    header 2 6 ++ sized 1 c 1 ++ sized 1 m 3
    ++ node 3 6 0 2 0 ++ node 2 0 0 0 0
    ++ node 4 0 1 4 0 ++ node 3 0 0 5 0 ++ node 2 0 0 0 6 ++ node 2 0 0 0 0

-- f(x) = x + x; main(x) = f(x): nodes 1, 2, 3; 4 call, 5
abbrev pub doubling : (callee main : ℕ) → List ℕ
doubling c m =
    header 2 5 ++ sized 1 c 1 ++ sized 1 m 4
    ++ node 3 0 0 2 0 ++ node 2 0 0 0 3 ++ node 2 0 0 0 0
    ++ node 4 0 1 5 0 ++ node 2 0 0 0 0

-- main(x) = if x then main(x + 1) else x: nodes 1; 2; 3 self call, 4, 5, 6; 7
abbrev pub counting : (byte : ℕ) → List ℕ
counting b =
    header 1 7 ++ sized 1 b 1
    ++ node 5 0 0 2 0 ++ node 2 0 0 0 3 ++ node 4 0 1 4 7 ++ node 3 0 0 5 0 ++ node 2 0 0 0 6 ++ node 1 0 1 0 0 ++ node 2 0 0 0 0
