-- tables whose functions have widths, for the cases in which the check tells them apart
use Rattle.std.specs.Prelude.{ℕ, List, [], ◌∷◌, ◌++◌}
use Rattle.table.specs.Designs.{header, node}

-- a function record with its width byte
abbrev pub sized : (params byte root : ℕ) → List ℕ
sized p b r = p ∷ b ∷ r ∷ 0 ∷ []

-- main() = the constant of these four bytes
abbrev pub lone : (byte a b c d : ℕ) → List ℕ
lone x a b c d = header 1 1 ++ sized 0 x 1 ++ (1 ∷ 0 ∷ a ∷ b ∷ c ∷ d ∷ 0 ∷ 0 ∷ 0 ∷ 0 ∷ [])

-- main() = beside(u, v): nodes 1; 2, 3
abbrev pub twin : (byte u v : ℕ) → List ℕ
twin x u v = header 1 3 ++ sized 0 x 1 ++ node 3 10 0 2 0 ++ node 1 0 u 0 3 ++ node 1 0 v 0 0

-- f() = u; main() = beside(f(), v): nodes 1; 2, 3, 4
abbrev pub uneven : (byte u byte' v : ℕ) → List ℕ
uneven x u y v = header 2 4 ++ sized 0 x 1 ++ sized 0 y 2 ++ node 1 0 u 0 0 ++ node 3 10 0 3 0 ++ node 4 0 1 0 4 ++ node 1 0 v 0 0

-- main(x) = beside(v, main(x)): node 2 is the constant, node 3 a self call out of tail position
abbrev pub both_wrong : (byte v : ℕ) → List ℕ
both_wrong x v = header 1 4 ++ sized 1 x 1 ++ node 3 10 0 2 0 ++ node 1 0 v 0 3 ++ node 4 0 1 4 0 ++ node 2 0 0 0 0

-- main(x) = let y = x in y: node 3 is bound to node 2
abbrev pub slim : (byte : ℕ) → List ℕ
slim x = header 1 3 ++ sized 1 x 1 ++ node 6 0 0 2 0 ++ node 2 0 0 0 3 ++ node 7 0 2 0 0
