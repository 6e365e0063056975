-- designs with functions that main doesn't reach, over the bytes of their tables: a tag in such a body is taken, and changes nothing
use Prim.Native.Nat.{ℕ}
use mathlib.Core.Path.{◌≡◌, refl}
use mathlib.Core.List.{List, [], ◌∷◌, ◌++◌}
use lib.ListN.{replicate}
use Rattle.list.specs.Tags.{tags_of}
use Rattle.list.specs.ReachDesigns.{uncalled, spare_twin}
use Rattle.rules.specs.Step.{Reply, taken, answered, denied}
use Rattle.rules.specs.Play.{asks}
use Rattle.rules.specs.Circuit.{turned, start_of, plays_of}
use Rattle.rules.proofs.Cases.{from, says, circuit_open}

-- g's calls of f are 3 and 5, main is node 7: the start is the same, and so is each step, 21 at the nodes of f and g
same_start : start_of uncalled (0b0001_0100 ∷ []) (9 ∷ []) ≡ start_of uncalled (tags_of uncalled) (9 ∷ [])
unfolding circuit_open
same_start = refl

abbrev round : List ℕ → List Reply
round tags = says uncalled tags (9 ∷ []) (1 ∷ 2 ∷ 3 ∷ 5 ∷ 7 ∷ [])

abbrev out_then_nine : List Reply
out_then_nine = denied 21 1 ∷ denied 21 2 ∷ denied 21 3 ∷ denied 21 5 ∷ answered 9 ∷ []

own_tags : round (tags_of uncalled) ≡ out_then_nine
unfolding circuit_open
own_tags = refl

spare_tags : round (0b0001_0100 ∷ []) ≡ out_then_nine
unfolding circuit_open
spare_tags = refl

-- a tag at no call is refused out of reach too
wrong_tag : start_of uncalled (0b0000_1000 ∷ []) (9 ∷ []) ≡ turned 10 4
unfolding circuit_open
wrong_tag = refl

-- main's calls of f are 8 and 10, those of g 3 and 5: the second waits at its arbiter, and main answers
abbrev rivals : List ℕ → List Reply
rivals tags = says spare_twin tags (9 ∷ []) (7 ∷ 8 ∷ 10 ∷ 9 ∷ 11 ∷ 8 ∷ 10 ∷ 3 ∷ 1 ∷ 8 ∷ 10 ∷ 1 ∷ 10 ∷ 7 ∷ [])

abbrev held_then_nine : List Reply
held_then_nine = replicate 6 taken ++ denied 22 10 ∷ denied 21 3 ∷ replicate 5 taken ++ answered 9 ∷ []

own_rivals : rivals (tags_of spare_twin) ≡ held_then_nine
unfolding circuit_open
own_rivals = refl

rivals_beside : rivals (0b1001_0100 ∷ 0b0000_0010 ∷ []) ≡ held_then_nine
unfolding circuit_open
rivals_beside = refl

-- the tags of g alone are none for main, and no tag at all lacks main's calls alone: 26 is at 8, not at 3. Under them the second call waits
-- without an arbiter
abbrev spare : List ℕ
spare = 0b0001_0100 ∷ 0b0000_0000 ∷ []

rivals_untagged : (start_of spare_twin spare (9 ∷ []) ≡ turned 26 8) × (start_of spare_twin (0 ∷ 0 ∷ []) (9 ∷ []) ≡ turned 26 8)
    × ((plays_of spare_twin (from spare_twin (tags_of spare_twin) (9 ∷ []))
    (asks (tags_of spare_twin) (7 ∷ 8 ∷ 10 ∷ 9 ∷ 11 ∷ 8 ∷ []) ++ asks spare (10 ∷ []))).answers ≡ replicate 6 taken ++ denied 23 10 ∷ [])
unfolding circuit_open
rivals_untagged = (refl, refl, refl)
