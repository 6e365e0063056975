-- what a start is turned back for, and a step under tags that are not in order, over the bytes of tables
use mathlib.Core.Path.{◌≡◌, refl}
use mathlib.Core.List.{[], ◌∷◌}
use Rattle.table.specs.Designs.{twice, pair, mult, nested}
use Rattle.rules.specs.Step.{taken, denied}
use Rattle.rules.specs.Circuit.{turned, start_of, plays_of}
use Rattle.rules.proofs.Cases.{from, Starts, both, circuit_open}

-- what start is turned back for: a bad table, tags of another length, a tag past N, a tag at no call, an argument too many
starts_refused : (start_of nested (0 ∷ []) (9 ∷ []) ≡ turned 9 2) × (start_of pair [] (9 ∷ []) ≡ turned 10 0)
    × (start_of pair (0b0100_0000 ∷ []) (9 ∷ []) ≡ turned 10 0) × (start_of pair (0b0000_0110 ∷ []) (9 ∷ []) ≡ turned 10 2)
    × (start_of mult (0 ∷ 0b0000_0010 ∷ 0 ∷ []) (3 ∷ 0 ∷ 7 ∷ []) ≡ turned 10 10) × (start_of pair both (9 ∷ 9 ∷ []) ≡ turned 11 0)
unfolding circuit_open
starts_refused = (refl, refl, refl, refl, refl, refl)

-- a step under tags that are not in order is refused, and changes nothing
steps_refused : (plays_of pair (from pair both (9 ∷ []))
    (record { tags = []; node = 2 } ∷ record { tags = 0 ∷ []; node = 2 } ∷ record { tags = 0b0000_0010 ∷ []; node = 3 }
    ∷ record { tags = 0b0000_0100 ∷ []; node = 3 } ∷ [])).answers
    ≡ denied 10 0 ∷ taken ∷ denied 10 2 ∷ taken ∷ []
unfolding circuit_open
steps_refused = refl

-- the table before its tags, and both before the number of arguments
tags_first : (start_of nested [] [] ≡ turned 9 2) × (start_of pair (0b0000_0010 ∷ []) (9 ∷ 9 ∷ []) ≡ turned 10 2)
unfolding circuit_open
tags_first = (refl, refl)

-- 26 at the lowest listed call without a tag: with none, with 3 alone, with 5 alone
starts_lacking : (start_of pair (0 ∷ []) (9 ∷ []) ≡ turned 26 3) × (start_of pair (0b0000_0100 ∷ []) (9 ∷ []) ≡ turned 26 5)
    × (start_of pair (0b0001_0000 ∷ []) (9 ∷ []) ≡ turned 26 3)
unfolding circuit_open
starts_lacking = (refl, refl, refl)

-- after 11, and after 10: no tag and an argument too many, no tag at 3 or 5 but one at 2
lacking_last : (start_of pair (0 ∷ []) (9 ∷ 9 ∷ []) ≡ turned 11 0) × (start_of pair (0b0000_0010 ∷ []) (9 ∷ []) ≡ turned 10 2)
unfolding circuit_open
lacking_last = (refl, refl)

-- the list is enough, and more tags are welcome: every call of `pair` is listed, none of `twice` is
enough : Starts pair both (9 ∷ []) × Starts twice (0 ∷ []) (9 ∷ []) × Starts twice (0b0000_0110 ∷ []) (9 ∷ [])
unfolding circuit_open
enough = (refl, refl, refl)
