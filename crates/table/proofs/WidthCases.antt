-- the check run on tables whose functions have widths
use mathlib.Core.Path.{◌≡◌, refl}
use Rattle.table.specs.Bytes.{width}
use Rattle.table.specs.WidthDesigns.{lone, twin, uneven, both_wrong, slim}
use Rattle.table.specs.Check.{accepted, refused, check_of}
use Rattle.table.proofs.CheckedDesigns.{bytes_open, check_open}

-- byte 0 is 32 bits, which hold every word, as 32 is; 1 holds 1
bytes_taken : (check_of (lone 0 255 255 255 255) ≡ accepted 1 1)
    × (check_of (lone 1 1 0 0 0) ≡ accepted 1 1)
    × (check_of (lone 32 255 255 255 255) ≡ accepted 1 1)
unfolding check_open
bytes_taken = (refl, refl, refl)

widths_read : (width (lone 0 0 0 0 0) 1 ≡ 32) × (width (lone 1 0 0 0 0) 1 ≡ 1) × (width (lone 32 0 0 0 0) 1 ≡ 32)
unfolding bytes_open
widths_read = (refl, refl, refl)

-- a byte over 32, also where its constant fits
bytes_refused : (check_of (lone 33 0 0 0 0) ≡ refused 5 0) × (check_of (lone 255 0 0 0 0) ≡ refused 5 0)
unfolding check_open
bytes_refused = (refl, refl)

-- the highest constant and the one above it, at 1, 4 and 31 bits
tops : (check_of (lone 1 2 0 0 0) ≡ refused 25 1)
    × (check_of (lone 4 15 0 0 0) ≡ accepted 1 1) × (check_of (lone 4 16 0 0 0) ≡ refused 25 1)
    × (check_of (lone 31 255 255 255 127) ≡ accepted 1 1) × (check_of (lone 31 0 0 0 128) ≡ refused 25 1)
unfolding check_open
tops = (refl, refl, refl, refl, refl)

-- the lowest such node is told
lowest_told : (check_of (twin 4 15 15) ≡ accepted 1 3) × (check_of (twin 4 16 17) ≡ refused 25 2) × (check_of (twin 4 15 16) ≡ refused 25 3)
unfolding check_open
lowest_told = (refl, refl, refl)

-- a constant is held against the width of its own function, be it the callee's or the caller's
own_width : (check_of (uneven 8 16 4 15) ≡ accepted 2 4)
    × (check_of (uneven 4 16 8 15) ≡ refused 25 1)
    × (check_of (uneven 8 15 4 16) ≡ refused 25 4)
    × (check_of (uneven 4 15 8 16) ≡ accepted 2 4)
unfolding check_open
own_width = (refl, refl, refl, refl)

-- 9 comes before 25, also where its node comes after
nine_first : (check_of (both_wrong 4 16) ≡ refused 9 3) × (check_of (both_wrong 4 15) ≡ refused 9 3)
unfolding check_open
nine_first = (refl, refl)

-- a bound's word is a node's number: no width is asked of it
bound_free : check_of (slim 1) ≡ accepted 1 3
unfolding check_open
bound_free = refl
