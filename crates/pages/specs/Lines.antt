-- a row as a line of the sheet (document 02, Q-1): 32 characters, by their ASCII codes, and a line feed
use Rattle.std.specs.Prelude.{ℕ, ◌+◌, ◌/◌, ◌%◌, List, [], ◌∷◌, ◌++◌, leb, replicate}
use Rattle.table.specs.Pick.{pick}
use Rattle.pages.specs.Rows.{Row, title, gap, entry}

abbrev pub spaces : ℕ → List ℕ
spaces k = replicate k 32

abbrev pub line_feed : List ℕ
line_feed = 10 ∷ []

-- the words of a title
abbrev pub RES : List ℕ
RES = 82 ∷ 69 ∷ 83 ∷ []

abbrev pub CALL : List ℕ
CALL = 67 ∷ 65 ∷ 76 ∷ 76 ∷ []

abbrev pub NODE : List ℕ
NODE = 78 ∷ 79 ∷ 68 ∷ 69 ∷ []

abbrev pub PAGE : List ℕ
PAGE = 80 ∷ 65 ∷ 71 ∷ 69 ∷ []

-- the digit of n that a weight of 10, 100 or 1000 has; a space where n is less than the weight
unfoldable pub digit : (weight n : ℕ) → ℕ
digit w n = pick (leb w n) (48 + n / w % 10) 32

-- n, below 10000, right-aligned in four columns: functions have numbers up to 32, nodes up to 512, pages up to 24
unfoldable pub right : ℕ → List ℕ
right n = digit 1000 n ∷ digit 100 n ∷ digit 10 n ∷ (48 + n % 10) ∷ []

-- columns 2 to 4, 9 to 12, 17 to 20 and 23 to 26 of a title
abbrev pub title_words : List ℕ
title_words = spaces 1 ++ RES ++ spaces 4 ++ CALL ++ spaces 4 ++ NODE ++ spaces 2 ++ PAGE

-- a title has its number in columns 29 to 32, a call its three in 1 to 4, 9 to 12 and 17 to 20
unfoldable pub line_of : Row → List ℕ
line_of (title p) = title_words ++ spaces 2 ++ right p ++ line_feed
line_of gap = spaces 32 ++ line_feed
line_of (entry r) =
    right r.callee.0 ++ spaces 4 ++ right r.caller.0 ++ spaces 4 ++ right r.node.0 ++ spaces 12 ++ line_feed

-- rows, line after line
unfoldable pub lines_of : List Row → List ℕ
lines_of [] = []
lines_of (row ∷ rows) = line_of row ++ lines_of rows
