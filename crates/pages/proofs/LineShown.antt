-- a line is 32 characters that can be printed, and a line feed
use Prim.Native.Nat.{ℕ, zero, suc, ◌+◌, ◌/◌, ◌%◌, ◌≤◌, ◌<◌}
use mathlib.Core.Path.{◌≡◌, refl, sym, subst, ap, ◌∙◌}
use mathlib.Core.Bool.{Bool, true, false, ◌&&◌}
use mathlib.Core.List.{List, [], ◌∷◌, ◌++◌}
use native.Mathlib.Omega.{arith}
use native.Mathlib.Nat.{not-suc-le-zero, le_of_suc-le-suc}
use lib.Dec.{leb, ltb}
use lib.ListN.{length, get_or, length-append, get_or-append}
use lib.Seq.{get_or_at}
use borrow.Author.Tests.{leb-true, ltb-true}
use Rattle.table.specs.Pick.{pick}
use Rattle.list.proofs.ArbiterFacts.{and_both}
use Rattle.pages.specs.Rows.{Row, title, gap, entry}
use Rattle.pages.specs.Lines.{spaces, line_feed, title_words, digit, right, line_of}
use Rattle.pages.specs.Layout.{Line}
use Rattle.pages.proofs.RowTexts.{line_size}

-- characters that can be printed
abbrev Printable : ℕ → Type 0
Printable c = (32 ≤ c) × (c < 127)

abbrev Shown : List ℕ → Type 0
Shown [] = Unit {0}
Shown (c ∷ s) = Printable c × Shown s

shown_both : (a b : List ℕ) → Shown a → Shown b → Shown (a ++ b)
shown_both [] b x y = y
shown_both (c ∷ a) b x y = (x.0, shown_both a b x.1 y)

-- of words that are written out it is tested
abbrev test : List ℕ → Bool
test [] = true
test (c ∷ s) = (leb 32 c && ltb c 127) && test s

by_test : (s : List ℕ) → test s ≡ true → Shown s
by_test [] e = tt
by_test (c ∷ s) e =
    let x = and_both (leb 32 c && ltb c 127) (test s) e in
    let y = and_both (leb 32 c) (ltb c 127) x.0 in
    ((leb-true 32 c y.0, ltb-true c 127 y.1), by_test s x.1)

shown_at : (s : List ℕ) → Shown s → (i : ℕ) → i < length s → Printable (get_or s i 0)
shown_at [] x i h = absurd (not-suc-le-zero h)
shown_at (c ∷ s) x zero h = x.0
shown_at (c ∷ s) x (suc i) h = shown_at s x.1 i (le_of_suc-le-suc h)

shown_digit : (w n : ℕ) → Printable (digit w n)
unfolding digit
shown_digit w n = go (leb w n)
  where
    go : (b : Bool) → Printable (pick b (48 + n / w % 10) 32)
    go true = (omega arith, omega arith)
    go false = (omega arith, omega arith)

shown_right : (n : ℕ) → Shown (right n)
unfolding right
shown_right n =
    (shown_digit 1000 n, (shown_digit 100 n, (shown_digit 10 n, ((omega arith, omega arith), tt))))

-- the characters of a line, without the line feed
front : Row → List ℕ
front (title p) = title_words ++ spaces 2 ++ right p
front gap = spaces 32
front (entry r) = right r.callee.0 ++ spaces 4 ++ right r.caller.0 ++ spaces 4 ++ right r.node.0 ++ spaces 12

front_line : (row : Row) → line_of row ≡ front row ++ line_feed
unfolding line_of front
front_line (title p) = refl
front_line gap = refl
front_line (entry r) = refl

numbers_shown : (a b c : List ℕ) → Shown a → Shown b → Shown c → Shown (a ++ spaces 4 ++ b ++ spaces 4 ++ c ++ spaces 12)
numbers_shown a b c x y z =
    let first = shown_both a (spaces 4) x (by_test (spaces 4) refl) in
    let second = shown_both (a ++ spaces 4) b first y in
    let third = shown_both (a ++ spaces 4 ++ b) (spaces 4) second (by_test (spaces 4) refl) in
    let last = shown_both (a ++ spaces 4 ++ b ++ spaces 4) c third z in
    shown_both (a ++ spaces 4 ++ b ++ spaces 4 ++ c) (spaces 12) last (by_test (spaces 12) refl)

front_shown : (row : Row) → Shown (front row)
unfolding front
front_shown (title p) = shown_both (title_words ++ spaces 2) (right p) (by_test (title_words ++ spaces 2) refl) (shown_right p)
front_shown gap = by_test (spaces 32) refl
front_shown (entry r) =
    numbers_shown (right r.callee.0) (right r.caller.0) (right r.node.0)
    (shown_right r.callee.0) (shown_right r.caller.0) (shown_right r.node.0)

front_size : (row : Row) → length (front row) ≡ 32
front_size row = omega (arith, line_size row, ap length (front_line row), length-append (front row) line_feed)

pub line_shown : (row : Row) → Line (line_of row)
line_shown row = record {
  size = line_size row;
  shown = λ i h.
      subst Printable (sym (ap (λ s. get_or s i 0) (front_line row)
      ∙ get_or-append (front row) line_feed 0 i (omega (arith, h, front_size row))))
      (shown_at (front row) (front_shown row) i (omega (arith, h, front_size row)));
  ended = ap (λ s. get_or s 32 0) (front_line row) ∙ get_or_at (front row) 10 [] 0 32 (front_size row);
}
