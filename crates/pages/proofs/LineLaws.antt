-- digits, numbers and lines, character by character
use Prim.Native.Nat.{ℕ, suc, ◌+◌, ◌/◌, ◌%◌, ◌≤◌, ◌<◌}
use mathlib.Core.Path.{◌≡◌, refl, ap, ◌∙◌}
use mathlib.Core.List.{List, [], ◌∷◌, ◌++◌}
use native.Mathlib.Omega.{arith}
use native.Mathlib.Numerals.{add-one}
use lib.ListN.{set}
use lib.Seq.{sets}
use borrow.Author.Tests.{le-leb, lt-leb}
use Rattle.list.specs.declared.Record.{Record}
use Rattle.pages.specs.Rows.{title, gap, entry}
use Rattle.pages.specs.Lines.{spaces, line_feed, title_words, digit, right, line_of}
use Rattle.pages.specs.Working.{both, call_over}
use Rattle.pages.proofs.OverLaws.{sets_in_lem}

-- what the code tests
pub digit_below : (w n : ℕ) → n < w → 32 ≡ digit w n
unfolding digit
digit_below w n h = rw (lt-leb w n h) refl

pub digit_there : (w n : ℕ) → w ≤ n → 48 + n / w % 10 ≡ digit w n
unfolding digit
digit_there w n h = rw (le-leb w n h) refl

-- both digits of a number below 100
pub pair_laid : (text : List ℕ) (at r : ℕ) → set (set text at (48 + r / 10)) (at + 1) (48 + r % 10) ≡ sets text at (both r)
pair_laid text at r = rw add-one refl

-- the upper two columns of a number, then the lower
module _ (text : List ℕ) (at n a b : ℕ) (p : a ≡ digit 1000 n) (q : b ≡ digit 100 n) where
  lower_laid : (c d : ℕ) → c ≡ digit 10 n → d ≡ 48 + n % 10
      → sets (set (set text at a) (at + 1) b) (at + 2) (c ∷ d ∷ []) ≡ sets text at (right n)
  unfolding right
  lower_laid c d x y = rw (p, q, x, y) (places (at + 1) (at + 2) (omega arith) (omega arith))
    where
      places : (i j : ℕ) → i ≡ suc at → j ≡ suc (suc at)
          → sets (set (set text at (digit 1000 n)) i (digit 100 n)) j (digit 10 n ∷ (48 + n % 10) ∷ [])
          ≡ sets text at (digit 1000 n ∷ digit 100 n ∷ digit 10 n ∷ (48 + n % 10) ∷ [])
      places i j x y = rw (x, y) refl

  pub more_laid : 100 ≤ n → sets (set (set text at a) (at + 1) b) (at + 2) (both (n % 100)) ≡ sets text at (right n)
  more_laid h = lower_laid (48 + n % 100 / 10) (48 + n % 100 % 10) (tens ∙ digit_there 10 n (omega (arith, h))) (omega arith)
    where
      tens : 48 + n % 100 / 10 ≡ 48 + n / 10 % 10
      tens = omega arith

module _ (text : List ℕ) (at n : ℕ) where
  pub two_laid : 10 ≤ n → n < 100 → sets (set (set text at 32) (at + 1) 32) (at + 2) (both n) ≡ sets text at (right n)
  two_laid l h =
      lower_laid text at n 32 32 (digit_below 1000 n (omega (arith, h))) (digit_below 100 n h) (48 + n / 10) (48 + n % 10)
      (tens ∙ digit_there 10 n l) refl
    where
      tens : 48 + n / 10 ≡ 48 + n / 10 % 10
      tens = omega (arith, h)

  pub one_laid : n < 10 → set (set (set (set text at 32) (at + 1) 32) (at + 2) 32) (at + 3) (48 + n) ≡ sets text at (right n)
  one_laid h =
      ap (λ i. set (set (set (set text at 32) (at + 1) 32) (at + 2) 32) i (48 + n)) (next at)
      ∙ lower_laid text at n 32 32 (digit_below 1000 n (omega (arith, h))) (digit_below 100 n (omega (arith, h))) 32 (48 + n)
      (digit_below 10 n h) (omega (arith, h))
    where
      next : (i : ℕ) → i + 3 ≡ suc (i + 2)
      next i = omega arith

-- a line of spaces, as it stands in the code
pub blank_line : spaces 32 ++ line_feed ≡ line_of gap
unfolding line_of
blank_line = refl

-- a title without its number
abbrev head : List ℕ
head = title_words ++ spaces 6 ++ line_feed

title_line : (p : ℕ) → sets head 28 (right p) ≡ line_of (title p)
unfolding right line_of
title_line p = refl

pub title_laid : (text words text' : List ℕ) (at p : ℕ) → words ≡ sets text at head → text' ≡ sets words (at + 28) (right p)
    → text' ≡ sets text at (line_of (title p))
unfolding right
title_laid text words text' at p e q =
    q ∙ ap (λ x. sets x (at + 28) (right p)) e ∙ sets_in_lem text at 28 head (right p) (omega arith) ∙ ap (sets text at) (title_line p)

-- a call's numbers, written over a line of spaces
pub call_line : (r : Record)
    → sets (sets (sets (line_of gap) 0 (right r.callee.0)) 8 (right r.caller.0)) 16 (right r.node.0) ≡ line_of (entry r)
unfolding right line_of
call_line r = refl

pub call_laid : (text x y z : List ℕ) (at : ℕ) (r : Record) → x ≡ sets text at (right r.callee.0)
    → y ≡ sets x (at + 8) (right r.caller.0) → z ≡ sets y (at + 16) (right r.node.0) → z ≡ call_over text at r
call_laid text x y z at r e f g =
    g ∙ ap (λ w. sets w (at + 16) (right r.node.0)) (f ∙ ap (λ w. sets w (at + 8) (right r.caller.0)) e)
