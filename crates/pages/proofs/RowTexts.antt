-- rows as text: how long their lines are, rows one after the other, and a row written anew
use Prim.Native.Nat.{ℕ, zero, suc, ◌+◌, ◌*◌, ◌≤◌, ◌<◌}
use mathlib.Core.Path.{◌≡◌, refl, sym, ap, ap₂, ◌∙◌}
use mathlib.Core.List.{List, [], ◌∷◌, ◌++◌, append-nil, append_assoc}
use native.Mathlib.Omega.{arith}
use native.Mathlib.Nat.{not-suc-le-zero, le_of_suc-le-suc}
use lib.ListN.{length, get_or, take, drop, length-append, replicate-append-replicate}
use lib.Seq.{sets, length-sets, take_at, drop-append-add}
use Rattle.list.specs.declared.Record.{Record}
use Rattle.pages.specs.Rows.{Row, title, gap, entry, gaps}
use Rattle.pages.specs.Lines.{right, line_of, lines_of}
use Rattle.pages.specs.Working.{call_over}
use Rattle.pages.proofs.OverLaws.{sets_append, sets_in_lem, sets_within}
use Rattle.pages.proofs.LineLaws.{call_line}

-- a line has 33 bytes
pub line_size : (row : Row) → length (line_of row) ≡ 33
unfolding line_of right
line_size (title p) = refl
line_size gap = refl
line_size (entry r) = refl

pub lines_size : (rows : List Row) → length (lines_of rows) ≡ 33 * length rows
unfolding lines_of
lines_size [] = refl
lines_size (row ∷ rows) =
    length-append (line_of row) (lines_of rows) ∙ ap₂ (λ a b. a + b) (line_size row) (lines_size rows) ∙ more (length rows)
  where
    more : (n : ℕ) → 33 + 33 * n ≡ 33 * suc n
    more n = omega arith

right_size : (n : ℕ) → length (right n) ≡ 4
unfolding right
right_size n = refl

lines_cons : (row : Row) (rows : List Row) → lines_of (row ∷ rows) ≡ line_of row ++ lines_of rows
unfolding lines_of
lines_cons row rows = refl

-- rows after rows
lines_append : (a b : List Row) → lines_of (a ++ b) ≡ lines_of a ++ lines_of b
unfolding lines_of
lines_append [] b = refl
lines_append (row ∷ a) b = ap (λ l. line_of row ++ l) (lines_append a b) ∙ sym (append_assoc (line_of row) (lines_of a) (lines_of b))

pub lines_one : (row : Row) → lines_of (row ∷ []) ≡ line_of row
unfolding lines_of
lines_one row = append-nil (line_of row)

-- line i is that of row i
pub line_at : (rows : List Row) (i : ℕ) → i < length rows → take 33 (drop (33 * i) (lines_of rows)) ≡ line_of (get_or rows i gap)
unfolding lines_of
line_at [] i h = absurd (not-suc-le-zero h)
line_at (row ∷ rows) zero h = take_at (line_of row) (lines_of rows) 33 (line_size row)
line_at (row ∷ rows) (suc i) h =
    ap (take 33) (ap (λ k. drop k (line_of row ++ lines_of rows)) (past i) ∙ drop-append-add (line_of row) (lines_of rows) (33 * i))
    ∙ line_at rows i (le_of_suc-le-suc h)
  where
    past : (i : ℕ) → 33 * suc i ≡ length (line_of row) + 33 * i
    past i = omega (arith, line_size row)

-- lines of spaces, one more
pub gaps_more : (k : ℕ) → gaps (k + 1) ≡ gaps k ++ gap ∷ []
gaps_more k = sym (replicate-append-replicate k 1 gap)

-- rows written over a text, and then more of them
pub rows_over : (text₀ text : List ℕ) (at : ℕ) (a b : List Row) → text ≡ sets text₀ at (lines_of a)
    → sets text (at + 33 * length a) (lines_of b) ≡ sets text₀ at (lines_of (a ++ b))
rows_over text₀ text at a b e =
    ap (λ x. sets x (at + 33 * length a) (lines_of b)) e
    ∙ ap (λ k. sets (sets text₀ at (lines_of a)) (at + k) (lines_of b)) (sym (lines_size a))
    ∙ sym (ap (sets text₀ at) (lines_append a b) ∙ sets_append text₀ at (lines_of a) (lines_of b))

-- bytes written into a part of what was written from the front
part_over : (text₀ text p m q b : List ℕ) (i j : ℕ) → length p ≡ i → j + length b ≤ length m → text ≡ sets text₀ 0 (p ++ (m ++ q))
    → sets text (i + j) b ≡ sets text₀ 0 (p ++ (sets m j b ++ q))
part_over text₀ text p m q b i j e h w =
    ap (λ x. sets x (i + j) b) w ∙ ap (λ k. sets (sets text₀ 0 (p ++ (m ++ q))) k b) (plain (i + j))
    ∙ sets_in_lem text₀ 0 (i + j) (p ++ (m ++ q)) b inside ∙ ap (sets text₀ 0) (sets_within p m q i j b e h)
  where
    plain : (k : ℕ) → k ≡ 0 + k
    plain k = omega arith

    inside : i + j + length b ≤ length (p ++ (m ++ q))
    inside = omega (arith, length-append p (m ++ q), length-append m q, e, h)

-- a call's numbers over a line of spaces among rows
pub call_over_lem : (text₀ text : List ℕ) (a b : List Row) (r : Record) → text ≡ sets text₀ 0 (lines_of (a ++ gap ∷ b))
    → call_over text (33 * length a) r ≡ sets text₀ 0 (lines_of (a ++ entry r ∷ b))
call_over_lem text₀ text a b r e =
    node ∙ ap (λ m. sets text₀ 0 (lines_of a ++ (m ++ lines_of b))) (call_line r) ∙ sym (whole (entry r))
  where
    at : ℕ
    at = 33 * length a

    whole : (row : Row) → sets text₀ 0 (lines_of (a ++ row ∷ b)) ≡ sets text₀ 0 (lines_of a ++ (line_of row ++ lines_of b))
    whole row = ap (sets text₀ 0) (lines_append a (row ∷ b) ∙ ap (λ l. lines_of a ++ l) (lines_cons row b))

    callee : sets text at (right r.callee.0)
        ≡ sets text₀ 0 (lines_of a ++ (sets (line_of gap) 0 (right r.callee.0) ++ lines_of b))
    callee =
        ap (λ k. sets text k (right r.callee.0)) (plain at)
        ∙ part_over text₀ text (lines_of a) (line_of gap) (lines_of b) (right r.callee.0) at 0 (lines_size a)
        (omega (arith, line_size gap, right_size r.callee.0)) (e ∙ whole gap)
      where
        plain : (k : ℕ) → k ≡ k + 0
        plain k = omega arith

    caller : sets (sets text at (right r.callee.0)) (at + 8) (right r.caller.0)
        ≡ sets text₀ 0 (lines_of a ++ (sets (sets (line_of gap) 0 (right r.callee.0)) 8 (right r.caller.0) ++ lines_of b))
    caller =
        part_over text₀ (sets text at (right r.callee.0)) (lines_of a) (sets (line_of gap) 0 (right r.callee.0)) (lines_of b)
        (right r.caller.0) at 8 (lines_size a)
        (omega (arith, length-sets (line_of gap) 0 (right r.callee.0), line_size gap, right_size r.caller.0)) callee

    node : call_over text at r ≡ sets text₀ 0 (lines_of a
        ++ (sets (sets (sets (line_of gap) 0 (right r.callee.0)) 8 (right r.caller.0)) 16 (right r.node.0) ++ lines_of b))
    node =
        part_over text₀ (sets (sets text at (right r.callee.0)) (at + 8) (right r.caller.0)) (lines_of a)
        (sets (sets (line_of gap) 0 (right r.callee.0)) 8 (right r.caller.0)) (lines_of b) (right r.node.0) at 16 (lines_size a)
        (omega (
          arith,
          length-sets (sets (line_of gap) 0 (right r.callee.0)) 8 (right r.caller.0),
          length-sets (line_of gap) 0 (right r.callee.0),
          line_size gap,
          right_size r.node.0,
        )) caller
