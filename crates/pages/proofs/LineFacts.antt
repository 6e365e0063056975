-- what is claimed of the lines: words and numbers in their columns, the others blank, and no two rows with one line
use Prim.Native.Nat.{ℕ}
use mathlib.Core.Path.{◌≡◌, refl, ap}
use native.Mathlib.Omega.{arith}
use lib.ListN.{get_or}
use Rattle.list.specs.declared.Record.{Record}
use Rattle.pages.specs.Rows.{Row, title, gap, entry}
use Rattle.pages.specs.Lines.{right, line_of}
use Rattle.pages.specs.Layout.{columns, Told, LinesShow}
use Rattle.pages.proofs.LineShown.{line_shown}
use Rattle.pages.proofs.NumberShown.{right_reads, right_apart, no_zeros}

-- the numbers of a call tell it
same_call : (r q : Record) → Told (entry r) → Told (entry q) → line_of (entry r) ≡ line_of (entry q) → entry r ≡ entry q
unfolding line_of right
same_call r q t u e =
    let callee : r.callee.0 ≡ q.callee.0 = right_apart _ _ t.0 u.0 (ap (columns 1 4) e) in
    let caller : r.caller.0 ≡ q.caller.0 = right_apart _ _ t.1 u.1 (ap (columns 9 12) e) in
    let node : r.node.0 ≡ q.node.0 = right_apart _ _ t.2 u.2 (ap (columns 17 20) e) in
    λ i. entry (record { callee = record { 0 = callee i }; caller = record { 0 = caller i }; node = record { 0 = node i } })

-- a title has a P in column 23, a call a digit in column 4; elsewhere both are blank
same_row : (a b : Row) → Told a → Told b → line_of a ≡ line_of b → a ≡ b
unfolding line_of right
same_row (title p) (title q) t u e = ap title (right_apart p q t u (ap (columns 29 32) e))
same_row (title p) gap t u e = absurd (let z : ◌≡◌ {A = ℕ} 80 32 = ap (λ s. get_or s 22 0) e in omega (arith, z))
same_row (title p) (entry r) t u e = absurd (let z : ◌≡◌ {A = ℕ} 80 32 = ap (λ s. get_or s 22 0) e in omega (arith, z))
same_row gap (title p) t u e = absurd (let z : ◌≡◌ {A = ℕ} 32 80 = ap (λ s. get_or s 22 0) e in omega (arith, z))
same_row gap gap t u e = refl
same_row gap (entry r) t u e = absurd (omega (arith, ap (λ s. get_or s 3 0) e))
same_row (entry r) (title p) t u e = absurd (let z : ◌≡◌ {A = ℕ} 32 80 = ap (λ s. get_or s 22 0) e in omega (arith, z))
same_row (entry r) gap t u e = absurd (omega (arith, ap (λ s. get_or s 3 0) e))
same_row (entry r) (entry q) t u e = same_call r q t u e

pub lines_show : LinesShow
unfolding line_of right
lines_show = record {
  line = line_shown;
  title_words_lem = λ p. (refl, refl, refl, refl);
  title_number = λ p. refl;
  call_numbers = λ r. (refl, refl, refl);
  title_blanks = λ p. (refl, refl, refl, refl, refl);
  call_blanks = λ r. (refl, refl, refl);
  gap_blanks = refl;
  read_back = right_reads;
  unpadded = no_zeros;
  apart = same_row;
}
