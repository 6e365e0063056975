-- the rows call by call: which lines of spaces are due, a call that stays on its page, and a call that begins a new one
use Prim.Native.Nat.{ℕ, ◌+◌, ◌-◌, ◌≤◌, ◌<◌}
use mathlib.Core.Path.{◌≡◌, refl}
use mathlib.Core.Bool.{Bool, true, false, ◌&&◌, not}
use mathlib.Core.List.{List, [], ◌∷◌, ◌++◌}
use native.Mathlib.Omega.{arith}
use lib.Dec.{eqb}
use mir.Val.{bool_byte}
use borrow.Author.Tests.{ne_eqb, le-leb, lt-leb}
use Rattle.table.specs.Pick.{pick}
use Rattle.list.specs.declared.Record.{Record}
use Rattle.pages.specs.Rows.{title, entry, gaps, resource, due, rows_after}
use Rattle.pages.specs.Working.{Called, a_call}

-- as the code tells them
pub due_first : (f : ℕ) → 0 ≡ due 0 f
unfolding due
due_first f = refl

pub due_next : (last f : ℕ) → 1 ≤ last → bool_byte (not (eqb last f)) ≡ due last f
unfolding due
due_next last f h = rw (ne_eqb last 0 (λ e. omega (arith, h, e))) (go (not (eqb last f)))
  where
    go : (b : Bool) → bool_byte b ≡ pick b 1 0
    go true = refl
    go false = refl

-- one at most
pub due_few : (last f : ℕ) → due last f ≤ 1
unfolding due
due_few last f = go (not (eqb last 0) && not (eqb last f))
  where
    go : (b : Bool) → pick b 1 0 ≤ 1
    go true = omega arith
    go false = omega arith

-- the resources of all calls are functions, so those of the first and of the others are
pub called_first : {r : Record} {rs : List Record} → Called (r ∷ rs) → 1 ≤ resource r
called_first (a_call h _) = h

pub called_rest : {r : Record} {rs : List Record} → Called (r ∷ rs) → Called rs
called_rest (a_call _ c) = c

-- no call is left: the page is filled up
pub rows_end : (page left last : ℕ) → rows_after page left last [] ≡ gaps left
unfolding rows_after
rows_end page left last = refl

module _ (page left last : ℕ) (r : Record) (rs : List Record) where
  -- the next call has room on the page
  pub rows_on : due last (resource r) + 1 ≤ left
      → rows_after page left last (r ∷ rs)
      ≡ gaps (due last (resource r)) ++ entry r ∷ rows_after page (left - (due last (resource r) + 1)) (resource r) rs
  unfolding rows_after
  rows_on h = rw (le-leb (due last (resource r) + 1) left h) refl

  -- or it has none
  pub rows_new : left < due last (resource r) + 1
      → rows_after page left last (r ∷ rs) ≡ gaps left ++ title (page + 1) ∷ entry r ∷ rows_after (page + 1) 22 (resource r) rs
  unfolding rows_after
  rows_new h = rw (lt-leb (due last (resource r) + 1) left h) refl
