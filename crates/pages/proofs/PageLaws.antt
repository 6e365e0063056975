-- a page as it is begun: its title, then line of spaces after line of spaces
use Prim.Native.Nat.{ℕ, ◌+◌, ◌*◌}
use mathlib.Core.Path.{◌≡◌, refl, sym, ap, ap₂, ◌∙◌}
use mathlib.Core.List.{List, [], ◌∷◌}
use native.Mathlib.Omega.{arith}
use lib.ListN.{length, length-replicate}
use lib.Seq.{sets}
use Rattle.pages.specs.Rows.{title, gap, gaps}
use Rattle.pages.specs.Lines.{line_of, lines_of}
use Rattle.pages.proofs.RowTexts.{lines_one, rows_over, gaps_more}

-- no line yet
pub page_none : (text : List ℕ) (at : ℕ) → text ≡ sets text at (lines_of (gaps 0))
unfolding lines_of
page_none text at = refl

-- after i lines of spaces, one more
pub page_more : (text₀ text text' : List ℕ) (k i : ℕ) → text ≡ sets text₀ (792 * k + 33) (lines_of (gaps i))
    → text' ≡ sets text (33 * (24 * k + 1 + i)) (line_of gap) → text' ≡ sets text₀ (792 * k + 33) (lines_of (gaps (i + 1)))
page_more text₀ text text' k i e q =
    q ∙ ap (sets text (33 * (24 * k + 1 + i))) (sym (lines_one gap)) ∙ ap (λ j. sets text j (lines_of (gap ∷ []))) place
    ∙ rows_over text₀ text (792 * k + 33) (gaps i) (gap ∷ []) e
    ∙ ap (λ g. sets text₀ (792 * k + 33) (lines_of g)) (sym (gaps_more i))
  where
    place : 33 * (24 * k + 1 + i) ≡ 792 * k + 33 + 33 * length (gaps i)
    place = omega (arith, length-replicate i gap)

-- the title, and 23 of them
pub page_whole : (text₀ text₁ text : List ℕ) (k i : ℕ) → text₁ ≡ sets text₀ (33 * (24 * k)) (line_of (title (k + 1))) → i ≡ 23
    → text ≡ sets text₁ (792 * k + 33) (lines_of (gaps i)) → text ≡ sets text₀ (792 * k) (lines_of (title (k + 1) ∷ gaps 23))
page_whole text₀ text₁ text k i h e q =
    q ∙ ap (λ j. sets text₁ (792 * k + 33) (lines_of (gaps j))) e ∙ rows_over text₀ text₁ (792 * k) (title (k + 1) ∷ []) (gaps 23) begun
  where
    lines : (k : ℕ) → 33 * (24 * k) ≡ 792 * k
    lines k = omega arith

    begun : text₁ ≡ sets text₀ (792 * k) (lines_of (title (k + 1) ∷ []))
    begun = h ∙ ap₂ (λ j l. sets text₀ j l) (lines k) (sym (lines_one (title (k + 1))))
