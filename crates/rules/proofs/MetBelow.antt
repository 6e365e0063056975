-- every value that a reading meets fits the bits of its function, whatever they are; main's value too
use Prim.Native.Nat.{ℕ, zero, suc, ◌≤◌}
use mathlib.Core.Path.{◌≡◌}
use mathlib.Core.List.{List}
use native.Mathlib.Omega.{arith}
use native.Mathlib.Decide.{ℕ_discrete}
use lib.Pow.{pow_pos, pow_mono}
use Rattle.table.specs.Syntax.{Expr, const, Sub}
use Rattle.table.specs.Pick.{mixed}
use Rattle.table.specs.Bytes.{functions, width}
use Rattle.table.specs.Expressions.{body_of}
use Rattle.table.specs.Well.{Below, WidthsHold}
use Rattle.table.proofs.Theorems.{laid, widths_hold}
use Rattle.rules.specs.Operations.{operate}
use Rattle.rules.specs.Arithmetic.{narrow, narrowed}
use Rattle.rules.specs.Reading.{Readings, Rounds, readings}
use Rattle.rules.specs.Companions.{ReadingWord}
use Rattle.rules.specs.Met.{Sayings, MetIn, of_mixed, MetBelow}
use Rattle.rules.specs.Widths.{FunctionBelow, ReadingBelow, AnswerBelow}
use Rattle.rules.proofs.Narrow.{narrow_below}
use Rattle.rules.proofs.MetFacts.{round_met}
use Rattle.rules.proofs.LaidFacts.{fn_main}
use Rattle.rules.proofs.Starts.{start_passes}
use Rattle.rules.proofs.Demands.{under_any_tags}

module _ (bits_of : ℕ → ℕ) (body : ℕ → Expr) where
  -- one function, whatever its callees read to and whatever is said of that
  round_below : (K : Readings) (Q : Sayings K) → ((g : ℕ) (vs : List ℕ) (u k : ℕ) (h : K g vs u k) → Q g vs u k h) → (f : ℕ)
      → ((m v : ℕ) → Sub (const m v) (body f) → Below (bits_of f) v) → (vs : List ℕ) (v k : ℕ)
      (r : Rounds (narrowed bits_of) body K f vs v k) → MetIn bits_of (narrowed bits_of) body K Q f vs v k r × Below (bits_of f) v
  round_below K Q q f c = round_met (Below (bits_of f)) (pow_pos (bits_of f)) ((narrowed bits_of).result f)
      (λ op vs. narrow_below (bits_of f) (operate op vs)) (narrow (bits_of f)) (narrow_below (bits_of f)) K Q q (body f) c

  -- the whole reading, level by level
  module _ (F : ℕ) (fit : WidthsHold F body bits_of) where
    abbrev Read : ℕ → Readings
    Read t = readings (narrowed bits_of) body t

    abbrev Claim : (t : ℕ) → Type 0
    Claim t = (g : ℕ) (vs : List ℕ) (v k : ℕ) (h : Read t g vs v k) → MetBelow bits_of (narrowed bits_of) body t g vs v k h
        × Below (bits_of g) v

    readings_below : (t : ℕ) → t ≤ F → Claim t
    readings_below zero l g vs v k h = absurd h
    readings_below (suc t) l g vs v k h = go (ℕ_discrete g (suc t)) (readings_below t (omega (arith, l))) h
      where
        go : (d : Dec (g ≡ suc t)) → Claim t → (h : mixed d (Rounds (narrowed bits_of) body (Read t) g vs v k) (Read t g vs v k))
            → of_mixed (Rounds (narrowed bits_of) body (Read t) g vs v k) (Read t g vs v k) d
            (λ r. MetIn bits_of (narrowed bits_of) body (Read t) (MetBelow bits_of (narrowed bits_of) body t) g vs v k r)
            (λ r. MetBelow bits_of (narrowed bits_of) body t g vs v k r) h × Below (bits_of g) v
        go (yes e) ih h = round_below (Read t) (MetBelow bits_of (narrowed bits_of) body t) (λ g vs u k h. (ih g vs u k h).0) g
            (λ m v s. fit.consts g m v (omega (arith, e), omega (arith, e, l)) s) vs v k h
        go (no e) ih h = ih g vs v k h

pub function_below : FunctionBelow
function_below bits_of body K f c = round_below bits_of body K (λ g us u j h. Unit {0}) (λ g us u j h. tt) f c

pub reading_below : ReadingBelow
reading_below t args F N check v k h =
    readings_below (width t) (body_of t) (functions t) (widths_hold t F N check) (functions t) (omega arith) (functions t) args v k h

pub answer_below : AnswerBelow
answer_below t tags args s e asked v i =
    (reading_below t args (functions t) _ (start_passes t tags args s e).check v _ ((under_any_tags t tags args s e asked).right v i)).1

-- 32 bits hold what fewer do
pub reading_word : ReadingWord
reading_word t args F N check b w v k h =
    let x = (reading_below t args F N check v k h).1 in
    let y = pow_mono ((widths_hold t F N check).bits (functions t) (fn_main (laid t F N check))).1 in
    omega (arith, x, y)
