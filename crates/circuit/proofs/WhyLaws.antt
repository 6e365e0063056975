-- why a node has no step, by the sort of its step and whether its callee is occupied
use Rattle.std.proofs.Common.{◌≡◌, ℕ, Bool, true, false, not, ◌&&◌, ◌||◌, eqb, List, Option, Some, None, sym, refl, ap, ◌∙◌, ap₂}
use Rattle.std.proofs.Common.{true≢false, arith}
use Rattle.table.specs.declared.refusals.Reason.{Reason}
use Rattle.table.specs.declared.refusals.Reason.TheVariants.{NoStep, Waits, Collides}
use Rattle.table.specs.Pick.{pick}
use Rattle.table.specs.Naming.{owner}
use Rattle.table.specs.Expressions.{expr_at, body_of}
use Rattle.rules.specs.State.{State512, view}
use Rattle.rules.specs.Step.{Act, stuck, blocked, does, begins, turns, finishes, enters, leaves, restarts}
use Rattle.rules.specs.Arithmetic.{arithmetic}
use Rattle.rules.specs.Circuit.{act_of}
use Rattle.rules.specs.Sets.{goes, sort, sets_of, ready}
use Rattle.rules.proofs.FirstBySets.{sort_goes}
use Rattle.circuit.specs.Working.{why_not}

-- a node has a step exactly where the sets say so
pub ready_goes : (t : List ℕ) (s : State512) (n : ℕ) → goes (act_of t s n) ≡ ready (sets_of t s) n
ready_goes t s n = sort_goes (arithmetic t) (body_of t) (owner t n) (view s) (expr_at t n)

pub why_goes : (b : Bool) (x : Act) → goes x ≡ true → None ≡ why_not b x
why_goes b stuck h = absurd (true≢false (sym h))
why_goes b blocked h = absurd (true≢false (sym h))
why_goes b (does m) h = refl

-- .. and so where there is no reason against it
pub goes_why : (b : Bool) (x : Act) → None ≡ why_not b x → goes x ≡ true
goes_why b stuck h = cc
goes_why b blocked h = cc
goes_why b (does m) h = refl

pub goes_unless : (b : Bool) (x : Act) (k : Option Reason) → k ≡ why_not b x → ((r : Reason) → k ≡ Some r → ⊥) → goes x ≡ true
goes_unless b x None e d = goes_why b x e
goes_unless b x (Some r) e d = absurd (d r refl)

pub why_stuck : (b : Bool) (x : Act) → sort x ≡ 0 → Some NoStep ≡ why_not b x
why_stuck b stuck h = refl
why_stuck b blocked h = absurd (omega (arith, h))
why_stuck b (does (begins ns)) h = absurd (omega (arith, h))
why_stuck b (does (turns m)) h = absurd (omega (arith, h))
why_stuck b (does (finishes v)) h = absurd (omega (arith, h))
why_stuck b (does (enters g vs)) h = absurd (omega (arith, h))
why_stuck b (does (leaves g v)) h = absurd (omega (arith, h))
why_stuck b (does (restarts f vs)) h = absurd (omega (arith, h))

blocked_why : (b : Bool) (x : Act) → (sort x ≡ 0 → ⊥) → goes x ≡ false → Some (pick b Waits Collides) ≡ why_not b x
blocked_why b stuck d h = absurd (d refl)
blocked_why b blocked d h = refl
blocked_why b (does m) d h = absurd (true≢false h)

module _ (t : List ℕ) (s : State512) (n : ℕ) (b : Bool) where
  abbrev x : Act
  x = act_of t s n

  told : (k : ℕ) → sort x ≡ k → (h : Bool) → (sets_of t s).held n ≡ h → goes x ≡ (eqb k 2 || (eqb k 1 && not h))
  told k e h f = ready_goes t s n ∙ ap₂ (λ j y. eqb j 2 || (eqb j 1 && not y)) e f

  pub why_moves : sort x ≡ 2 → None ≡ why_not b x
  why_moves e = why_goes b x (told 2 e _ refl)

  -- a call that would enter, by whether its callee is occupied
  module _ (one : sort x ≡ 1) (h : Bool) (eh : h ≡ (sets_of t s).held n) where
    pub why_held : h ≡ true → (r : Reason) → r ≡ pick b Waits Collides → Some r ≡ why_not b x
    why_held z r er = ap Some er ∙ blocked_why b x (λ e. omega (arith, e, one)) (told 1 one true (sym eh ∙ z))

    pub why_enters : h ≡ false → None ≡ why_not b x
    why_enters z = why_goes b x (told 1 one false (sym eh ∙ z))
