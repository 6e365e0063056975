-- PC by one pass over the expressions is the paper's union over i ≠ j, and so is the decided PC
use Rattle.std.proofs.Common.{◌≡◌, ℕ, zero, suc, ◌⊎◌, refl, ap, inl, inr, arith}
use Rattle.table.specs.Pick.{Range}
use Rattle.table.specs.Syntax.{Exprs, none, some}
use Rattle.list.specs.Sets.{Calls, ∅, ◌∪◌, shared}
use Rattle.list.specs.Conflict.{C, C*, PC}
use Rattle.list.specs.Paper.{set_of, paper_pc}
use Rattle.list.specs.Arbiters.{Test, no_calls, parallel}
use Rattle.list.proofs.ListedCalls.{Calling*}
use Rattle.list.specs.PaperList.{Decides}
use Rattle.list.proofs.ArbiterFacts.{first_decides}

module _ (callee : ℕ → ℕ) (B : ℕ → Calls) where
  abbrev S : Exprs → ℕ → Calls
  S = set_of callee B

  -- the union of the sets
  among : (es : Exprs) (i m : ℕ) → S es i m → C* callee B es m
  among none i m h = absurd h
  among (some e es) zero m h = inl h
  among (some e es) (suc i) m h = inr (among es i m h)

  one_of : (es : Exprs) (m : ℕ) → C* callee B es m → (i : ℕ) × S es i m
  one_of none m h = absurd h
  one_of (some e es) m (inl h) = (zero, h)
  one_of (some e es) m (inr h) = let r = one_of es m h in (suc r.0, r.1)

  -- where t joins the sets before the expressions: a call of S_i against t, or against another S_j
  abbrev Held : Calls → Exprs → Calls
  Held t es α = ((i : ℕ) × shared callee (S es i) t α) ⊎ paper_pc callee B es α

  apart : (i j : ℕ) → (i ≡ j → ⊥) → suc i ≡ suc j → ⊥
  apart i j d e = d (omega arith)

  to : (t : Calls) (es : Exprs) (α : ℕ) → PC callee B t es α → Held t es α
  to t none α h = absurd h
  to t (some e es) α (inl (s, (β, inl r, q))) = inl (zero, (s, (β, r, q)))
  to t (some e es) α (inl (s, (β, inr r, q))) =
      let y = one_of es β r in
      inr (zero, suc y.0, (λ z. omega (arith, z)), (s, (β, y.1, q)))
  to t (some e es) α (inr h) = on (to (t ∪ C callee B e) es α h)
    where
      on : Held (t ∪ C callee B e) es α → Held t (some e es) α
      on (inl (i, (s, (β, inl r, q)))) = inl (suc i, (s, (β, r, q)))
      on (inl (i, (s, (β, inr r, q)))) = inr (suc i, zero, (λ z. omega (arith, z)), (s, (β, r, q)))
      on (inr (i, j, d, x)) = inr (suc i, suc j, apart i j d, x)

  from : (t : Calls) (es : Exprs) (α : ℕ) → Held t es α → PC callee B t es α
  from t none α (inl (i, (s, r))) = absurd s
  from t none α (inr (i, j, d, (s, r))) = absurd s
  from t (some e es) α (inl (zero, (s, (β, r, q)))) = inl (s, (β, inl r, q))
  from t (some e es) α (inl (suc i, (s, (β, r, q)))) = inr (from (t ∪ C callee B e) es α (inl (i, (s, (β, inl r, q)))))
  from t (some e es) α (inr (zero, zero, d, x)) = absurd (d refl)
  from t (some e es) α (inr (zero, suc j, d, (s, (β, r, q)))) = inl (s, (β, inr (among es j β r), q))
  from t (some e es) α (inr (suc i, zero, d, (s, (β, r, q)))) = inr (from (t ∪ C callee B e) es α (inl (i, (s, (β, inr r, q)))))
  from t (some e es) α (inr (suc i, suc j, d, x)) =
      inr (from (t ∪ C callee B e) es α (inr (i, j, (λ z. d (ap suc z)), x)))

  -- PC is the paper's
  pub to_paper : (es : Exprs) (α : ℕ) → PC callee B ∅ es α → paper_pc callee B es α
  to_paper es α h = only (to ∅ es α h)
    where
      only : Held ∅ es α → paper_pc callee B es α
      only (inl (i, (s, (β, r, q)))) = absurd r
      only (inr x) = x

  pub from_paper : (es : Exprs) (α : ℕ) → paper_pc callee B es α → PC callee B ∅ es α
  from_paper es α x = from ∅ es α (inr x)

-- the test that the list is made by passes exactly on the paper's PC
module _ (N : ℕ) (calleeᵇ callee : ℕ → ℕ) (same : (n : ℕ) → calleeᵇ n ≡ callee n) (Bᵇ : ℕ → Test) (B : ℕ → Calls)
    (decided : (g m : ℕ) → Decides (Bᵇ g m) (B g m)) (ranged : (g m : ℕ) → B g m → Range N m) where
  pub decides_paper : (es : Exprs) → Calling* (Range N) es → (α : ℕ)
      → Decides (parallel N calleeᵇ Bᵇ no_calls es α) (paper_pc callee B es α)
  decides_paper es k α =
      let d = first_decides N calleeᵇ callee same Bᵇ B decided ranged es k α in
      ((λ e. to_paper callee B es α (d.0 e)), (λ x. d.1 (from_paper callee B es α x)))
