-- the loop that makes a run of first steps: what is left of the run, turn by turn; and a run over a longer budget goes on from a spent one
use Prim.Native.Nat.{ℕ, zero, suc, ◌+◌, ◌-◌, ◌≤◌, ◌<◌}
use mathlib.Core.Path.{◌≡◌, ap, ◌∙◌}
use mathlib.Core.List.{List}
use native.Mathlib.Omega.{arith}
use lib.Dec.{eqb}
use borrow.Author.Tests.{eq-eqb, ne_eqb}
use Rattle.table.specs.Pick.{pick}
use Rattle.table.specs.Syntax.{id}
use Rattle.table.specs.Bytes.{functions}
use Rattle.table.specs.Expressions.{body_of}
use Rattle.rules.specs.State.{State512, view}
use Rattle.rules.specs.Runs.{MainDone, main_value, Ended, gave, at_rest, spent, Driven}
use Rattle.rules.specs.First.{first_of, onward, after_first, stays, one_more, plus, unless_over, drive_from}
use Rattle.rules.proofs.FirstRuns.{by_turn}

-- the loop: k of the b steps from s₀ are made, and s is the state
pub record Drove (t tags : List ℕ) (s₀ s : State512) (b k : ℕ) : Type 0 where
  pub within : k ≤ b
  pub rest : drive_from t tags s₀ b ≡ plus k (drive_from t tags s (b - k))

module _ (t tags : List ℕ) where
  -- the next turn, by what is looked at first
  module _ (s : State512) where
    over_done : MainDone t s → (r : Driven) → unless_over t tags s r ≡ stays s (gave (main_value t s))
    over_done m r = ap (λ a. pick a (stays s (gave (main_value t s))) (pick (eqb (first_of t tags s) 0) (stays s at_rest) r))
        (eq-eqb ((view s).status (id (body_of t (functions t)))) 3 m)

    over_rest : (MainDone t s → ⊥) → first_of t tags s ≡ 0 → (r : Driven) → unless_over t tags s r ≡ stays s at_rest
    over_rest m e r =
        let a = ne_eqb ((view s).status (id (body_of t (functions t)))) 3 m in
        let c = eq-eqb (first_of t tags s) 0 e in
        (λ i. pick (a i) (stays s (gave (main_value t s))) (pick (c i) (stays s at_rest) r))

    over_not : (MainDone t s → ⊥) → (first_of t tags s ≡ 0 → ⊥) → (r : Driven) → unless_over t tags s r ≡ r
    over_not m e r =
        let a = ne_eqb ((view s).status (id (body_of t (functions t)))) 3 m in
        let c = ne_eqb (first_of t tags s) 0 e in
        (λ i. pick (a i) (stays s (gave (main_value t s))) (pick (c i) (stays s at_rest) r))

    -- .. whatever is left of the budget
    turned : (e : Driven) → ((r : Driven) → unless_over t tags s r ≡ e) → (j : ℕ) → drive_from t tags s j ≡ e
    unfolding drive_from
    turned e f zero = f _
    turned e f (suc j) = f _

    goes_on : (MainDone t s → ⊥) → (first_of t tags s ≡ 0 → ⊥) → (j : ℕ)
        → drive_from t tags s (suc j) ≡ one_more (drive_from t tags (onward t tags s) j)
    unfolding drive_from
    goes_on m e j = over_not m e _

  none_more : (r : Driven) → r ≡ plus 0 r
  none_more r =
      let p : r.steps ≡ 0 + r.steps = omega arith in
      (λ i. record { steps = p i; ended = r.ended; state = r.state })

  pub drove_start : (s : State512) (b : ℕ) → Drove t tags s s b 0
  drove_start s b =
      let q : b ≡ b - 0 = omega arith in
      record { within = omega arith; rest = none_more (drive_from t tags s b) ∙ ap (λ j. plus 0 (drive_from t tags s j)) q }

  module _ (s₀ s : State512) (b k : ℕ) (d : Drove t tags s₀ s b k) where
    ends : (e : Ended) → ((j : ℕ) → drive_from t tags s j ≡ stays s e) → drive_from t tags s₀ b ≡ record { steps = k; ended = e; state = s }
    ends e f =
        let p : k + 0 ≡ k = omega arith in
        d.rest ∙ ap (plus k) (f (b - k)) ∙ (λ i. record { steps = p i; ended = e; state = s })

    pub drove_gave : MainDone t s → drive_from t tags s₀ b ≡ record { steps = k; ended = gave (main_value t s); state = s }
    drove_gave m = ends (gave (main_value t s)) (turned s _ (over_done s m))

    pub drove_rests : (MainDone t s → ⊥) → first_of t tags s ≡ 0 → drive_from t tags s₀ b ≡ record { steps = k; ended = at_rest; state = s }
    drove_rests m e = ends at_rest (turned s _ (over_rest s m e))

    pub drove_spent : (MainDone t s → ⊥) → (first_of t tags s ≡ 0 → ⊥) → b ≤ k
        → drive_from t tags s₀ b ≡ record { steps = k; ended = spent; state = s }
    unfolding drive_from
    drove_spent m e h =
        let q : b - k ≡ 0 = omega (arith, h, d.within) in
        let p : k + 0 ≡ k = omega arith in
        d.rest ∙ ap (λ j. plus k (drive_from t tags s j)) q ∙ ap (plus k) (over_not s m e (stays s spent))
        ∙ (λ i. record { steps = p i; ended = spent; state = s })

    pub drove_next : (MainDone t s → ⊥) → (first_of t tags s ≡ 0 → ⊥) → k < b → Drove t tags s₀ (onward t tags s) b (k + 1)
    drove_next m e h = record { within = omega arith; rest = d.rest ∙ go (b - k) (b - (k + 1)) (omega (arith, h)) }
      where
        go : (i j : ℕ) → i ≡ suc j → plus k (drive_from t tags s i) ≡ plus (k + 1) (drive_from t tags (onward t tags s) j)
        go i j q =
            let r : Driven = drive_from t tags (onward t tags s) j in
            let p : k + suc r.steps ≡ k + 1 + r.steps = omega arith in
            ap (λ x. plus k (drive_from t tags s x)) q ∙ ap (plus k) (goes_on s m e j)
            ∙ (λ x. record { steps = p x; ended = r.ended; state = r.state })

  -- a run that is spent made a step at each turn
  spent_turn : (s : State512) (k : ℕ) → (drive_from t tags s (suc k)).ended ≡ spent
      → (MainDone t s → ⊥) × (first_of t tags s ≡ 0 → ⊥) × ((drive_from t tags (onward t tags s) k).ended ≡ spent)
  unfolding drive_from
  spent_turn s k = by_turn t tags (λ r. r.ended ≡ spent → (MainDone t s → ⊥) × (first_of t tags s ≡ 0 → ⊥)
      × ((drive_from t tags (onward t tags s) k).ended ≡ spent)) s (one_more (drive_from t tags (onward t tags s) k))
      (λ m e. let z : ◌≡◌ {A = ℕ} 0 1 = cc in absurd (omega arith)) (λ m d e. let z : ◌≡◌ {A = ℕ} 0 1 = cc in absurd (omega arith))
      (λ m d e. (m, d, e))

  -- .. and goes on under a greater budget
  pub spent_on : (k j : ℕ) (s : State512) → (drive_from t tags s k).ended ≡ spent
      → drive_from t tags s (k + j) ≡ plus k (drive_from t tags (after_first t tags s k) j)
  unfolding after_first
  spent_on zero j s e =
      let p : 0 + j ≡ j = omega arith in
      ap (drive_from t tags s) p ∙ none_more (drive_from t tags s j)
  spent_on (suc k) j s e =
      let h = spent_turn s k e in
      let r : Driven = drive_from t tags (after_first t tags (onward t tags s) k) j in
      let p : suc k + j ≡ suc (k + j) = omega arith in
      let q : suc (k + r.steps) ≡ suc k + r.steps = omega arith in
      ap (drive_from t tags s) p ∙ goes_on s h.0 h.1 (k + j) ∙ ap one_more (spent_on k j (onward t tags s) h.2)
      ∙ (λ i. record { steps = q i; ended = r.ended; state = r.state })
