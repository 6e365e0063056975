-- a step inside a body takes one from what is left of it
use Prim.Native.Nat.{ℕ, zero, suc, ◌+◌}
use mathlib.Core.Bool.{true≢false}
use mathlib.Core.Path.{◌≡◌, refl, subst, sym, ap, ◌∙◌}
use mathlib.Core.Logic.{◌⊎◌, inl, inr, ⊎_elim}
use mathlib.Core.List.{List, ◌∷◌}
use native.Mathlib.Omega.{arith}
use Rattle.table.specs.Syntax.{Expr, Exprs, const, param, prim, call, self, cond, bind, bound, none, some, id, Every*}
use Rattle.rules.specs.State.{View}
use Rattle.rules.proofs.Branches.{chosen_both}
use Rattle.rules.specs.Reading.{Chosen, Outcome, val, last, Readings, Reads, Reads*}
use Rattle.rules.proofs.Shape.{Live}
use Rattle.rules.proofs.Frame.{Same}
use Rattle.table.specs.Environment.{extend, values}
use Rattle.rules.proofs.Left.{Going, Left, Left*, Over}
use Rattle.rules.proofs.Sees.{Sees}
use Rattle.rules.proofs.Moves.{Finished*, Becomes, Opens, Opens*, Inner, every_id}

module _ (apply : ℕ → List ℕ → ℕ) (K : Readings) (s : View) (W : ℕ → ℕ) (args : ℕ → ℕ) where
  -- of an expression that is idle or open, all is left
  pub left_reads : (e : Expr) → (s.status (id e) ≡ 0) ⊎ (s.status (id e) ≡ 1) → (ρ : ℕ → ℕ) (o : Outcome) (k : ℕ)
      → Left apply K s W args e ρ o k → Reads apply K args e ρ o k
  left_reads e q ρ o k (inl h) = absurd (⊎_elim (λ z. omega (arith, h.0, z)) (λ z. omega (arith, h.0, z)) q)
  left_reads e q ρ o k (inr (inl h)) = h.1
  left_reads e q ρ o k (inr (inr h)) = absurd (⊎_elim (λ z. omega (arith, h.0, z)) (λ z. omega (arith, h.0, z)) q)

  -- of one that is busy
  pub left_going : (e : Expr) → s.status (id e) ≡ 2 → (ρ : ℕ → ℕ) (o : Outcome) (k : ℕ) → Left apply K s W args e ρ o k
      → Going apply K s W args e ρ o k
  left_going e q ρ o k (inl h) = absurd (omega (arith, h.0, q))
  left_going e q ρ o k (inr (inl h)) = absurd (⊎_elim (λ z. omega (arith, q, z)) (λ z. omega (arith, q, z)) h.0)
  left_going e q ρ o k (inr (inr h)) = h.1

  -- of one that is done, nothing but its value
  pub left_done : (e : Expr) → s.status (id e) ≡ 3 → (ρ : ℕ → ℕ) (o : Outcome) (k : ℕ) → Left apply K s W args e ρ o k
      → Over apply K s W args (id e) o k
  left_done e q ρ o k (inl h) = h
  left_done e q ρ o k (inr (inl h)) = absurd (⊎_elim (λ z. omega (arith, q, z)) (λ z. omega (arith, q, z)) h.0)
  left_done e q ρ o k (inr (inr h)) = absurd (omega (arith, h.0, q))

  pub over_left : (e : Expr) (ρ : ℕ → ℕ) (o : Outcome) (k : ℕ) → Over apply K s W args (id e) o k → Left apply K s W args e ρ o k
  over_left e ρ o k h = inl h

  pub over_left* : (es : Exprs) (ρ : ℕ → ℕ) → Finished* s es → Left* apply K s W args es ρ (values s.value es) 0
  over_left* none ρ h = (refl, refl)
  over_left* (some e es) ρ h =
      (s.value (id e), values s.value es, 0, 0, inl (h.0, refl, refl), over_left* es ρ h.1, refl, refl)

module _ (apply : ℕ → List ℕ → ℕ) (K : Readings) (s s' : View) (W : ℕ → ℕ) (args : ℕ → ℕ) where
  abbrev Now : Expr → (ℕ → ℕ) → Outcome → ℕ → Type 0
  Now = Left apply K s' W args

  opened_reads : (e : Expr) (ρ : ℕ → ℕ) (o : Outcome) (k : ℕ) → Opens s s' e → Now e ρ o k → Reads apply K args e ρ o k
  opened_reads e ρ o k p h = left_reads apply K s' W args e (inr p.0.0) ρ o k h

  opened_reads* : (es : Exprs) (ρ : ℕ → ℕ) (vs : List ℕ) (j : ℕ) → Opens* s s' es → Left* apply K s' W args es ρ vs j
      → Reads* apply K args es ρ vs j
  opened_reads* none ρ vs j p h = h
  opened_reads* (some e es) ρ vs j p h = (
    h.0,
    h.1,
    h.2,
    h.3,
    opened_reads e ρ (val h.0) h.2 p.0 h.4,
    opened_reads* es ρ h.1 h.3 p.1 h.5,
    h.6,
    h.7,
  )

  values_kept : (es : Exprs) → Every* (Same s s') es → values s'.value es ≡ values s.value es
  values_kept none k = refl
  values_kept (some e es) k = λ i. (every_id s s' (Same s s') e k.0).2 i ∷ values_kept es k.1 i

  -- what became done has its value, and nothing left
  became : (e : Expr) (v : ℕ) (ρ : ℕ → ℕ) (o : Outcome) (k : ℕ) → Becomes s s' (id e) v → Now e ρ o k → (o ≡ val v) × (k ≡ 0)
  became e v ρ o k r h = let x = left_done apply K s' W args e r.0 ρ o k h in (x.1 ∙ ap val r.2, x.2)

  -- what became busy
  begun : (e : Expr) (ρ : ℕ → ℕ) (o : Outcome) (k : ℕ) → s'.status (id e) ≡ 2 → Now e ρ o k → Going apply K s' W args e ρ o k
  begun e ρ o k b h = left_going apply K s' W args e b ρ o k h

  pub inner_left : (u : Expr) → Inner apply args s s' u → Live s u → (ρ : ℕ → ℕ) (o : Outcome) (k : ℕ) → Sees s.value u ρ → Now u ρ o k
      → Left apply K s W args u ρ o (1 + k)
  inner_left (const n v) r l ρ o k f h =
      let b = became (const n v) v ρ o k r.1 h in inr (inl (inr r.0.0, (b.0, omega (arith, b.1))))
  inner_left (param n i) r l ρ o k f h =
      let b = became (param n i) (args i) ρ o k r.1 h in inr (inl (inr r.0.0, (b.0, omega (arith, b.1))))
  inner_left (bound n d) r l ρ o k f h =
      let b = became (bound n d) (s.value d) ρ o k r.1 h in
      inr (inl (inr r.0.0, (b.0 ∙ ap val (sym f), omega (arith, b.1))))
  inner_left (prim n op es) (inl r) l ρ o k f h =
      let g = begun (prim n op es) ρ o k r.1.0 h in
      inr (inl (inr r.0.0, (g.0, g.1, opened_reads* es ρ g.0 g.1 r.2 g.2, g.3, omega (arith, g.4))))
  inner_left (prim n op es) (inr r) l ρ o k f h =
      let b = became (prim n op es) (apply op (values s.value es)) ρ o k r.2 h in
      inr (inr (r.0, (values s.value es, 0, over_left* apply K s W args es ρ r.1, b.0, omega (arith, b.1))))
  inner_left (call n g es) r l ρ o k f h =
      ⊎_elim (λ x. inr (inl (
        inr r.0.0,
        (
          x.1.0,
          x.1.1,
          x.1.2,
          x.1.3,
          opened_reads* es ρ x.1.0 x.1.2 r.2 x.1.4,
          x.1.5,
          x.1.6,
          omega (arith, x.1.7),
        ),
      ))) (λ x. absurd (true≢false (sym x.0 ∙ r.1.1))) (begun (call n g es) ρ o k r.1.0 h)
  inner_left (self n es) r l ρ o k f h =
      let g = begun (self n es) ρ o k r.1.0 h in
      inr (inl (inr r.0.0, (g.0, g.1, opened_reads* es ρ g.0 g.1 r.2 g.2, g.3, omega (arith, g.4))))
  inner_left (cond n a b c) (inl r) l ρ o k f h =
      ⊎_elim (λ x. inr (inl (
        inr r.0.0,
        (
          x.1.0,
          x.1.1,
          x.1.2,
          opened_reads a ρ (val x.1.0) x.1.1 r.2 x.1.3,
          x.1.4,
          omega (arith, x.1.5),
        ),
      ))) (λ x. absurd (true≢false (sym x.0 ∙ r.1.1))) (begun (cond n a b c) ρ o k r.1.0 h)
  inner_left (cond n a b c) (inr (inl r)) l ρ o k f h =
      ⊎_elim (λ x. absurd (true≢false (sym r.2.1 ∙ x.0))) (λ x. inr (inr (
        r.0.0,
        inl (
          r.0.1,
          (
            s.value (id a),
            0,
            x.1.0,
            inl (r.1, refl, refl),
            chosen_both (λ p t. opened_reads b ρ o x.1.0 p.0 t) (λ p t. opened_reads c ρ o x.1.0 p.0 t)
                (s.value (id a)) (s'.value (id a)) (every_id s s' (Same s s') a r.3).2 r.4 x.1.1,
            omega (arith, x.1.2),
          ),
        ),
      ))) (begun (cond n a b c) ρ o k r.2.0 h)
  inner_left (cond n a b c) (inr (inr r)) l ρ o k f h =
      let x = at (s.value (id a)) r.1 in inr (inr (r.0.0, inr (r.0.1, (0, x.0, omega (arith, x.1)))))
    where
      ends : (v : ℕ) → (o ≡ val v) × (k ≡ 0) → 1 + k ≡ last o + 0
      ends v e = omega (arith, ap last e.0, e.1)

      at : (v : ℕ) → Chosen ((s.status (id b) ≡ 3) × Becomes s s' n (s.value (id b))) ((s.status (id c) ≡ 3)
          × Becomes s s' n (s.value (id c))) v
          → Chosen (Left apply K s W args b ρ o 0) (Left apply K s W args c ρ o 0) v × (1 + k ≡ last o + 0)
      at zero t =
          let e = became (cond n a b c) (s.value (id c)) ρ o k t.1 h in (inl (t.0, e.0, refl), ends (s.value (id c)) e)
      at (suc v) t =
          let e = became (cond n a b c) (s.value (id b)) ρ o k t.1 h in (inl (t.0, e.0, refl), ends (s.value (id b)) e)
  inner_left (bind n ds b) (inl r) l ρ o k f h =
      ⊎_elim (λ x. inr (inl (
        inr r.0.0,
        (
          x.1.0,
          x.1.1,
          x.1.2,
          opened_reads* ds ρ x.1.0 x.1.1 r.2 x.1.3,
          x.1.4,
          omega (arith, x.1.5),
        ),
      ))) (λ x. absurd (true≢false (sym x.0 ∙ r.1.1))) (begun (bind n ds b) ρ o k r.1.0 h)
  inner_left (bind n ds b) (inr (inl r)) l ρ o k f h =
      ⊎_elim (λ x. absurd (true≢false (sym r.2.1 ∙ x.0))) (λ x. inr (inr (
        r.0.0,
        inl (
          r.0.1,
          (
            values s.value ds,
            0,
            x.1.0,
            over_left* apply K s W args ds ρ r.1,
            opened_reads b (extend ds (values s.value ds) ρ) o x.1.0 r.4 (subst (λ vs. Now b (extend ds vs ρ) o x.1.0)
                (values_kept ds r.3) x.1.1),
            omega (arith, x.1.2),
          ),
        ),
      ))) (begun (bind n ds b) ρ o k r.2.0 h)
  inner_left (bind n ds b) (inr (inr r)) l ρ o k f h =
      let e = became (bind n ds b) (s.value (id b)) ρ o k r.2 h in
      inr (inr (r.0.0, inr (r.0.1, (0, inl (r.1, e.0, refl), omega (arith, ap last e.0, e.1)))))
