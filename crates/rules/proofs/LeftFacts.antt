-- a move inside a part: what is left outside stays, and what is left of a body is d more before the move than after it
use Prim.Native.Nat.{ℕ, ◌+◌}
use mathlib.Core.Bool.{Bool, true, false, true≢false}
use mathlib.Core.Path.{◌≡◌, refl, subst, sym, ap, ◌∙◌}
use mathlib.Core.Logic.{inl, inr, ⊎_elim}
use mathlib.Core.List.{List, ◌∷◌}
use native.Mathlib.Omega.{arith}
use Rattle.table.specs.Syntax.{Expr, Exprs, const, param, prim, call, self, cond, bind, bound, none, some, id, Node, Sub}
use Rattle.table.specs.Syntax.{Sub*}
use Rattle.rules.specs.State.{View}
use Rattle.table.specs.Environment.{values, extend}
use Rattle.rules.proofs.Shape.{Still, Live, Opened*}
use Rattle.rules.specs.Reading.{Outcome, val, Readings}
use Rattle.rules.proofs.Branches.{chosen_map, chosen_both}
use Rattle.table.specs.Well.{Apart, Apart*}
use Rattle.rules.proofs.Sees.{Sees, Sees*}
use Rattle.rules.proofs.Frame.{Same, Avoids, Avoids*}
use Rattle.table.proofs.SyntaxLaws.{node_id, sub_node, sub_node*}
use Rattle.rules.proofs.Within.{idle_not, idle_not*, done_not, under_way, done_not*}
use Rattle.rules.proofs.Left.{Going, Left, Left*}

-- what is left outside
module _ (apply : ℕ → List ℕ → ℕ) (K : Readings) (s s' : View) (W W' : ℕ → ℕ) (args : ℕ → ℕ) (X : ℕ → Type 0)
    (keeps : (m : ℕ) → (X m → ⊥) → Same s s' m) (expects : (m : ℕ) → (X m → ⊥) → W' m ≡ W m) where
  part_over : (e : Expr) → Avoids X e → (ρ : ℕ → ℕ) (o : Outcome) (k : ℕ)
      → (Going apply K s' W' args e ρ o k → Going apply K s W args e ρ o k) → Left apply K s' W' args e ρ o k
      → Left apply K s W args e ρ o k
  part_over e c ρ o k f h = go h
    where
      same : Same s s' (id e)
      same = keeps (id e) (c (id e) (node_id e))

      go : Left apply K s' W' args e ρ o k → Left apply K s W args e ρ o k
      go (inl h) = inl (sym same.0 ∙ h.0, h.1 ∙ ap val same.2, h.2)
      go (inr (inl h)) = inr (inl (⊎_elim (λ p. inl (sym same.0 ∙ p)) (λ p. inr (sym same.0 ∙ p)) h.0, h.1))
      go (inr (inr h)) = inr (inr (sym same.0 ∙ h.0, f h.1))

  phase_over : (n : ℕ) (p : Bool) → (X n → ⊥) → s'.second n ≡ p → s.second n ≡ p
  phase_over n p x h = sym (keeps n x).1 ∙ h

  values_over : (es : Exprs) → Avoids* X es → values s'.value es ≡ values s.value es
  values_over none c = refl
  values_over (some e es) c = λ i. (keeps (id e) (c (id e) (inl (node_id e)))).2 i ∷ values_over es (λ m k. c m (inr k)) i

  mutual
    going_over : (e : Expr) → Avoids X e → (ρ : ℕ → ℕ) (o : Outcome) (k : ℕ) → Going apply K s' W' args e ρ o k
        → Going apply K s W args e ρ o k
    going_over (const n v) c ρ o k h = h
    going_over (param n i) c ρ o k h = h
    going_over (prim n op es) c ρ o k h = (h.0, h.1, left_over* es (λ m q. c m (inr q)) ρ h.0 h.1 h.2, h.3, h.4)
    going_over (call n g es) c ρ o k (inl (p, h)) =
        inl (
          phase_over n false (c n (inl refl)) p,
          (
            h.0,
            h.1,
            h.2,
            h.3,
            left_over* es (λ m q. c m (inr q)) ρ h.0 h.2 h.4,
            h.5,
            h.6,
            h.7,
          ),
        )
    going_over (call n g es) c ρ o k (inr h) =
        inr (phase_over n true (c n (inl refl)) h.0, h.1 ∙ ap val (expects n (c n (inl refl))), h.2)
    going_over (self n es) c ρ o k h = (h.0, h.1, left_over* es (λ m q. c m (inr q)) ρ h.0 h.1 h.2, h.3, h.4)
    going_over (cond n a b d) c ρ o k (inl (p, h)) =
        inl (
          phase_over n false (c n (inl refl)) p,
          (
            h.0,
            h.1,
            h.2,
            part_over a (λ m q. c m (inr (inl q))) ρ (val h.0) h.1 (λ x. going_over a (λ m q. c m (inr (inl q))) ρ (val
                h.0) h.1 x) h.3,
            h.4,
            h.5,
          ),
        )
    going_over (cond n a b d) c ρ o k (inr (p, h)) =
        let cb : Avoids X b = λ m q. c m (inr (inr (inl q))) in
        let cd : Avoids X d = λ m q. c m (inr (inr (inr q))) in
        inr (
          phase_over n true (c n (inl refl)) p,
          (
            h.0,
            chosen_map (part_over b cb ρ o h.0 (λ x. going_over b cb ρ o h.0 x))
                (part_over d cd ρ o h.0 (λ x. going_over d cd ρ o h.0 x))
                (s'.value (id a)) (s.value (id a)) (keeps (id a) (c (id a) (inr (inl (node_id a))))).2 h.1,
            h.2,
          ),
        )
    going_over (bind n ds b) c ρ o k (inl (p, h)) =
        inl (
          phase_over n false (c n (inl refl)) p,
          (h.0, h.1, h.2, left_over* ds (λ m q. c m (inr (inl q))) ρ h.0 h.1 h.3, h.4, h.5),
        )
    going_over (bind n ds b) c ρ o k (inr (p, h)) =
        let r = extend ds (values s'.value ds) ρ in
        inr (
          phase_over n true (c n (inl refl)) p,
          (
            h.0,
            subst (λ vs. Left apply K s W args b (extend ds vs ρ) o h.0) (values_over ds (λ m q. c m (inr (inl q))))
                (part_over b (λ m q. c m (inr (inr q))) r o h.0 (λ x. going_over b (λ m q. c m (inr (inr q))) r o h.0 x) h.1),
            h.2,
          ),
        )
    going_over (bound n d) c ρ o k h = h

    pub left_over* : (es : Exprs) → Avoids* X es → (ρ : ℕ → ℕ) (vs : List ℕ) (j : ℕ) → Left* apply K s' W' args es ρ vs j
        → Left* apply K s W args es ρ vs j
    left_over* none c ρ vs j h = h
    left_over* (some e es) c ρ vs j h = (
      h.0,
      h.1,
      h.2,
      h.3,
      part_over e (λ m q. c m (inl q)) ρ (val h.0) h.2 (λ x. going_over e (λ m q. c m (inl q)) ρ (val h.0) h.2 x) h.4,
      left_over* es (λ m q. c m (inr q)) ρ h.1 h.3 h.5,
      h.6,
      h.7,
    )

  pub left_over : (e : Expr) → Avoids X e → (ρ : ℕ → ℕ) (o : Outcome) (k : ℕ) → Left apply K s' W' args e ρ o k
      → Left apply K s W args e ρ o k
  left_over e c ρ o k h = part_over e c ρ o k (going_over e c ρ o k) h

-- what is left of a body
module _ (apply : ℕ → List ℕ → ℕ) (K : Readings) (s s' : View) (W W' : ℕ → ℕ) (args : ℕ → ℕ) (u : Expr) (d : ℕ)
    (keeps : (m : ℕ) → (Node m u → ⊥) → Same s s' m) (expects : (m : ℕ) → (Node m u → ⊥) → W' m ≡ W m)
    (moving : Still s (id u) → ⊥)
    (local : (ρ : ℕ → ℕ) (o : Outcome) (k : ℕ) → Live s u → Sees s.value u ρ → Left apply K s' W' args u ρ o k
    → Left apply K s W args u ρ o (d + k)) where
  abbrev Back : Expr → Type 0
  Back e = (ρ : ℕ → ℕ) (o : Outcome) (k : ℕ) → Live s e → Sees s.value e ρ → Left apply K s' W' args e ρ o k
      → Left apply K s W args e ρ o (d + k)

  here : (e : Expr) → u ≡ e → Back e
  here e p = subst Back p local

  -- of a busy expression around the move, what is left after it is what is left of a busy one
  going : (e : Expr) → (Node (id e) u → ⊥) → s.status (id e) ≡ 2 → (ρ : ℕ → ℕ) (o : Outcome) (k : ℕ) → Left apply K s' W' args e ρ o k
      → Going apply K s' W' args e ρ o k
  going e x b ρ o k (inl h) = absurd (omega (arith, (keeps (id e) x).0, h.0, b))
  going e x b ρ o k (inr (inl h)) =
      absurd (⊎_elim (λ p. omega (arith, (keeps (id e) x).0, p, b)) (λ p. omega (arith, (keeps (id e) x).0, p, b)) h.0)
  going e x b ρ o k (inr (inr h)) = h.1

  phases : (n : ℕ) → (Node n u → ⊥) → s.second n ≡ false → s'.second n ≡ true → ⊥
  phases n x p q = true≢false (sym q ∙ (keeps n x).1 ∙ p)

  phases' : (n : ℕ) → (Node n u → ⊥) → s.second n ≡ true → s'.second n ≡ false → ⊥
  phases' n x p q = true≢false (sym p ∙ sym (keeps n x).1 ∙ q)

  mutual
    pub left_within : (e : Expr) → Apart e → Sub u e → Back e
    left_within (const n v) a p ρ o k l f h = here (const n v) p ρ o k l f h
    left_within (param n i) a p ρ o k l f h = here (param n i) p ρ o k l f h
    left_within (prim n op es) a (inl p) ρ o k l f h = here (prim n op es) p ρ o k l f h
    left_within (prim n op es) a (inr p) ρ o k (inl l) f h = absurd (idle_not* s u moving es l.1 p)
    left_within (prim n op es) a (inr p) ρ o k (inr l) f h =
        let g = going (prim n op es) (λ x. a.0 (sub_node* u n es p x)) l.0.0 ρ o k h in
        inr (inr (l.0.0, (g.0, d + g.1, left_within* es a.1 p ρ g.0 g.1 l.1 f g.2, g.3, omega (arith, g.4))))
    left_within (call n q es) a (inl p) ρ o k l f h = here (call n q es) p ρ o k l f h
    left_within (call n q es) a (inr p) ρ o k (inl l) f h = absurd (idle_not* s u moving es l.1 p)
    left_within (call n q es) a (inr p) ρ o k (inr (inl l)) f h =
        ⊎_elim (λ g. inr (inr (
          l.0.0,
          inl (
            l.0.1,
            (
              g.1.0,
              g.1.1,
              d + g.1.2,
              g.1.3,
              left_within* es a.1 p ρ g.1.0 g.1.2 l.1 f g.1.4,
              g.1.5,
              g.1.6,
              omega (arith, g.1.7),
            ),
          ),
        ))) (λ g. absurd (phases n (λ x. a.0 (sub_node* u n es p x)) l.0.1 g.0))
        (going (call n q es) (λ x. a.0 (sub_node* u n es p x)) l.0.0 ρ o k h)
    left_within (call n q es) a (inr p) ρ o k (inr (inr l)) f h = absurd (done_not* s u moving es l.1 p)
    left_within (self n es) a (inl p) ρ o k l f h = here (self n es) p ρ o k l f h
    left_within (self n es) a (inr p) ρ o k (inl l) f h = absurd (idle_not* s u moving es l.1 p)
    left_within (self n es) a (inr p) ρ o k (inr l) f h =
        let g = going (self n es) (λ x. a.0 (sub_node* u n es p x)) l.0.0 ρ o k h in
        inr (inr (l.0.0, (g.0, d + g.1, left_within* es a.1 p ρ g.0 g.1 l.1 f g.2, g.3, omega (arith, g.4))))
    left_within (cond n a b c) q (inl p) ρ o k l f h = here (cond n a b c) p ρ o k l f h
    left_within (cond n a b c) q (inr (inl p)) ρ o k (inl l) f h = absurd (idle_not s u moving a l.1 p)
    left_within (cond n a b c) q (inr (inl p)) ρ o k (inr (inl l)) f h =
        ⊎_elim (λ g. inr (inr (
          l.0.0,
          inl (
            l.0.1,
            (
              g.1.0,
              d + g.1.1,
              g.1.2,
              left_within a q.3 p ρ (val g.1.0) g.1.1 (under_way s u moving a p l.1) f.0 g.1.3,
              g.1.4,
              omega (arith, g.1.5),
            ),
          ),
        ))) (λ g. absurd (phases n (λ x. q.0 (sub_node u n a p x)) l.0.1 g.0))
        (going (cond n a b c) (λ x. q.0 (sub_node u n a p x)) l.0.0 ρ o k h)
    left_within (cond n a b c) q (inr (inl p)) ρ o k (inr (inr l)) f h = absurd (done_not s u moving a l.1 p)
    left_within (cond n a b c) q (inr (inr p)) ρ o k (inl l) f h =
        absurd (⊎_elim (λ x. idle_not s u moving b l.2 x) (λ x. idle_not s u moving c l.3 x) p)
    left_within (cond n a b c) q (inr (inr p)) ρ o k (inr (inl l)) f h =
        absurd (⊎_elim (λ x. idle_not s u moving b l.2 x) (λ x. idle_not s u moving c l.3 x) p)
    left_within (cond n a b c) q (inr (inr (inl p))) ρ o k (inr (inr l)) f h =
        ⊎_elim (λ g. absurd (phases' n (λ x. q.1 (sub_node u n b p x)) l.0.1 g.0))
        (λ g. inr (inr (
          l.0.0,
          inr (
            l.0.1,
            (
              d + g.1.0,
              chosen_both
                  (λ x t. left_within b q.4 p ρ o g.1.0 (under_way s u moving b p x.0) f.1 t)
                  (λ x t. absurd (idle_not s u moving b x.1 p))
                  (s.value (id a)) (s'.value (id a)) (keeps (id a) (λ x. q.6 (id a) (node_id a) (sub_node u (id a) b p x))).2
                  l.2 g.1.1,
              omega (arith, g.1.2),
            ),
          ),
        )))
        (going (cond n a b c) (λ x. q.1 (sub_node u n b p x)) l.0.0 ρ o k h)
    left_within (cond n a b c) q (inr (inr (inr p))) ρ o k (inr (inr l)) f h =
        ⊎_elim (λ g. absurd (phases' n (λ x. q.2 (sub_node u n c p x)) l.0.1 g.0))
        (λ g. inr (inr (
          l.0.0,
          inr (
            l.0.1,
            (
              d + g.1.0,
              chosen_both
                  (λ x t. absurd (idle_not s u moving c x.1 p))
                  (λ x t. left_within c q.5 p ρ o g.1.0 (under_way s u moving c p x.0) f.2 t)
                  (s.value (id a)) (s'.value (id a)) (keeps (id a) (λ x. q.7 (id a) (node_id a) (sub_node u (id a) c p x))).2
                  l.2 g.1.1,
              omega (arith, g.1.2),
            ),
          ),
        )))
        (going (cond n a b c) (λ x. q.2 (sub_node u n c p x)) l.0.0 ρ o k h)
    left_within (bind n ds b) q (inl p) ρ o k l f h = here (bind n ds b) p ρ o k l f h
    left_within (bind n ds b) q (inr (inl p)) ρ o k (inl l) f h = absurd (idle_not* s u moving ds l.1 p)
    left_within (bind n ds b) q (inr (inl p)) ρ o k (inr (inl l)) f h =
        ⊎_elim (λ g. inr (inr (
          l.0.0,
          inl (
            l.0.1,
            (
              g.1.0,
              d + g.1.1,
              g.1.2,
              left_within* ds q.2 p ρ g.1.0 g.1.1 l.1 f.0 g.1.3,
              g.1.4,
              omega (arith, g.1.5),
            ),
          ),
        ))) (λ g. absurd (phases n (λ x. q.0 (sub_node* u n ds p x)) l.0.1 g.0))
        (going (bind n ds b) (λ x. q.0 (sub_node* u n ds p x)) l.0.0 ρ o k h)
    left_within (bind n ds b) q (inr (inl p)) ρ o k (inr (inr l)) f h = absurd (done_not* s u moving ds l.1 p)
    left_within (bind n ds b) q (inr (inr p)) ρ o k (inl l) f h = absurd (idle_not s u moving b l.2 p)
    left_within (bind n ds b) q (inr (inr p)) ρ o k (inr (inl l)) f h = absurd (idle_not s u moving b l.2 p)
    left_within (bind n ds b) q (inr (inr p)) ρ o k (inr (inr l)) f h =
        ⊎_elim (λ g. absurd (phases' n (λ x. q.1 (sub_node u n b p x)) l.0.1 g.0))
        (λ g. inr (inr (
          l.0.0,
          inr (
            l.0.1,
            (
              d + g.1.0,
              left_within b q.3 p (extend ds (values s.value ds) ρ) o g.1.0 (under_way s u moving b p l.2) f.1
                  (subst (λ vs. Left apply K s' W' args b (extend ds vs ρ) o g.1.0)
                  (values_over apply K s s' W W' args (λ m. Node m u) keeps expects ds (λ m k x. q.4 m k (sub_node u m b p x))) g.1.1),
              omega (arith, g.1.2),
            ),
          ),
        )))
        (going (bind n ds b) (λ x. q.1 (sub_node u n b p x)) l.0.0 ρ o k h)
    left_within (bound n i) a p ρ o k l f h = here (bound n i) p ρ o k l f h

    pub left_within* : (es : Exprs) → Apart* es → Sub* u es → (ρ : ℕ → ℕ) (vs : List ℕ) (j : ℕ) → Opened* s es → Sees* s.value es ρ
        → Left* apply K s' W' args es ρ vs j → Left* apply K s W args es ρ vs (d + j)
    left_within* none a p ρ vs j l f h = absurd p
    left_within* (some e es) a (inl p) ρ vs j l f h = (
      h.0,
      h.1,
      d + h.2,
      h.3,
      left_within e a.0 p ρ (val h.0) h.2 (under_way s u moving e p l.0) f.0 h.4,
      left_over* apply K s s' W W' args (λ m. Node m u) keeps expects es (λ m k x. a.2 m (sub_node u m e p x) k) ρ h.1 h.3 h.5,
      h.6,
      omega (arith, h.7),
    )
    left_within* (some e es) a (inr p) ρ vs j l f h = (
      h.0,
      h.1,
      h.2,
      d + h.3,
      left_over apply K s s' W W' args (λ m. Node m u) keeps expects e (λ m k x. a.2 m k (sub_node* u m es p x)) ρ (val h.0)
          h.2 h.4,
      left_within* es a.1 p ρ h.1 h.3 l.1 f.1 h.5,
      h.6,
      omega (arith, h.7),
    )
