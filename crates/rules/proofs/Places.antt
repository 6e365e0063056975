-- where a call or a self call stands in a body, and what is then under way around it
use Prim.Native.Nat.{ℕ}
use mathlib.Core.Bool.{true≢false}
use mathlib.Core.Path.{◌≡◌, refl, subst, sym, ◌∙◌}
use mathlib.Core.Logic.{inl, inr, ⊎_elim}
use mathlib.Core.List.{List}
use native.Mathlib.Omega.{arith}
use Rattle.table.specs.Syntax.{Expr, Exprs, const, param, prim, call, self, cond, bind, bound, none, some, id, Every, Every*, Node, Node*}
use Rattle.table.specs.Syntax.{Sub, Sub*}
use Rattle.rules.specs.State.{View}
use Rattle.rules.proofs.Shape.{Still, Idle, Done*, Live, Opened*, busy_moves}
use Rattle.rules.proofs.Branches.{chosen_case, chosen_both}
use Rattle.table.proofs.SyntaxLaws.{every_node, every_node*}
use Rattle.rules.proofs.Within.{idle_not, idle_not*, done_not, under_way, done_not*}
use Rattle.rules.proofs.Moves.{Inner, finished, finished*}

-- a part that is under way is live itself
module _ (s : View) (u : Expr) (moving : Still s (id u) → ⊥) where
  mutual
    pub sub_live : (e : Expr) → Sub u e → Live s e → Live s u
    sub_live (const n v) p l = subst (Live s) (sym p) l
    sub_live (param n i) p l = subst (Live s) (sym p) l
    sub_live (prim n op es) (inl p) l = subst (Live s) (sym p) l
    sub_live (prim n op es) (inr p) (inl l) = absurd (idle_not* s u moving es l.1 p)
    sub_live (prim n op es) (inr p) (inr l) = sub_live* es p l.1
    sub_live (call n g es) (inl p) l = subst (Live s) (sym p) l
    sub_live (call n g es) (inr p) (inl l) = absurd (idle_not* s u moving es l.1 p)
    sub_live (call n g es) (inr p) (inr (inl l)) = sub_live* es p l.1
    sub_live (call n g es) (inr p) (inr (inr l)) = absurd (done_not* s u moving es l.1 p)
    sub_live (self n es) (inl p) l = subst (Live s) (sym p) l
    sub_live (self n es) (inr p) (inl l) = absurd (idle_not* s u moving es l.1 p)
    sub_live (self n es) (inr p) (inr l) = sub_live* es p l.1
    sub_live (cond n a b c) (inl p) l = subst (Live s) (sym p) l
    sub_live (cond n a b c) (inr (inl p)) (inl l) = absurd (idle_not s u moving a l.1 p)
    sub_live (cond n a b c) (inr (inl p)) (inr (inl l)) = sub_live a p (under_way s u moving a p l.1)
    sub_live (cond n a b c) (inr (inl p)) (inr (inr l)) = absurd (done_not s u moving a l.1 p)
    sub_live (cond n a b c) (inr (inr (inl p))) (inl l) = absurd (idle_not s u moving b l.2 p)
    sub_live (cond n a b c) (inr (inr (inl p))) (inr (inl l)) = absurd (idle_not s u moving b l.2 p)
    sub_live (cond n a b c) (inr (inr (inl p))) (inr (inr l)) =
        chosen_case (λ o. sub_live b p (under_way s u moving b p o.0)) (λ o. absurd (idle_not s u moving b o.1 p))
        (s.value (id a)) l.2
    sub_live (cond n a b c) (inr (inr (inr p))) (inl l) = absurd (idle_not s u moving c l.3 p)
    sub_live (cond n a b c) (inr (inr (inr p))) (inr (inl l)) = absurd (idle_not s u moving c l.3 p)
    sub_live (cond n a b c) (inr (inr (inr p))) (inr (inr l)) =
        chosen_case (λ o. absurd (idle_not s u moving c o.1 p)) (λ o. sub_live c p (under_way s u moving c p o.0))
        (s.value (id a)) l.2
    sub_live (bind n ds b) (inl p) l = subst (Live s) (sym p) l
    sub_live (bind n ds b) (inr (inl p)) (inl l) = absurd (idle_not* s u moving ds l.1 p)
    sub_live (bind n ds b) (inr (inl p)) (inr (inl l)) = sub_live* ds p l.1
    sub_live (bind n ds b) (inr (inl p)) (inr (inr l)) = absurd (done_not* s u moving ds l.1 p)
    sub_live (bind n ds b) (inr (inr p)) (inl l) = absurd (idle_not s u moving b l.2 p)
    sub_live (bind n ds b) (inr (inr p)) (inr (inl l)) = absurd (idle_not s u moving b l.2 p)
    sub_live (bind n ds b) (inr (inr p)) (inr (inr l)) = sub_live b p (under_way s u moving b p l.2)
    sub_live (bound n d) p l = subst (Live s) (sym p) l

    pub sub_live* : (es : Exprs) → Sub* u es → Opened* s es → Live s u
    sub_live* none p o = absurd p
    sub_live* (some e es) (inl p) o = sub_live e p (under_way s u moving e p o.0)
    sub_live* (some e es) (inr p) o = sub_live* es p o.1

-- nothing is busy in what is still or idle
module _ (s : View) (c : ℕ) (busy : s.status c ≡ 2) where
  pub still_busy : (e : Expr) → Every (Still s) e → Node c e → ⊥
  still_busy e h k = busy_moves s c busy (every_node (Still s) c e h k)

  pub still_busy* : (es : Exprs) → Every* (Still s) es → Node* c es → ⊥
  still_busy* es h k = busy_moves s c busy (every_node* (Still s) c es h k)

  pub idle_busy : (e : Expr) → Every (Idle s) e → Node c e → ⊥
  idle_busy e h k = omega (arith, (every_node (Idle s) c e h k).0)

  pub idle_busy* : (es : Exprs) → Every* (Idle s) es → Node* c es → ⊥
  idle_busy* es h k = omega (arith, (every_node* (Idle s) c es h k).0)

  pub done_busy* : (es : Exprs) → Done* s es → Node* c es → ⊥
  done_busy* none d k = k
  done_busy* (some e es) d (inl k) = still_busy e d.0.1 k
  done_busy* (some e es) d (inr k) = done_busy* es d.1 k

  -- below a node that takes a step inside its body nothing is busy
  pub inner_busy : (apply : ℕ → List ℕ → ℕ) (args : ℕ → ℕ) (s' : View) (u : Expr) → Inner apply args s s' u → Live s u → Node c u
      → c ≡ id u
  inner_busy apply args s' (const n v) r l k = k
  inner_busy apply args s' (param n i) r l k = k
  inner_busy apply args s' (prim n op es) r l (inl k) = k
  inner_busy apply args s' (prim n op es) r (inl l) (inr k) = absurd (idle_busy* es l.1 k)
  inner_busy apply args s' (prim n op es) (inl r) (inr l) (inr k) = absurd (omega (arith, r.0.0, l.0.0))
  inner_busy apply args s' (prim n op es) (inr r) (inr l) (inr k) = absurd (done_busy* es (finished* s es l.1 r.1) k)
  inner_busy apply args s' (call n g es) r l (inl k) = k
  inner_busy apply args s' (call n g es) r (inl l) (inr k) = absurd (idle_busy* es l.1 k)
  inner_busy apply args s' (call n g es) r (inr (inl l)) (inr k) = absurd (omega (arith, r.0.0, l.0.0))
  inner_busy apply args s' (call n g es) r (inr (inr l)) (inr k) = absurd (omega (arith, r.0.0, l.0.0))
  inner_busy apply args s' (self n es) r l (inl k) = k
  inner_busy apply args s' (self n es) r (inl l) (inr k) = absurd (idle_busy* es l.1 k)
  inner_busy apply args s' (self n es) r (inr l) (inr k) = absurd (omega (arith, r.0.0, l.0.0))
  inner_busy apply args s' (cond n x y z) r l (inl k) = k
  inner_busy apply args s' (cond n x y z) r (inl l) (inr (inl k)) = absurd (idle_busy x l.1 k)
  inner_busy apply args s' (cond n x y z) r (inl l) (inr (inr (inl k))) = absurd (idle_busy y l.2 k)
  inner_busy apply args s' (cond n x y z) r (inl l) (inr (inr (inr k))) = absurd (idle_busy z l.3 k)
  inner_busy apply args s' (cond n x y z) (inl r) (inr (inl l)) (inr k) = absurd (omega (arith, r.0.0, l.0.0))
  inner_busy apply args s' (cond n x y z) (inr (inl r)) (inr (inl l)) (inr (inl k)) =
      absurd (still_busy x (finished s x l.1 r.1).1 k)
  inner_busy apply args s' (cond n x y z) (inr (inl r)) (inr (inl l)) (inr (inr (inl k))) = absurd (idle_busy y l.2 k)
  inner_busy apply args s' (cond n x y z) (inr (inl r)) (inr (inl l)) (inr (inr (inr k))) = absurd (idle_busy z l.3 k)
  inner_busy apply args s' (cond n x y z) (inr (inr r)) (inr (inl l)) (inr k) = absurd (true≢false (sym r.0.1 ∙ l.0.1))
  inner_busy apply args s' (cond n x y z) (inl r) (inr (inr l)) (inr k) = absurd (omega (arith, r.0.0, l.0.0))
  inner_busy apply args s' (cond n x y z) (inr (inl r)) (inr (inr l)) (inr k) = absurd (true≢false (sym l.0.1 ∙ r.0.1))
  inner_busy apply args s' (cond n x y z) (inr (inr r)) (inr (inr l)) (inr (inl k)) = absurd (still_busy x l.1.1 k)
  inner_busy apply args s' (cond n x y z) (inr (inr r)) (inr (inr l)) (inr (inr k)) =
      absurd (chosen_case (λ z. z) (λ z. z) (s.value (id x)) (chosen_both
      (λ t o. ⊎_elim (λ i. still_busy y (finished s y o.0 t.0).1 i) (λ i. idle_busy z o.1 i) k)
      (λ t o. ⊎_elim (λ i. idle_busy y o.1 i) (λ i. still_busy z (finished s z o.0 t.0).1 i) k)
      (s.value (id x)) (s.value (id x)) refl r.1 l.2))
  inner_busy apply args s' (bind n ds b) r l (inl k) = k
  inner_busy apply args s' (bind n ds b) r (inl l) (inr (inl k)) = absurd (idle_busy* ds l.1 k)
  inner_busy apply args s' (bind n ds b) r (inl l) (inr (inr k)) = absurd (idle_busy b l.2 k)
  inner_busy apply args s' (bind n ds b) (inl r) (inr (inl l)) (inr k) = absurd (omega (arith, r.0.0, l.0.0))
  inner_busy apply args s' (bind n ds b) (inr (inl r)) (inr (inl l)) (inr (inl k)) = absurd (done_busy* ds (finished* s ds l.1 r.1) k)
  inner_busy apply args s' (bind n ds b) (inr (inl r)) (inr (inl l)) (inr (inr k)) = absurd (idle_busy b l.2 k)
  inner_busy apply args s' (bind n ds b) (inr (inr r)) (inr (inl l)) (inr k) = absurd (true≢false (sym r.0.1 ∙ l.0.1))
  inner_busy apply args s' (bind n ds b) (inl r) (inr (inr l)) (inr k) = absurd (omega (arith, r.0.0, l.0.0))
  inner_busy apply args s' (bind n ds b) (inr (inl r)) (inr (inr l)) (inr k) = absurd (true≢false (sym l.0.1 ∙ r.0.1))
  inner_busy apply args s' (bind n ds b) (inr (inr r)) (inr (inr l)) (inr (inl k)) = absurd (done_busy* ds l.1 k)
  inner_busy apply args s' (bind n ds b) (inr (inr r)) (inr (inr l)) (inr (inr k)) = absurd (still_busy b (finished s b l.2 r.1).1 k)
  inner_busy apply args s' (bound n d) r l k = k
