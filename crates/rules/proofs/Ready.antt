-- a node that has a step: below it nothing is under way, so the expressions of two such nodes share no node; where a self call restarts,
-- no other node of its body has a step
use Prim.Native.Nat.{ℕ}
use mathlib.Core.Bool.{true≢false}
use mathlib.Core.Path.{◌≡◌, refl, subst, sym, ◌∙◌}
use mathlib.Core.Logic.{◌⊎◌, inl, inr, ⊎_elim}
use native.Mathlib.Omega.{arith}
use Rattle.table.specs.Syntax.{Expr, Exprs, const, param, prim, call, self, cond, bind, bound, id, Every, Node, Sub}
use Rattle.table.proofs.SyntaxLaws.{node_id, sub_node, every_node, every_node*}
use Rattle.rules.specs.State.{View}
use Rattle.rules.proofs.Shape.{Still, Live}
use Rattle.rules.proofs.Branches.{chosen_case, chosen_both}
use Rattle.rules.proofs.Moves.{Under, Finished*, finished, finished*, done*_still, idle_still, idle_still*}
use Rattle.rules.proofs.SelfCalls.{self_above}
use Rattle.rules.proofs.Acting.{Acting, apart, live, live_part}
use Rattle.rules.proofs.Progress.{Able}
use Rattle.rules.proofs.Numbered.{nested}

-- a node of e is e's own or below it
under_node : (P : ℕ → Type 0) (m : ℕ) (e : Expr) → Under P e → Node m e → (m ≡ id e) ⊎ P m
under_node P m (const n v) h k = inl k
under_node P m (param n i) h k = inl k
under_node P m (prim n op es) h (inl k) = inl k
under_node P m (prim n op es) h (inr k) = inr (every_node* P m es h k)
under_node P m (call n g es) h (inl k) = inl k
under_node P m (call n g es) h (inr k) = inr (every_node* P m es h k)
under_node P m (self n es) h (inl k) = inl k
under_node P m (self n es) h (inr k) = inr (every_node* P m es h k)
under_node P m (cond n x y z) h (inl k) = inl k
under_node P m (cond n x y z) h (inr (inl k)) = inr (every_node P m x h.0 k)
under_node P m (cond n x y z) h (inr (inr (inl k))) = inr (every_node P m y h.1 k)
under_node P m (cond n x y z) h (inr (inr (inr k))) = inr (every_node P m z h.2 k)
under_node P m (bind n ds b) h (inl k) = inl k
under_node P m (bind n ds b) h (inr (inl k)) = inr (every_node* P m ds h.0 k)
under_node P m (bind n ds b) h (inr (inr k)) = inr (every_node P m b h.1 k)
under_node P m (bound n d) h k = inl k

module _ (body : ℕ → Expr) (s : View) where
  -- below it all is done or was never opened
  able_below : (u : Expr) → Able body s u → Live s u → Under (Still s) u
  able_below (const n v) a l = tt
  able_below (param n i) a l = tt
  able_below (prim n op es) a (inl l) = idle_still* s es l.1
  able_below (prim n op es) (inl a) (inr l) = absurd (omega (arith, a.0, l.0.0))
  able_below (prim n op es) (inr a) (inr l) = done*_still s es (finished* s es l.1 a.1)
  able_below (call n g es) a (inl l) = idle_still* s es l.1
  able_below (call n g es) (inl a) (inr (inl l)) = absurd (omega (arith, a.0, l.0.0))
  able_below (call n g es) (inr (inl a)) (inr (inl l)) = done*_still s es (finished* s es l.1 a.1)
  able_below (call n g es) (inr (inr a)) (inr (inl l)) = absurd (true≢false (sym a.0.1 ∙ l.0.1))
  able_below (call n g es) a (inr (inr l)) = done*_still s es l.1
  able_below (self n es) a (inl l) = idle_still* s es l.1
  able_below (self n es) (inl a) (inr l) = absurd (omega (arith, a.0, l.0.0))
  able_below (self n es) (inr a) (inr l) = done*_still s es (finished* s es l.1 a.1)
  able_below (cond n x y z) a (inl l) = (idle_still s x l.1, idle_still s y l.2, idle_still s z l.3)
  able_below (cond n x y z) (inl a) (inr (inl l)) = absurd (omega (arith, a.0, l.0.0))
  able_below (cond n x y z) (inr (inl a)) (inr (inl l)) =
      ((finished s x l.1 a.1).1, idle_still s y l.2, idle_still s z l.3)
  able_below (cond n x y z) (inr (inr a)) (inr (inl l)) = absurd (true≢false (sym a.0.1 ∙ l.0.1))
  able_below (cond n x y z) (inl a) (inr (inr l)) = absurd (omega (arith, a.0, l.0.0))
  able_below (cond n x y z) (inr (inl a)) (inr (inr l)) = absurd (true≢false (sym l.0.1 ∙ a.0.1))
  able_below (cond n x y z) (inr (inr a)) (inr (inr l)) = chosen_case (λ d. d) (λ d. d) (s.value (id x)) (chosen_both
      (λ d o. below (finished s y o.0 d).1 (idle_still s z o.1)) (λ d o. below (idle_still s y o.1) (finished s z o.0 d).1)
      (s.value (id x)) (s.value (id x)) refl a.1 l.2)
    where
      below : Every (Still s) y → Every (Still s) z → Under (Still s) (cond n x y z)
      below p q = (l.1.1, p, q)
  able_below (bind n ds b) a (inl l) = (idle_still* s ds l.1, idle_still s b l.2)
  able_below (bind n ds b) (inl a) (inr (inl l)) = absurd (omega (arith, a.0, l.0.0))
  able_below (bind n ds b) (inr (inl a)) (inr (inl l)) = (done*_still s ds (finished* s ds l.1 a.1), idle_still s b l.2)
  able_below (bind n ds b) (inr (inr a)) (inr (inl l)) = absurd (true≢false (sym a.0.1 ∙ l.0.1))
  able_below (bind n ds b) (inl a) (inr (inr l)) = absurd (omega (arith, a.0, l.0.0))
  able_below (bind n ds b) (inr (inl a)) (inr (inr l)) = absurd (true≢false (sym l.0.1 ∙ a.0.1))
  able_below (bind n ds b) (inr (inr a)) (inr (inr l)) = (done*_still s ds l.1, (finished s b l.2 a.1).1)
  able_below (bound n d) a l = tt

module _ {F : ℕ} {body : ℕ → Expr} {s : View} where
  -- a node below another that has a step has none
  above : {h k : ℕ} {u w : Expr} → Acting F body s h u → Acting F body s k w → Able body s w → Sub u w → id u ≡ id w
  above {u = u} {w = w} x y b p = ⊎_elim (λ e. e) (λ k. absurd (x.moving k))
      (under_node (Still s) (id u) w (able_below body s w b (live_part y)) (sub_node u (id u) w p (node_id u)))

  pub able_apart : {h k : ℕ} {u w : Expr} → Acting F body s h u → Acting F body s k w → Able body s u → Able body s w
      → (m : ℕ) → Node m u → Node m w → id u ≡ id w
  able_apart {h} {k} {u} {w} x y a b m i j =
      let e : h ≡ k = x.well.owner h k m x.fn y.fn (sub_node u m (body h) x.place i) (sub_node w m (body k) y.place j) in
      ⊎_elim (above x y b) (λ p. sym (above y x a p))
      (nested u w m i j (body k) (apart y) (subst (λ f. Sub u (body f)) e x.place) y.place)

  -- what is under way beside a self call with its arguments done stands above it, and has no step
  pub able_alone : {h n : ℕ} {es : Exprs} {w : Expr} → Acting F body s h (self n es) → s.status n ≡ 2 → Finished* s es
      → Acting F body s h w → Able body s w → n ≡ id w
  able_alone {h} {n} {es} {w} x at ready y a =
      above x y a (self_above s n es at ready w y.moving (body h) (x.well.tail h x.fn) x.place (live x) y.place).0
