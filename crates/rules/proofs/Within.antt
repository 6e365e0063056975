-- a move of the node of u, seen from the body that holds u
use Prim.Native.Nat.{ℕ}
use mathlib.Core.Bool.{true, false}
use mathlib.Core.Path.{◌≡◌, subst, sym}
use mathlib.Core.Logic.{inl, inr}
use Rattle.table.specs.Syntax.{Expr, Exprs, const, param, prim, call, self, cond, bind, bound, none, some, id, Every, Every*, Node, Sub}
use Rattle.table.specs.Syntax.{Sub*}
use Rattle.rules.specs.State.{View}
use Rattle.rules.proofs.Shape.{Still, Idle, Done, Done*, Live, Opened*, Opened}
use Rattle.table.specs.Well.{Apart, Apart*}
use Rattle.rules.proofs.Frame.{Same, idle_over, done_over, done_over*, opened_over, opened_over*, busy_frame}
use Rattle.rules.proofs.Branches.{chosen_map}
use Rattle.table.proofs.SyntaxLaws.{node_id, every_node, every_node*, sub_node*, sub_node}

module _ (s : View) (u : Expr) (moving : Still s (id u) → ⊥) where
  pub idle_not : (e : Expr) → Every (Idle s) e → Sub u e → ⊥
  idle_not e h p = let i : Idle s (id u) = every_node (Idle s) (id u) e h (sub_node u (id u) e p (node_id u)) in moving (inl i.0, i.1)

  pub idle_not* : (es : Exprs) → Every* (Idle s) es → Sub* u es → ⊥
  idle_not* es h p = let i : Idle s (id u) =
      every_node* (Idle s) (id u) es h (sub_node* u (id u) es p (node_id u)) in moving (inl i.0, i.1)

  pub done_not : (e : Expr) → Done s e → Sub u e → ⊥
  done_not e d p = moving (every_node (Still s) (id u) e d.1 (sub_node u (id u) e p (node_id u)))

  -- what was opened and has a part under way isn't done
  pub under_way : (e : Expr) → Sub u e → Opened s e → Live s e
  under_way e p (inl l) = l
  under_way e p (inr d) = absurd (done_not e d p)

  pub done_not* : (es : Exprs) → Done* s es → Sub* u es → ⊥
  done_not* none d p = p
  done_not* (some e es) d (inl p) = done_not e d.0 p
  done_not* (some e es) d (inr p) = done_not* es d.1 p

module _ (s s' : View) (u : Expr)
    (keeps : (m : ℕ) → (Node m u → ⊥) → Same s s' m)
    (holds : (g m : ℕ) → (Node m u → ⊥) → (m ≡ 0 → ⊥) → s.occupant g ≡ m → s'.occupant g ≡ m)
    (moving : Still s (id u) → ⊥)
    (local : Live s u → Opened s' u) where
  abbrev X : ℕ → Type 0
  X m = Node m u

  mutual
    pub within : (e : Expr) → Apart e → Sub u e → Live s e → Opened s' e
    within (const n v) a p l = subst (λ x. Live s x → Opened s' x) p local l
    within (param n i) a p l = subst (λ x. Live s x → Opened s' x) p local l
    within (prim n op es) a (inl p) l = subst (λ x. Live s x → Opened s' x) p local l
    within (prim n op es) a (inr p) (inl l) = absurd (idle_not* s u moving es l.1 p)
    within (prim n op es) a (inr p) (inr l) =
        inl (inr (busy_frame s s' X keeps n false (λ k. a.0 (sub_node* u n es p k)) l.0, within* es a.1 p l.1))
    within (call n g es) a (inl p) l = subst (λ x. Live s x → Opened s' x) p local l
    within (call n g es) a (inr p) (inl l) = absurd (idle_not* s u moving es l.1 p)
    within (call n g es) a (inr p) (inr (inl l)) =
        inl (inr (inl (busy_frame s s' X keeps n false (λ k. a.0 (sub_node* u n es p k)) l.0, within* es a.1 p l.1)))
    within (call n g es) a (inr p) (inr (inr l)) = absurd (done_not* s u moving es l.1 p)
    within (self n es) a (inl p) l = subst (λ x. Live s x → Opened s' x) p local l
    within (self n es) a (inr p) (inl l) = absurd (idle_not* s u moving es l.1 p)
    within (self n es) a (inr p) (inr l) =
        inl (inr (busy_frame s s' X keeps n false (λ k. a.0 (sub_node* u n es p k)) l.0, within* es a.1 p l.1))
    within (cond n a b c) h (inl p) l = subst (λ x. Live s x → Opened s' x) p local l
    within (cond n a b c) h (inr (inl p)) (inl l) = absurd (idle_not s u moving a l.1 p)
    within (cond n a b c) h (inr (inl p)) (inr (inl l)) =
        inl (inr (inl (
          busy_frame s s' X keeps n false (λ k. h.0 (sub_node u n a p k)) l.0,
          within a h.3 p (under_way s u moving a p l.1),
          idle_over s s' X keeps b (λ m k x. h.6 m (sub_node u m a p x) k) l.2,
          idle_over s s' X keeps c (λ m k x. h.7 m (sub_node u m a p x) k) l.3,
        )))
    within (cond n a b c) h (inr (inl p)) (inr (inr l)) = absurd (done_not s u moving a l.1 p)
    within (cond n a b c) h (inr (inr (inl p))) (inl l) = absurd (idle_not s u moving b l.2 p)
    within (cond n a b c) h (inr (inr (inl p))) (inr (inl l)) = absurd (idle_not s u moving b l.2 p)
    within (cond n a b c) h (inr (inr (inl p))) (inr (inr l)) =
        inl (inr (inr (
          busy_frame s s' X keeps n true (λ k. h.1 (sub_node u n b p k)) l.0,
          done_over s s' X keeps a (λ m k x. h.6 m k (sub_node u m b p x)) l.1,
          chosen_map
              (λ t. (
                within b h.4 p (under_way s u moving b p t.0),
                idle_over s s' X keeps c (λ m k x. h.8 m (sub_node u m b p x) k) t.1,
              ))
              (λ t. absurd (idle_not s u moving b t.1 p))
              (s.value (id a)) (s'.value (id a)) (sym (keeps (id a) (λ x. h.6 (id a) (node_id a) (sub_node u (id a) b p x))).2) l.2,
        )))
    within (cond n a b c) h (inr (inr (inr p))) (inl l) = absurd (idle_not s u moving c l.3 p)
    within (cond n a b c) h (inr (inr (inr p))) (inr (inl l)) = absurd (idle_not s u moving c l.3 p)
    within (cond n a b c) h (inr (inr (inr p))) (inr (inr l)) =
        inl (inr (inr (
          busy_frame s s' X keeps n true (λ k. h.2 (sub_node u n c p k)) l.0,
          done_over s s' X keeps a (λ m k x. h.7 m k (sub_node u m c p x)) l.1,
          chosen_map
              (λ t. absurd (idle_not s u moving c t.1 p))
              (λ t. (
                within c h.5 p (under_way s u moving c p t.0),
                idle_over s s' X keeps b (λ m k x. h.8 m k (sub_node u m c p x)) t.1,
              ))
              (s.value (id a)) (s'.value (id a)) (sym (keeps (id a) (λ x. h.7 (id a) (node_id a) (sub_node u (id a) c p x))).2) l.2,
        )))
    within (bind n ds b) h (inl p) l = subst (λ x. Live s x → Opened s' x) p local l
    within (bind n ds b) h (inr (inl p)) (inl l) = absurd (idle_not* s u moving ds l.1 p)
    within (bind n ds b) h (inr (inl p)) (inr (inl l)) =
        inl (inr (inl (
          busy_frame s s' X keeps n false (λ k. h.0 (sub_node* u n ds p k)) l.0,
          within* ds h.2 p l.1,
          idle_over s s' X keeps b (λ m k x. h.4 m (sub_node* u m ds p x) k) l.2,
        )))
    within (bind n ds b) h (inr (inl p)) (inr (inr l)) = absurd (done_not* s u moving ds l.1 p)
    within (bind n ds b) h (inr (inr p)) (inl l) = absurd (idle_not s u moving b l.2 p)
    within (bind n ds b) h (inr (inr p)) (inr (inl l)) = absurd (idle_not s u moving b l.2 p)
    within (bind n ds b) h (inr (inr p)) (inr (inr l)) =
        inl (inr (inr (
          busy_frame s s' X keeps n true (λ k. h.1 (sub_node u n b p k)) l.0,
          done_over* s s' X keeps ds (λ m k x. h.4 m k (sub_node u m b p x)) l.1,
          within b h.3 p (under_way s u moving b p l.2),
        )))
    within (bound n d) a p l = subst (λ x. Live s x → Opened s' x) p local l

    pub within* : (es : Exprs) → Apart* es → Sub* u es → Opened* s es → Opened* s' es
    within* none a p o = absurd p
    within* (some e es) a (inl p) o = (
      within e a.0 p (under_way s u moving e p o.0),
      opened_over* s s' X keeps holds es (λ m k x. a.2 m (sub_node u m e p x) k) o.1,
    )
    within* (some e es) a (inr p) o =
        (opened_over s s' X keeps holds e (λ m k x. a.2 m k (sub_node* u m es p x)) o.0, within* es a.1 p o.1)
