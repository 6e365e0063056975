-- a move inside the expression u leaves the shape of what is around it
use Prim.Native.Nat.{ℕ}
use mathlib.Core.Bool.{Bool, true, false}
use mathlib.Core.Path.{◌≡◌, refl, sym, ◌∙◌}
use mathlib.Core.Logic.{inl, inr, ⊎_elim}
use Rattle.table.specs.Syntax.{Expr, Exprs, const, param, prim, call, self, cond, bind, bound, none, some, id, Every, Every*, Node, Node*}
use Rattle.rules.specs.State.{View}
use Rattle.rules.proofs.Shape.{Still, Idle, Open, Busy, Done, Done*, Live, Opened*, Opened}
use Rattle.rules.proofs.Branches.{chosen_map}
use Rattle.table.proofs.SyntaxLaws.{node_id}

-- a node's entries
abbrev pub Same : View → View → ℕ → Type 0
Same s s' m = (s'.status m ≡ s.status m) × (s'.second m ≡ s.second m) × (s'.value m ≡ s.value m)

-- a function's registers and occupant
abbrev pub SameFunction : View → View → ℕ → Type 0
SameFunction s s' f = (s'.occupant f ≡ s.occupant f) × ((i : ℕ) → s'.register f i ≡ s.register f i)

-- no node of an expression is in X
abbrev pub Avoids : (ℕ → Type 0) → Expr → Type 0
Avoids X e = (m : ℕ) → Node m e → X m → ⊥

abbrev pub Avoids* : (ℕ → Type 0) → Exprs → Type 0
Avoids* X es = (m : ℕ) → Node* m es → X m → ⊥

-- what holds of a node by its status and phase alone goes over
module _ (s s' : View) (X : ℕ → Type 0) (keeps : (m : ℕ) → (X m → ⊥) → Same s s' m) where
  pub busy_frame : (n : ℕ) (p : Bool) → (X n → ⊥) → Busy s n p → Busy s' n p
  busy_frame n p x h = ((keeps n x).0 ∙ h.0, (keeps n x).1 ∙ h.1)

  pub open_frame : (n : ℕ) → (X n → ⊥) → Open s n → Open s' n
  open_frame n x h = ((keeps n x).0 ∙ h.0, (keeps n x).1 ∙ h.1)

  pub idle_frame : (n : ℕ) → (X n → ⊥) → Idle s n → Idle s' n
  idle_frame n x h = ((keeps n x).0 ∙ h.0, (keeps n x).1 ∙ h.1)

  pub still_frame : (n : ℕ) → (X n → ⊥) → Still s n → Still s' n
  still_frame n x h = (⊎_elim (λ e. inl ((keeps n x).0 ∙ e)) (λ e. inr ((keeps n x).0 ∙ e)) h.0, (keeps n x).1 ∙ h.1)

  module _ (P Q : ℕ → Type 0) (f : (n : ℕ) → (X n → ⊥) → P n → Q n) where
    mutual
      pub every_frame : (e : Expr) → Avoids X e → Every P e → Every Q e
      every_frame (const n v) c h = f n (c n refl) h
      every_frame (param n i) c h = f n (c n refl) h
      every_frame (prim n op es) c h = (f n (c n (inl refl)) h.0, every_frame* es (λ m k. c m (inr k)) h.1)
      every_frame (call n g es) c h = (f n (c n (inl refl)) h.0, every_frame* es (λ m k. c m (inr k)) h.1)
      every_frame (self n es) c h = (f n (c n (inl refl)) h.0, every_frame* es (λ m k. c m (inr k)) h.1)
      every_frame (cond n a b d) c h = (
        f n (c n (inl refl)) h.0,
        every_frame a (λ m k. c m (inr (inl k))) h.1,
        every_frame b (λ m k. c m (inr (inr (inl k)))) h.2,
        every_frame d (λ m k. c m (inr (inr (inr k)))) h.3,
      )
      every_frame (bind n ds b) c h =
          (f n (c n (inl refl)) h.0, every_frame* ds (λ m k. c m (inr (inl k))) h.1, every_frame b (λ m k. c m (inr (inr k))) h.2)
      every_frame (bound n d) c h = f n (c n refl) h

      pub every_frame* : (es : Exprs) → Avoids* X es → Every* P es → Every* Q es
      every_frame* none c h = tt
      every_frame* (some e es) c h = (every_frame e (λ m k. c m (inl k)) h.0, every_frame* es (λ m k. c m (inr k)) h.1)

  pub idle_over : (e : Expr) → Avoids X e → Every (Idle s) e → Every (Idle s') e
  idle_over = every_frame (Idle s) (Idle s') idle_frame

  pub idle_over* : (es : Exprs) → Avoids* X es → Every* (Idle s) es → Every* (Idle s') es
  idle_over* = every_frame* (Idle s) (Idle s') idle_frame

  pub still_over : (e : Expr) → Avoids X e → Every (Still s) e → Every (Still s') e
  still_over = every_frame (Still s) (Still s') still_frame

  pub done_over : (e : Expr) → Avoids X e → Done s e → Done s' e
  done_over e c d = ((keeps (id e) (c (id e) (node_id e))).0 ∙ d.0, still_over e c d.1)

  pub done_over* : (es : Exprs) → Avoids* X es → Done* s es → Done* s' es
  done_over* none c d = tt
  done_over* (some e es) c d = (done_over e (λ m k. c m (inl k)) d.0, done_over* es (λ m k. c m (inr k)) d.1)

  -- a call in its second phase also wants its callee's occupant
  module _ (holds : (g m : ℕ) → (X m → ⊥) → (m ≡ 0 → ⊥) → s.occupant g ≡ m → s'.occupant g ≡ m) where
    mutual
      pub live_over : (e : Expr) → Avoids X e → Live s e → Live s' e
      live_over (const n v) c l = open_frame n (c n refl) l
      live_over (param n i) c l = open_frame n (c n refl) l
      live_over (prim n op es) c (inl l) = inl (open_frame n (c n (inl refl)) l.0, idle_over* es (λ m k. c m (inr k)) l.1)
      live_over (prim n op es) c (inr l) = inr (busy_frame n false (c n (inl refl)) l.0, opened_over* es (λ m k. c m (inr k)) l.1)
      live_over (call n g es) c (inl l) = inl (open_frame n (c n (inl refl)) l.0, idle_over* es (λ m k. c m (inr k)) l.1)
      live_over (call n g es) c (inr (inl l)) =
          inr (inl (busy_frame n false (c n (inl refl)) l.0, opened_over* es (λ m k. c m (inr k)) l.1))
      live_over (call n g es) c (inr (inr l)) =
          inr (inr (
            busy_frame n true (c n (inl refl)) l.0,
            done_over* es (λ m k. c m (inr k)) l.1,
            holds g n (c n (inl refl)) l.3 l.2,
            l.3,
          ))
      live_over (self n es) c (inl l) = inl (open_frame n (c n (inl refl)) l.0, idle_over* es (λ m k. c m (inr k)) l.1)
      live_over (self n es) c (inr l) = inr (busy_frame n false (c n (inl refl)) l.0, opened_over* es (λ m k. c m (inr k)) l.1)
      live_over (cond n a b d) c (inl l) =
          inl (
            open_frame n (c n (inl refl)) l.0,
            idle_over a (λ m k. c m (inr (inl k))) l.1,
            idle_over b (λ m k. c m (inr (inr (inl k)))) l.2,
            idle_over d (λ m k. c m (inr (inr (inr k)))) l.3,
          )
      live_over (cond n a b d) c (inr (inl l)) =
          inr (inl (
            busy_frame n false (c n (inl refl)) l.0,
            ⊎_elim (λ x. inl (live_over a (λ m k. c m (inr (inl k))) x)) (λ x. inr (done_over a (λ m k. c m (inr (inl k))) x))
                l.1,
            idle_over b (λ m k. c m (inr (inr (inl k)))) l.2,
            idle_over d (λ m k. c m (inr (inr (inr k)))) l.3,
          ))
      live_over (cond n a b d) c (inr (inr l)) =
          inr (inr (
            busy_frame n true (c n (inl refl)) l.0,
            done_over a (λ m k. c m (inr (inl k))) l.1,
            chosen_map
                (λ t. (
                  ⊎_elim (λ x. inl (live_over b (λ m k. c m (inr (inr (inl k)))) x))
                      (λ x. inr (done_over b (λ m k. c m (inr (inr (inl k)))) x)) t.0,
                  idle_over d (λ m k. c m (inr (inr (inr k)))) t.1,
                ))
                (λ t. (
                  ⊎_elim (λ x. inl (live_over d (λ m k. c m (inr (inr (inr k)))) x))
                      (λ x. inr (done_over d (λ m k. c m (inr (inr (inr k)))) x)) t.0,
                  idle_over b (λ m k. c m (inr (inr (inl k)))) t.1,
                ))
                (s.value (id a)) (s'.value (id a)) (sym (keeps (id a) (c (id a) (inr (inl (node_id a))))).2) l.2,
          ))
      live_over (bind n ds b) c (inl l) =
          inl (
            open_frame n (c n (inl refl)) l.0,
            idle_over* ds (λ m k. c m (inr (inl k))) l.1,
            idle_over b (λ m k. c m (inr (inr k))) l.2,
          )
      live_over (bind n ds b) c (inr (inl l)) =
          inr (inl (
            busy_frame n false (c n (inl refl)) l.0,
            opened_over* ds (λ m k. c m (inr (inl k))) l.1,
            idle_over b (λ m k. c m (inr (inr k))) l.2,
          ))
      live_over (bind n ds b) c (inr (inr l)) =
          inr (inr (
            busy_frame n true (c n (inl refl)) l.0,
            done_over* ds (λ m k. c m (inr (inl k))) l.1,
            ⊎_elim (λ x. inl (live_over b (λ m k. c m (inr (inr k))) x)) (λ x. inr (done_over b (λ m k. c m (inr (inr k))) x)) l.2,
          ))
      live_over (bound n d) c l = open_frame n (c n refl) l

      pub opened_over* : (es : Exprs) → Avoids* X es → Opened* s es → Opened* s' es
      opened_over* none c o = tt
      opened_over* (some e es) c o = (
        ⊎_elim (λ x. inl (live_over e (λ m k. c m (inl k)) x)) (λ x. inr (done_over e (λ m k. c m (inl k)) x)) o.0,
        opened_over* es (λ m k. c m (inr k)) o.1,
      )

    pub opened_over : (e : Expr) → Avoids X e → Opened s e → Opened s' e
    opened_over e c (inl l) = inl (live_over e c l)
    opened_over e c (inr d) = inr (done_over e c d)
