-- the steps that stay inside one body
use Prim.Native.Nat.{ℕ}
use mathlib.Core.Bool.{true, false, true≢false}
use mathlib.Core.Path.{◌≡◌, refl, sym, ◌∙◌}
use mathlib.Core.Logic.{◌⊎◌, inl, inr, ⊎_elim}
use mathlib.Core.List.{List}
use native.Mathlib.Omega.{arith}
use Rattle.table.specs.Syntax.{Expr, Exprs, const, param, prim, call, self, cond, bind, bound, none, some, id, Every, Every*}
use Rattle.rules.specs.State.{View}
use Rattle.rules.proofs.Shape.{Still, Idle, Open, Busy, Done, Done*, Live, Opened*, Opened}
use Rattle.rules.specs.Reading.{Chosen}
use Rattle.rules.proofs.Branches.{chosen_case, chosen_map, chosen_both}
use Rattle.rules.proofs.Frame.{Same}
use Rattle.table.specs.Environment.{values}

-- every node below e passes
abbrev pub Under : (ℕ → Type 0) → Expr → Type 0
Under P (const n v) = Unit {0}
Under P (param n i) = Unit {0}
Under P (prim n op es) = Every* P es
Under P (call n g es) = Every* P es
Under P (self n es) = Every* P es
Under P (cond n a b c) = Every P a × Every P b × Every P c
Under P (bind n ds b) = Every* P ds × Every P b
Under P (bound n d) = Unit {0}

-- all their roots are done
abbrev pub Finished* : View → Exprs → Type 0
Finished* s none = Unit {0}
Finished* s (some e es) = (s.status (id e) ≡ 3) × Finished* s es

module _ (s s' : View) where
  abbrev pub Becomes : ℕ → ℕ → Type 0
  Becomes n v = (s'.status n ≡ 3) × (s'.second n ≡ false) × (s'.value n ≡ v)

  abbrev pub Opens : Expr → Type 0
  Opens e = ((s'.status (id e) ≡ 1) × (s'.second (id e) ≡ s.second (id e))) × Under (Same s s') e

  abbrev pub Opens* : Exprs → Type 0
  Opens* none = Unit {0}
  Opens* (some e es) = Opens e × Opens* es

  abbrev pub Keeps : Expr → Type 0
  Keeps e = Every (Same s s') e

  abbrev pub Keeps* : Exprs → Type 0
  Keeps* es = Every* (Same s s') es

module _ (apply : ℕ → List ℕ → ℕ) (args : ℕ → ℕ) (s s' : View) where
  abbrev pub Inner : Expr → Type 0
  Inner (const n v) = Open s n × Becomes s s' n v
  Inner (param n i) = Open s n × Becomes s s' n (args i)
  Inner (prim n op es) =
      (Open s n × Busy s' n false × Opens* s s' es)
      ⊎ ((s.status n ≡ 2) × Finished* s es × Becomes s s' n (apply op (values s.value es)) × Keeps* s s' es)
  Inner (call n g es) = Open s n × Busy s' n false × Opens* s s' es
  Inner (self n es) = Open s n × Busy s' n false × Opens* s s' es
  Inner (cond n a b c) =
      (Open s n × Busy s' n false × Opens s s' a × Keeps s s' b × Keeps s s' c)
      ⊎ (Busy s n false × (s.status (id a) ≡ 3) × Busy s' n true × Keeps s s' a
      × Chosen (Opens s s' b × Keeps s s' c) (Opens s s' c × Keeps s s' b) (s.value (id a)))
      ⊎ (Busy s n true × Chosen ((s.status (id b) ≡ 3) × Becomes s s' n (s.value (id b))) ((s.status (id c) ≡ 3)
      × Becomes s s' n (s.value (id c))) (s.value (id a)) × Keeps s s' a × Keeps s s' b × Keeps s s' c)
  Inner (bind n ds b) =
      (Open s n × Busy s' n false × Opens* s s' ds × Keeps s s' b)
      ⊎ (Busy s n false × Finished* s ds × Busy s' n true × Keeps* s s' ds × Opens s s' b)
      ⊎ (Busy s n true × (s.status (id b) ≡ 3) × Becomes s s' n (s.value (id b)) × Keeps* s s' ds × Keeps s s' b)
  Inner (bound n d) = Open s n × Becomes s s' n (s.value d)

-- carrying over a whole expression, node by node
module _ (P Q R : ℕ → Type 0) (f : (n : ℕ) → P n → Q n → R n) where
  mutual
    pub both : (e : Expr) → Every P e → Every Q e → Every R e
    both (const n v) p q = f n p q
    both (param n i) p q = f n p q
    both (prim n op es) p q = (f n p.0 q.0, both* es p.1 q.1)
    both (call n g es) p q = (f n p.0 q.0, both* es p.1 q.1)
    both (self n es) p q = (f n p.0 q.0, both* es p.1 q.1)
    both (cond n a b c) p q = (f n p.0 q.0, both a p.1 q.1, both b p.2 q.2, both c p.3 q.3)
    both (bind n ds b) p q = (f n p.0 q.0, both* ds p.1 q.1, both b p.2 q.2)
    both (bound n d) p q = f n p q

    pub both* : (es : Exprs) → Every* P es → Every* Q es → Every* R es
    both* none p q = tt
    both* (some e es) p q = (both e p.0 q.0, both* es p.1 q.1)

module _ (s s' : View) where
  pub still_same : (n : ℕ) → Same s s' n → Still s n → Still s' n
  still_same n k h = (⊎_elim (λ e. inl (k.0 ∙ e)) (λ e. inr (k.0 ∙ e)) h.0, k.1 ∙ h.1)

  idle_same : (n : ℕ) → Same s s' n → Idle s n → Idle s' n
  idle_same n k h = (k.0 ∙ h.0, k.1 ∙ h.1)

  pub idle_kept : (e : Expr) → Every (Same s s') e → Every (Idle s) e → Every (Idle s') e
  idle_kept = both (Same s s') (Idle s) (Idle s') idle_same

  pub idle_kept* : (es : Exprs) → Every* (Same s s') es → Every* (Idle s) es → Every* (Idle s') es
  idle_kept* = both* (Same s s') (Idle s) (Idle s') idle_same

  pub still_kept : (e : Expr) → Every (Same s s') e → Every (Still s) e → Every (Still s') e
  still_kept = both (Same s s') (Still s) (Still s') still_same

  pub every_id : (P : ℕ → Type 0) (e : Expr) → Every P e → P (id e)
  every_id P (const n v) h = h
  every_id P (param n i) h = h
  every_id P (prim n op es) h = h.0
  every_id P (call n g es) h = h.0
  every_id P (self n es) h = h.0
  every_id P (cond n a b c) h = h.0
  every_id P (bind n ds b) h = h.0
  every_id P (bound n d) h = h

  pub done_kept : (e : Expr) → Every (Same s s') e → Done s e → Done s' e
  done_kept e k d = ((every_id (Same s s') e k).0 ∙ d.0, still_kept e k d.1)

  pub done_kept* : (es : Exprs) → Every* (Same s s') es → Done* s es → Done* s' es
  done_kept* none k d = tt
  done_kept* (some e es) k d = (done_kept e k.0 d.0, done_kept* es k.1 d.1)

-- what is opened and has status 3 is done
module _ (s : View) where
  pub live_status : (e : Expr) → Live s e → s.status (id e) ≡ 3 → ⊥
  live_status (const n v) l h = omega arith
  live_status (param n i) l h = omega arith
  live_status (prim n op es) (inl l) h = omega arith
  live_status (prim n op es) (inr l) h = omega arith
  live_status (call n g es) (inl l) h = omega arith
  live_status (call n g es) (inr (inl l)) h = omega arith
  live_status (call n g es) (inr (inr l)) h = omega arith
  live_status (self n es) (inl l) h = omega arith
  live_status (self n es) (inr l) h = omega arith
  live_status (cond n a b c) (inl l) h = omega arith
  live_status (cond n a b c) (inr (inl l)) h = omega arith
  live_status (cond n a b c) (inr (inr l)) h = omega arith
  live_status (bind n ds b) (inl l) h = omega arith
  live_status (bind n ds b) (inr (inl l)) h = omega arith
  live_status (bind n ds b) (inr (inr l)) h = omega arith
  live_status (bound n d) l h = omega arith

  pub finished : (e : Expr) → Opened s e → s.status (id e) ≡ 3 → Done s e
  finished e (inl l) h = absurd (live_status e l h)
  finished e (inr d) h = d

  pub finished* : (es : Exprs) → Opened* s es → Finished* s es → Done* s es
  finished* none o h = tt
  finished* (some e es) o h = (finished e o.0 h.0, finished* es o.1 h.1)

  pub done*_still : (es : Exprs) → Done* s es → Every* (Still s) es
  done*_still none d = tt
  done*_still (some e es) d = (d.0.1, done*_still es d.1)

  idle_still_node : (n : ℕ) → Idle s n → Idle s n → Still s n
  idle_still_node n h k = (inl h.0, h.1)

  pub idle_still : (e : Expr) → Every (Idle s) e → Every (Still s) e
  idle_still e h = both (Idle s) (Idle s) (Still s) idle_still_node e h h

  pub idle_still* : (es : Exprs) → Every* (Idle s) es → Every* (Still s) es
  idle_still* es h = both* (Idle s) (Idle s) (Still s) idle_still_node es h h

-- the shape after a step inside a body
module _ (s s' : View) where
  pub opens_live : (e : Expr) → Every (Idle s) e → Opens s s' e → Live s' e
  opens_live (const n v) i o = (o.0.0, o.0.1 ∙ i.1)
  opens_live (param n j) i o = (o.0.0, o.0.1 ∙ i.1)
  opens_live (prim n op es) i o = inl ((o.0.0, o.0.1 ∙ i.0.1), idle_kept* s s' es o.1 i.1)
  opens_live (call n g es) i o = inl ((o.0.0, o.0.1 ∙ i.0.1), idle_kept* s s' es o.1 i.1)
  opens_live (self n es) i o = inl ((o.0.0, o.0.1 ∙ i.0.1), idle_kept* s s' es o.1 i.1)
  opens_live (cond n a b c) i o =
      inl (
        (o.0.0, o.0.1 ∙ i.0.1),
        idle_kept s s' a o.1.0 i.1,
        idle_kept s s' b o.1.1 i.2,
        idle_kept s s' c o.1.2 i.3,
      )
  opens_live (bind n ds b) i o = inl ((o.0.0, o.0.1 ∙ i.0.1), idle_kept* s s' ds o.1.0 i.1, idle_kept s s' b o.1.1 i.2)
  opens_live (bound n d) i o = (o.0.0, o.0.1 ∙ i.1)

  pub opens_live* : (es : Exprs) → Every* (Idle s) es → Opens* s s' es → Opened* s' es
  opens_live* none i o = tt
  opens_live* (some e es) i o = (inl (opens_live e i.0 o.0), opens_live* es i.1 o.1)

  becomes_still : (n v : ℕ) → Becomes s s' n v → Still s' n
  becomes_still n v h = (inr h.0, h.1)

  module _ (apply : ℕ → List ℕ → ℕ) (args : ℕ → ℕ) where
    pub inner_live : (u : Expr) → Inner apply args s s' u → Live s u → Opened s' u
    inner_live (const n v) r l = inr (r.1.0, becomes_still n v r.1)
    inner_live (param n i) r l = inr (r.1.0, becomes_still n (args i) r.1)
    inner_live (prim n op es) (inl r) (inl l) = inl (inr (r.1, opens_live* es l.1 r.2))
    inner_live (prim n op es) (inl r) (inr l) = absurd (omega arith)
    inner_live (prim n op es) (inr r) (inl l) = absurd (omega arith)
    inner_live (prim n op es) (inr r) (inr l) =
        inr (r.2.0, (becomes_still n _ r.2, done*_still s' es (done_kept* s s' es r.3 (finished* s es l.1 r.1))))
    inner_live (call n g es) r (inl l) = inl (inr (inl (r.1, opens_live* es l.1 r.2)))
    inner_live (call n g es) r (inr (inl l)) = absurd (omega arith)
    inner_live (call n g es) r (inr (inr l)) = absurd (omega arith)
    inner_live (self n es) r (inl l) = inl (inr (r.1, opens_live* es l.1 r.2))
    inner_live (self n es) r (inr l) = absurd (omega arith)
    inner_live (cond n a b c) (inl r) (inl l) =
        inl (inr (inl (r.1, inl (opens_live a l.1 r.2), idle_kept s s' b r.3 l.2, idle_kept s s' c r.4 l.3)))
    inner_live (cond n a b c) (inl r) (inr (inl l)) = absurd (omega arith)
    inner_live (cond n a b c) (inl r) (inr (inr l)) = absurd (omega arith)
    inner_live (cond n a b c) (inr (inl r)) (inl l) = absurd (omega arith)
    inner_live (cond n a b c) (inr (inl r)) (inr (inl l)) =
        inl (inr (inr (
          r.2,
          done_kept s s' a r.3 (finished s a l.1 r.1),
          chosen_map (λ t. (inl (opens_live b l.2 t.0), idle_kept s s' c t.1 l.3))
              (λ t. (inl (opens_live c l.3 t.0), idle_kept s s' b t.1 l.2))
              (s.value (id a)) (s'.value (id a)) (sym (every_id s s' (Same s s') a r.3).2) r.4,
        )))
    inner_live (cond n a b c) (inr (inl r)) (inr (inr l)) = absurd (true≢false (sym l.0.1 ∙ r.0.1))
    inner_live (cond n a b c) (inr (inr r)) (inl l) = absurd (omega arith)
    inner_live (cond n a b c) (inr (inr r)) (inr (inl l)) = absurd (true≢false (sym r.0.1 ∙ l.0.1))
    inner_live (cond n a b c) (inr (inr r)) (inr (inr l)) =
        inr (chosen_case (λ d. d) (λ d. d) (s.value (id a)) (chosen_both
        (λ t o. kept _ t.1 (finished s b o.0 t.0).1 (idle_still s c o.1))
        (λ t o. kept _ t.1 (idle_still s b o.1) (finished s c o.0 t.0).1)
        (s.value (id a)) (s.value (id a)) refl r.1 l.2))
      where
        kept : (v : ℕ) → Becomes s s' n v → Every (Still s) b → Every (Still s) c → Done s' (cond n a b c)
        kept v h p q = (
          h.0,
          (
            becomes_still n v h,
            still_kept s s' a r.2 l.1.1,
            still_kept s s' b r.3 p,
            still_kept s s' c r.4 q,
          ),
        )
    inner_live (bind n ds b) (inl r) (inl l) = inl (inr (inl (r.1, opens_live* ds l.1 r.2, idle_kept s s' b r.3 l.2)))
    inner_live (bind n ds b) (inl r) (inr (inl l)) = absurd (omega arith)
    inner_live (bind n ds b) (inl r) (inr (inr l)) = absurd (omega arith)
    inner_live (bind n ds b) (inr (inl r)) (inl l) = absurd (omega arith)
    inner_live (bind n ds b) (inr (inl r)) (inr (inl l)) =
        inl (inr (inr (r.2, done_kept* s s' ds r.3 (finished* s ds l.1 r.1), inl (opens_live b l.2 r.4))))
    inner_live (bind n ds b) (inr (inl r)) (inr (inr l)) = absurd (true≢false (sym l.0.1 ∙ r.0.1))
    inner_live (bind n ds b) (inr (inr r)) (inl l) = absurd (omega arith)
    inner_live (bind n ds b) (inr (inr r)) (inr (inl l)) = absurd (true≢false (sym r.0.1 ∙ l.0.1))
    inner_live (bind n ds b) (inr (inr r)) (inr (inr l)) =
        inr (
          r.2.0,
          (
            becomes_still n _ r.2,
            done*_still s' ds (done_kept* s s' ds r.3 l.1),
            still_kept s s' b r.4 (finished s b l.2 r.1).1,
          ),
        )
    inner_live (bound n d) r l = inr (r.1.0, becomes_still n _ r.1)
