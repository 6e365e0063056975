-- which step a node has depends on few entries: states that agree on those give it the same step
use Prim.Native.Nat.{ℕ, zero, suc}
use mathlib.Core.Bool.{Bool, true, false, ◌&&◌}
use mathlib.Core.Path.{◌≡◌, refl, sym, ap, ◌∙◌}
use mathlib.Core.Logic.{inl, inr}
use mathlib.Core.List.{[], ◌∷◌}
use native.Mathlib.Decide.{ℕ_discrete}
use lib.Dec.{eqb}
use borrow.Author.Tests.{ne_eqb}
use Rattle.table.specs.Syntax.{Expr, Exprs, const, param, prim, call, self, cond, bind, bound, none, some, id, roots, Node, Node*}
use Rattle.table.specs.Environment.{values}
use Rattle.table.specs.Pick.{pick}
use Rattle.table.proofs.SyntaxLaws.{node_id}
use Rattle.rules.specs.Arithmetic.{Arithmetic, keep_all}
use Rattle.rules.specs.State.{View}
use Rattle.rules.specs.Step.{Act, stuck, blocked, does, begins, turns, finishes, enters, leaves, restarts, done, all_done}
use Rattle.rules.specs.Step.{branch, by_status, act}
use Rattle.rules.proofs.Shape.{Busy}
use Rattle.rules.proofs.Frame.{Same}

-- a choice by status and by phase, in each phase of a busy node
by_phase : (t : ℕ) (w : Bool) (o x x' y y' : Act) → (t ≡ 2 → w ≡ true → x ≡ x') → (t ≡ 2 → w ≡ false → y ≡ y')
    → by_status t o (pick w x y) ≡ by_status t o (pick w x' y')
by_phase t w o x x' y y' f g = go (ℕ_discrete t 2) w refl
  where
    idle : (z : t ≡ 2 → ⊥) (b : Act) → by_status t o b ≡ pick (eqb t 1) o stuck
    idle z b = ap (λ c. pick (eqb t 1) o (pick c b stuck)) (ne_eqb t 2 z)

    go : Dec (t ≡ 2) → (v : Bool) → w ≡ v → by_status t o (pick v x y) ≡ by_status t o (pick v x' y')
    go (yes e) true q = ap (λ b. by_status t o b) (f e q)
    go (yes e) false q = ap (λ b. by_status t o b) (g e q)
    go (no z) v q = idle z (pick v x y) ∙ sym (idle z (pick v x' y'))

module _ (s s' : View) where
  -- status and value
  abbrev pub Seen : ℕ → Type 0
  Seen m = (s'.status m ≡ s.status m) × (s'.value m ≡ s.value m)

  abbrev pub Seen* : Exprs → Type 0
  Seen* none = Unit {0}
  Seen* (some e es) = Seen (id e) × Seen* es

  done_same : (n : ℕ) → Seen n → done s' n ≡ done s n
  done_same n x = ap (λ t. eqb t 3) x.0

  all_same : (es : Exprs) → Seen* es → all_done s' es ≡ all_done s es
  all_same none x = refl
  all_same (some e es) x =
      let p = done_same (id e) x.0 in
      let q = all_same es x.1 in
      (λ i. p i && q i)

  values_same : (es : Exprs) → Seen* es → values s'.value es ≡ values s.value es
  values_same none x = refl
  values_same (some e es) x =
      let q = values_same es x.1 in
      (λ i. x.0.1 i ∷ q i)

  -- where a whole expression is as it was
  heads : (es : Exprs) → ((m : ℕ) → Node* m es → Same s s' m) → Seen* es
  heads none f = tt
  heads (some e es) f = let k = f (id e) (inl (node_id e)) in ((k.0, k.2), heads es (λ m k. f m (inr k)))

  head : (e : Expr) → ((m : ℕ) → Node m e → Same s s' m) → Seen (id e)
  head e f = let k = f (id e) (node_id e) in (k.0, k.2)

module _ (body : ℕ → Expr) (h : ℕ) (s s' : View) where
  -- outside of its own expression: a register, a definiens, the callee's root in the second phase, the occupant in the first
  abbrev pub Beside : Expr → Type 0
  Beside (const n v) = Unit {0}
  Beside (param n i) = s'.register h i ≡ s.register h i
  Beside (bound n d) = s'.value d ≡ s.value d
  Beside (prim n op es) = Unit {0}
  Beside (call n g es) = (Busy s n true → Seen s s' (id (body g))) × (Busy s n false → s'.occupant g ≡ s.occupant g)
  Beside (self n es) = Unit {0}
  Beside (cond n a b c) = Unit {0}
  Beside (bind n ds b) = Unit {0}

  -- all that it reads: its own status and phase, its children's status and value, and those
  abbrev pub SameRead : Expr → Type 0
  SameRead (const n v) = s'.status n ≡ s.status n
  SameRead (param n i) = (s'.status n ≡ s.status n) × Beside (param n i)
  SameRead (bound n d) = (s'.status n ≡ s.status n) × Beside (bound n d)
  SameRead (prim n op es) = (s'.status n ≡ s.status n) × Seen* s s' es
  SameRead (call n g es) = (s'.status n ≡ s.status n) × (s'.second n ≡ s.second n) × Seen* s s' es × Beside (call n g es)
  SameRead (self n es) = (s'.status n ≡ s.status n) × Seen* s s' es
  SameRead (cond n a b c) =
      (s'.status n ≡ s.status n) × (s'.second n ≡ s.second n) × Seen s s' (id a) × Seen s s' (id b) × Seen s s' (id c)
  SameRead (bind n ds b) = (s'.status n ≡ s.status n) × (s'.second n ≡ s.second n) × Seen* s s' ds × Seen s s' (id b)

  pub read_own : (u : Expr) → ((m : ℕ) → Node m u → Same s s' m) → Beside u → SameRead u
  read_own (const n v) f b = (f n refl).0
  read_own (param n i) f b = ((f n refl).0, b)
  read_own (bound n d) f b = ((f n refl).0, b)
  read_own (prim n op es) f b = ((f n (inl refl)).0, heads s s' es (λ m k. f m (inr k)))
  read_own (call n g es) f b = ((f n (inl refl)).0, (f n (inl refl)).1, heads s s' es (λ m k. f m (inr k)), b)
  read_own (self n es) f b = ((f n (inl refl)).0, heads s s' es (λ m k. f m (inr k)))
  read_own (cond n x y z) f b = (
    (f n (inl refl)).0,
    (f n (inl refl)).1,
    head s s' x (λ m k. f m (inr (inl k))),
    head s s' y (λ m k. f m (inr (inr (inl k)))),
    head s s' z (λ m k. f m (inr (inr (inr k)))),
  )
  read_own (bind n ds e) f b =
      ((f n (inl refl)).0, (f n (inl refl)).1, heads s s' ds (λ m k. f m (inr (inl k))), head s s' e (λ m k. f m (inr (inr k))))

module _ (units : Arithmetic) (body : ℕ → Expr) (h : ℕ) (s s' : View) where
  pub act_same : (u : Expr) → SameRead body h s s' u → act units body h s' u ≡ act units body h s u
  act_same (const n v) x = (λ i. by_status (x i) (does (finishes v)) stuck)
  act_same (param n k) x = (λ i. by_status (x.0 i) (does (finishes (x.1 i))) stuck)
  act_same (bound n d) x = (λ i. by_status (x.0 i) (does (finishes (x.1 i))) stuck)
  act_same (prim n op es) x =
      let y = all_same s s' es x.1 in
      let z = values_same s s' es x.1 in
      (λ i. by_status (x.0 i) (does (begins (roots es))) (pick (y i) (does (finishes (units.result h op (z i)))) stuck))
  act_same (self n es) x =
      let y = all_same s s' es x.1 in
      let z = values_same s s' es x.1 in
      (λ i. by_status (x.0 i) (does (begins (roots es))) (pick (y i) (does (restarts h (keep_all units h (z i)))) stuck))
  act_same (call n g es) x =
      (λ i. by_status (x.0 i) (does (begins (roots es))) (pick (x.1 i) (leaving s') (entering s')))
      ∙ by_phase (s.status n) (s.second n) (does (begins (roots es))) (leaving s') (leaving s) (entering s') (entering s)
      (λ t w. let r = x.3.0 (t, w) in
      let d = done_same s s' (id (body g)) r in
      (λ i. pick (d i) (does (leaves g (units.keep h (r.1 i)))) stuck))
      (λ t w. let o = x.3.1 (t, w) in
      (λ i. pick (y i) (pick (eqb (o i) 0) (does (enters g (keep_all units g (z i)))) blocked) stuck))
    where
      leaving : View → Act
      leaving s = pick (done s (id (body g))) (does (leaves g (units.keep h (s.value (id (body g)))))) stuck

      entering : View → Act
      entering s = pick (all_done s es)
          (pick (eqb (s.occupant g) 0) (does (enters g (keep_all units g (values s.value es)))) blocked) stuck

      y : all_done s' es ≡ all_done s es
      y = all_same s s' es x.2

      z : values s'.value es ≡ values s.value es
      z = values_same s s' es x.2
  act_same (cond n a b c) x = one (s'.value (id a)) ∙ ap (step s) x.2.1
    where
      step : View → ℕ → Act
      step s v = by_status (s.status n) (does (begins (id a ∷ []))) (pick (s.second n)
          (pick (done s (id (branch v b c))) (does (finishes (s.value (id (branch v b c))))) stuck)
          (pick (done s (id a)) (does (turns (id (branch v b c)))) stuck))

      chosen : (v : ℕ) → Seen s s' (id (branch v b c))
      chosen zero = x.4
      chosen (suc v) = x.3

      one : (v : ℕ) → step s' v ≡ step s v
      one v =
          let d = done_same s s' (id (branch v b c)) (chosen v) in
          let w = (chosen v).1 in
          let y = done_same s s' (id a) x.2 in
          (λ i. by_status (x.0 i) (does (begins (id a ∷ []))) (pick (x.1 i) (pick (d i) (does (finishes (w i))) stuck)
          (pick (y i) (does (turns (id (branch v b c)))) stuck)))
  act_same (bind n ds b) x =
      let y = all_same s s' ds x.2 in
      let d = done_same s s' (id b) x.3 in
      (λ i. by_status (x.0 i) (does (begins (roots ds))) (pick (x.1 i) (pick (d i) (does (finishes (x.3.1 i))) stuck)
      (pick (y i) (does (turns (id b))) stuck)))
