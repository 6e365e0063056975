-- what holds of every call in the bodies holds of every member of C, PC and A
use Rattle.std.proofs.Common.{◌≡◌, ℕ, zero, suc, ◌≤◌, refl, inl, inr, arith}
use native.Mathlib.Decide.{ℕ_discrete}
use Rattle.table.specs.Syntax.{Expr, Exprs, const, param, prim, call, self, cond, bind, bound, none, some}
use Rattle.list.specs.Sets.{Calls, ∅, ◌∪◌}
use Rattle.list.specs.Conflict.{C, C*, PC, A, A*}
use Rattle.table.specs.Well.{CallIn, CallIn*}
use Rattle.table.specs.Pick.{mixed, Range}
use Rattle.table.specs.Reach.{Reached, called}
use Rattle.list.specs.CallSets.{callee_at, sets, Listed}

module _ (Q : ℕ → Type 0) where
  -- every call in e
  abbrev pub Calling : Expr → Type 0
  Calling e = (c g : ℕ) → CallIn c g e → Q c

  abbrev pub Calling* : Exprs → Type 0
  Calling* es = (c g : ℕ) → CallIn* c g es → Q c

  module _ (callee : ℕ → ℕ) (B : ℕ → Calls) where
    -- and every member of the sets of their callees
    abbrev pub Throughout : Expr → Type 0
    Throughout e = (c g : ℕ) → CallIn c g e → Q c × ((m : ℕ) → B g m → Q m)

    abbrev pub Throughout* : Exprs → Type 0
    Throughout* es = (c g : ℕ) → CallIn* c g es → Q c × ((m : ℕ) → B g m → Q m)

    mutual
      pub c_all : (e : Expr) → Throughout e → (m : ℕ) → C callee B e m → Q m
      c_all (const n v) r m h = absurd h
      c_all (param n i) r m h = absurd h
      c_all (prim n op es) r m h = c_all* es r m h
      c_all (call n g es) r m (inl h) = c_all* es (λ c f i. r c f (inr i)) m h
      c_all (call n g es) r m (inr (inl h)) = (r m g (inl (h, refl))).0
      c_all (call n g es) r m (inr (inr h)) = (r n g (inl (refl, refl))).1 m h
      c_all (self n es) r m h = c_all* es r m h
      c_all (cond n a b d) r m (inl h) = c_all a (λ c f i. r c f (inl i)) m h
      c_all (cond n a b d) r m (inr (inl h)) = c_all b (λ c f i. r c f (inr (inl i))) m h
      c_all (cond n a b d) r m (inr (inr h)) = c_all d (λ c f i. r c f (inr (inr i))) m h
      c_all (bind n ds b) r m (inl h) = c_all* ds (λ c f i. r c f (inl i)) m h
      c_all (bind n ds b) r m (inr h) = c_all b (λ c f i. r c f (inr i)) m h
      c_all (bound n d) r m h = absurd h

      pub c_all* : (es : Exprs) → Throughout* es → (m : ℕ) → C* callee B es m → Q m
      c_all* none r m h = absurd h
      c_all* (some e es) r m (inl h) = c_all e (λ c f i. r c f (inl i)) m h
      c_all* (some e es) r m (inr h) = c_all* es (λ c f i. r c f (inr i)) m h

    pc_all : (t : Calls) (es : Exprs) → Throughout* es → (m : ℕ) → PC callee B t es m → Q m
    pc_all t none r m h = absurd h
    pc_all t (some e es) r m (inl h) = c_all e (λ c f i. r c f (inl i)) m h.0
    pc_all t (some e es) r m (inr h) = pc_all (t ∪ C callee B e) es (λ c f i. r c f (inr i)) m h

    mutual
      pub a_all : (e : Expr) → Throughout e → (m : ℕ) → A callee B e m → Q m
      a_all (const n v) r m h = absurd h
      a_all (param n i) r m h = absurd h
      a_all (prim n op es) r m (inl h) = pc_all ∅ es r m h
      a_all (prim n op es) r m (inr h) = a_all* es r m h
      a_all (call n g es) r m (inl h) = pc_all ∅ es (λ c f i. r c f (inr i)) m h
      a_all (call n g es) r m (inr h) = a_all* es (λ c f i. r c f (inr i)) m h
      a_all (self n es) r m (inl h) = pc_all ∅ es r m h
      a_all (self n es) r m (inr h) = a_all* es r m h
      a_all (cond n a b d) r m (inl h) = a_all a (λ c f i. r c f (inl i)) m h
      a_all (cond n a b d) r m (inr (inl h)) = a_all b (λ c f i. r c f (inr (inl i))) m h
      a_all (cond n a b d) r m (inr (inr h)) = a_all d (λ c f i. r c f (inr (inr i))) m h
      a_all (bind n ds b) r m (inl (inl h)) = pc_all ∅ ds (λ c f i. r c f (inl i)) m h
      a_all (bind n ds b) r m (inl (inr h)) = a_all* ds (λ c f i. r c f (inl i)) m h
      a_all (bind n ds b) r m (inr h) = a_all b (λ c f i. r c f (inr i)) m h
      a_all (bound n d) r m h = absurd h

      pub a_all* : (es : Exprs) → Throughout* es → (m : ℕ) → A* callee B es m → Q m
      a_all* none r m h = absurd h
      a_all* (some e es) r m (inl h) = a_all e (λ c f i. r c f (inl i)) m h
      a_all* (some e es) r m (inr h) = a_all* es (λ c f i. r c f (inr i)) m h

  -- of functions that P holds of, and of those that they call: the sets of the bodies 1 to t
  module _ (F : ℕ) (body at : ℕ → Expr) (P : ℕ → Type 0)
      (calls : (f : ℕ) → Range F f → P f → (c g : ℕ) → CallIn c g (body f) → Q c × P g) where
    pub sets_over : (t : ℕ) → t ≤ F → (g : ℕ) → P g → (m : ℕ) → sets body at t g m → Q m
    sets_over zero l g p m h = absurd h
    sets_over (suc t) l g p m h = go (ℕ_discrete g (suc t)) (sets_over t (omega arith)) h
      where
        go : (d : Dec (g ≡ suc t)) → ((g : ℕ) → P g → (m : ℕ) → sets body at t g m → Q m)
            → mixed d (C (callee_at at) (sets body at t) (body g) m) (sets body at t g m) → Q m
        go (yes e) before x =
            c_all (callee_at at) (sets body at t) (body g)
            (λ c k i. let o = calls g (omega arith, omega arith) p c k i in (o.0, before k o.1)) m x
        go (no e) before x = before g p m x

  -- of all functions
  pub sets_all : (F : ℕ) (body at : ℕ → Expr) → ((f : ℕ) → Range F f → Calling (body f)) → (t : ℕ) → t ≤ F → (g m : ℕ)
      → sets body at t g m → Q m
  sets_all F body at calls t l g = sets_over F body at (λ f. Unit {0}) (λ f r p c k i. (calls f r c k i, tt)) t l g tt

  -- of those that main reaches, which the list is made of
  module _ (F : ℕ) (body at : ℕ → Expr) (calls : (f : ℕ) → Reached F body f → Calling (body f)) where
    pub sets_reached : (t : ℕ) → t ≤ F → (g : ℕ) → Reached F body g → (m : ℕ) → sets body at t g m → Q m
    sets_reached = sets_over F body at (Reached F body) (λ f r p c g i. (calls f p c g i, called f c g p i))

    pub listed_all : (m : ℕ) → Listed body at F m → Q m
    listed_all m h = a_all (callee_at at) (sets body at F) (body h.0)
        (λ c g i. (calls h.0 h.1 c g i, sets_reached F (omega arith) g (called h.0 c g h.1 i))) m h.2
