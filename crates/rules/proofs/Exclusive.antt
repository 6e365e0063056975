-- two calls of one function that are under way at once are both listed
use Prim.Native.Nat.{ℕ, zero, suc}
use mathlib.Core.Path.{◌≡◌, sym, ◌∙◌}
use mathlib.Core.Logic.{◌⊎◌, inl, inr, ⊎_elim}
use native.Mathlib.Omega.{arith}
use Rattle.table.specs.Syntax.{Expr, Exprs, const, param, prim, call, self, cond, bind, bound, none, some, id, Every, Every*}
use Rattle.list.specs.Sets.{Calls, ∅, only, ◌∪◌}
use Rattle.list.specs.Conflict.{C, C*, PC, A, A*}
use Rattle.rules.specs.State.{View}
use Rattle.rules.proofs.Shape.{Still, Idle, Done, Done*, Opened*, Opened, busy_moves}
use Rattle.rules.specs.Reading.{Chosen}

module _ (s : View) (callee : ℕ → ℕ) (B : ℕ → Calls) where
  -- the call u of e is under way with its arguments done, and α is that call or one of the body that it calls
  abbrev mutual
    pub Way : ℕ → ℕ → Expr → Type 0
    Way u α (const n v) = ⊥
    Way u α (param n i) = ⊥
    Way u α (prim n op es) = Way* u α es
    Way u α (call n g es) = ((n ≡ u) × (s.status n ≡ 2) × Done* s es × (only n ∪ B g) α) ⊎ Way* u α es
    Way u α (self n es) = Way* u α es
    Way u α (cond n a b c) = Way u α a ⊎ Way u α b ⊎ Way u α c
    Way u α (bind n ds b) = Way* u α ds ⊎ Way u α b
    Way u α (bound n d) = ⊥

    pub Way* : ℕ → ℕ → Exprs → Type 0
    Way* u α none = ⊥
    Way* u α (some e es) = Way u α e ⊎ Way* u α es

  -- such a call's α is in C
  mutual
    pub way_c : (u α : ℕ) (e : Expr) → Way u α e → C callee B e α
    way_c u α (const n v) w = absurd w
    way_c u α (param n i) w = absurd w
    way_c u α (prim n op es) w = way_c* u α es w
    way_c u α (call n g es) (inl w) = inr w.3
    way_c u α (call n g es) (inr w) = inl (way_c* u α es w)
    way_c u α (self n es) w = way_c* u α es w
    way_c u α (cond n a b c) (inl w) = inl (way_c u α a w)
    way_c u α (cond n a b c) (inr (inl w)) = inr (inl (way_c u α b w))
    way_c u α (cond n a b c) (inr (inr w)) = inr (inr (way_c u α c w))
    way_c u α (bind n ds b) (inl w) = inl (way_c* u α ds w)
    way_c u α (bind n ds b) (inr w) = inr (way_c u α b w)
    way_c u α (bound n d) w = absurd w

    pub way_c* : (u α : ℕ) (es : Exprs) → Way* u α es → C* callee B es α
    way_c* u α none w = absurd w
    way_c* u α (some e es) (inl w) = inl (way_c u α e w)
    way_c* u α (some e es) (inr w) = inr (way_c* u α es w)

  -- there is none where nothing is busy
  module _ (P : ℕ → Type 0) (rest : (n : ℕ) → P n → s.status n ≡ 2 → ⊥) where
    mutual
      still_way : (u α : ℕ) (e : Expr) → Every P e → Way u α e → ⊥
      still_way u α (const n v) q w = w
      still_way u α (param n i) q w = w
      still_way u α (prim n op es) q w = still_way* u α es q.1 w
      still_way u α (call n g es) q (inl w) = rest n q.0 w.1
      still_way u α (call n g es) q (inr w) = still_way* u α es q.1 w
      still_way u α (self n es) q w = still_way* u α es q.1 w
      still_way u α (cond n a b c) q (inl w) = still_way u α a q.1 w
      still_way u α (cond n a b c) q (inr (inl w)) = still_way u α b q.2 w
      still_way u α (cond n a b c) q (inr (inr w)) = still_way u α c q.3 w
      still_way u α (bind n ds b) q (inl w) = still_way* u α ds q.1 w
      still_way u α (bind n ds b) q (inr w) = still_way u α b q.2 w
      still_way u α (bound n d) q w = w

      still_way* : (u α : ℕ) (es : Exprs) → Every* P es → Way* u α es → ⊥
      still_way* u α none q w = w
      still_way* u α (some e es) q (inl w) = still_way u α e q.0 w
      still_way* u α (some e es) q (inr w) = still_way* u α es q.1 w

  still_rest : (n : ℕ) → Still s n → s.status n ≡ 2 → ⊥
  still_rest n h b = busy_moves s n b h

  idle_rest : (n : ℕ) → Idle s n → s.status n ≡ 2 → ⊥
  idle_rest n h b = omega arith

  done_way : (u α : ℕ) (e : Expr) → Done s e → Way u α e → ⊥
  done_way u α e d w = still_way (Still s) still_rest u α e d.1 w

  done*_way : (u α : ℕ) (es : Exprs) → Done* s es → Way* u α es → ⊥
  done*_way u α none d w = w
  done*_way u α (some e es) d (inl w) = done_way u α e d.0 w
  done*_way u α (some e es) d (inr w) = done*_way u α es d.1 w

  idle_way : (u α : ℕ) (e : Expr) → Every (Idle s) e → Way u α e → ⊥
  idle_way u α e d w = still_way (Idle s) idle_rest u α e d w

  idle*_way : (u α : ℕ) (es : Exprs) → Every* (Idle s) es → Way* u α es → ⊥
  idle*_way u α e d w = still_way* (Idle s) idle_rest u α e d w

  -- the two calls, u and u'
  module _ (u u' α β : ℕ) (apart : u ≡ u' → ⊥) (same : callee α ≡ callee β) where
    -- among parallel expressions, where one of them holds the one call
    left : (t : Calls) (e : Expr) (es : Exprs) → Way u α e → Way* u' β es → PC callee B t (some e es) α
    left t e es w w' = inl (way_c u α e w, (β, inr (way_c* u' β es w'), same))

    right : (t : Calls) (es : Exprs) → t β → Way* u α es → PC callee B t es α
    right t none h w = absurd w
    right t (some e es) h (inl w) = inl (way_c u α e w, (β, inl h, same))
    right t (some e es) h (inr w) = inr (right (t ∪ C callee B e) es (inl h) w)

    more : (t t' : Calls) (es : Exprs) → ((m : ℕ) → t m → t' m) → PC callee B t es α → PC callee B t' es α
    more t t' none f p = p
    more t t' (some e es) f (inl p) = inl (p.0, (p.1.0, ⊎_elim (λ h. inl (f _ h)) (λ h. inr h) p.1.1, p.1.2))
    more t t' (some e es) f (inr p) =
        inr (more (t ∪ C callee B e) (t' ∪ C callee B e) es (λ m h. ⊎_elim (λ k. inl (f m k)) (λ k. inr k) h) p)

    abbrev Meet : Expr → Type 0
    Meet e = Opened s e → Way u α e → Way u' β e → A callee B e α

    branches : (a b c : Expr) → Meet b → Meet c → (v : ℕ) → Chosen (Opened s b × Every (Idle s) c) (Opened s c × Every (Idle s) b) v
        → Way u α b ⊎ Way u α c → Way u' β b ⊎ Way u' β c → (A callee B a ∪ A callee B b ∪ A callee B c) α
    branches a b c mb mc zero t (inl w) w' = absurd (idle_way u α b t.1 w)
    branches a b c mb mc zero t (inr w) (inl w') = absurd (idle_way u' β b t.1 w')
    branches a b c mb mc zero t (inr w) (inr w') = inr (inr (mc t.0 w w'))
    branches a b c mb mc (suc v) t (inr w) w' = absurd (idle_way u α c t.1 w)
    branches a b c mb mc (suc v) t (inl w) (inr w') = absurd (idle_way u' β c t.1 w')
    branches a b c mb mc (suc v) t (inl w) (inl w') = inr (inl (mb t.0 w w'))

    mutual
      pub meet : (e : Expr) → Meet e
      meet (const n v) o w w' = absurd w
      meet (param n i) o w w' = absurd w
      meet (prim n op es) (inl (inl l)) w w' = absurd (idle*_way u α es l.1 w)
      meet (prim n op es) (inl (inr l)) w w' = meet* es l.1 w w'
      meet (prim n op es) (inr d) w w' = absurd (still_way* (Still s) still_rest u α es d.1.1 w)
      meet (call n g es) o (inl w) (inl w') = absurd (apart (sym w.0 ∙ w'.0))
      meet (call n g es) o (inl w) (inr w') = absurd (done*_way u' β es w.2 w')
      meet (call n g es) o (inr w) (inl w') = absurd (done*_way u α es w'.2 w)
      meet (call n g es) (inl (inl l)) (inr w) (inr w') = absurd (idle*_way u α es l.1 w)
      meet (call n g es) (inl (inr (inl l))) (inr w) (inr w') = meet* es l.1 w w'
      meet (call n g es) (inl (inr (inr l))) (inr w) (inr w') = absurd (done*_way u α es l.1 w)
      meet (call n g es) (inr d) (inr w) (inr w') = absurd (still_way* (Still s) still_rest u α es d.1.1 w)
      meet (self n es) (inl (inl l)) w w' = absurd (idle*_way u α es l.1 w)
      meet (self n es) (inl (inr l)) w w' = meet* es l.1 w w'
      meet (self n es) (inr d) w w' = absurd (still_way* (Still s) still_rest u α es d.1.1 w)
      meet (cond n a b c) (inl (inl l)) w w' =
          ⊎_elim (λ z. absurd (idle_way u α a l.1 z)) (λ z. ⊎_elim (λ y. absurd (idle_way u α b l.2 y))
          (λ y. absurd (idle_way u α c l.3 y)) z) w
      meet (cond n a b c) (inl (inr (inl l))) (inl w) (inl w') = inl (meet a l.1 w w')
      meet (cond n a b c) (inl (inr (inl l))) (inl w) (inr (inl w')) = absurd (idle_way u' β b l.2 w')
      meet (cond n a b c) (inl (inr (inl l))) (inl w) (inr (inr w')) = absurd (idle_way u' β c l.3 w')
      meet (cond n a b c) (inl (inr (inl l))) (inr (inl w)) w' = absurd (idle_way u α b l.2 w)
      meet (cond n a b c) (inl (inr (inl l))) (inr (inr w)) w' = absurd (idle_way u α c l.3 w)
      meet (cond n a b c) (inl (inr (inr l))) (inl w) w' = absurd (done_way u α a l.1 w)
      meet (cond n a b c) (inl (inr (inr l))) (inr w) (inl w') = absurd (done_way u' β a l.1 w')
      meet (cond n a b c) (inl (inr (inr l))) (inr w) (inr w') = branches a b c (meet b) (meet c) (s.value (id a)) l.2 w w'
      meet (cond n a b c) (inr d) w w' = absurd (done_way u α (cond n a b c) d w)
      meet (bind n ds b) (inl (inl l)) (inl w) w' = absurd (idle*_way u α ds l.1 w)
      meet (bind n ds b) (inl (inl l)) (inr w) w' = absurd (idle_way u α b l.2 w)
      meet (bind n ds b) (inl (inr (inl l))) (inl w) (inl w') = inl (meet* ds l.1 w w')
      meet (bind n ds b) (inl (inr (inl l))) (inl w) (inr w') = absurd (idle_way u' β b l.2 w')
      meet (bind n ds b) (inl (inr (inl l))) (inr w) w' = absurd (idle_way u α b l.2 w)
      meet (bind n ds b) (inl (inr (inr l))) (inl w) w' = absurd (done*_way u α ds l.1 w)
      meet (bind n ds b) (inl (inr (inr l))) (inr w) (inl w') = absurd (done*_way u' β ds l.1 w')
      meet (bind n ds b) (inl (inr (inr l))) (inr w) (inr w') = inr (meet b l.2 w w')
      meet (bind n ds b) (inr d) w w' = absurd (done_way u α (bind n ds b) d w)
      meet (bound n d) o w w' = absurd w

      pub meet* : (es : Exprs) → Opened* s es → Way* u α es → Way* u' β es → (PC callee B ∅ es ∪ A* callee B es) α
      meet* none o w w' = absurd w
      meet* (some e es) o (inl w) (inl w') = inr (inl (meet e o.0 w w'))
      meet* (some e es) o (inl w) (inr w') = inl (left ∅ e es w w')
      meet* (some e es) o (inr w) (inl w') = inl (inr (right (∅ ∪ C callee B e) es (inr (way_c u' β e w')) w))
      meet* (some e es) o (inr w) (inr w') =
          ⊎_elim (λ p. inl (inr (more ∅ (∅ ∪ C callee B e) es (λ m h. absurd h) p))) (λ p. inr (inr p)) (meet* es o.1 w w')
