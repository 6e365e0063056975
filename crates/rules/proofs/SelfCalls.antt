-- a self call whose arguments are done: it and the ifs and lets above it are all that is under way, and one step is left
use Prim.Native.Nat.{ℕ}
use mathlib.Core.Path.{◌≡◌, refl, subst, sym}
use mathlib.Core.Logic.{inl, inr, ⊎_elim}
use mathlib.Core.List.{List}
use native.Mathlib.Omega.{arith}
use Rattle.table.specs.Syntax.{Expr, Exprs, const, param, prim, call, self, cond, bind, bound, none, some, id, Sub, Sub*}
use Rattle.rules.specs.State.{View}
use Rattle.rules.proofs.Shape.{Still, Live, busy_moves}
use Rattle.rules.specs.Reading.{again, Readings}
use Rattle.rules.proofs.Branches.{chosen_case, chosen_map}
use Rattle.rules.proofs.Within.{idle_not, idle_not*, done_not, under_way, done_not*}
use Rattle.table.specs.Environment.{extend, values}
use Rattle.rules.proofs.Left.{Left}
use Rattle.rules.proofs.Counts.{over_left*}
use Rattle.rules.proofs.Moves.{Finished*, finished*}
use Rattle.table.specs.Well.{CallIn, NoSelf, NoSelf*, Tail}
use Rattle.table.proofs.CallPlaces.{find}

module _ (n : ℕ) (es : Exprs) where
  mutual
    no_self : (e : Expr) → NoSelf e → Sub (self n es) e → ⊥
    no_self (const m v) h p = let z : ◌≡◌ {A = ℕ} 0 1 = cc in omega arith
    no_self (param m i) h p = let z : ◌≡◌ {A = ℕ} 0 1 = cc in omega arith
    no_self (prim m op xs) h (inl p) = let z : ◌≡◌ {A = ℕ} 0 1 = cc in omega arith
    no_self (prim m op xs) h (inr p) = no_self* xs h p
    no_self (call m g xs) h (inl p) = let z : ◌≡◌ {A = ℕ} 0 1 = cc in omega arith
    no_self (call m g xs) h (inr p) = no_self* xs h p
    no_self (self m xs) h p = h
    no_self (cond m a b c) h (inl p) = let z : ◌≡◌ {A = ℕ} 0 1 = cc in omega arith
    no_self (cond m a b c) h (inr (inl p)) = no_self a h.0 p
    no_self (cond m a b c) h (inr (inr (inl p))) = no_self b h.1 p
    no_self (cond m a b c) h (inr (inr (inr p))) = no_self c h.2 p
    no_self (bind m ds b) h (inl p) = let z : ◌≡◌ {A = ℕ} 0 1 = cc in omega arith
    no_self (bind m ds b) h (inr (inl p)) = no_self* ds h.0 p
    no_self (bind m ds b) h (inr (inr p)) = no_self b h.1 p
    no_self (bound m d) h p = let z : ◌≡◌ {A = ℕ} 0 1 = cc in omega arith

    no_self* : (xs : Exprs) → NoSelf* xs → Sub* (self n es) xs → ⊥
    no_self* none h p = p
    no_self* (some e xs) h (inl p) = no_self e h.0 p
    no_self* (some e xs) h (inr p) = no_self* xs h.1 p

module _ (s : View) (n : ℕ) (es : Exprs) (at : s.status n ≡ 2) (ready : Finished* s es) where
  moves : Still s n → ⊥
  moves = busy_moves s n at

  abbrev U : Expr
  U = self n es

  -- what is under way in the body is this call or stands above it
  module _ (w : Expr) (moving : Still s (id w) → ⊥) where
    abbrev Above : Type 0
    Above = Sub U w × Tail w

    own : (e : Expr) → U ≡ e → Tail e → Live s e → Sub w e → Above
    own e p t l q = mine (subst (Live s) (sym p) l) (subst (Sub w) (sym p) q)
      where
        mine : Live s U → Sub w U → Above
        mine l (inl q) = (subst (Sub U) (sym q) (inl refl), subst Tail (sym q) (subst Tail (sym p) t))
        mine (inl l) (inr q) = absurd (idle_not* s w moving es l.1 q)
        mine (inr l) (inr q) = absurd (done_not* s w moving es (finished* s es l.1 ready) q)

    pub self_above : (e : Expr) → Tail e → Sub U e → Live s e → Sub w e → Above
    self_above (const m v) t p l q = own (const m v) p t l q
    self_above (param m i) t p l q = own (param m i) p t l q
    self_above (prim m op xs) t (inl p) l q = own (prim m op xs) p t l q
    self_above (prim m op xs) t (inr p) l q = absurd (no_self* n es xs t p)
    self_above (call m g xs) t (inl p) l q = own (call m g xs) p t l q
    self_above (call m g xs) t (inr p) l q = absurd (no_self* n es xs t p)
    self_above (self m xs) t (inl p) l q = own (self m xs) p t l q
    self_above (self m xs) t (inr p) l q = absurd (no_self* n es xs t p)
    self_above (cond m x y z) t (inl p) l q = own (cond m x y z) p t l q
    self_above (cond m x y z) t (inr (inl p)) l q = absurd (no_self n es x t.0 p)
    self_above (cond m x y z) t (inr (inr (inl p))) (inl l) q = absurd (idle_not s U moves y l.2 p)
    self_above (cond m x y z) t (inr (inr (inl p))) (inr (inl l)) q = absurd (idle_not s U moves y l.2 p)
    self_above (cond m x y z) t (inr (inr p)) (inr (inr l)) (inl q) = subst (λ e. Sub U e × Tail e) (sym q) (inr (inr p), t)
    self_above (cond m x y z) t (inr (inr p)) (inr (inr l)) (inr (inl q)) = absurd (done_not s w moving x l.1 q)
    self_above (cond m x y z) t (inr (inr (inl p))) (inr (inr l)) (inr (inr q)) =
        chosen_case (λ o. ⊎_elim (λ k. self_above y t.1 p (under_way s U moves y p o.0) k)
        (λ k. absurd (idle_not s w moving z o.1 k)) q) (λ o. absurd (idle_not s U moves y o.1 p)) (s.value (id x)) l.2
    self_above (cond m x y z) t (inr (inr (inr p))) (inl l) q = absurd (idle_not s U moves z l.3 p)
    self_above (cond m x y z) t (inr (inr (inr p))) (inr (inl l)) q = absurd (idle_not s U moves z l.3 p)
    self_above (cond m x y z) t (inr (inr (inr p))) (inr (inr l)) (inr (inr q)) =
        chosen_case (λ o. absurd (idle_not s U moves z o.1 p)) (λ o. ⊎_elim (λ k. absurd (idle_not s w moving y o.1 k))
        (λ k. self_above z t.2 p (under_way s U moves z p o.0) k) q) (s.value (id x)) l.2
    self_above (bind m ds b) t (inl p) l q = own (bind m ds b) p t l q
    self_above (bind m ds b) t (inr (inl p)) l q = absurd (no_self* n es ds t.0 p)
    self_above (bind m ds b) t (inr (inr p)) (inl l) q = absurd (idle_not s U moves b l.2 p)
    self_above (bind m ds b) t (inr (inr p)) (inr (inl l)) q = absurd (idle_not s U moves b l.2 p)
    self_above (bind m ds b) t (inr (inr p)) (inr (inr l)) (inl q) = subst (λ e. Sub U e × Tail e) (sym q) (inr (inr p), t)
    self_above (bind m ds b) t (inr (inr p)) (inr (inr l)) (inr (inl q)) = absurd (done_not* s w moving ds l.1 q)
    self_above (bind m ds b) t (inr (inr p)) (inr (inr l)) (inr (inr q)) =
        self_above b t.1 p (under_way s U moves b p l.2) q
    self_above (bound m d) t p l q = own (bound m d) p t l q

  -- no call is under way in the body, since none stands above the self call
  pub self_alone_lem : (c f : ℕ) → s.status c ≡ 2 → (e : Expr) → Tail e → Sub U e → Live s e → CallIn c f e → ⊥
  self_alone_lem c f busy e t p l k =
      let x = find c f e k in
      let a = self_above (call c f x.0) (busy_moves s c busy) e t p l x.1 in
      ⊎_elim (λ i. let z : ◌≡◌ {A = ℕ} 0 1 = cc in omega arith) (no_self* n es x.0 a.1) a.0

  -- one step is left, and then the function again
  module _ (apply : ℕ → List ℕ → ℕ) (K : Readings) (W : ℕ → ℕ) (args : ℕ → ℕ) where
    abbrev One : Expr → (ℕ → ℕ) → Type 0
    One e ρ = Left apply K s W args e ρ (again (values s.value es)) 1

    mine : (e : Expr) → U ≡ e → (ρ : ℕ → ℕ) → One e ρ
    mine e p ρ = subst (λ x. One x ρ) p (inr (inr (at, (values s.value es, 0, over_left* apply K s W args es ρ ready, refl, refl))))

    pub self_left : (e : Expr) → Tail e → Sub U e → Live s e → (ρ : ℕ → ℕ) → One e ρ
    self_left (const m v) t p l ρ = mine (const m v) p ρ
    self_left (param m i) t p l ρ = mine (param m i) p ρ
    self_left (prim m op xs) t (inl p) l ρ = mine (prim m op xs) p ρ
    self_left (prim m op xs) t (inr p) l ρ = absurd (no_self* n es xs t p)
    self_left (call m g xs) t (inl p) l ρ = mine (call m g xs) p ρ
    self_left (call m g xs) t (inr p) l ρ = absurd (no_self* n es xs t p)
    self_left (self m xs) t (inl p) l ρ = mine (self m xs) p ρ
    self_left (self m xs) t (inr p) l ρ = absurd (no_self* n es xs t p)
    self_left (cond m x y z) t (inl p) l ρ = mine (cond m x y z) p ρ
    self_left (cond m x y z) t (inr (inl p)) l ρ = absurd (no_self n es x t.0 p)
    self_left (cond m x y z) t (inr (inr (inl p))) (inl l) ρ = absurd (idle_not s U moves y l.2 p)
    self_left (cond m x y z) t (inr (inr (inl p))) (inr (inl l)) ρ = absurd (idle_not s U moves y l.2 p)
    self_left (cond m x y z) t (inr (inr (inl p))) (inr (inr l)) ρ =
        inr (inr (
          l.0.0,
          inr (
            l.0.1,
            (
              1,
              chosen_map (λ o. self_left y t.1 p (under_way s U moves y p o.0) ρ)
                  (λ o. absurd (idle_not s U moves y o.1 p)) (s.value (id x)) (s.value (id x)) refl l.2,
              refl,
            ),
          ),
        ))
    self_left (cond m x y z) t (inr (inr (inr p))) (inl l) ρ = absurd (idle_not s U moves z l.3 p)
    self_left (cond m x y z) t (inr (inr (inr p))) (inr (inl l)) ρ = absurd (idle_not s U moves z l.3 p)
    self_left (cond m x y z) t (inr (inr (inr p))) (inr (inr l)) ρ =
        inr (inr (
          l.0.0,
          inr (
            l.0.1,
            (
              1,
              chosen_map (λ o. absurd (idle_not s U moves z o.1 p))
                  (λ o. self_left z t.2 p (under_way s U moves z p o.0) ρ) (s.value (id x)) (s.value (id x)) refl l.2,
              refl,
            ),
          ),
        ))
    self_left (bind m ds b) t (inl p) l ρ = mine (bind m ds b) p ρ
    self_left (bind m ds b) t (inr (inl p)) l ρ = absurd (no_self* n es ds t.0 p)
    self_left (bind m ds b) t (inr (inr p)) (inl l) ρ = absurd (idle_not s U moves b l.2 p)
    self_left (bind m ds b) t (inr (inr p)) (inr (inl l)) ρ = absurd (idle_not s U moves b l.2 p)
    self_left (bind m ds b) t (inr (inr p)) (inr (inr l)) ρ =
        inr (inr (
          l.0.0,
          inr (
            l.0.1,
            (
              1,
              self_left b t.1 p (under_way s U moves b p l.2) (extend ds (values s.value ds) ρ),
              refl,
            ),
          ),
        ))
    self_left (bound m d) t p l ρ = mine (bound m d) p ρ
