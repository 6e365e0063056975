-- while main has not answered, some node has a step
use Prim.Native.Nat.{ℕ, zero, suc, ◌<◌}
use mathlib.Core.Bool.{true, false}
use mathlib.Core.Path.{◌≡◌, refl, subst, sym, ◌∙◌}
use mathlib.Core.Logic.{◌⊎◌, inl, inr, ⊎_elim}
use native.Mathlib.Omega.{arith}
use native.Mathlib.Decide.{ℕ_discrete}
use native.Mathlib.Nat.{not-suc-le-zero}
use Rattle.table.specs.Syntax.{Expr, Exprs, const, param, prim, call, self, cond, bind, bound, none, some, id, Every, Sub, Sub*}
use Rattle.rules.specs.State.{View}
use Rattle.rules.proofs.LaidFacts.{callee_fn}
use Rattle.rules.proofs.Shape.{Idle, Open, Busy, Live, Opened*, Opened}
use Rattle.rules.specs.Reading.{Chosen}
use Rattle.rules.proofs.Moves.{Finished*}
use Rattle.table.proofs.CallPlaces.{find}
use Rattle.table.specs.Well.{Fn, CallIn, CallIn*, Well}
use Rattle.rules.proofs.Invariant.{Active, Sound}

-- an expression stands in itself
sub_refl : (e : Expr) → Sub e e
sub_refl (const n v) = refl
sub_refl (param n i) = refl
sub_refl (prim n op es) = inl refl
sub_refl (call n g es) = inl refl
sub_refl (self n es) = inl refl
sub_refl (cond n a b c) = inl refl
sub_refl (bind n ds b) = inl refl
sub_refl (bound n d) = refl

module _ (body : ℕ → Expr) (s : View) where
  -- the node of u has a step
  abbrev pub Able : Expr → Type 0
  Able (const n v) = Open s n
  Able (param n i) = Open s n
  Able (prim n op es) = Open s n ⊎ ((s.status n ≡ 2) × Finished* s es)
  Able (call n g es) = Open s n ⊎ (Busy s n false × Finished* s es × (s.occupant g ≡ 0)) ⊎ (Busy s n true × (s.status (id (body g)) ≡ 3))
  Able (self n es) = Open s n ⊎ ((s.status n ≡ 2) × Finished* s es)
  Able (cond n a b c) = Open s n ⊎ (Busy s n false × (s.status (id a) ≡ 3))
      ⊎ (Busy s n true × Chosen (s.status (id b) ≡ 3) (s.status (id c) ≡ 3) (s.value (id a)))
  Able (bind n ds b) = Open s n ⊎ (Busy s n false × Finished* s ds) ⊎ (Busy s n true × (s.status (id b) ≡ 3))
  Able (bound n d) = Open s n

  abbrev pub Hit : (Expr → Type 0) → Type 0
  Hit P = (u : Expr) × P u × Able u

  -- a call that waits for the function that it calls
  abbrev pub Wait : (ℕ → ℕ → Type 0) → Type 0
  Wait P = (c g : ℕ) × P c g × (s.occupant g ≡ 0 → ⊥)

  abbrev Seen : (Expr → Type 0) → (ℕ → ℕ → Type 0) → Type 0
  Seen P Q = Hit P ⊎ Wait Q

  up : (P P' : Expr → Type 0) (Q Q' : ℕ → ℕ → Type 0) → ((u : Expr) → P u → P' u) → ((c g : ℕ) → Q c g → Q' c g) → Seen P Q → Seen P' Q'
  up P P' Q Q' f k (inl x) = inl (x.0, f x.0 x.1, x.2)
  up P P' Q Q' f k (inr x) = inr (x.0, x.1, k x.0 x.1 x.2, x.3)

  -- all done, or one of them is seen
  abbrev Few : Exprs → Type 0
  Few es = Finished* s es ⊎ Seen (λ u. Sub* u es) (λ c g. CallIn* c g es)

  opened_seen : (e : Expr) → (Live s e → Seen (λ u. Sub u e) (λ c g. CallIn c g e)) → Opened s e
      → (s.status (id e) ≡ 3) ⊎ Seen (λ u. Sub u e) (λ c g. CallIn c g e)
  opened_seen e f (inl l) = inr (f l)
  opened_seen e f (inr d) = inl d.0

  own : (e : Expr) → Able e → Seen (λ u. Sub u e) (λ c g. CallIn c g e)
  own e a = inl (e, sub_refl e, a)

  waits? : (n g : ℕ) (es : Exprs) → Busy s n false → Finished* s es → Dec (s.occupant g ≡ 0)
      → Seen (λ u. Sub u (call n g es)) (λ c f. CallIn c f (call n g es))
  waits? n g es b f (yes z) = own (call n g es) (inr (inl (b, f, z)))
  waits? n g es b f (no z) = inr (n, g, inl (refl, refl), z)

  holds? : (n g : ℕ) (es : Exprs) → Busy s n true → s.occupant g ≡ n → (n ≡ 0 → ⊥) → Dec (s.status (id (body g)) ≡ 3)
      → Seen (λ u. Sub u (call n g es)) (λ c f. CallIn c f (call n g es))
  holds? n g es b o z (yes d) = own (call n g es) (inr (inr (b, d)))
  holds? n g es b o z (no d) = inr (n, g, inl (refl, refl), λ e. z (sym o ∙ e))

  pair : (e : Expr) (es : Exprs) → (s.status (id e) ≡ 3) ⊎ Seen (λ u. Sub u e) (λ c g. CallIn c g e) → Few es → Few (some e es)
  pair e es (inl d) (inl f) = inl (d, f)
  pair e es (inl d) (inr x) = inr (up (λ u. Sub* u es) (λ u. Sub* u (some e es)) (λ c g. CallIn* c g es) (λ c g. CallIn* c g (some e es))
      (λ u p. inr p) (λ c g k. inr k) x)
  pair e es (inr x) f = inr (up (λ u. Sub u e) (λ u. Sub* u (some e es)) (λ c g. CallIn c g e) (λ c g. CallIn* c g (some e es))
      (λ u p. inl p) (λ c g k. inl k) x)

  branch : (n : ℕ) (a b c : Expr) → Busy s n true → (Live s b → Seen (λ u. Sub u b) (λ c g. CallIn c g b))
      → (Live s c → Seen (λ u. Sub u c) (λ d g. CallIn d g c))
      → (v : ℕ) → s.value (id a) ≡ v → Chosen (Opened s b × Every (Idle s) c) (Opened s c × Every (Idle s) b) v
      → Seen (λ u. Sub u (cond n a b c)) (λ d g. CallIn d g (cond n a b c))
  branch n a b c h f g zero e t =
      ⊎_elim (λ d. own (cond n a b c) (inr (inr (h, subst (Chosen (s.status (id b) ≡ 3) (s.status (id c) ≡ 3)) (sym e) d))))
      (λ x. up (λ u. Sub u c) (λ u. Sub u (cond n a b c)) (λ d g. CallIn d g c) (λ d g. CallIn d g (cond n a b c))
      (λ u p. inr (inr (inr p))) (λ d g k. inr (inr k)) x) (opened_seen c g t.0)
  branch n a b c h f g (suc v) e t =
      ⊎_elim (λ d. own (cond n a b c) (inr (inr (h, subst (Chosen (s.status (id b) ≡ 3) (s.status (id c) ≡ 3)) (sym e) d))))
      (λ x. up (λ u. Sub u b) (λ u. Sub u (cond n a b c)) (λ d g. CallIn d g b) (λ d g. CallIn d g (cond n a b c))
      (λ u p. inr (inr (inl p))) (λ d g k. inr (inl k)) x) (opened_seen b f t.0)

  mutual
    pub seek : (e : Expr) → Live s e → Seen (λ u. Sub u e) (λ c g. CallIn c g e)
    seek (const n v) l = own (const n v) l
    seek (param n i) l = own (param n i) l
    seek (prim n op es) (inl l) = own (prim n op es) (inl l.0)
    seek (prim n op es) (inr l) = ⊎_elim (λ f. own (prim n op es) (inr (l.0.0, f))) (λ x. up _ _ _ _ (λ u p. inr p) (λ c g k. k) x)
        (seek* es l.1)
    seek (call n g es) (inl l) = own (call n g es) (inl l.0)
    seek (call n g es) (inr (inl l)) =
        ⊎_elim (λ f. waits? n g es l.0 f (ℕ_discrete (s.occupant g) 0)) (λ x. up _ _ _ _ (λ u p. inr p) (λ c g k. inr k) x)
        (seek* es l.1)
    seek (call n g es) (inr (inr l)) = holds? n g es l.0 l.2 l.3 (ℕ_discrete (s.status (id (body g))) 3)
    seek (self n es) (inl l) = own (self n es) (inl l.0)
    seek (self n es) (inr l) = ⊎_elim (λ f. own (self n es) (inr (l.0.0, f))) (λ x. up _ _ _ _ (λ u p. inr p) (λ c g k. k) x)
        (seek* es l.1)
    seek (cond n a b c) (inl l) = own (cond n a b c) (inl l.0)
    seek (cond n a b c) (inr (inl l)) =
        ⊎_elim (λ d. own (cond n a b c) (inr (inl (l.0, d)))) (λ x. up _ _ _ _ (λ u p. inr (inl p)) (λ c g k. inl k) x)
        (opened_seen a (λ z. seek a z) l.1)
    seek (cond n a b c) (inr (inr l)) = branch n a b c l.0 (λ z. seek b z) (λ z. seek c z) (s.value (id a)) refl l.2
    seek (bind n ds b) (inl l) = own (bind n ds b) (inl l.0)
    seek (bind n ds b) (inr (inl l)) =
        ⊎_elim (λ f. own (bind n ds b) (inr (inl (l.0, f)))) (λ x. up _ _ _ _ (λ u p. inr (inl p)) (λ c g k. inl k) x) (seek* ds l.1)
    seek (bind n ds b) (inr (inr l)) =
        ⊎_elim (λ d. own (bind n ds b) (inr (inr (l.0, d)))) (λ x. up _ _ _ _ (λ u p. inr (inr p)) (λ c g k. inr k) x)
        (opened_seen b (λ z. seek b z) l.2)
    seek (bound n d) l = own (bound n d) l

    pub seek* : (es : Exprs) → Opened* s es → Few es
    seek* none o = inl tt
    seek* (some e es) o = pair e es (opened_seen e (λ z. seek e z) o.0) (seek* es o.1)

  module _ {F : ℕ} (well : Well F body) (sound : Sound F body s) where
    abbrev pub Goes : Type 0
    Goes = (h : ℕ) × Fn F body h × Hit (λ u. Sub u (body h))

    run : (k : ℕ) → ((g : ℕ) → g < k → Fn F body g → Active F s g → (s.status (id (body g)) ≡ 3 → ⊥) → Goes)
        → Fn F body k → Active F s k → (s.status (id (body k)) ≡ 3 → ⊥) → Goes
    run k ih r a n = go (sound.opened k r a)
      where
        wait : (c g : ℕ) → CallIn c g (body k) → (s.occupant g ≡ 0 → ⊥) → Goes
        wait c g i z = leaves (callee_fn well k c g r i) (ℕ_discrete (s.status (id (body g))) 3)
          where
            leaves : Fn F body g → Dec (s.status (id (body g)) ≡ 3) → Goes
            leaves q (no d) = ih g (well.below k c g r i).1 q (inr z) d
            leaves q (yes d) =
                let o = sound.held g (s.occupant g) q refl z in
                let x = find (s.occupant g) g (body o.0) o.3 in
                (o.0, o.1, (call (s.occupant g) g x.0, x.1, inr (inr (o.4, d))))

        go : Opened s (body k) → Goes
        go (inr d) = absurd (n d.0)
        go (inl l) = ⊎_elim (λ x. (k, r, x)) (λ x. wait x.0 x.1 x.2 x.3) (seek (body k) l)

    below : (k : ℕ) (g : ℕ) → g < k → Fn F body g → Active F s g → (s.status (id (body g)) ≡ 3 → ⊥) → Goes
    below zero g h = absurd (not-suc-le-zero h)
    below (suc k) g h = run g (λ f q. below k f (omega (arith, h, q)))

    pub progress : Fn F body F → (s.status (id (body F)) ≡ 3 → ⊥) → Goes
    progress r n = below (suc F) F (omega arith) r (inl refl) n
