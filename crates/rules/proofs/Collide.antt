-- a call that waits at an occupied resource is listed
use Prim.Native.Nat.{ℕ, zero, suc, ◌+◌, ◌<◌}
use mathlib.Core.Bool.{true, false, true≢false}
use mathlib.Core.Path.{◌≡◌, refl, subst, sym, ap, ◌∙◌}
use mathlib.Core.Logic.{◌⊎◌, inl, inr}
use native.Mathlib.Omega.{arith}
use native.Mathlib.Decide.{ℕ_discrete, dec_lt}
use Rattle.table.specs.Syntax.{Expr, Exprs, const, param, prim, call, self, cond, bind, bound, none, some, Sub, Sub*}
use Rattle.rules.specs.State.{View}
use Rattle.rules.proofs.LaidFacts.{callee_fn}
use Rattle.rules.proofs.Shape.{Busy, Done*, busy_moves}
use Rattle.rules.proofs.Moves.{Finished*, finished*}
use Rattle.table.proofs.CallPlaces.{find, sub_call}
use Rattle.table.specs.Well.{Fn, CallIn, Well}
use Rattle.table.specs.Reach.{Reached}
use Rattle.rules.proofs.Invariant.{Active, Sound}
use Rattle.rules.proofs.ActiveReached.{active_reached}
use Rattle.rules.proofs.Acting.{stepping, stepping_live, first_phase, second_phase}
use Rattle.list.specs.Sets.{Calls}
use Rattle.list.specs.Conflict.{C, A}
use Rattle.rules.proofs.Exclusive.{Way, Way*, way_c, meet}

module _ (F : ℕ) (body : ℕ → Expr) (s : View) (callee : ℕ → ℕ) (B : ℕ → Calls) where
  -- a busy call whose arguments are done is a way to itself and to each call of the body that it calls
  module _ (n g α : ℕ) (es : Exprs) (busy : s.status n ≡ 2) (done : Done* s es) (goes : (n ≡ α) ⊎ B g α) where
    own : (e : Expr) → call n g es ≡ e → Way s callee B n α e
    own e p = subst (Way s callee B n α) p (inl (refl, busy, done, goes))

    mutual
      pub way : (e : Expr) → Sub (call n g es) e → Way s callee B n α e
      way (const m v) p = own (const m v) p
      way (param m i) p = own (param m i) p
      way (prim m op xs) (inl p) = own (prim m op xs) p
      way (prim m op xs) (inr p) = way* xs p
      way (call m q xs) (inl p) = own (call m q xs) p
      way (call m q xs) (inr p) = inr (way* xs p)
      way (self m xs) (inl p) = own (self m xs) p
      way (self m xs) (inr p) = way* xs p
      way (cond m a b c) (inl p) = own (cond m a b c) p
      way (cond m a b c) (inr (inl p)) = inl (way a p)
      way (cond m a b c) (inr (inr (inl p))) = inr (inl (way b p))
      way (cond m a b c) (inr (inr (inr p))) = inr (inr (way c p))
      way (bind m ds b) (inl p) = own (bind m ds b) p
      way (bind m ds b) (inr (inl p)) = inl (way* ds p)
      way (bind m ds b) (inr (inr p)) = inr (way b p)
      way (bound m d) p = own (bound m d) p

      pub way* : (xs : Exprs) → Sub* (call n g es) xs → Way* s callee B n α xs
      way* none p = absurd p
      way* (some e xs) (inl p) = inl (way e p)
      way* (some e xs) (inr p) = inr (way* xs p)

  module _ (well : Well F body) (sound : Sound F body s)
      (callees : (f c g : ℕ) → Fn F body f → CallIn c g (body f) → callee c ≡ g)
      (bodies : (g m : ℕ) → Fn F body g → C callee B (body g) m → B g m) where
    -- a call under way in the body of f, whose calls reach α
    pub record Walker (α : ℕ) : Type 0 where
      pub f : ℕ
      pub fn : Fn F body f
      pub active : Active F s f
      pub u : ℕ
      pub goes : Way s callee B u α (body f)

    -- the call that occupies g, as a walker to each call of g's body and to itself
    pub holder : (g α : ℕ) → Fn F body g → (z : s.occupant g ≡ 0 → ⊥) → (s.occupant g ≡ α) ⊎ B g α
        → (x : Walker α) × (g < x.f) × (callee x.u ≡ g) × (x.u ≡ s.occupant g) × (s.second (s.occupant g) ≡ true)
    holder g α r z goes =
        let o = sound.held g (s.occupant g) r refl z in
        let k = find (s.occupant g) g (body o.0) o.3 in
        let st = active_live o.0 o.1 k.0 k.1 o.4 in (
          record {
            f = o.0;
            fn = o.1;
            active = st.0;
            u = s.occupant g;
            goes = way (s.occupant g) g α k.0 o.4.0 st.1 goes (body o.0) k.1;
          },
          o.2,
          callees o.0 (s.occupant g) g o.1 o.3,
          refl,
          o.4.1,
        )
      where
        active_live : (f : ℕ) → Fn F body f → (es : Exprs) → Sub (call (s.occupant g) g es) (body f) → Busy s (s.occupant g) true
            → Active F s f × Done* s es
        active_live f q es p b =
            let m = busy_moves s (s.occupant g) b.0 in (
              (stepping sound f q (call (s.occupant g) g es) p m).0,
              (second_phase s (s.occupant g) g es b (stepping_live sound f q (call (s.occupant g) g es) p m)).0,
            )

    -- the body's own caller, if it is not main's
    pub lift : (α : ℕ) (w : Walker α) → (w.f ≡ F → ⊥) → (x : Walker α) × (w.f < x.f) × (callee x.u ≡ w.f)
    lift α w n = go w.active
      where
        go : Active F s w.f → (x : Walker α) × (w.f < x.f) × (callee x.u ≡ w.f)
        go (inl e) = absurd (n e)
        go (inr z) = let o = holder w.f α w.fn z
            (inr (bodies w.f α w.fn (way_c s callee B w.u α (body w.f) w.goes))) in (o.0, o.1, o.2)

    abbrev pub Listed : ℕ → Type 0
    Listed α = (f : ℕ) × Reached F body f × A callee B (body f) α

    abbrev Collide : ℕ → ℕ → ℕ → Type 0
    Collide k α β = (w : Walker α) (x : Walker β) → callee α ≡ callee β → (w.u ≡ x.u → ⊥) → callee w.u < x.f → callee x.u < w.f
        → F + F < k + (w.f + x.f) → Listed α

    turn : (k α β : ℕ) → Collide k α β → Collide (suc k) α β
    turn k α β ih w x e d p q r = go (ℕ_discrete w.f x.f) (dec_lt w.f x.f)
      where
        same : w.f ≡ x.f → Listed α
        same z = (
          w.f,
          active_reached F body s sound w.f w.fn w.active,
          meet s callee B w.u x.u α β d e (body w.f) (sound.opened w.f w.fn w.active) w.goes
              (subst (λ y. Way s callee B x.u β (body y)) (sym z) x.goes),
        )

        first : w.f < x.f → Listed α
        first h =
            let n = lift α w (λ y. omega (arith, y, h, x.fn.1)) in
            ih n.0 x e (λ y. omega (arith, ap callee y, n.2, q)) (omega (arith, n.2, h)) (omega (arith, q, n.1))
            (omega (arith, r, n.1))

        second : x.f < w.f → Listed α
        second h =
            let n = lift β x (λ y. omega (arith, y, h, w.fn.1)) in
            ih w n.0 e (λ y. omega (arith, ap callee y, n.2, p)) (omega (arith, p, n.1)) (omega (arith, n.2, h))
            (omega (arith, r, n.1))

        go : Dec (w.f ≡ x.f) → Dec (w.f < x.f) → Listed α
        go (yes z) b = same z
        go (no z) (yes h) = first h
        go (no z) (no h) = second (omega arith)

    -- two ways to one function, from different calls, end in one body
    pub collide : (k α β : ℕ) → Collide k α β
    collide zero α β w x e d p q r = absurd (omega (arith, w.fn.1, x.fn.1, r))
    collide (suc k) α β w x e d p q r = turn k α β (collide k α β) w x e d p q r

    -- a call n of g, in the body of h, that waits with its arguments done while g is occupied
    pub waiting_listed : (h : ℕ) → Fn F body h → (n g : ℕ) (es : Exprs) → Sub (call n g es) (body h) → Busy s n false
        → Finished* s es → (s.occupant g ≡ 0 → ⊥) → Listed n
    waiting_listed h r n g es p b f z =
        let k = sub_call n g es (body h) p in
        let o = holder g (s.occupant g) (callee_fn well h n g r k) z (inl refl) in
        let m = busy_moves s n b.0 in
        let here : Walker n = record {
          f = h;
          fn = r;
          active = (stepping sound h r (call n g es) p m).0;
          u = n;
          goes = way n g n es b.0 (finished* s es (first_phase s n g es b (stepping_live sound h r (call n g es) p m)) f) (inl refl)
              (body h) p;
        } in
        collide (suc (F + F)) n (s.occupant g) here o.0 (callees h n g r k ∙ sym o.2 ∙ ap callee o.3)
        (λ e. true≢false (sym o.4 ∙ ap s.second (sym o.3) ∙ ap s.second (sym e) ∙ b.1))
        (omega (arith, callees h n g r k, o.1)) (omega (arith, o.2, (well.below h n g r k).1)) (omega arith)
