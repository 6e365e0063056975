-- a sound state is never refused with 24
use Prim.Native.Nat.{ℕ, zero, suc, ◌≤◌}
use mathlib.Core.Bool.{Bool, true, false}
use mathlib.Core.Path.{◌≡◌, refl, ap, ◌∙◌}
use mathlib.Core.Logic.{◌⊎◌, inl, inr, ⊎_elim}
use mathlib.Core.List.{List}
use native.Mathlib.Omega.{arith}
use native.Mathlib.Decide.{ℕ_discrete}
use Rattle.table.specs.Syntax.{Expr, Exprs, const, param, prim, call, self, cond, bind, bound, none, some, id, Every, Every*}
use Rattle.rules.specs.State.{View, entry}
use Rattle.rules.proofs.Shape.{Still, Idle, Open, Busy, Live, Opened*, Opened}
use Rattle.rules.specs.Reading.{Chosen}
use Rattle.rules.proofs.Branches.{chosen_case}
use Rattle.table.proofs.SyntaxLaws.{every_node}
use Rattle.rules.proofs.Moves.{both, both*, done*_still}
use Rattle.table.proofs.CallPlaces.{call_node}
use Rattle.rules.proofs.Invariant.{Active, Sound, active?}
use Rattle.table.specs.Pick.{pick}
use Rattle.table.proofs.Tests.{ltb_no}
use Rattle.rules.specs.Step.{over}
use Rattle.table.specs.Well.{Fn, Laid}
use Rattle.rules.proofs.LaidFacts.{own_node}

pub over_none : (limit k : ℕ) (l : List ℕ) → ((m : ℕ) → 1 ≤ m → m ≤ k → entry l 0 m ≤ limit) → over limit k l ≡ false
unfolding over
over_none limit zero l f = refl
over_none limit (suc k) l f =
    ap (λ b. pick b true (over limit k l)) (ltb_no limit (entry l 0 (suc k)) (λ h. omega (arith, h, f (suc k) (omega arith) (omega arith))))
    ∙ over_none limit k l (λ m p q. f m p (omega arith))

module _ (s : View) where
  abbrev Small : ℕ → Type 0
  Small m = s.status m ≤ 3

  still_small : (e : Expr) → Every (Still s) e → Every Small e
  still_small e h = both (Still s) (Still s) Small (λ n p q. ⊎_elim (λ z. omega arith) (λ z. omega arith) p.0) e h h

  still_small* : (es : Exprs) → Every* (Still s) es → Every* Small es
  still_small* es h = both* (Still s) (Still s) Small (λ n p q. ⊎_elim (λ z. omega arith) (λ z. omega arith) p.0) es h h

  idle_small : (e : Expr) → Every (Idle s) e → Every Small e
  idle_small e h = both (Idle s) (Idle s) Small (λ n p q. omega arith) e h h

  idle_small* : (es : Exprs) → Every* (Idle s) es → Every* Small es
  idle_small* es h = both* (Idle s) (Idle s) Small (λ n p q. omega arith) es h h

  open_small : (n : ℕ) → Open s n → Small n
  open_small n o = omega arith

  busy_small : (n : ℕ) (b : Bool) → Busy s n b → Small n
  busy_small n b o = omega arith

  opened_small : (e : Expr) → (Live s e → Every Small e) → Opened s e → Every Small e
  opened_small e f (inl l) = f l
  opened_small e f (inr d) = still_small e d.1

  taken_small : (b c : Expr) → (Live s b → Every Small b) → (Live s c → Every Small c) → (v : ℕ)
      → Chosen (Opened s b × Every (Idle s) c) (Opened s c × Every (Idle s) b) v → Every Small b × Every Small c
  taken_small b c f g = chosen_case (λ t. (opened_small b f t.0, idle_small c t.1))
      (λ t. (idle_small b t.1, opened_small c g t.0))

  mutual
    live_small : (e : Expr) → Live s e → Every Small e
    live_small (const n v) l = open_small n l
    live_small (param n i) l = open_small n l
    live_small (prim n op es) (inl l) = (open_small n l.0, idle_small* es l.1)
    live_small (prim n op es) (inr l) = (busy_small n false l.0, live_small* es l.1)
    live_small (call n g es) (inl l) = (open_small n l.0, idle_small* es l.1)
    live_small (call n g es) (inr (inl l)) = (busy_small n false l.0, live_small* es l.1)
    live_small (call n g es) (inr (inr l)) = (busy_small n true l.0, still_small* es (done*_still s es l.1))
    live_small (self n es) (inl l) = (open_small n l.0, idle_small* es l.1)
    live_small (self n es) (inr l) = (busy_small n false l.0, live_small* es l.1)
    live_small (cond n a b c) (inl l) = (open_small n l.0, idle_small a l.1, idle_small b l.2, idle_small c l.3)
    live_small (cond n a b c) (inr (inl l)) = (
      busy_small n false l.0,
      opened_small a (λ z. live_small a z) l.1,
      idle_small b l.2,
      idle_small c l.3,
    )
    live_small (cond n a b c) (inr (inr l)) =
        let t = taken_small b c (λ z. live_small b z) (λ z. live_small c z) (s.value (id a)) l.2 in
        (busy_small n true l.0, still_small a l.1.1, t.0, t.1)
    live_small (bind n ds b) (inl l) = (open_small n l.0, idle_small* ds l.1, idle_small b l.2)
    live_small (bind n ds b) (inr (inl l)) = (busy_small n false l.0, live_small* ds l.1, idle_small b l.2)
    live_small (bind n ds b) (inr (inr l)) = (
      busy_small n true l.0,
      still_small* ds (done*_still s ds l.1),
      opened_small b (λ z. live_small b z) l.2,
    )
    live_small (bound n d) l = open_small n l

    live_small* : (es : Exprs) → Opened* s es → Every* Small es
    live_small* none o = tt
    live_small* (some e es) o = (opened_small e (λ z. live_small e z) o.0, live_small* es o.1)

module _ {F N : ℕ} {body at : ℕ → Expr} {home : ℕ → ℕ} (laid : Laid F N body at home) (s : View)
    (sound : Sound F body s) where
  pub status_bound : (m : ℕ) → 1 ≤ m → m ≤ N → s.status m ≤ 3
  status_bound m p q = every_node (Small s) m (body (home m)) (go (active? F s (home m))) (own_node laid (home m) m (p, q) refl)
    where
      fn : Fn F body (home m)
      fn = laid.home_there m (p, q)

      go : Active F s (home m) ⊎ (Active F s (home m) → ⊥) → Every (Small s) (body (home m))
      go (inl a) = opened_small s (body (home m)) (live_small s (body (home m))) (sound.opened (home m) fn a)
      go (inr a) = still_small s (body (home m)) (sound.rest (home m) fn a)

  pub occupant_bound : (f : ℕ) → 1 ≤ f → f ≤ F → s.occupant f ≤ N
  occupant_bound f p q = go (ℕ_discrete (s.occupant f) 0)
    where
      go : Dec (s.occupant f ≡ 0) → s.occupant f ≤ N
      go (yes z) = omega (arith, z)
      go (no z) =
          let o = sound.held f (s.occupant f) (p, q) refl z in
          (laid.inside o.0 (s.occupant f) o.1 (call_node (s.occupant f) f (body o.0) o.3)).2
