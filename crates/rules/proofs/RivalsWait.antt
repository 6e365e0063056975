-- two calls that both enter one resource: the first enters, the other then waits at it
use Prim.Native.Nat.{ℕ}
use mathlib.Core.Bool.{Bool, false}
use mathlib.Core.Path.{◌≡◌, refl, subst, sym, ap, ◌∙◌}
use mathlib.Core.Logic.{inl, inr}
use mathlib.Core.List.{List}
use native.Mathlib.Omega.{arith}
use Rattle.table.specs.Syntax.{Expr, Exprs, call, none, some, id, Node, Node*}
use Rattle.table.specs.Pick.{pick}
use Rattle.table.specs.Well.{Laid}
use Rattle.table.proofs.SyntaxLaws.{node_id}
use Rattle.rules.specs.Arithmetic.{Arithmetic}
use Rattle.rules.specs.State.{View, State512, view}
use Rattle.rules.specs.Step.{blocked, enters, act, refusal, outcome, perform}
use Rattle.rules.proofs.Shape.{Busy}
use Rattle.rules.proofs.Frame.{Same}
use Rattle.rules.proofs.Moves.{Finished*}
use Rattle.rules.proofs.StepTaken.{Waits, wait_act}
use Rattle.rules.proofs.StepFacts.{Good, step, step_outcome}
use Rattle.rules.proofs.Tells.{EntersTo}
use Rattle.rules.proofs.MoversApart.{Movers, expression_kept}
use Rattle.rules.proofs.BothWays.{went, moved, does_a, good_a, unfinished_a}

finished_kept : (s s' : View) (es : Exprs) → ((m : ℕ) → Node* m es → Same s s' m) → Finished* s es → Finished* s' es
finished_kept s s' none f x = tt
finished_kept s s' (some e es) f x = ((f (id e) (inl (node_id e))).0 ∙ x.0, finished_kept s s' es (λ m k. f m (inr k)) x.1)

-- the state after a's step, and b waiting in it
pub record FirstEnters (units : Arithmetic) {F N : ℕ} {body at : ℕ → Expr} {home : ℕ → ℕ} (laid : Laid F N body at home) (tags : ℕ → Bool)
    (s : State512) (a b : ℕ) : Type 0 where
  pub after : State512
  pub good : Good F body after
  pub first : step units laid tags s a ≡ went after
  pub waits : Waits (view after) (at b)
  pub second : step units laid tags after b ≡ refusal after (pick (tags b) 22 23) b

module _ {units : Arithmetic} {F N : ℕ} {body at : ℕ → Expr} {home : ℕ → ℕ} {laid : Laid F N body at home} (tags : ℕ → Bool) (s : State512)
    (good : Good F body s) {a b g : ℕ} {vs ws : List ℕ} (h : Movers units laid (view s) a b (enters g vs) (enters g ws)) where
  abbrev next : State512
  next = perform N home body s a (enters g vs)

  abbrev call_b : EntersTo (view s) (at b) g
  call_b = h.other.tells

  -- b's expression is as it was
  kept : (m : ℕ) → Node m (call call_b.node g call_b.args) → Same (view s) (view next) m
  kept m k = expression_kept h (view next) (does_a s good h).1 m (subst (Node m) (sym call_b.is) k)

  busy : Busy (view next) call_b.node false
  busy = let k = kept call_b.node (inl refl) in (k.0 ∙ call_b.waits.0, k.1 ∙ call_b.waits.1)

  ready : Finished* (view next) call_b.args
  ready = finished_kept (view s) (view next) call_b.args (λ m k. kept m (inr k)) call_b.ready

  -- and its callee is occupied, by a
  occupied : (view next).occupant g ≡ 0 → ⊥
  occupied z = omega (arith, (does_a s good h).1.occupies, z, h.one.there.0)

  held : act units body (home b) (view next) (at b) ≡ blocked
  held = ap (act units body (home b) (view next)) call_b.is
      ∙ wait_act units body (home b) (view next) call_b.node g call_b.args busy ready occupied

  pub first_enters : FirstEnters units laid tags s a b
  first_enters = record {
    after = next;
    good = good_a s good h;
    first = moved tags s good h.one (unfinished_a s good h);
    waits = (call_b.node, g, call_b.args, call_b.is, busy, ready, occupied);
    second = step_outcome units laid tags next (good_a s good h) b h.other.there (unfinished_a s good h)
        ∙ ap (outcome units F N body at home tags next b) held;
  }
