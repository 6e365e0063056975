-- a node that takes a step in a sound circuit: what is known of it, of its body, and of its callee where it is a call
use Prim.Native.Nat.{ℕ, ◌≤◌, ◌<◌}
use mathlib.Core.Bool.{true, false, true≢false}
use mathlib.Core.Path.{◌≡◌, sym, ◌∙◌}
use mathlib.Core.Logic.{inl, inr, ⊎_elim}
use mathlib.Core.List.{List}
use native.Mathlib.Omega.{arith}
use Rattle.table.specs.Syntax.{Expr, Exprs, const, param, prim, call, self, cond, bind, bound, id, Node, Node*, Sub}
use Rattle.rules.specs.State.{View}
use Rattle.rules.proofs.LaidFacts.{callee_fn}
use Rattle.rules.proofs.Shape.{Still, Busy, Done*, Live, Opened*, open_moves, busy_moves}
use Rattle.rules.proofs.Frame.{Same}
use Rattle.table.proofs.SyntaxLaws.{node_id, sub_node, every_node, apart_sub}
use Rattle.rules.proofs.Within.{under_way}
use Rattle.rules.proofs.Moves.{Inner}
use Rattle.table.specs.Well.{Apart, CallIn, Fn, Well}
use Rattle.table.proofs.CallPlaces.{call_node, sub_call}
use Rattle.rules.specs.Arithmetic.{Arithmetic}
use Rattle.rules.proofs.Places.{sub_live}
use Rattle.rules.proofs.Invariant.{Active, active?, InnerStep, EnterStep, LeaveStep, AgainStep, Holder, Sound}

-- the body of a node that isn't still is active
pub stepping : {F : ℕ} {body : ℕ → Expr} {s : View} → Sound F body s → (h : ℕ) → Fn F body h → (u : Expr) → Sub u (body h)
    → (Still s (id u) → ⊥) → Active F s h × Live s (body h)
stepping {F} {body} {s} sound h r u p m = ⊎_elim (λ a. (a, under_way s u m (body h) p (sound.opened h r a)))
    (λ a. absurd (m (every_node (Still s) (id u) (body h) (sound.rest h r a) (sub_node u (id u) (body h) p (node_id u)))))
    (active? F s h)

pub stepping_live : {F : ℕ} {body : ℕ → Expr} {s : View} → Sound F body s → (h : ℕ) → Fn F body h → (u : Expr) → Sub u (body h)
    → (Still s (id u) → ⊥) → Live s u
stepping_live {body = body} {s = s} sound h r u p m = sub_live s u m (body h) p (stepping sound h r u p m).1

-- a live call that is busy: in its first phase its arguments are under way, in its second it occupies its callee
pub first_phase : (s : View) (n g : ℕ) (es : Exprs) → Busy s n false → Live s (call n g es) → Opened* s es
first_phase s n g es b (inl l) = absurd (omega (arith, b.0, l.0.0))
first_phase s n g es b (inr (inl l)) = l.1
first_phase s n g es b (inr (inr l)) = absurd (true≢false (sym l.0.1 ∙ b.1))

pub second_phase : (s : View) (n g : ℕ) (es : Exprs) → Busy s n true → Live s (call n g es) → Done* s es × (s.occupant g ≡ n)
second_phase s n g es b (inl l) = absurd (omega (arith, b.0, l.0.0))
second_phase s n g es b (inr (inl l)) = absurd (true≢false (sym b.1 ∙ l.0.1))
second_phase s n g es b (inr (inr l)) = (l.1, l.2)

-- the node of u, in the body of h, takes a step
pub record Acting (F : ℕ) (body : ℕ → Expr) (s : View) (h : ℕ) (u : Expr) : Type 0 where
  pub well : Well F body
  pub sound : Sound F body s
  pub fn : Fn F body h
  pub place : Sub u (body h)
  pub moving : Still s (id u) → ⊥

module _ {F : ℕ} {body : ℕ → Expr} {s : View} {h : ℕ} {u : Expr} (x : Acting F body s h u) where
  pub active : Active F s h
  active = (stepping x.sound h x.fn u x.place x.moving).0

  pub live : Live s (body h)
  live = (stepping x.sound h x.fn u x.place x.moving).1

  pub live_part : Live s u
  live_part = stepping_live x.sound h x.fn u x.place x.moving

  pub apart : Apart (body h)
  apart = x.well.apart h x.fn

  -- no other body has its nodes
  pub elsewhere : (f : ℕ) → Fn F body f → (f ≡ h → ⊥) → (m : ℕ) → Node m (body f) → Node m (body h) → ⊥
  elsewhere f q d m k i = d (x.well.owner f h m q x.fn k i)

module _ {F : ℕ} {body : ℕ → Expr} {s : View} {h n g : ℕ} {es : Exprs} (x : Acting F body s h (call n g es)) where
  pub in_h : CallIn n g (body h)
  in_h = sub_call n g es (body h) x.place

  pub node_h : Node n (body h)
  node_h = call_node n g (body h) in_h

  pub g<h : (1 ≤ g) × (g < h)
  g<h = x.well.below h n g x.fn in_h

  pub fn_g : Fn F body g
  fn_g = callee_fn x.well h n g x.fn in_h

  pub n≢0 : n ≡ 0 → ⊥
  n≢0 = x.well.nonzero h n x.fn node_h

  pub h≢g : h ≡ g → ⊥
  h≢g e = omega (arith, g<h.1, e)

  pub F≢g : F ≡ g → ⊥
  F≢g e = omega (arith, e, g<h.1, x.fn.1)

  pub apart_callee : (m : ℕ) → Node m (body h) → Node m (body g) → ⊥
  apart_callee m a b = h≢g (x.well.owner h g m x.fn fn_g a b)

  pub apart_arguments : Node* n es → ⊥
  apart_arguments = (apart_sub (call n g es) (body h) (apart x) x.place).0

-- a holder stays one while its own entries stay
pub holder_over : (F : ℕ) (body : ℕ → Expr) (s s' : View) (f c : ℕ) → Same s s' c → Holder F body s f c → Holder F body s' f c
holder_over F body s s' f c k o = (o.0, o.1, o.2, o.3, (k.0 ∙ o.4.0, k.1 ∙ o.4.1))

pub inner_moving : (apply : ℕ → List ℕ → ℕ) (s s' : View) (args : ℕ → ℕ) (u : Expr) → Inner apply args s s' u → Still s (id u) → ⊥
inner_moving apply s s' args (const n v) r = open_moves s n r.0.0
inner_moving apply s s' args (param n i) r = open_moves s n r.0.0
inner_moving apply s s' args (prim n op es) (inl r) = open_moves s n r.0.0
inner_moving apply s s' args (prim n op es) (inr r) = busy_moves s n r.0
inner_moving apply s s' args (call n g es) r = open_moves s n r.0.0
inner_moving apply s s' args (self n es) r = open_moves s n r.0.0
inner_moving apply s s' args (cond n a b c) (inl r) = open_moves s n r.0.0
inner_moving apply s s' args (cond n a b c) (inr (inl r)) = busy_moves s n r.0.0
inner_moving apply s s' args (cond n a b c) (inr (inr r)) = busy_moves s n r.0.0
inner_moving apply s s' args (bind n ds b) (inl r) = open_moves s n r.0.0
inner_moving apply s s' args (bind n ds b) (inr (inl r)) = busy_moves s n r.0.0
inner_moving apply s s' args (bind n ds b) (inr (inr r)) = busy_moves s n r.0.0
inner_moving apply s s' args (bound n d) r = open_moves s n r.0.0

-- the node of each of the four kinds of step
module _ {F : ℕ} {body : ℕ → Expr} (well : Well F body) {s : View} (sound : Sound F body s) {h : ℕ} (r : Fn F body h) where
  pub inner_acts : {units : Arithmetic} {s' : View} {u : Expr} → InnerStep units body s s' h u → Acting F body s h u
  inner_acts {units} {s'} {u} st = record {
    well = well;
    sound = sound;
    fn = r;
    place = st.place;
    moving = inner_moving (units.result h) s s' (s.register h) u st.rule;
  }

  pub enter_acts : {units : Arithmetic} {s' : View} {n g : ℕ} {es : Exprs} → EnterStep units body s s' h n g es
      → Acting F body s h (call n g es)
  enter_acts {n = n} st = record { well = well; sound = sound; fn = r; place = st.place; moving = busy_moves s n st.waits.0 }

  pub leave_acts : {units : Arithmetic} {s' : View} {n g : ℕ} {es : Exprs} → LeaveStep units body s s' h n g es
      → Acting F body s h (call n g es)
  leave_acts {n = n} st = record { well = well; sound = sound; fn = r; place = st.place; moving = busy_moves s n st.holds.0 }

  pub again_acts : {units : Arithmetic} {s' : View} {n : ℕ} {es : Exprs} → AgainStep units body s s' h n es → Acting F body s h (self n es)
  again_acts {n = n} st = record { well = well; sound = sound; fn = r; place = st.place; moving = busy_moves s n st.waits }
