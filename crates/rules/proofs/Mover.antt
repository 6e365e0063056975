-- a node that has a move, in a sound state: where it stands, and what its move says of the functions that it alters
use Prim.Native.Nat.{ℕ}
use mathlib.Core.Path.{◌≡◌, refl, subst, sym, ap, ◌∙◌}
use mathlib.Core.Logic.{◌⊎◌, inl, inr, ⊎_elim}
use mathlib.Core.List.{List}
use Rattle.table.specs.Syntax.{Expr, Exprs, call, id, Every, Node}
use Rattle.table.specs.Pick.{Range}
use Rattle.table.specs.Well.{Fn, Laid}
use Rattle.table.proofs.SyntaxLaws.{node_id, sub_node, every_node}
use Rattle.rules.specs.Arithmetic.{Arithmetic}
use Rattle.rules.specs.State.{View}
use Rattle.rules.specs.Step.{does, Move, begins, turns, finishes, enters, leaves, restarts, act}
use Rattle.rules.proofs.LaidFacts.{own_node}
use Rattle.rules.proofs.Shape.{Still}
use Rattle.rules.proofs.Moves.{finished}
use Rattle.rules.proofs.Invariant.{Sound}
use Rattle.rules.proofs.Acting.{Acting, live_part, fn_g, F≢g, n≢0, second_phase}
use Rattle.rules.proofs.Progress.{Able}
use Rattle.rules.proofs.SortSame.{child_inside}
use Rattle.rules.proofs.StepTaken.{Moves, moves_moving, moves_able}
use Rattle.rules.proofs.Tells.{EntersTo, LeavesFrom, Restarts, Tells, TellsAct, act_tells}
use Rattle.rules.proofs.Touches.{Renews, Reseats, Marks}

-- the move x enters f, which is free and at rest
pub record Entering (body : ℕ → Expr) (s : View) (x : Move) (f : ℕ) : Type 0 where
  pub arguments : List ℕ
  pub move : x ≡ enters f arguments
  pub free : s.occupant f ≡ 0
  pub still : Every (Still s) (body f)

-- node n holds f, whose body is at rest
pub record Leaving (F : ℕ) (body : ℕ → Expr) (s : View) (n f : ℕ) : Type 0 where
  pub fn : Fn F body f
  pub holder : s.occupant f ≡ n
  pub nonzero : n ≡ 0 → ⊥
  pub still : Every (Still s) (body f)

-- node n has the move x
pub record Mover (units : Arithmetic) {F N : ℕ} {body at : ℕ → Expr} {home : ℕ → ℕ} (laid : Laid F N body at home) (s : View) (n : ℕ)
    (x : Move) : Type 0 where
  pub there : Range N n
  pub moves : act units body (home n) s (at n) ≡ does x
  pub acting : Acting F body s (home n) (at n)
  pub able : Able body s (at n)
  pub tells : Tells body (home n) s (at n) x

pub mover : {units : Arithmetic} {F N : ℕ} {body at : ℕ → Expr} {home : ℕ → ℕ} {laid : Laid F N body at home} {s : View} {n : ℕ} {x : Move}
    → Sound F body s → Range N n → act units body (home n) s (at n) ≡ does x → Mover units laid s n x
mover {units} {F} {N} {body} {at} {home} {laid} {s} {n} {x} sound there moves = record {
  there = there;
  moves = moves;
  acting = acting;
  able = moves_able units laid s (home n) acting.fn (at n) (live_part acting) (subst Moves (sym moves) tt);
  tells = subst (TellsAct body (home n) s (at n)) moves (act_tells units body (home n) s (at n));
}
  where
    acting : Acting F body s (home n) (at n)
    acting = record {
      well = laid.well;
      sound = sound;
      fn = laid.home_there n there;
      place = laid.placed n there;
      moving = moves_moving units laid s (home n) (laid.home_there n there) (at n) (subst Moves (sym moves) tt);
    }

module _ {units : Arithmetic} {F N : ℕ} {body at : ℕ → Expr} {home : ℕ → ℕ} {laid : Laid F N body at home} {s : View} {n : ℕ} {x : Move}
    (p : Mover units laid s n x) where
  pub number : id (at n) ≡ n
  number = laid.number n p.there

  pub moving : Still s n → ⊥
  moving k = p.acting.moving (subst (Still s) (sym number) k)

  pub node_at_lem : Node n (at n)
  node_at_lem = subst (λ m. Node m (at n)) number (node_id (at n))

  pub at_home : (m : ℕ) → Node m (at n) → home m ≡ home n
  at_home m k = (laid.inside (home n) m p.acting.fn (sub_node (at n) m (body (home n)) p.acting.place k)).0

  -- a body at rest isn't its own
  pub awake : (f : ℕ) → Every (Still s) (body f) → home n ≡ f → ⊥
  awake f h e = moving (every_node (Still s) n (body f) h (own_node laid f n p.there e))

  -- the nodes that it marks are of its expression
  pub marked : (m : ℕ) → Marks n x m → Node m (at n)
  marked m = go x p.tells
    where
      itself : m ≡ n → Node m (at n)
      itself e = subst (λ y. Node y (at n)) (sym e) node_at_lem

      go : (y : Move) → Tells body (home n) s (at n) y → Marks n y m → Node m (at n)
      go (begins ns) d (inl e) = itself e
      go (begins ns) d (inr i) = child_inside m (at n) (d.1 m i)
      go (turns k) d (inl e) = itself e
      go (turns k) d (inr e) = subst (λ y. Node y (at n)) (sym e) (child_inside k (at n) d)
      go (finishes v) d e = itself e
      go (enters g vs) d e = itself e
      go (leaves g v) d e = itself e
      go (restarts f vs) d e = absurd e

  -- where it is a call
  caller : {c g : ℕ} {es : Exprs} → at n ≡ call c g es → Acting F body s (home n) (call c g es)
  caller e = subst (Acting F body s (home n)) e p.acting

  pub leaving : (g : ℕ) → LeavesFrom body s (at n) g → Leaving F body s n g
  leaving g d =
      let y = caller d.is in
      let same : d.node ≡ n = sym (ap id d.is) ∙ number in
      let holds = (second_phase s d.node g d.args d.holds (live_part y)).1 in
      record {
        fn = fn_g y;
        holder = holds ∙ same;
        nonzero = λ z. n≢0 y (same ∙ z);
        still = (finished s (body g) (p.acting.sound.opened g (fn_g y) (inr (λ z. n≢0 y (sym holds ∙ z)))) d.over).1;
      }

  entering : (g : ℕ) (vs : List ℕ) → x ≡ enters g vs → EntersTo s (at n) g → Entering body s x g
  entering g vs e d =
      let y = caller d.is in
      record {
        arguments = vs;
        move = e;
        free = d.free;
        still = p.acting.sound.rest g (fn_g y) (⊎_elim (λ z. F≢g y (sym z)) (λ z. z d.free));
      }

  -- a function that it makes new is entered or restarted, one whose occupant changes is entered or left
  pub renewing : (f : ℕ) → Renews x f → Entering body s x f ⊎ ((home n ≡ f) × Restarts s (at n))
  renewing f = go x refl p.tells
    where
      go : (y : Move) → x ≡ y → Tells body (home n) s (at n) y → Renews y f → Entering body s x f ⊎ ((home n ≡ f) × Restarts s (at n))
      go (begins ns) e d k = absurd k
      go (turns m) e d k = absurd k
      go (finishes v) e d k = absurd k
      go (enters g vs) e d k = inl (subst (Entering body s x) (sym k) (entering g vs e d))
      go (leaves g v) e d k = absurd k
      go (restarts g vs) e d k = inr (sym d.0 ∙ sym k, d.1)

  pub reseating : (f : ℕ) → Reseats x f → Entering body s x f ⊎ Leaving F body s n f
  reseating f = go x refl p.tells
    where
      go : (y : Move) → x ≡ y → Tells body (home n) s (at n) y → Reseats y f → Entering body s x f ⊎ Leaving F body s n f
      go (begins ns) e d k = absurd k
      go (turns m) e d k = absurd k
      go (finishes v) e d k = absurd k
      go (enters g vs) e d k = inl (subst (Entering body s x) (sym k) (entering g vs e d))
      go (leaves g v) e d k = inr (subst (Leaving F body s n) (sym k) (leaving g d))
      go (restarts g vs) e d k = absurd k
