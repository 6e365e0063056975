-- what a move tells of its node, in any state: which children open; what a call enters or leaves, what a self call restarts
use Prim.Native.Nat.{ℕ, zero, suc}
use mathlib.Core.Bool.{true, false}
use mathlib.Core.Path.{◌≡◌, refl}
use mathlib.Core.Logic.{inl, inr, ⊎_elim}
use lib.Dec.{eqb}
use borrow.Author.Tests.{eqb-true}
use Rattle.table.specs.Syntax.{Expr, Exprs, const, param, prim, call, self, cond, bind, bound, id}
use Rattle.rules.specs.Arithmetic.{Arithmetic}
use Rattle.rules.specs.State.{View, In}
use Rattle.rules.specs.Step.{Act, stuck, blocked, does, Move, begins, turns, finishes, enters, leaves, restarts, done, all_done}
use Rattle.rules.specs.Step.{branch, act}
use Rattle.rules.proofs.ActCases.{by_pick, by_state}
use Rattle.rules.proofs.LaidFacts.{all_done_finished}
use Rattle.rules.proofs.Moves.{Finished*}
use Rattle.rules.proofs.Shape.{Busy}
use Rattle.rules.proofs.SortSame.{Child}

-- u is a call of g, which is free, with its arguments done
pub record EntersTo (s : View) (u : Expr) (g : ℕ) : Type 0 where
  pub node : ℕ
  pub args : Exprs
  pub is : u ≡ call node g args
  pub waits : Busy s node false
  pub ready : Finished* s args
  pub free : s.occupant g ≡ 0

-- u is a call of g in its second phase, and the root of g is done
pub record LeavesFrom (body : ℕ → Expr) (s : View) (u : Expr) (g : ℕ) : Type 0 where
  pub node : ℕ
  pub args : Exprs
  pub is : u ≡ call node g args
  pub holds : Busy s node true
  pub over : s.status (id (body g)) ≡ 3

-- u is a self call with its arguments done
pub record Restarts (s : View) (u : Expr) : Type 0 where
  pub node : ℕ
  pub args : Exprs
  pub is : u ≡ self node args
  pub waits : s.status node ≡ 2
  pub ready : Finished* s args

module _ (body : ℕ → Expr) (h : ℕ) (s : View) where
  abbrev pub Tells : Expr → Move → Type 0
  Tells u (begins ns) = (s.status (id u) ≡ 1) × ((m : ℕ) → In m ns → Child m u)
  Tells u (turns k) = Child k u
  Tells u (finishes v) = Unit {0}
  Tells u (enters g vs) = EntersTo s u g
  Tells u (leaves g v) = LeavesFrom body s u g
  Tells u (restarts f vs) = (f ≡ h) × Restarts s u

  abbrev pub TellsAct : Expr → Act → Type 0
  TellsAct u stuck = Unit {0}
  TellsAct u blocked = Unit {0}
  TellsAct u (does m) = Tells u m

module _ (units : Arithmetic) (body : ℕ → Expr) (h : ℕ) (s : View) where
  pub act_tells : (u : Expr) → TellsAct body h s u (act units body h s u)
  act_tells (const n v) = by_state (TellsAct body h s (const n v)) (s.status n) _ _ (λ o. tt) (λ b. tt) tt
  act_tells (param n i) = by_state (TellsAct body h s (param n i)) (s.status n) _ _ (λ o. tt) (λ b. tt) tt
  act_tells (bound n d) = by_state (TellsAct body h s (bound n d)) (s.status n) _ _ (λ o. tt) (λ b. tt) tt
  act_tells (prim n op es) = by_state (TellsAct body h s (prim n op es)) (s.status n) _ _ (λ o. (o, λ m i. i))
      (λ b. by_pick (TellsAct body h s (prim n op es)) (all_done s es) _ _ (λ e. tt) (λ e. tt)) tt
  act_tells (self n es) = by_state (TellsAct body h s (self n es)) (s.status n) _ _ (λ o. (o, λ m i. i))
      (λ b. by_pick (TellsAct body h s (self n es)) (all_done s es) _ _
      (λ e. (refl, record { node = n; args = es; is = refl; waits = b; ready = all_done_finished s es e })) (λ e. tt)) tt
  act_tells (call n g es) = by_state (TellsAct body h s (call n g es)) (s.status n) _ _ (λ o. (o, λ m i. i))
      (λ b. by_pick (TellsAct body h s (call n g es)) (s.second n) _ _
      (λ w. by_pick (TellsAct body h s (call n g es)) (done s (id (body g))) _ _
      (λ e. record { node = n; args = es; is = refl; holds = (b, w); over = eqb-true (s.status (id (body g))) 3 e }) (λ e. tt))
      (λ w. by_pick (TellsAct body h s (call n g es)) (all_done s es) _ _
      (λ f. by_pick (TellsAct body h s (call n g es)) (eqb (s.occupant g) 0) _ _ (λ e. record {
        node = n;
        args = es;
        is = refl;
        waits = (b, w);
        ready = all_done_finished s es f;
        free = eqb-true (s.occupant g) 0 e;
      }) (λ e. tt)) (λ e. tt)))
      tt
  act_tells (cond n x y z) = by_state (TellsAct body h s (cond n x y z)) (s.status n) _ _ (λ o. (o, λ m i. ⊎_elim (λ e. inl e) absurd i))
      (λ b. by_pick (TellsAct body h s (cond n x y z)) (s.second n) _ _
      (λ w. by_pick (TellsAct body h s (cond n x y z)) (done s (id (branch (s.value (id x)) y z))) _ _ (λ e. tt) (λ e. tt))
      (λ w. by_pick (TellsAct body h s (cond n x y z)) (done s (id x)) _ _ (λ e. chosen (s.value (id x))) (λ e. tt)))
      tt
    where
      chosen : (v : ℕ) → Child (id (branch v y z)) (cond n x y z)
      chosen zero = inr (inr refl)
      chosen (suc v) = inr (inl refl)
  act_tells (bind n ds b) = by_state (TellsAct body h s (bind n ds b)) (s.status n) _ _ (λ o. (o, λ m i. inl i))
      (λ k. by_pick (TellsAct body h s (bind n ds b)) (s.second n) _ _
      (λ w. by_pick (TellsAct body h s (bind n ds b)) (done s (id b)) _ _ (λ e. tt) (λ e. tt))
      (λ w. by_pick (TellsAct body h s (bind n ds b)) (all_done s ds) _ _ (λ e. inr refl) (λ e. tt)))
      tt
