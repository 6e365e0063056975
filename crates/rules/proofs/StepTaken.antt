-- what a node's act tells of it: its move is fair, the nodes that are able are those that move, and one that is blocked waits
use Prim.Native.Nat.{ℕ, zero, suc}
use mathlib.Core.Bool.{Bool, true, false}
use mathlib.Core.Path.{◌≡◌, refl, subst, sym, ap, ◌∙◌}
use mathlib.Core.Logic.{inl, inr, ⊎_elim}
use mathlib.Core.List.{List}
use native.Mathlib.Omega.{arith}
use lib.Dec.{eqb}
use borrow.Author.Tests.{eq-eqb, ne_eqb, eqb-true, eqb-false}
use Rattle.table.specs.Syntax.{Expr, Exprs, const, param, prim, call, self, cond, bind, bound, id, Node, Sub}
use Rattle.rules.specs.State.{View}
use Rattle.table.specs.Environment.{values}
use Rattle.rules.proofs.Shape.{Still, Busy, Live, open_moves, busy_moves}
use Rattle.rules.specs.Reading.{Chosen}
use Rattle.table.proofs.SyntaxLaws.{node_id, apart_sub, sub_node}
use Rattle.rules.proofs.Moves.{Finished*}
use Rattle.table.proofs.CallPlaces.{sub_call}
use Rattle.table.specs.Pick.{pick, Range}
use Rattle.rules.proofs.Progress.{Able}
use Rattle.rules.specs.Step.{Act, stuck, blocked, does, Move, turns, finishes, enters, restarts, done, all_done, branch}
use Rattle.rules.specs.Step.{by_status, act}
use Rattle.rules.proofs.Performed.{Owns, FairAct}
use Rattle.table.specs.Well.{Fn, Laid}
use Rattle.rules.specs.Arithmetic.{Arithmetic, keep_all}
use Rattle.rules.proofs.LaidFacts.{length_kept, root_node, all_done_finished, finished_all_done, callee_fn}
use Rattle.rules.proofs.ActCases.{by_pick, by_state, live_open}

abbrev pub Moves : Act → Type 0
Moves stuck = ⊥
Moves blocked = ⊥
Moves (does m) = Unit {0}

abbrev pub Blocks : Act → Type 0
Blocks stuck = ⊥
Blocks blocked = Unit {0}
Blocks (does m) = ⊥

-- a node's move is one
pub one_move : (m l : Move) → does m ≡ does l → m ≡ l
one_move m l e = cc

-- a call that waits at an occupied resource, its arguments done
abbrev pub Waits : View → Expr → Type 0
Waits s u = (n g : ℕ) × (es : Exprs) × (u ≡ call n g es) × Busy s n false × Finished* s es × (s.occupant g ≡ 0 → ⊥)

-- the case that a test takes
module _ (P : Act → Type 0) where
  pick_true : (b : Bool) (x y : Act) → b ≡ true → P x → P (pick b x y)
  pick_true b x y e h = subst (λ c. P (pick c x y)) (sym e) h

  pick_false : (b : Bool) (x y : Act) → b ≡ false → P y → P (pick b x y)
  pick_false b x y e h = subst (λ c. P (pick c x y)) (sym e) h

  at_open : (t : ℕ) (o b : Act) → t ≡ 1 → P o → P (by_status t o b)
  at_open t o b e h = pick_true (eqb t 1) o (pick (eqb t 2) b stuck) (eq-eqb t 1 e) h

  at_busy : (t : ℕ) (o b : Act) → t ≡ 2 → P b → P (by_status t o b)
  at_busy t o b e h = subst (λ c. P (by_status c o b)) (sym e) h

-- a call in its first phase, its arguments done: it enters a free callee, and waits at an occupied one
module _ (units : Arithmetic) (body : ℕ → Expr) (h : ℕ) (s : View) (n g : ℕ) (es : Exprs) (waits : Busy s n false)
    (ready : Finished* s es) where
  abbrev args : List ℕ
  args = keep_all units g (values s.value es)

  by_seat : (x : Act) → pick (eqb (s.occupant g) 0) (does (enters g args)) blocked ≡ x → act units body h s (call n g es) ≡ x
  by_seat x e = at_busy Is (s.status n) _ _ waits.0 (pick_false Is (s.second n) _ _ waits.1
      (pick_true Is (all_done s es) _ _ (finished_all_done s es ready) e))
    where
      Is : Act → Type 0
      Is y = y ≡ x

  pub enter_act : s.occupant g ≡ 0 → act units body h s (call n g es) ≡ does (enters g args)
  enter_act z = by_seat (does (enters g args)) (ap (λ b. pick b (does (enters g args)) blocked) (eq-eqb (s.occupant g) 0 z))

  pub wait_act : (s.occupant g ≡ 0 → ⊥) → act units body h s (call n g es) ≡ blocked
  wait_act z = by_seat blocked (ap (λ b. pick b (does (enters g args)) blocked) (ne_eqb (s.occupant g) 0 z))

module _ (units : Arithmetic) {F N : ℕ} {body at : ℕ → Expr} {home : ℕ → ℕ} (laid : Laid F N body at home) where
  module _ (s : View) (h : ℕ) (r : Fn F body h) where
    range : (u : Expr) → Sub u (body h) → (m : ℕ) → Node m u → Range N m
    range u p m k = let i = laid.inside h m r (sub_node u m (body h) p k) in (i.1, i.2)

    own_root : (g : ℕ) → Fn F body g → Owns N home g (id (body g))
    own_root g q = let i = laid.inside g (id (body g)) q (node_id (body g)) in (i.1, i.2, i.0)

    pub act_fair : (u : Expr) → Sub u (body h) → FairAct F N home body (id u) (act units body h s u)
    act_fair (const n v) p = by_state (FairAct F N home body n) (s.status n) _ _ (λ o. tt) (λ b. tt) tt
    act_fair (param n i) p = by_state (FairAct F N home body n) (s.status n) _ _ (λ o. tt) (λ b. tt) tt
    act_fair (bound n d) p = by_state (FairAct F N home body n) (s.status n) _ _ (λ o. tt) (λ b. tt) tt
    act_fair (prim n op es) p = by_state (FairAct F N home body n) (s.status n) _ _
        (λ o. (
          λ m i. range (prim n op es) p m (inr (root_node m es i)),
          λ i. (apart_sub (prim n op es) (body h) (laid.well.apart h r) p).0 (root_node n es i),
        ))
        (λ b. by_pick (FairAct F N home body n) (all_done s es) _ _ (λ e. tt) (λ e. tt)) tt
    act_fair (call n g es) p = by_state (FairAct F N home body n) (s.status n) _ _
        (λ o. (
          λ m i. range (call n g es) p m (inr (root_node m es i)),
          λ i. (apart_sub (call n g es) (body h) (laid.well.apart h r) p).0 (root_node n es i),
        ))
        (λ b. by_pick (FairAct F N home body n) (s.second n) _ _
        (λ e. by_pick (FairAct F N home body n) (done s (id (body g))) _ _ (λ e. fn_g) (λ e. tt))
        (λ e. by_pick (FairAct F N home body n) (all_done s es) _ _
        (λ e. by_pick (FairAct F N home body n) (eqb (s.occupant g) 0) _ _
        (λ e. (
          fn_g.0,
          fn_g.1,
          omega (arith, length_kept units g s es, laid.few h (call n g es) r p),
          own_root g fn_g,
          elsewhere,
        )) (λ e. tt))
        (λ e. tt)))
        tt
      where
        fn_g : Fn F body g
        fn_g = callee_fn laid.well h n g r (sub_call n g es (body h) p)

        elsewhere : Owns N home g n → ⊥
        elsewhere o = omega (
          arith,
          o.2,
          (laid.inside h n r (sub_node (call n g es) n (body h) p (inl refl))).0,
          (laid.well.below h n g r (sub_call n g es (body h) p)).1,
        )
    act_fair (self n es) p = by_state (FairAct F N home body n) (s.status n) _ _
        (λ o. (
          λ m i. range (self n es) p m (inr (root_node m es i)),
          λ i. (apart_sub (self n es) (body h) (laid.well.apart h r) p).0 (root_node n es i),
        ))
        (λ b. by_pick (FairAct F N home body n) (all_done s es) _ _
        (λ e. (r.0, r.1, omega (arith, length_kept units h s es, laid.few h (self n es) r p), own_root h r)) (λ e. tt)) tt
    act_fair (cond n a b c) p = by_state (FairAct F N home body n) (s.status n) _ _
        (λ o. (
          λ m i. ⊎_elim (λ e. range (cond n a b c) p m (inr (inl (subst (λ y. Node y a) (sym e) (node_id a))))) absurd i,
          λ i. ⊎_elim (λ e. (apart_sub (cond n a b c) (body h) (laid.well.apart h r) p).0
              (subst (λ y. Node y a) (sym e) (node_id a)))
              absurd i,
        ))
        (λ t. by_pick (FairAct F N home body n) (s.second n) _ _
        (λ e. by_pick (FairAct F N home body n) (done s (id (branch (s.value (id a)) b c))) _ _ (λ e. tt) (λ e. tt))
        (λ e. by_pick (FairAct F N home body n) (done s (id a)) _ _ (λ e. chosen (s.value (id a))) (λ e. tt)))
        tt
      where
        chosen : (v : ℕ) → Range N (id (branch v b c))
        chosen zero = range (cond n a b c) p (id c) (inr (inr (inr (node_id c))))
        chosen (suc v) = range (cond n a b c) p (id b) (inr (inr (inl (node_id b))))
    act_fair (bind n ds b) p = by_state (FairAct F N home body n) (s.status n) _ _
        (λ o. (
          λ m i. range (bind n ds b) p m (inr (inl (root_node m ds i))),
          λ i. (apart_sub (bind n ds b) (body h) (laid.well.apart h r) p).0 (root_node n ds i),
        ))
        (λ t. by_pick (FairAct F N home body n) (s.second n) _ _
        (λ e. by_pick (FairAct F N home body n) (done s (id b)) _ _ (λ e. tt) (λ e. tt))
        (λ e. by_pick (FairAct F N home body n) (all_done s ds) _ _ (λ e. range (bind n ds b) p (id b) (inr (inr (node_id b))))
        (λ e. tt)))
        tt

    -- a node that has a step in the abstract circuit moves
    pub able_moves : (u : Expr) → Able body s u → Moves (act units body h s u)
    able_moves (const n v) o = at_open Moves (s.status n) _ _ o.0 tt
    able_moves (param n i) o = at_open Moves (s.status n) _ _ o.0 tt
    able_moves (bound n d) o = at_open Moves (s.status n) _ _ o.0 tt
    able_moves (prim n op es) (inl o) = at_open Moves (s.status n) _ _ o.0 tt
    able_moves (prim n op es) (inr b) = at_busy Moves (s.status n) _ _ b.0
        (pick_true Moves (all_done s es) _ _ (finished_all_done s es b.1) tt)
    able_moves (call n g es) (inl o) = at_open Moves (s.status n) _ _ o.0 tt
    able_moves (call n g es) (inr (inl b)) = subst Moves (sym (enter_act units body h s n g es b.0 b.1 b.2)) tt
    able_moves (call n g es) (inr (inr b)) = at_busy Moves (s.status n) _ _ b.0.0 (pick_true Moves (s.second n) _ _ b.0.1
        (pick_true Moves (done s (id (body g))) _ _ (eq-eqb (s.status (id (body g))) 3 b.1) tt))
    able_moves (self n es) (inl o) = at_open Moves (s.status n) _ _ o.0 tt
    able_moves (self n es) (inr b) = at_busy Moves (s.status n) _ _ b.0
        (pick_true Moves (all_done s es) _ _ (finished_all_done s es b.1) tt)
    able_moves (cond n a b c) (inl o) = at_open Moves (s.status n) _ _ o.0 tt
    able_moves (cond n a b c) (inr (inl x)) = at_busy Moves (s.status n) _ _ x.0.0 (pick_false Moves (s.second n) _ _ x.0.1
        (pick_true Moves (done s (id a)) _ _ (eq-eqb (s.status (id a)) 3 x.1) tt))
    able_moves (cond n a b c) (inr (inr x)) = at_busy Moves (s.status n) _ _ x.0.0 (pick_true Moves (s.second n) _ _ x.0.1
        (pick_true Moves (done s (id (branch (s.value (id a)) b c))) _ _ (chosen (s.value (id a)) x.1) tt))
      where
        chosen : (v : ℕ) → Chosen (s.status (id b) ≡ 3) (s.status (id c) ≡ 3) v → done s (id (branch v b c)) ≡ true
        chosen zero e = eq-eqb (s.status (id c)) 3 e
        chosen (suc v) e = eq-eqb (s.status (id b)) 3 e
    able_moves (bind n ds b) (inl o) = at_open Moves (s.status n) _ _ o.0 tt
    able_moves (bind n ds b) (inr (inl x)) = at_busy Moves (s.status n) _ _ x.0.0 (pick_false Moves (s.second n) _ _ x.0.1
        (pick_true Moves (all_done s ds) _ _ (finished_all_done s ds x.1) tt))
    able_moves (bind n ds b) (inr (inr x)) = at_busy Moves (s.status n) _ _ x.0.0 (pick_true Moves (s.second n) _ _ x.0.1
        (pick_true Moves (done s (id b)) _ _ (eq-eqb (s.status (id b)) 3 x.1) tt))

    -- a node that moves is open or busy
    not_still : (n t : ℕ) (o b : Act) → s.status n ≡ t → Moves (by_status t o b) → Still s n → ⊥
    not_still n t o b e = by_state (λ x. Moves x → Still s n → ⊥) t o b (λ i m. open_moves s n (e ∙ i))
        (λ i m. busy_moves s n (e ∙ i)) absurd

    pub moves_moving : (u : Expr) → Moves (act units body h s u) → Still s (id u) → ⊥
    moves_moving (const n v) = not_still n (s.status n) _ _ refl
    moves_moving (param n i) = not_still n (s.status n) _ _ refl
    moves_moving (bound n d) = not_still n (s.status n) _ _ refl
    moves_moving (prim n op es) = not_still n (s.status n) _ _ refl
    moves_moving (call n g es) = not_still n (s.status n) _ _ refl
    moves_moving (self n es) = not_still n (s.status n) _ _ refl
    moves_moving (cond n a b c) = not_still n (s.status n) _ _ refl
    moves_moving (bind n ds b) = not_still n (s.status n) _ _ refl

    -- and has a step in the abstract circuit, where its expression is under way
    moving : (u : Expr) (t : ℕ) (o b : Act) → (t ≡ 1 → Able body s u) → (t ≡ 2 → Moves b → Able body s u) → Moves (by_status t o b)
        → Able body s u
    moving u t o b f g = by_state (λ x. Moves x → Able body s u) t o b (λ e k. f e) g absurd

    tested : (u : Expr) (b : Bool) (x : Act) → (b ≡ true → Moves x → Able body s u) → Moves (pick b x stuck) → Able body s u
    tested u b x f = by_pick (λ y. Moves y → Able body s u) b x stuck f (λ e. absurd)

    pub moves_able : (u : Expr) → Live s u → Moves (act units body h s u) → Able body s u
    moves_able (const n v) l = moving (const n v) (s.status n) _ _ (live_open s (const n v) l) (λ e. absurd)
    moves_able (param n i) l = moving (param n i) (s.status n) _ _ (live_open s (param n i) l) (λ e. absurd)
    moves_able (bound n d) l = moving (bound n d) (s.status n) _ _ (live_open s (bound n d) l) (λ e. absurd)
    moves_able (prim n op es) l = moving (prim n op es) (s.status n) _ _ (λ o. inl (live_open s (prim n op es) l o))
        (λ b. tested (prim n op es) (all_done s es) _ (λ e k. inr (b, all_done_finished s es e)))
    moves_able (self n es) l = moving (self n es) (s.status n) _ _ (λ o. inl (live_open s (self n es) l o))
        (λ b. tested (self n es) (all_done s es) _ (λ e k. inr (b, all_done_finished s es e)))
    moves_able (call n g es) l = moving (call n g es) (s.status n) _ _ (λ o. inl (live_open s (call n g es) l o))
        (λ b. by_pick (λ x. Moves x → Able body s (call n g es)) (s.second n) _ _
        (λ w. tested (call n g es) (done s (id (body g))) _ (λ e k. inr (inr ((b, w), eqb-true (s.status (id (body g))) 3 e))))
        (λ w. tested (call n g es) (all_done s es) _ (λ f. by_pick (λ x. Moves x → Able body s (call n g es)) (eqb (s.occupant g) 0) _ _
        (λ e k. inr (inl ((b, w), all_done_finished s es f, eqb-true (s.occupant g) 0 e))) (λ e. absurd))))
    moves_able (cond n x y z) l = moving (cond n x y z) (s.status n) _ _ (λ o. inl (live_open s (cond n x y z) l o))
        (λ b. by_pick (λ k. Moves k → Able body s (cond n x y z)) (s.second n) _ _
        (λ w. tested (cond n x y z) (done s (id (branch (s.value (id x)) y z))) _ (λ e k. inr (inr ((b, w), over (s.value (id x)) e))))
        (λ w. tested (cond n x y z) (done s (id x)) _ (λ e k. inr (inl ((b, w), eqb-true (s.status (id x)) 3 e)))))
      where
        over : (v : ℕ) → done s (id (branch v y z)) ≡ true → Chosen (s.status (id y) ≡ 3) (s.status (id z) ≡ 3) v
        over zero e = eqb-true (s.status (id z)) 3 e
        over (suc v) e = eqb-true (s.status (id y)) 3 e
    moves_able (bind n ds b) l = moving (bind n ds b) (s.status n) _ _ (λ o. inl (live_open s (bind n ds b) l o))
        (λ t. by_pick (λ k. Moves k → Able body s (bind n ds b)) (s.second n) _ _
        (λ w. tested (bind n ds b) (done s (id b)) _ (λ e k. inr (inr ((t, w), eqb-true (s.status (id b)) 3 e))))
        (λ w. tested (bind n ds b) (all_done s ds) _ (λ e k. inr (inl ((t, w), all_done_finished s ds e)))))

    -- a node is blocked only so
    free : (n : ℕ) (u : Expr) (t : ℕ) (o b : Act) → (Blocks o → ⊥) → (Blocks b → ⊥) → Blocks (by_status t o b) → Waits s u
    free n u t o b f g = by_state (λ x. Blocks x → Waits s u) t o b (λ e k. absurd (f k)) (λ e k. absurd (g k)) absurd

    open_test : (b : Bool) (m : Move) → Blocks (pick b (does m) stuck) → ⊥
    open_test true m k = k
    open_test false m k = k

    two_tests : (b c d : Bool) (m l : Move) → Blocks (pick b (pick c (does m) stuck) (pick d (does l) stuck)) → ⊥
    two_tests true c d m l k = open_test c m k
    two_tests false c d m l k = open_test d l k

    pub blocked_waits : (u : Expr) → Blocks (act units body h s u) → Waits s u
    blocked_waits (const n v) = free n (const n v) (s.status n) _ _ (λ z. z) (λ z. z)
    blocked_waits (param n i) = free n (param n i) (s.status n) _ _ (λ z. z) (λ z. z)
    blocked_waits (bound n d) = free n (bound n d) (s.status n) _ _ (λ z. z) (λ z. z)
    blocked_waits (prim n op es) = free n (prim n op es) (s.status n) _ _ (λ z. z)
        (open_test (all_done s es) (finishes (units.result h op (values s.value es))))
    blocked_waits (self n es) = free n (self n es) (s.status n) _ _ (λ z. z)
        (open_test (all_done s es) (restarts h (keep_all units h (values s.value es))))
    blocked_waits (cond n a b c) =
        let r : Expr = branch (s.value (id a)) b c in
        free n (cond n a b c) (s.status n) _ _ (λ z. z) (two_tests (s.second n) (done s (id r)) (done s (id a))
        (finishes (s.value (id r))) (turns (id r)))
    blocked_waits (bind n ds b) = free n (bind n ds b) (s.status n) _ _ (λ z. z)
        (two_tests (s.second n) (done s (id b)) (all_done s ds) (finishes (s.value (id b))) (turns (id b)))
    blocked_waits (call n g es) = by_state (λ x. Blocks x → Waits s (call n g es)) (s.status n) _ _ (λ e. absurd)
        (λ t. by_pick (λ x. Blocks x → Waits s (call n g es)) (s.second n) _ _
        (λ w k. absurd (open_test (done s (id (body g))) _ k))
        (λ w. by_pick (λ x. Blocks x → Waits s (call n g es)) (all_done s es) _ _
        (λ f. by_pick (λ x. Blocks x → Waits s (call n g es)) (eqb (s.occupant g) 0) _ _ (λ e. absurd)
        (λ e k. (n, g, es, refl, (t, w), all_done_finished s es f, eqb-false (s.occupant g) 0 e)))
        (λ e. absurd)))
        absurd
