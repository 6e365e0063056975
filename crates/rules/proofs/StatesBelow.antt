-- from a start on, a function's values and registers are below 2^w: a move writes nothing else, and a start holds nothing else
use Prim.Native.Nat.{ℕ, zero, suc, ◌≤◌}
use mathlib.Core.Bool.{Bool, true, false}
use mathlib.Core.Path.{◌≡◌, refl, subst, sym}
use mathlib.Core.Logic.{◌⊎◌, inl, inr, ⊎_elim}
use mathlib.Core.List.{List, [], ◌∷◌}
use native.Mathlib.Omega.{arith}
use native.Mathlib.Decide.{ℕ_discrete}
use lib.Dec.{eqb}
use lib.ListN.{length, get_or, length-map}
use lib.Pow.{pow_pos}
use Rattle.table.specs.Syntax.{Expr, Exprs, const, param, prim, call, self, cond, bind, bound, none, some, id, Node, Node*, Sub, Sub*}
use Rattle.table.specs.Pick.{Range}
use Rattle.table.specs.Environment.{values}
use Rattle.table.specs.Bytes.{functions, nodes, width}
use Rattle.table.specs.Naming.{owner}
use Rattle.table.specs.Check.{accepted, check_of}
use Rattle.table.specs.Expressions.{body_of, expr_at}
use Rattle.table.specs.Well.{Defines, Scoped, Scoped*, Laid, Below}
use Rattle.table.proofs.SyntaxLaws.{node_id, sub_node}
use Rattle.table.proofs.Theorems.{laid, widths_hold}
use Rattle.list.specs.Tags.{tagged}
use Rattle.rules.specs.Operations.{operate}
use Rattle.rules.specs.Arithmetic.{keep_all, narrow, arithmetic}
use Rattle.rules.specs.State.{State512, Sized, entry, write, register, view, fill, clear, blank, circuit_start}
use Rattle.rules.specs.Step.{Act, stuck, blocked, does, Move, begins, turns, finishes, enters, leaves, restarts, done, all_done}
use Rattle.rules.specs.Step.{branch, act, mine, perform}
use Rattle.rules.specs.Play.{Ask, played}
use Rattle.rules.specs.Circuit.{opening, step_of, plays_of}
use Rattle.rules.specs.Widths.{FitsWidths, StepNarrow, StatesBelow}
use Rattle.rules.proofs.ActCases.{by_pick, by_state}
use Rattle.rules.proofs.AnyState.{by_check}
use Rattle.rules.proofs.Starts.{start_passes}
use Rattle.rules.proofs.Demands.{main_few}
use Rattle.rules.proofs.MetFacts.{map_all}
use Rattle.rules.proofs.Narrow.{narrow_below}
use Rattle.rules.proofs.Performed.{Fair, perform_sized}
use Rattle.rules.proofs.StartFacts.{length_blank, entry_blank, register_blank, start_sized}
use Rattle.rules.proofs.StateLaws.{entry_same, entry_other, clear_mine, clear_other, fill_mine, fill_other}
use Rattle.rules.proofs.StepCases.{step_cases}
use Rattle.rules.proofs.StepFacts.{moved_does}

defines_node : (d : ℕ) (ds : Exprs) → Defines d ds → Node* d ds
defines_node d none p = p
defines_node d (some e es) (inl q) = inl (subst (λ y. Node y e) q (node_id e))
defines_node d (some e es) (inr q) = inr (defines_node d es q)

-- a bound in scope names a node of the expression, if not one of S
module _ (n d : ℕ) where
  abbrev U : Expr
  U = bound n d

  here : (e : Expr) (S : ℕ → Type 0) → Scoped e S → U ≡ e → S d
  here e S x p = subst (λ y. Scoped y S) (sym p) x

  mutual
    bound_inside : (e : Expr) (S : ℕ → Type 0) → Scoped e S → Sub U e → S d ⊎ Node d e
    bound_inside (const m v) S x p = inl (here (const m v) S x p)
    bound_inside (param m i) S x p = inl (here (param m i) S x p)
    bound_inside (prim m op es) S x (inl p) = inl (here (prim m op es) S x p)
    bound_inside (prim m op es) S x (inr p) = ⊎_elim inl (λ k. inr (inr k)) (bound_inside* es S x p)
    bound_inside (call m g es) S x (inl p) = inl (here (call m g es) S x p)
    bound_inside (call m g es) S x (inr p) = ⊎_elim inl (λ k. inr (inr k)) (bound_inside* es S x p)
    bound_inside (self m es) S x (inl p) = inl (here (self m es) S x p)
    bound_inside (self m es) S x (inr p) = ⊎_elim inl (λ k. inr (inr k)) (bound_inside* es S x p)
    bound_inside (cond m a b c) S x (inl p) = inl (here (cond m a b c) S x p)
    bound_inside (cond m a b c) S x (inr (inl p)) = ⊎_elim inl (λ k. inr (inr (inl k))) (bound_inside a S x.0 p)
    bound_inside (cond m a b c) S x (inr (inr (inl p))) = ⊎_elim inl (λ k. inr (inr (inr (inl k)))) (bound_inside b S x.1 p)
    bound_inside (cond m a b c) S x (inr (inr (inr p))) = ⊎_elim inl (λ k. inr (inr (inr (inr k)))) (bound_inside c S x.2 p)
    bound_inside (bind m ds b) S x (inl p) = inl (here (bind m ds b) S x p)
    bound_inside (bind m ds b) S x (inr (inl p)) = ⊎_elim inl (λ k. inr (inr (inl k))) (bound_inside* ds S x.0 p)
    bound_inside (bind m ds b) S x (inr (inr p)) =
        ⊎_elim (⊎_elim (λ q. inr (inr (inl (defines_node d ds q)))) inl) (λ k. inr (inr (inr k)))
        (bound_inside b (λ d. Defines d ds ⊎ S d) x.1 p)
    bound_inside (bound m k) S x p = inl (here (bound m k) S x p)

    bound_inside* : (es : Exprs) (S : ℕ → Type 0) → Scoped* es S → Sub* U es → S d ⊎ Node* d es
    bound_inside* none S x p = absurd p
    bound_inside* (some e es) S x (inl p) = ⊎_elim inl (λ k. inr (inl k)) (bound_inside e S x.0 p)
    bound_inside* (some e es) S x (inr p) = ⊎_elim inl (λ k. inr (inr k)) (bound_inside* es S x.1 p)

-- what a move writes for a node of function h, or for the function that it starts
module _ (t : List ℕ) where
  abbrev MoveBelow : (h : ℕ) → Move → Type 0
  MoveBelow h (begins ns) = Unit {0}
  MoveBelow h (turns m) = Unit {0}
  MoveBelow h (finishes v) = Below (width t h) v
  MoveBelow h (enters g vs) = (i : ℕ) → Below (width t g) (get_or vs i 0)
  MoveBelow h (leaves g v) = Below (width t h) v
  MoveBelow h (restarts f vs) = (i : ℕ) → Below (width t f) (get_or vs i 0)

  abbrev ActBelow : (h : ℕ) → Act → Type 0
  ActBelow h stuck = Unit {0}
  ActBelow h blocked = Unit {0}
  ActBelow h (does m) = MoveBelow h m

  kept_below : (f : ℕ) (vs : List ℕ) (i : ℕ) → Below (width t f) (get_or (keep_all (arithmetic t) f vs) i 0)
  kept_below f vs = map_all (Below (width t f)) (pow_pos (width t f)) (narrow (width t f)) (narrow_below (width t f)) vs

  module _ (F N : ℕ) (check : check_of t ≡ accepted F N) (s : State512) (fits : FitsWidths t s) (h : ℕ) (r : Range (functions t) h) where
    abbrev lay : Laid (functions t) (nodes t) (body_of t) (expr_at t) (owner t)
    lay = laid t F N check

    -- what a node of the body holds
    held : (m : ℕ) → Node m (body_of t h) → Below (width t h) ((view s).value m)
    held m k =
        let i = lay.inside h m r k in
        subst (λ g. Below (width t g) ((view s).value m)) i.0 (fits.value m (i.1, i.2))

    inside : (u : Expr) → Sub u (body_of t h) → (m : ℕ) → Node m u → Below (width t h) ((view s).value m)
    inside u p m k = held m (sub_node u m (body_of t h) p k)

    abbrev P : Act → Type 0
    P = ActBelow h

    act_below : (u : Expr) → Sub u (body_of t h) → P (act (arithmetic t) (body_of t) h (view s) u)
    act_below (const n v) p = by_state P ((view s).status n) _ _ (λ e. (widths_hold t F N check).consts h n v r p) (λ e. tt) tt
    act_below (param n i) p = by_state P ((view s).status n) _ _ (λ e. fits.registers h i r) (λ e. tt) tt
    act_below (bound n d) p = by_state P ((view s).status n) _ _
        (λ e. held d (⊎_elim absurd (λ k. k) (bound_inside n d (body_of t h) (λ d. ⊥) (lay.well.scoped h r) p))) (λ e. tt) tt
    act_below (prim n op es) p = by_state P ((view s).status n) _ _ (λ e. tt)
        (λ e. by_pick P (all_done (view s) es) _ _ (λ e. narrow_below (width t h) (operate op (values (view s).value es))) (λ e. tt)) tt
    act_below (call n g es) p = by_state P ((view s).status n) _ _ (λ e. tt)
        (λ e. by_pick P ((view s).second n) _ _
        (λ e. by_pick P (done (view s) (id (body_of t g))) _ _ (λ e. narrow_below (width t h)
        ((view s).value (id (body_of t g)))) (λ e. tt))
        (λ e. by_pick P (all_done (view s) es) _ _
        (λ e. by_pick P (eqb ((view s).occupant g) 0) _ _ (λ e. kept_below g (values (view s).value es)) (λ e. tt)) (λ e. tt)))
        tt
    act_below (self n es) p = by_state P ((view s).status n) _ _ (λ e. tt)
        (λ e. by_pick P (all_done (view s) es) _ _ (λ e. kept_below h (values (view s).value es)) (λ e. tt)) tt
    act_below (cond n a b c) p =
        let x : Expr = branch ((view s).value (id a)) b c in
        by_state P ((view s).status n) _ _ (λ e. tt)
        (λ e. by_pick P ((view s).second n) _ _
        (λ e. by_pick P (done (view s) (id x)) _ _ (λ e. chosen ((view s).value (id a))) (λ e. tt))
        (λ e. by_pick P (done (view s) (id a)) _ _ (λ e. tt) (λ e. tt)))
        tt
      where
        chosen : (v : ℕ) → Below (width t h) ((view s).value (id (branch v b c)))
        chosen zero = inside (cond n a b c) p (id c) (inr (inr (inr (node_id c))))
        chosen (suc v) = inside (cond n a b c) p (id b) (inr (inr (inl (node_id b))))
    act_below (bind n ds b) p = by_state P ((view s).status n) _ _ (λ e. tt)
        (λ e. by_pick P ((view s).second n) _ _
        (λ e. by_pick P (done (view s) (id b)) _ _ (λ e. inside (bind n ds b) p (id b) (inr (inr (node_id b)))) (λ e. tt))
        (λ e. by_pick P (all_done (view s) ds) _ _ (λ e. tt) (λ e. tt)))
        tt

  -- registers after a function is started with arguments that fit
  filled : (l : List ℕ) → length l ≡ 256 → functions t ≤ 32 → ((f i : ℕ) → Range (functions t) f → Below (width t f) (register l f i))
      → (g : ℕ) (vs : List ℕ) → 1 ≤ g → g ≤ functions t → length vs ≤ 8 → ((i : ℕ) → Below (width t g) (get_or vs i 0))
      → (f i : ℕ) → Range (functions t) f → Below (width t f) (register (fill g vs l) f i)
  filled l size few old g vs a b short x f i q = go (ℕ_discrete f g)
    where
      go : Dec (f ≡ g) → Below (width t f) (register (fill g vs l) f i)
      go (yes e) = subst (λ k. Below (width t k) (register (fill g vs l) k i)) (sym e)
          (subst (Below (width t g)) (sym (fill_mine g vs l i a (omega (arith, b, few)) size short)) (x i))
      go (no e) = subst (Below (width t f)) (sym (fill_other g vs l f i e)) (old f i q)

  -- the state after a move
  module _ (s : State512) (sized : Sized s) (fits : FitsWidths t s) (few : nodes t ≤ 512) (functions_few : functions t ≤ 32)
      (n : ℕ) (r : Range (nodes t) n) where
    written : (v : ℕ) → Below (width t (owner t n)) v → (m : ℕ) → Range (nodes t) m
        → Below (width t (owner t m)) (entry (write s.value n v) 0 m)
    written v x m i = go (ℕ_discrete m n)
      where
        go : Dec (m ≡ n) → Below (width t (owner t m)) (entry (write s.value n v) 0 m)
        go (yes e) = subst (λ k. Below (width t (owner t k)) (entry (write s.value n v) 0 k)) (sym e)
            (subst (Below (width t (owner t n))) (sym (entry_same s.value n v 0 r.0 (omega (arith, r.1, few, sized.valued)))) x)
        go (no e) = subst (Below (width t (owner t m))) (sym (entry_other s.value n m v 0 e)) (fits.value m i)

    cleared : (g m : ℕ) → Range (nodes t) m
        → Below (width t (owner t m)) (entry (clear (mine (nodes t) (owner t) g) 0 s.value) 0 m)
    cleared g m i = go (mine (nodes t) (owner t) g m) refl
      where
        go : (b : Bool) → mine (nodes t) (owner t) g m ≡ b
            → Below (width t (owner t m)) (entry (clear (mine (nodes t) (owner t) g) 0 s.value) 0 m)
        go true e = subst (Below (width t (owner t m)))
            (sym (clear_mine (mine (nodes t) (owner t) g) 0 s.value m e i.0 (omega (arith, i.1, few, sized.valued))))
            (pow_pos (width t (owner t m)))
        go false e = subst (Below (width t (owner t m))) (sym (clear_other (mine (nodes t) (owner t) g) 0 s.value m (λ q. e)))
            (fits.value m i)

    started_with : (g : ℕ) (vs : List ℕ) → 1 ≤ g → g ≤ functions t → length vs ≤ 8 → ((i : ℕ) → Below (width t g) (get_or vs i 0))
        → (f i : ℕ) → Range (functions t) f → Below (width t f) (register (fill g vs s.registers) f i)
    started_with = filled s.registers sized.registered functions_few fits.registers

    perform_below : (m : Move) → Fair (functions t) (nodes t) (owner t) (body_of t) n m → MoveBelow (owner t n) m
        → FitsWidths t (perform (nodes t) (owner t) (body_of t) s n m)
    perform_below (begins ns) f x = record { value = fits.value; registers = fits.registers }
    perform_below (turns k) f x = record { value = fits.value; registers = fits.registers }
    perform_below (finishes v) f x = record { value = written v x; registers = fits.registers }
    perform_below (enters g vs) f x = record { value = cleared g; registers = started_with g vs f.0 f.1 f.2 x }
    perform_below (leaves g v) f x = record { value = written v x; registers = fits.registers }
    perform_below (restarts g vs) f x = record { value = cleared g; registers = started_with g vs f.0 f.1 f.2 x }

pub step_narrow : StepNarrow
step_narrow t tags s sized fits n = by_check t tags (λ f. FitsWidths t (f s n).state) (λ k p. fits)
    (λ F N c. let lay = laid t F N c in
    step_cases (arithmetic t) (functions t) (nodes t) (body_of t) (expr_at t) (owner t) (tagged tags) s n
    (λ r. FitsWidths t r.state) (λ c. fits)
    (λ r e m h. perform_below t s sized fits lay.nodes lay.functions n r m (moved_does (arithmetic t) lay s sized n r m h).0
    (subst (ActBelow t (owner t n)) h
    (act_below t F N c s fits (owner t n) (lay.home_there n r) (expr_at t n) (lay.placed n r)))))

step_sized : (t tags : List ℕ) (s : State512) → Sized s → (n : ℕ) → Sized (step_of t tags s n).state
step_sized t tags s sized n = by_check t tags (λ f. Sized (f s n).state) (λ k p. sized)
    (λ F N c. step_cases (arithmetic t) (functions t) (nodes t) (body_of t) (expr_at t) (owner t) (tagged tags) s n
    (λ r. Sized r.state) (λ c. sized) (λ r e m h. perform_sized (nodes t) (owner t) s sized (body_of t) n m))

plays_below : (t : List ℕ) (s : State512) → Sized s → FitsWidths t s → (asked : List (Ask (List ℕ)))
    → FitsWidths t (played (step_of t) s asked).state
plays_below t s sized fits [] = fits
plays_below t s sized fits (a ∷ rest) = plays_below t (step_of t a.tags s a.node).state (step_sized t a.tags s sized a.node)
    (step_narrow t a.tags s sized fits a.node) rest

-- zeros, and main's registers
start_below : (t args : List ℕ) (F N : ℕ) → check_of t ≡ accepted F N → length args ≤ 8 → FitsWidths t (opening t args)
unfolding circuit_start
start_below t args F N check short = record {
  value = λ n i. none (width t (owner t n)) (entry_blank 512 0 n);
  registers = filled t (blank 256 0) (length_blank 256 0) lay.functions (λ f i r. none (width t f) (register_blank 256 f i))
      (functions t)
      (keep_all (arithmetic t) (functions t) args) lay.some_function (omega arith)
      (omega (arith, short, length-map args ((arithmetic t).keep (functions t)))) (kept_below t (functions t) args);
}
  where
    none : (w : ℕ) {v : ℕ} → v ≡ 0 → Below w v
    none w e = subst (Below w) (sym e) (pow_pos w)

    lay : Laid (functions t) (nodes t) (body_of t) (expr_at t) (owner t)
    lay = laid t F N check

pub states_below : StatesBelow
unfolding plays_of
states_below t tags args s e asked =
    let p = start_passes t tags args s e in
    plays_below t s (subst Sized (sym p.state) (start_sized (functions t) (body_of t) _))
    (subst (FitsWidths t) (sym p.state)
    (start_below t args (functions t) (nodes t) p.check (main_few t (functions t) (nodes t) p.check args p.count))) asked
