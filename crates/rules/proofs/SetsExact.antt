-- sets that are updated as stated are again those of the state, but for the one node that is to be read anew
use Prim.Native.Nat.{ℕ}
use mathlib.Core.Bool.{Bool, false, ◌&&◌, ◌||◌, not}
use mathlib.Core.Path.{◌≡◌, subst, sym, ap, ◌∙◌}
use mathlib.Core.List.{List}
use native.Mathlib.Decide.{ℕ_discrete}
use lib.Dec.{eqb}
use Rattle.table.specs.Pick.{Range}
use Rattle.table.specs.Syntax.{Expr, id}
use Rattle.table.specs.Bytes.{functions, nodes}
use Rattle.table.specs.Naming.{owner, parent}
use Rattle.table.specs.Check.{accepted, check_of}
use Rattle.table.specs.Expressions.{expr_at, body_of}
use Rattle.table.specs.Working.{IsNode}
use Rattle.list.specs.Tags.{check_with}
use Rattle.rules.specs.State.{State512, Sized}
use Rattle.rules.specs.Step.{does, Move, begins, turns, finishes, enters, leaves, restarts, perform, over}
use Rattle.rules.specs.Arithmetic.{arithmetic}
use Rattle.rules.specs.Play.{calls}
use Rattle.rules.specs.Circuit.{act_of}
use Rattle.rules.specs.Runs.{MainDone}
use Rattle.rules.specs.First.{first_of}
use Rattle.rules.specs.Sets.{Sets, sets_of, ready, first_in, Stays, Exact, Opening, Ending, Renewing, holds, Placed, rereads}
use Rattle.rules.specs.Sets.{UpdatedOf}
use Rattle.rules.proofs.StateLaws.{in?}
use Rattle.table.proofs.LowestLaws.{lowest_same}
use Rattle.rules.proofs.FirstBySets.{first_by_sets}
use Rattle.rules.proofs.SetsUpdated.{sets_updated}
use Rattle.rules.proofs.Parents.{parents}
use Rattle.rules.proofs.Demands.{lay}

-- the same move from the same sets w and x, to z and y
module _ (N : ℕ) (body at : ℕ → Expr) (home up : ℕ → ℕ) (w x z y : Sets) (n : ℕ) where
  opening_fixes : (opens : ℕ → Type 0) → ((m : ℕ) → Dec (opens m)) → Opening N x y n opens → Opening N w z n opens
      → (m : ℕ) → Range N m → (m ≡ n → Stays z y m) → Stays w x m → Stays z y m
  opening_fixes opens d u v m q k e = go (ℕ_discrete m n) (d m)
    where
      go : Dec (m ≡ n) → Dec (opens m) → Stays z y m
      go (yes i) j = k i
      go (no i) (yes j) =
          let a = u.opened m q j in
          let b = v.opened m q j in
          (a.0 ∙ sym b.0, a.1 ∙ sym b.1, a.2 ∙ sym b.2)
      go (no i) (no j) =
          let a = u.others m q i j in
          let b = v.others m q i j in
          (a.0 ∙ e.0 ∙ sym b.0, a.1 ∙ e.1 ∙ sym b.1, a.2 ∙ e.2 ∙ sym b.2)

  ending_fixes : Ending N at home up x y n → Ending N at home up w z n
      → (m : ℕ) → Range N m → (m ≡ up n → Stays z y m) → Stays w x m → Stays z y m
  ending_fixes u v m q k e = go (ℕ_discrete m n) (ℕ_discrete m (up n))
    where
      go : Dec (m ≡ n) → Dec (m ≡ up n) → Stays z y m
      go (yes i) j =
          let a = u.own in
          let b = v.own in
          subst (Stays z y) (sym i) (a.0 ∙ sym b.0, a.1 ∙ sym b.1, a.2 ∙ sym b.2)
      go (no i) (yes j) = k j
      go (no i) (no j) =
          let a = u.others m q i j in
          let b = v.others m q i j in (
            u.armed m q i j ∙ (λ l. e.0 l || (eqb (up n) 0 && (e.2 l && calls (at m) (home n)))) ∙ sym (v.armed m q i j),
            a.0 ∙ e.1 ∙ sym b.0,
            a.1 ∙ e.2 ∙ sym b.1,
          )

  renewing_fixes : (g : ℕ) (enter : ℕ → Bool) → Renewing N body at home x y g enter → Renewing N body at home w z g enter
      → (m : ℕ) → Range N m → Stays w x m → Stays z y m
  renewing_fixes g enter u v m q e = (
    u.armed m q ∙ (λ l. eqb m (id (body g)) || (e.0 l && not (eqb (home m) g || (e.2 l && calls (at m) g)))) ∙ sym (v.armed m q),
    u.waiting m q ∙ (λ l. e.1 l && not (enter m || eqb (home m) g)) ∙ sym (v.waiting m q),
    u.inside m q ∙ (λ l. enter m || (e.2 l && not (eqb (home m) g))) ∙ sym (v.inside m q),
  )

  -- .. but at the node that is read anew
  placed_fixes : (a : Move) → Placed N body at home up x y n a → Placed N body at home up w z n a
      → (m : ℕ) → Range N m → (m ≡ rereads up n a → Stays z y m) → Stays w x m → Stays z y m
  placed_fixes (begins ns) u v m q k e = opening_fixes _ (λ m. in? m ns) u v m q k e
  placed_fixes (turns j) u v m q k e = opening_fixes _ (λ m. ℕ_discrete m j) u v m q k e
  placed_fixes (finishes i) u v m q k e = ending_fixes u v m q k e
  placed_fixes (enters g vs) u v m q k e = renewing_fixes g _ u v m q e
  placed_fixes (leaves g i) u v m q k e = ending_fixes u v m q k e
  placed_fixes (restarts f vs) u v m q k e = renewing_fixes f _ u v m q e

  holds_same : (a : Move) (m : ℕ) → x.held m ≡ w.held m → holds at x a m ≡ holds at w a m
  holds_same (begins ns) m e = e
  holds_same (turns j) m e = e
  holds_same (finishes i) m e = e
  holds_same (enters g vs) m e = ap (λ b. b || calls (at m) g) e
  holds_same (leaves g i) m e = ap (λ b. b && not (calls (at m) g)) e
  holds_same (restarts f vs) m e = e

-- over the bytes of a table, whatever the tags and however the state came about
pub sets_move : (t : List ℕ) (F N : ℕ) → check_of t ≡ accepted F N → (s : State512) → Sized s → (n : ℕ) → IsNode t n → (a : Move)
    → act_of t s n ≡ does a → UpdatedOf t (sets_of t s) (sets_of t (perform (nodes t) (owner t) (body_of t) s n a)) n a
sets_move t F N check s sized n i a here = sets_updated (arithmetic t) (lay t F N check) (parents t F N check) s sized n i a here

module _ (t : List ℕ) (F N : ℕ) (check : check_of t ≡ accepted F N) (s : State512) (sized : Sized s) (x : Sets) (exact : Exact t s x)
    (n : ℕ) (i : IsNode t n) (a : Move) (here : act_of t s n ≡ does a) where
  abbrev next : State512
  next = perform (nodes t) (owner t) (body_of t) s n a

  module _ (y : Sets) (u : UpdatedOf t x y n a) where
    after : UpdatedOf t (sets_of t s) (sets_of t next) n a
    after = sets_move t F N check s sized n i a here

    -- updated sets are right but for one node, which is to be read anew
    pub placed_next : (m : ℕ) → Range (nodes t) m → (m ≡ rereads (parent t) n a → Stays (sets_of t next) y m) → Stays (sets_of t next) y m
    placed_next m q k = placed_fixes (nodes t) (body_of t) (expr_at t) (owner t) (parent t) (sets_of t s) x (sets_of t next) y n a u.placed
        after.placed m q k (exact.placed m q)

    pub held_next : (m : ℕ) → Range (nodes t) m → y.held m ≡ (sets_of t next).held m
    held_next m q = u.held m q
        ∙ holds_same (nodes t) (body_of t) (expr_at t) (owner t) (parent t) (sets_of t s) x (sets_of t next) y n a m (exact.held m q)
        ∙ sym (after.held m q)

-- the first possible node, by sets that are kept so
pub exact_first : (t tags : List ℕ) (s : State512) (F N : ℕ) → check_with t tags ≡ accepted F N
    → over 3 (nodes t) s.status ≡ false → over (nodes t) (functions t) s.occupant ≡ false → (MainDone t s → ⊥)
    → (x : Sets) → Exact t s x → first_in x (nodes t) ≡ first_of t tags s
unfolding first_in
exact_first t tags s F N e p q d x k =
    lowest_same (λ m. not (ready x m)) (λ m. not (ready (sets_of t s) m)) (nodes t)
    (λ m r. let a = k.placed m r in
    let h = k.held m r in
    (λ l. not (a.0 l || (a.1 l && not (h l)))))
    ∙ sym (first_by_sets t tags s F N e p q d)
