-- the first possible node is read off the sets, in any state that stands
use Prim.Native.Nat.{ℕ}
use mathlib.Core.Bool.{Bool, true, false, ◌&&◌, ◌||◌, not, true≢false}
use mathlib.Core.Path.{◌≡◌, refl, sym, ap, ◌∙◌}
use mathlib.Core.List.{List}
use lib.Dec.{T, eqb}
use borrow.Author.Tests.{ne_eqb}
use Rattle.table.specs.Pick.{pick}
use Rattle.table.specs.Syntax.{Expr, const, param, prim, call, self, cond, bind, bound, id}
use Rattle.table.specs.Bytes.{functions, nodes}
use Rattle.table.specs.Naming.{owner}
use Rattle.table.specs.Check.{accepted, check_of}
use Rattle.table.specs.Expressions.{expr_at, body_of}
use Rattle.table.specs.Working.{IsNode}
use Rattle.table.proofs.Passed.{passes}
use Rattle.rules.specs.Arithmetic.{Arithmetic}
use Rattle.list.specs.Tags.{tagged, check_with}
use Rattle.rules.specs.State.{State512, View, view}
use Rattle.rules.specs.Step.{Act, stuck, blocked, does, Move, enters, done, all_done}
use Rattle.rules.specs.Step.{taken, answered, branch, act, over, perform}
use Rattle.rules.specs.Arithmetic.{arithmetic}
use Rattle.rules.specs.Circuit.{act_of, step_of}
use Rattle.rules.specs.Runs.{standing, MainDone}
use Rattle.rules.specs.First.{is_taken, first_of}
use Rattle.rules.specs.Sets.{goes, sort, barred_by, sets_of, ready, first_in}
use Rattle.rules.proofs.ActCases.{by_pick, by_state}
use Rattle.rules.proofs.StepCases.{Cause, no_node, bad_status, bad_occupant, main_done, no_move, occupied, step_cases}
use Rattle.rules.proofs.Starts.{after_both}
use Rattle.rules.proofs.Demands.{step_same}
use Rattle.table.proofs.LowestLaws.{lowest_same}

module _ (units : Arithmetic) (body : ℕ → Expr) (h : ℕ) (s : View) where
  -- its sort and whether its callee is occupied say so
  abbrev Told : Bool → Act → Type 0
  Told b a = goes a ≡ (eqb (sort a) 2 || (eqb (sort a) 1 && not b))

  test : (b c : Bool) (m : Move) → sort (does m) ≡ 2 → Told b (pick c (does m) stuck)
  test b true m e = ap (λ k. eqb k 2 || (eqb k 1 && not b)) (sym e)
  test b false m e = refl

  pub sort_goes : (u : Expr) → Told (barred_by s u) (act units body h s u)
  sort_goes (const n v) = by_state (Told false) (s.status n) _ _ (λ o. refl) (λ b. refl) refl
  sort_goes (param n i) = by_state (Told false) (s.status n) _ _ (λ o. refl) (λ b. refl) refl
  sort_goes (bound n d) = by_state (Told false) (s.status n) _ _ (λ o. refl) (λ b. refl) refl
  sort_goes (prim n op es) = by_state (Told false) (s.status n) _ _ (λ o. refl) (λ b. test false (all_done s es) _ refl) refl
  sort_goes (self n es) = by_state (Told false) (s.status n) _ _ (λ o. refl) (λ b. test false (all_done s es) _ refl) refl
  sort_goes (call n g es) = by_state (Told (not (eqb (s.occupant g) 0))) (s.status n) _ _ (λ o. refl)
      (λ b. by_pick (Told (not (eqb (s.occupant g) 0))) (s.second n) _ _
      (λ w. test (not (eqb (s.occupant g) 0)) (done s (id (body g))) _ refl)
      (λ w. by_pick (Told (not (eqb (s.occupant g) 0))) (all_done s es) _ _ (λ f. at_door (eqb (s.occupant g) 0) _) (λ e. refl)))
      refl
    where
      at_door : (b : Bool) (vs : List ℕ) → Told (not b) (pick b (does (enters g vs)) blocked)
      at_door true vs = refl
      at_door false vs = refl
  sort_goes (cond n a b c) = by_state (Told false) (s.status n) _ _ (λ o. refl)
      (λ t. by_pick (Told false) (s.second n) _ _
      (λ w. test false (done s (id (branch (s.value (id a)) b c))) _ refl) (λ w. test false (done s (id a)) _ refl))
      refl
  sort_goes (bind n ds b) = by_state (Told false) (s.status n) _ _ (λ o. refl)
      (λ t. by_pick (Told false) (s.second n) _ _ (λ w. test false (done s (id b)) _ refl) (λ w. test false (all_done s ds) _ refl))
      refl

-- table, tags and 24 are passed, part by part
pub stood : (t tags : List ℕ) (s : State512) (F N : ℕ) → standing t tags s ≡ accepted F N
    → ((F₁ N₁ : ℕ) × (check_with t tags ≡ accepted F₁ N₁)) × (over 3 (nodes t) s.status ≡ false)
    × (over (nodes t) (functions t) s.occupant ≡ false)
unfolding standing
stood t tags s F N e =
    let a = after_both (check_with t tags) _ F N e in
    let b = passes 24 (not (over 3 (nodes t) s.status)) 0 _ F N a.1 in
    let c = passes 24 (not (over (nodes t) (functions t) s.occupant)) 0 _ F N b.2 in
    (a.0, is_not (over 3 (nodes t) s.status) b.0, is_not (over (nodes t) (functions t) s.occupant) c.0)
  where
    is_not : (b : Bool) → T (not b) → b ≡ false
    is_not true h = absurd h
    is_not false h = refl

module _ (t tags : List ℕ) (s : State512) (F N : ℕ) (tagging : check_with t tags ≡ accepted F N)
    (statuses : over 3 (nodes t) s.status ≡ false) (occupants : over (nodes t) (functions t) s.occupant ≡ false)
    (undone : MainDone t s → ⊥) where
  check : (F₀ N₀ : ℕ) × (check_of t ≡ accepted F₀ N₀)
  unfolding check_with
  check = (after_both (check_of t) _ F N tagging).0

  told_taken : (b : Bool) (v : ℕ) → is_taken (pick b (answered v) taken) ≡ true
  told_taken true v = refl
  told_taken false v = refl

  not_so : {A : Type 0} (b : Bool) → b ≡ false → b ≡ true → A
  not_so b e f = absurd (true≢false (sym f ∙ e))

  -- what refuses a step here: there is no move
  refused_sort : (n : ℕ) → IsNode t n
      → (c : Cause (arithmetic t) (functions t) (nodes t) (body_of t) (expr_at t) (owner t) (tagged tags) s n) → false ≡ goes (act_of t s n)
  refused_sort n i (no_node e) = absurd (e i)
  refused_sort n i (bad_status r e) = not_so (over 3 (nodes t) s.status) statuses e
  refused_sort n i (bad_occupant r e) = not_so (over (nodes t) (functions t) s.occupant) occupants e
  refused_sort n i (main_done r e) =
      not_so (done (view s) (id (body_of t (functions t)))) (ne_eqb ((view s).status (id (body_of t (functions t)))) 3 undone) e
  refused_sort n i (no_move r e h) = ap goes (sym h)
  refused_sort n i (occupied r e h) = ap goes (sym h)

  -- a step isn't refused exactly where the sets say so
  ready_is : (n : ℕ) → IsNode t n → is_taken (step_of t tags s n).answer ≡ ready (sets_of t s) n
  ready_is n i =
      ap (λ r. is_taken r.answer) (step_same t check.0 check.1 check.2 tags F N tagging s n)
      ∙ step_cases (arithmetic t) (functions t) (nodes t) (body_of t) (expr_at t) (owner t) (tagged tags) s n
      (λ r. is_taken r.answer ≡ goes (act_of t s n)) (refused_sort n i)
      (λ r e m h. told_taken (done (view (perform (nodes t) (owner t) (body_of t) s n m)) (id (body_of t (functions t)))) _
      ∙ ap goes (sym h))
      ∙ sort_goes (arithmetic t) (body_of t) (owner t n) (view s) (expr_at t n)

  pub first_by_sets : first_of t tags s ≡ first_in (sets_of t s) (nodes t)
  unfolding first_of first_in
  first_by_sets = lowest_same (λ n. not (is_taken (step_of t tags s n).answer)) (λ n. not (ready (sets_of t s) n)) (nodes t)
      (λ n i. ap not (ready_is n i))
