-- what a step keeps in any state, also one that no start leads to
use Prim.Native.Nat.{ℕ, ◌<◌}
use mathlib.Core.Bool.{Bool, true, false, ◌&&◌, not}
use mathlib.Core.Path.{◌≡◌, refl, subst}
use mathlib.Core.List.{List}
use native.Mathlib.Omega.{arith}
use lib.Dec.{T, eqb}
use borrow.Author.Tests.{eqb-false}
use Rattle.table.specs.Bytes.{functions, nodes, kind, word, next}
use Rattle.table.specs.Naming.{owner, parent, under_last, definiens, in_scope}
use Rattle.table.specs.Check.{Verdict, accepted, check_of, refused}
use Rattle.table.specs.Syntax.{bound, id}
use Rattle.table.specs.Expressions.{expr_at, body_of}
use Rattle.table.specs.Working.{IsNode}
use Rattle.table.proofs.Passed.{Passed, passed}
use Rattle.table.proofs.FindLaws.{both, isnt, same}
use Rattle.table.proofs.NodeCases.{NodeCase, node_case}
use Rattle.table.proofs.NodeCases.{is_const, is_param, is_prim, is_call_lem, is_self, is_cond, is_bind, is_bound}
use Rattle.table.proofs.Scopes.{child_node}
use Rattle.list.specs.Tags.{tagged, check_with}
use Rattle.rules.specs.State.{State512, Sized, view}
use Rattle.rules.specs.Step.{taken, answered, denied, Stepped, refusal, done, perform, circuit_step}
use Rattle.rules.specs.Play.{IsTaken}
use Rattle.rules.specs.Arithmetic.{arithmetic}
use Rattle.rules.specs.Circuit.{circuit_of, step_after, step_of, Possible}
use Rattle.rules.specs.Runs.{MainDone}
use Rattle.rules.specs.Companions.{AgreeWithin, AgreePast}
use Rattle.rules.proofs.StepCases.{number, place, step_cases}
use Rattle.rules.proofs.AgreeLaws.{agree_same}
use Rattle.rules.proofs.Past.{step_past}
use Rattle.rules.proofs.Ignores.{step_agree}
use Rattle.rules.proofs.Starts.{after_both}
use Rattle.rules.proofs.Demands.{lay}
use Rattle.table.specs.Pick.{pick}

-- the definiens of a bound node is a node
pub bound_node : (t : List ℕ) → Passed t → (n m d : ℕ) → IsNode t n → expr_at t n ≡ bound m d → IsNode t d
unfolding in_scope definiens
bound_node t ok n m d i e = go (node_case t ok n i)
  where
    other : {X : Type 0} → ◌≡◌ {A = ℕ} 0 1 → X
    other z = absurd (omega arith)

    in_scope_lem : T (in_scope t d n) → IsNode t d
    in_scope_lem h =
        let x = not (eqb (parent t d) 0) in
        let y = eqb (kind t (parent t d)) 6 in
        let z = not (eqb (next t d) 0) in
        let b = (both x y (both (x && y) z (both (definiens t d) (under_last t (parent t d) n) h).0).0).0 in
        child_node t ok d (λ q. isnt (eqb (parent t d) 0) b (same (parent t d) 0 q))

    go : NodeCase t n → IsNode t d
    go (is_const k f q) = other (cc)
    go (is_param k f l q) = other (cc)
    go (is_prim k f q) = other (cc)
    go (is_call_lem k a b c q) = other (cc)
    go (is_self k a b c q) = other (cc)
    go (is_cond k a b c f q) = other (cc)
    go (is_bind k a b c q) = other (cc)
    go (is_bound k f h q) = let w : word t n ≡ d = cc in in_scope_lem (subst (λ x. T (in_scope t x n)) w h)

module _ (t tags : List ℕ) where
  abbrev circuit : State512 → ℕ → Stepped
  circuit s n = circuit_step (arithmetic t) (functions t) (nodes t) (body_of t) (expr_at t) (owner t) (tagged tags) s n

  -- a step is refused by table or tags, or it is the circuit's
  pub by_check : (P : (State512 → ℕ → Stepped) → Type 0) → ((k p : ℕ) → P (λ s n. refusal s k p))
      → ((F N : ℕ) → check_of t ≡ accepted F N → P circuit) → P (step_of t tags)
  unfolding step_of step_after circuit_of check_with
  by_check P f g = go (check_with t tags) refl
    where
      go : (c : Verdict) → check_with t tags ≡ c → P (λ s n. step_after c s (circuit_of t tags s n))
      go (accepted F N) e = let x = after_both (check_of t) _ F N e in g x.0.0 x.0.1 x.0.2
      go (refused k p) e = f k p

  -- "The state is unchanged by a refusal"
  pub refused_unchanged : (s : State512) (n k p : ℕ) → (step_of t tags s n).answer ≡ denied k p → step_of t tags s n ≡ refusal s k p
  refused_unchanged s n k p = by_check (λ f. (f s n).answer ≡ denied k p → f s n ≡ refusal s k p) (λ i q e. same_refusal i q e)
      (λ F N c. step_cases (arithmetic t) (functions t) (nodes t) (body_of t) (expr_at t) (owner t) (tagged tags) s n
      (λ r. r.answer ≡ denied k p → r ≡ refusal s k p) (λ c. same_refusal (number c) (place c))
      (λ r e m h. not_refused (done (view (perform (nodes t) (owner t) (body_of t) s n m)) (id (body_of t (functions t)))) _
      (perform (nodes t) (owner t) (body_of t) s n m)))
    where
      same_refusal : (i q : ℕ) → denied i q ≡ denied k p → refusal s i q ≡ refusal s k p
      same_refusal i q e = λ j. record { answer = e j; state = s }

      not_refused : (b : Bool) (v : ℕ) (t : State512) → pick b (answered v) taken ≡ denied k p
          → ◌≡◌ {A = Stepped} (record { answer = pick b (answered v) taken; state = t }) (refusal s k p)
      not_refused true v t e = let z : ◌≡◌ {A = ℕ} 0 1 = cc in absurd (omega arith)
      not_refused false v t e = let z : ◌≡◌ {A = ℕ} 0 1 = cc in absurd (omega arith)

  -- where main's root is done no step is possible: "once main's root is done the query says none"
  pub done_none : (s : State512) (n : ℕ) → MainDone t s → Possible t tags s n → ⊥
  done_none s n d = by_check (λ f. IsTaken (f s n).answer → ⊥) (λ k p x. x)
      (λ F N c. step_cases (arithmetic t) (functions t) (nodes t) (body_of t) (expr_at t) (owner t) (tagged tags) s n
      (λ r. IsTaken r.answer → ⊥) (λ c x. x)
      (λ r e m h x. eqb-false ((view s).status (id (body_of t (functions t)))) 3 e d))

  -- "A step ignores .. state entries past F and N"
  pub step_ignores : (s s' : State512) → Sized s → Sized s' → AgreeWithin t s s' → (n : ℕ)
      → ((step_of t tags s n).answer ≡ (step_of t tags s' n).answer) × AgreeWithin t (step_of t tags s n).state (step_of t tags s' n).state
  step_ignores s s' z z' a n = by_check (λ f. ((f s n).answer ≡ (f s' n).answer) × AgreeWithin t (f s n).state (f s' n).state)
      (λ k p. (refl, a))
      (λ F N c. step_agree (arithmetic t) (lay t F N c) (tagged tags) s s' z z' a n (λ m d r e. bound_node t (passed t F N c).0 n m d r e))

  -- "and keeps" them
  pub step_keeps : (s : State512) → Sized s → (n : ℕ) → AgreePast t s (step_of t tags s n).state
  step_keeps s z n = by_check (λ f. AgreePast t s (f s n).state)
      (λ k p. agree_same (λ m. nodes t < m) (λ f. functions t < f) (view s))
      (λ F N c. step_past (arithmetic t) (lay t F N c) (tagged tags) s z n)
