-- the loop that takes first steps: when it goes on, a turn of it, and its end
use Rattle.std.proofs.Common.{◌≡◌, ℕ, ◌+◌, ◌-◌, ◌<◌, ◌≤◌, Bool, true, false, not, ◌&&◌, ◌||◌, eqb, ltb, List, sym, refl, ap, ◌∙◌, subst}
use Rattle.std.proofs.Common.{ap₂, true≢false, arith, ltb-true, lt-ltb, eq-eqb, ne_eqb}
use native.Mathlib.Decide.{dec_lt, ℕ_discrete}
use borrow.Author.Tests.{eqb-false, not-true}
use Rattle.table.proofs.Tests.{ltb_no}
use Rattle.table.specs.Pick.{pick}
use Rattle.table.specs.Syntax.{id}
use Rattle.table.specs.Bytes.{functions, nodes, root}
use Rattle.table.specs.Naming.{owner}
use Rattle.table.specs.Expressions.{body_of}
use Rattle.table.specs.Working.{IsNode}
use Rattle.rules.specs.State.{State512, entry}
use Rattle.rules.specs.Step.{does, Move, perform}
use Rattle.rules.specs.Circuit.{act_of}
use Rattle.rules.specs.Runs.{MainDone, Ended, gave, at_rest, spent, Driven}
use Rattle.rules.specs.First.{onward, drive_from}
use Rattle.rules.specs.Sets.{Sets, ready, first_in, goes}
use Rattle.table.proofs.LowestLaws.{lowest_past}
use Rattle.rules.proofs.FirstLoop.{drove_start}
use Rattle.rules.proofs.FirstTurn.{Turning, turn_gave, turn_rests, turn_spent, turn_moves, turn_next}
use Rattle.circuit.specs.declared.plan.Plan.{Plan}
use Rattle.circuit.specs.Working.{Agreed, Stands, planned, Planned, performed}
use Rattle.circuit.specs.Packed.{Past, Tracks}
use Rattle.circuit.specs.Following.{Follows, Followed, stands_at}
use Rattle.circuit.proofs.ChainLaws.{ok}
use Rattle.circuit.proofs.StandsLaws.{kept, stands_parts}
use Rattle.circuit.proofs.TurnLaws.{main_root}

-- the test
pub going_on : (k budget x y : ℕ) → k < budget → x ≡ y → not (eqb x 3) ≡ (ltb k budget && not (eqb y 3))
going_on k budget x y h q = ap (λ z. not (eqb z 3)) q ∙ sym (ap (λ l. l && not (eqb y 3)) (lt-ltb k budget h))

pub going_spent : (k budget : ℕ) (b : Bool) → budget ≤ k → false ≡ (ltb k budget && b)
going_spent k budget b h = sym (ap (λ l. l && b) (ltb_no k budget (λ z. omega arith)))

both_true : (a b : Bool) → (a && b) ≡ true → (a ≡ true) × (b ≡ true)
both_true true b e = (refl, e)
both_true false b e = absurd (true≢false (sym e))

pub record Going (k budget x : ℕ) : Type 0 where
  pub room : k < budget
  pub undone : x ≡ 3 → ⊥

pub goes_on : (k budget x : ℕ) (b : Bool) → b ≡ (ltb k budget && not (eqb x 3)) → b ≡ true → Going k budget x
goes_on k budget x b e h =
    let q = both_true (ltb k budget) (not (eqb x 3)) (sym e ∙ h) in
    record { room = ltb-true k budget q.0; undone = eqb-false x 3 (not-true (eqb x 3) q.1) }

-- it stops where main's root isn't done: the budget is spent
stops_spent : (k budget x : ℕ) (b : Bool) → b ≡ (ltb k budget && not (eqb x 3)) → b ≡ false → (x ≡ 3 → ⊥) → budget ≤ k
stops_spent k budget x b e h d = go (dec_lt k budget)
  where
    go : Dec (k < budget) → budget ≤ k
    go (no l) = omega arith
    go (yes l) = absurd (true≢false (sym (ap (λ q. q && not (eqb x 3)) (lt-ltb k budget l) ∙ ap not (ne_eqb x 3 d)) ∙ sym e ∙ h))

-- no number past N is the first
within : (x : Sets) (N : ℕ) → N ≤ 512 → Past N x → first_in x 512 ≡ first_in x N
unfolding first_in
within x N h past =
    let e : 512 ≡ (512 - N) + N = omega arith in
    ap (λ k. first_in x k) e ∙ lowest_past (λ m. not (ready x m)) N (512 - N)
    (λ m a b. let p = past m a (omega arith) in ap₂ (λ y z. not (y || (z && not (x.held m)))) p.0 p.1)

-- a run of first steps, k of them taken: the sets are x
pub record Run (t tags : List ℕ) (top budget k : ℕ) (s₀ s : State512) (x : Sets) : Type 0 where
  pub turning : Turning t tags s₀ s budget k x
  pub stands : Stands t s
  pub past : Past (nodes t) x

module _ (t tags : List ℕ) (top : ℕ) (s₀ : State512) (budget : ℕ) where
  pub run_start : (rows : List ℕ) (x : Sets) → Follows t tags top rows s₀ x → Run t tags top budget 0 s₀ s₀ x
  run_start rows x f =
      let p = stands_parts t s₀ f.stands in
      record {
        turning = record {
          drove = drove_start t tags s₀ budget;
          exact = f.tracks.exact;
          sized = f.sized;
          statuses = p.0;
          occupants = p.1;
        };
        stands = f.stands;
        past = f.tracks.past;
      }

  module _ (ag : Agreed t tags) (main : top ≡ root t (functions t)) (k : ℕ) (s : State512) (x : Sets)
      (r : Run t tags top budget k s₀ s x) (at : ℕ) (first : at ≡ first_in x 512) where
    here_is : at ≡ first_in x (nodes t)
    here_is = first ∙ within x (nodes t) (ok t ag.fair).n_high r.past

    not_done : (entry s.status 0 top ≡ 3 → ⊥) → MainDone t s → ⊥
    not_done d m = d (ap (entry s.status 0) (main ∙ sym (main_root t ag.fair)) ∙ m)

    module _ (some : at ≡ 0 → ⊥) (undone : entry s.status 0 top ≡ 3 → ⊥) where
      moves : IsNode t (first_in x (nodes t)) × ((a : Move) × (act_of t s (first_in x (nodes t)) ≡ does a)
          × (onward t tags s ≡ perform (nodes t) (owner t) (body_of t) s (first_in x (nodes t)) a))
      moves = turn_moves t tags (functions t) (nodes t) ag.tagging s₀ s budget k x r.turning (not_done undone)
          (λ z. some (here_is ∙ z))

      pub run_node : IsNode t at
      run_node = subst (IsNode t) (sym here_is) moves.0

      pub run_goes : goes (act_of t s at) ≡ true
      run_goes = ap goes (ap (act_of t s) here_is ∙ moves.1.1)

      pub run_next : k < budget → (p : Plan) → Planned t s at p → (s' : State512) → s' ≡ performed t s at p → (y : Sets) → Tracks t s' y
          → Run t tags top budget (k + 1) s₀ s' y
      run_next room p q s' e y tr =
          let m = planned t s.value at p in
          let st : Stands t s' = subst (Stands t) (sym e) (kept t s r.stands at run_node.1 m) in
          let parts = stands_parts t s' st in
          record {
            turning = turn_next t tags (functions t) (nodes t) ag.tagging s₀ s budget k x r.turning (not_done undone)
                (λ z. some (here_is ∙ z)) room m (ap (act_of t s) (sym here_is) ∙ sym q) s'
                (e ∙ ap (λ n. perform (nodes t) (owner t) (body_of t) s n m) here_is) parts.0 parts.1 y tr.exact;
            stands = st;
            past = tr.past;
          }

    -- how it stands where the loop stops: the test fails, or there is no node
    abbrev ends : Ended → Driven
    ends e = record { steps = k; ended = e; state = s }

    to_main : top ≡ id (body_of t (functions t))
    to_main = main ∙ sym (main_root t ag.fair)

    stood : (c d : Bool) → eqb (entry s.status 0 top) 3 ≡ c → eqb (first_in x 512) 0 ≡ d
        → pick c (gave (entry s.value 0 top)) (pick d at_rest spent) ≡ stands_at s.status s.value top x
    stood c d p q = λ i. pick (sym p i) (gave (entry s.value 0 top)) (pick (sym q i) at_rest spent)

    answered : entry s.status 0 top ≡ 3 → drive_from t tags s₀ budget ≡ ends (stands_at s.status s.value top x)
    answered m =
        turn_gave t tags (functions t) (nodes t) ag.tagging s₀ s budget k x r.turning (ap (entry s.status 0) (sym to_main) ∙ m)
        ∙ ap ends (ap (λ n. gave (entry s.value 0 n)) (sym to_main) ∙ stood true _ (eq-eqb (entry s.status 0 top) 3 m) refl)

    pub run_rests : at ≡ 0 → Followed t tags top budget k s₀ s x
    run_rests z = record { drove = go (ℕ_discrete (entry s.status 0 top) 3) }
      where
        go : Dec (entry s.status 0 top ≡ 3) → drive_from t tags s₀ budget ≡ ends (stands_at s.status s.value top x)
        go (yes m) = answered m
        go (no m) =
            turn_rests t tags (functions t) (nodes t) ag.tagging s₀ s budget k x r.turning (not_done m) (sym here_is ∙ z)
            ∙ ap ends (stood false true (ne_eqb (entry s.status 0 top) 3 m) (eq-eqb (first_in x 512) 0 (sym first ∙ z)))

    pub run_stops : (at ≡ 0 → ⊥) → (b : Bool) → b ≡ (ltb k budget && not (eqb (entry s.status 0 top) 3)) → b ≡ false
        → Followed t tags top budget k s₀ s x
    run_stops z b eb h = record { drove = go (ℕ_discrete (entry s.status 0 top) 3) }
      where
        go : Dec (entry s.status 0 top ≡ 3) → drive_from t tags s₀ budget ≡ ends (stands_at s.status s.value top x)
        go (yes m) = answered m
        go (no m) =
            turn_spent t tags (functions t) (nodes t) ag.tagging s₀ s budget k x r.turning (not_done m) (λ q. z (here_is ∙ q))
            (stops_spent k budget (entry s.status 0 top) b eb h m)
            ∙ ap ends (stood false false (ne_eqb (entry s.status 0 top) 3 m) (ne_eqb (first_in x 512) 0 (λ q. z (first ∙ q))))

-- a run that was followed to its end, as it is told
pub driven_so : (t tags : List ℕ) (top b k : ℕ) (s s' : State512) (x : Sets) → Followed t tags top b k s s' x → (e : Ended)
    → e ≡ stands_at s'.status s'.value top x → ◌≡◌ {A = Driven} (record { steps = k; ended = e; state = s' }) (drive_from t tags s b)
driven_so t tags top b k s s' x f e q = (λ i. record { steps = k; ended = q i; state = s' }) ∙ sym f.drove
