-- the third demand of what the entries return in a state that was reached from a start
use Rattle.std.proofs.Common.{◌≡◌, ℕ, ◌+◌, ◌≤◌, List, [], ◌∷◌, ◌++◌, length, get_or, take, sym, refl, ap, ◌∙◌, subst, ap₂, inl, inr, ⊎_elim}
use Rattle.std.proofs.Common.{length-append}
use Rattle.table.specs.Bytes.{functions, nodes}
use Rattle.table.specs.Check.{accepted}
use Rattle.rules.specs.State.{State512, In}
use Rattle.rules.specs.Play.{noted}
use Rattle.rules.specs.Circuit.{step_of, play_of, entries_of, leavings_of, Possible}
use Rattle.rules.specs.Reading.{ReadsTo}
use Rattle.rules.specs.Runs.{standing, run_of, RunPlays, MainDone, main_value, Drives, DrivesAfter, Picks, Says, names, nothing, unasked}
use Rattle.rules.specs.Runs.{Finds, FindsAfter}
use Rattle.rules.specs.First.{firsts_of, query_of, drive_of, Traced}
use Rattle.rules.proofs.FirstFacts.{query_finds}
use Rattle.rules.proofs.FirstRuns.{drive_drives}
use Rattle.rules.proofs.FirstDemand.{first_steps}
use Rattle.rules.specs.Runs as Runs
use Rattle.rules.specs.Companions as Companions
use Rattle.circuit.specs.Meaning.{lists_of, stepped_of, reply_of, ran_of, driven_of, found_of}
use Rattle.circuit.specs.Entries.{Reached, StateDemand, StepEntry, RunEntry, DriveEntry, QueryEntry, DemandOfReached}
use Rattle.circuit.specs.declared.types.State.{State}
use Rattle.circuit.specs.declared.types.Stepped.{Stepped}
use Rattle.circuit.specs.declared.types.Ran.{Ran}
use Rattle.circuit.specs.declared.types.Driven.{Driven}
use Rattle.std.proofs.Common.{Option, Result}
use Rattle.table.specs.declared.Node.{Node}
use Rattle.table.specs.declared.refusals.Refusal.{Refusal}
use Rattle.rules.proofs.Demands as Demands
use Rattle.rules.proofs.RunFacts.{query_over, main_said, start_stands, start_run, run_demand, drive_demand, play_nodes, play_state}
use Rattle.rules.proofs.TakenSteps.{taken_alone, taken_prefix, next_nodes, next_state, next_answer, never_held}
use Rattle.circuit.proofs.EntryDemand.{takes}

module _ (t tags args : List ℕ) where
  -- by the demand on the steps taken
  state_demand : (steps : List ℕ) (s : State) → Reached t tags args steps s → StateDemand t tags args steps s
  state_demand steps s x =
      let d = Demands.demand t tags args x.first x.start steps in
      let said = main_said t tags args x.first x.start steps in
      let at : (play_of t tags x.first steps).state ≡ lists_of s = x.state in
      record {
        exclusive = λ k f p q. subst (λ l. entries_of t f l ≤ leavings_of t f l + 1)
            (taken_prefix t tags x.first steps x.taken k) (d.exclusive k f p q);
        lively = ⊎_elim (λ y. inl (subst (MainDone t) at ((said y.0).0 y.1).0))
            (λ y. inr (y.0, takes t tags s y.0 (subst (λ z. Possible t tags z y.0) at y.1))) d.lively;
        right = λ m.
            let v = main_value t (lists_of s) in
            subst (λ l. ReadsTo t args v (length l)) x.taken
            (d.right v ((said v).1 (subst (λ z. MainDone t z × (main_value t z ≡ v)) (sym at) (m, refl))));
      }

  module _ (steps : List ℕ) (s : State) (x : Reached t tags args steps s) where
    -- the start's state, and the state that the rules play to
    abbrev s₀ : State512
    s₀ = x.first

    abbrev s₁ : State512
    s₁ = (play_of t tags s₀ steps).state

    -- a step: of the play with one step more
    of_step : (n : ℕ) (r : Stepped) → stepped_of r ≡ step_of t tags (lists_of s) n → StepEntry t tags args steps n r
    of_step n r e =
        let all : List ℕ = steps ++ n ∷ [] in
        let u : step_of t tags s₁ n ≡ stepped_of r = ap (λ z. step_of t tags z n) x.state ∙ sym e in
        let w : (play_of t tags s₀ all).nodes ≡ steps ++ noted (reply_of r.answer) n [] =
        next_nodes t tags s₀ steps n ∙ (λ i. x.taken i ++ noted (u i).answer n []) in
        let alone = taken_alone t tags s₀ all in
        let there : Reached t tags args (steps ++ noted (reply_of r.answer) n []) r.state = record {
          first = s₀;
          start = x.start;
          taken = subst (λ l. (play_of t tags s₀ l).nodes ≡ l) w alone.nodes;
          state = ap (λ l. (play_of t tags s₀ l).state) (sym w) ∙ alone.state ∙ next_state t tags s₀ steps n
              ∙ ap (λ z. z.state) u;
        } in
        record {
          arbitrated = λ place q. never_held t tags args s₀ x.start steps n place (ap (λ z. z.answer) u ∙ q);
          reached = there;
          demand = state_demand _ r.state there;
          right = λ v q. subst (ReadsTo t args v) (ap length w ∙ ap (λ a. length (steps ++ noted a n [])) q ∙ length-append steps (n ∷ []))
              ((Demands.demand t tags args s₀ x.start all).right v
              (subst (λ a. In a (play_of t tags s₀ all).answers) (ap (λ z. z.answer) u ∙ q) (next_answer t tags s₀ steps n)));
        }

    -- a run over a list
    of_run : (ms : List ℕ) (r : Ran) → ran_of r ≡ run_of t tags (lists_of s) ms → RunEntry t tags args steps ms r
    of_run ms r e =
        let u : run_of t tags s₁ ms ≡ ran_of r = ap (λ z. run_of t tags z ms) x.state ∙ sym e in
        let d = subst (Companions.RunDemand t tags s₀ steps ms) u (run_demand t tags args s₀ x.start steps ms) in
        let p = subst (RunPlays t tags s₁ ms) u (start_run t tags args s₀ x.start steps ms) in
        let all : List ℕ = steps ++ take r.steps ms in
        let y : Reached t tags args all r.state = record {
          first = s₀;
          start = x.start;
          taken = d.steps ∙ ap (λ l. l ++ take r.steps ms) x.taken;
          state = sym d.state;
        } in
        record {
          arbitrated = λ place q. never_held t tags args s₀ x.start all (get_or ms r.steps 0) place
              (ap (λ z. (step_of t tags z (get_or ms r.steps 0)).answer) y.state ∙ ap (λ z. z.answer) (p.next 23 place q).1);
          number = d.number;
          reached = y;
          demand = state_demand all r.state y;
          all = p.all;
          next = p.next;
        }

    stands : standing t tags (lists_of s) ≡ accepted (functions t) (nodes t)
    stands = subst (λ z. standing t tags z ≡ accepted (functions t) (nodes t)) x.state
        (start_stands t tags args s₀ x.start steps)

    -- a run with a budget
    of_drive : (budget : ℕ) (r : Driven) → driven_of r ≡ drive_of t tags (lists_of s) budget → DriveEntry t tags args steps s budget r
    of_drive budget r e =
        let h : Drives t tags (lists_of s) budget (driven_of r) =
        subst (Drives t tags (lists_of s) budget) (sym e) (drive_drives t tags (lists_of s) budget) in
        let d = drive_demand t tags args s₀ x.start steps budget (driven_of r)
        (subst (λ z. Drives t tags z budget (driven_of r)) (sym x.state) h) in
        let p : Picks t tags (lists_of s) budget (driven_of r) =
        subst (λ c. DrivesAfter c t tags (lists_of s) budget (driven_of r)) stands h in
        let ns = firsts_of t tags (lists_of s) r.steps in
        let z : Traced t tags (lists_of s) (driven_of r) =
        subst (Traced t tags (lists_of s)) (sym e) ((first_steps t tags (lists_of s)).traced budget) in
        let y : Reached t tags args (steps ++ ns) r.state = record {
          first = s₀;
          start = x.start;
          taken = play_nodes t tags s₀ steps ns
              ∙ ap₂ (λ l u. l ++ (play_of t tags u ns).nodes) x.taken x.state ∙ ap (λ l. steps ++ l) z.taken;
          state = play_state t tags s₀ steps ns ∙ ap (λ u. (play_of t tags u ns).state) x.state ∙ z.state;
        } in
        record {
          number = z.number;
          within = p.within;
          reached = y;
          demand = state_demand (steps ++ ns) r.state y;
          right = λ v q. subst (λ l. ReadsTo t args v (length l + r.steps)) x.taken (d.right v q);
          never_rests = d.never_rests;
          never_barred = d.never_barred;
          all = λ q. (subst (Says t tags budget r.steps (lists_of r.state)) q p.says).2;
        }

    -- a query
    of_query : (r : Result (Option Node) Refusal) → found_of r ≡ query_of t tags (lists_of s) → QueryEntry t tags args steps s r
    of_query r e =
        let h : Finds t tags (lists_of s) (found_of r) = subst (Finds t tags (lists_of s)) (sym e) (query_finds t tags (lists_of s)) in
        let f : FindsAfter (accepted (functions t) (nodes t)) t tags (lists_of s) (found_of r) =
        subst (λ c. FindsAfter c t tags (lists_of s) (found_of r)) stands h in
        let by : (y : Runs.Found) → found_of r ≡ y → FindsAfter (accepted (functions t) (nodes t)) t tags (lists_of s) y =
        λ y q. subst (FindsAfter (accepted (functions t) (nodes t)) t tags (lists_of s)) q f in
        let d = state_demand steps s x in
        record {
          named = λ n q. takes t tags s n (by (names n) q);
          lowest = λ n m q w. ((first_steps t tags (lists_of s)).named n (sym e ∙ q)).least m w.0;
          none = λ q. ⊎_elim (λ m. (m, d.right m)) (λ y. absurd (by nothing q y.0 y.1.0)) d.lively;
          over = λ m. query_over t tags (lists_of s) (functions t) (nodes t) stands m (found_of r) h;
          never_refused = λ k p q. by (unasked k p) q;
        }

pub demand_of_reached : DemandOfReached
demand_of_reached t tags args steps s x = record {
  state = state_demand t tags args steps s x;
  of_step = of_step t tags args steps s x;
  of_run = of_run t tags args steps s x;
  of_drive = of_drive t tags args steps s x;
  of_query = of_query t tags args steps s x;
}
