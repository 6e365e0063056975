-- what start returns, and the third demand of what start and step return: they play as the rules do
use Rattle.std.proofs.Common.{◌≡◌, ℕ, zero, suc, ◌+◌, ◌≤◌, List, [], ◌∷◌, length, take, sym, refl, ap, ◌∙◌, subst, inl, inr, ⊎_elim}
use Rattle.rules.specs.State.{In}
use Rattle.rules.specs.Step.{answered, denied}
use Rattle.rules.specs.Play.{IsTaken, noted}
use Rattle.rules.specs.Starts.{StartsExactly}
use Rattle.rules.specs.Circuit.{started, opening, start_of, state_of, play_of, entries_of, leavings_of, Possible}
use Rattle.rules.specs.Reading.{ReadsTo}
use Rattle.rules.specs.Runs.{MainDone, main_value}
use Rattle.circuit.specs.Meaning.{lists_of, reply_of, opening_of}
use Rattle.circuit.specs.Entries.{StepsOf, answers_of, taken_of, last_state, Takes, StartOfEntry, DemandOfEntries}
use Rattle.std.proofs.Common.{Result, Ok, Err}
use Rattle.table.specs.declared.refusals.Refusal.{Refusal}
use Rattle.circuit.specs.declared.types.State.{State}
use Rattle.circuit.specs.declared.types.Stepped.{Stepped}
use Rattle.rules.proofs.Starts.{starts_exactly}
use Rattle.rules.proofs.Demands as Demands
use Rattle.circuit.proofs.MeaningFacts.{state_same}
use Rattle.rules.proofs.RunFacts.{main_said}
use Rattle.rules.proofs.TakenSteps.{taken_alone}

-- what step returned at ns from s on is what the rules play
pub record Played (t tags : List ℕ) (s : State) (ns : List ℕ) (rs : List Stepped) : Type 0 where
  pub answers : answers_of rs ≡ (play_of t tags (lists_of s) ns).answers
  pub steps : taken_of ns rs ≡ (play_of t tags (lists_of s) ns).nodes
  pub state : lists_of (last_state s rs) ≡ (play_of t tags (lists_of s) ns).state

module _ (t tags : List ℕ) where
  pub played_entries : (s : State) (ns : List ℕ) (rs : List Stepped) → StepsOf t tags s ns rs → Played t tags s ns rs
  unfolding play_of
  played_entries s [] [] h = record { answers = refl; steps = refl; state = refl }
  played_entries s [] (r ∷ rs) h = absurd h
  played_entries s (n ∷ ns) [] h = absurd h
  played_entries s (n ∷ ns) (r ∷ rs) h =
      let ih = played_entries r.state ns rs h.1 in
      let e = h.0 in
      record {
        answers = ap (λ l. reply_of r.answer ∷ l) ih.answers ∙ (λ i. (e i).answer ∷ (play_of t tags (e i).state ns).answers);
        steps = ap (noted (reply_of r.answer) n) ih.steps ∙ (λ i. noted (e i).answer n (play_of t tags (e i).state ns).nodes);
        state = ih.state ∙ ap (λ x. (play_of t tags x.state ns).state) e;
      }

  -- and so is every prefix
  pub prefix : (s : State) (ns : List ℕ) (rs : List Stepped) → StepsOf t tags s ns rs → (k : ℕ) → StepsOf t tags s (take k ns) (take k rs)
  prefix s ns rs h zero = tt
  prefix s [] [] h (suc k) = tt
  prefix s [] (r ∷ rs) h (suc k) = absurd h
  prefix s (n ∷ ns) [] h (suc k) = absurd h
  prefix s (n ∷ ns) (r ∷ rs) h (suc k) = (h.0, prefix r.state ns rs h.1 k)

  -- a possible step, asked of the entry
  pub takes : (s : State) (n : ℕ) → Possible t tags (lists_of s) n → Takes t tags s n
  takes s n p = (p, λ r e. subst (λ x. IsTaken x.answer) (sym e) p)

-- what start returns is what the rules say of a start
pub start_of_entry : StartOfEntry
start_of_entry t tags args old r a = record {
  opened = (
    λ o. let x = (exact.taken (lists_of r.state)).0 (said o) in (x.0, x.1),
    λ x. opens r.opening (a.answer ∙ (exact.taken (opening t args)).1 (x.0, x.1, refl)),
  );
  state = λ o. ((exact.taken (lists_of r.state)).0 (said o)).2;
  lacking = λ n. (λ e. (exact.lacking n).0 (sym a.answer ∙ e), λ x. a.answer ∙ (exact.lacking n).1 x);
  kept = λ k p e. state_same r.state old (a.state ∙ ap (λ x. state_of x (lists_of old)) (sym a.answer ∙ e));
}
  where
    exact : StartsExactly t tags args
    exact = starts_exactly t tags args

    said : r.opening ≡ Ok tt → start_of t tags args ≡ started (lists_of r.state)
    said o = sym a.answer ∙ ap (λ x. opening_of x (lists_of r.state)) o

    opens : (o : Result (Unit {0}) Refusal) → opening_of o (lists_of r.state) ≡ started (opening t args) → o ≡ Ok tt
    opens (Ok u) e = refl
    opens (Err q) e = cc

pub demand_of_entries : DemandOfEntries
demand_of_entries t tags args old r₀ a o ns rs h =
    let e : start_of t tags args ≡ started (lists_of r₀.state) =
    sym a.answer ∙ ap (λ x. opening_of x (lists_of r₀.state)) o in
    let p = played_entries t tags r₀.state ns rs h in
    let d = Demands.demand t tags args (lists_of r₀.state) e ns in
    let alone = taken_alone t tags (lists_of r₀.state) ns in
    let said = main_said t tags args (lists_of r₀.state) e ns in
    record {
      arbitrated = λ place i. d.arbitrated place (subst (In (denied 23 place)) p.answers i);
      exclusive = λ k f x y. subst (λ l. entries_of t f l ≤ leavings_of t f l + 1)
          (sym (played_entries t tags r₀.state (take k ns) (take k rs) (prefix t tags r₀.state ns rs h k)).steps)
          (d.exclusive k f x y);
      lively = ⊎_elim (λ x. inl (x.0, subst (In (answered x.0)) (sym p.answers) x.1))
          (λ x. inr (x.0, takes t tags (last_state r₀.state rs) x.0 (subst (λ s. Possible t tags s x.0) (sym p.state) x.1)))
          d.lively;
      right = λ v i. subst (λ l. ReadsTo t args v (length l)) (sym p.steps) (d.right v (subst (In (answered v)) p.answers i));
      said = λ v. (
        λ i. subst (λ s. MainDone t s × (main_value t s ≡ v)) (sym p.state) ((said v).0 (subst (In (answered v)) p.answers i)),
        λ x. subst (In (answered v)) (sym p.answers)
            ((said v).1 (subst (λ s. MainDone t s × (main_value t s ≡ v)) p.state x)),
      );
      reached = record {
        first = lists_of r₀.state;
        start = e;
        taken = subst (λ l. (play_of t tags (lists_of r₀.state) l).nodes ≡ l) (sym p.steps) alone.nodes;
        state = ap (λ l. (play_of t tags (lists_of r₀.state) l).state) p.steps ∙ alone.state ∙ sym p.state;
      };
      answers = p.answers;
      steps = p.steps;
      state = p.state;
      demand = d;
    }
