-- two hands on one circuit, of what step returned in a reached state: it is what the rules play
use Rattle.std.proofs.Common.{◌≡◌, ℕ, true, List, [], ◌∷◌, ◌++◌, take, sym, ap, ◌∙◌, subst, ap₂}
use Rattle.table.specs.Pick.{pick}
use Rattle.list.specs.Tags.{tagged}
use Rattle.rules.specs.Step.{taken, denied}
use Rattle.rules.specs.Play.{asks, noted}
use Rattle.rules.specs.Circuit.{play_of}
use Rattle.rules.specs.EitherOrder.{EitherOrder, SecondWaits, WhoGoesFirst}
use Rattle.rules.proofs.RunFacts.{same_play, play_nodes, play_state}
use Rattle.rules.proofs.Starts.{start_passes}
use Rattle.rules.proofs.EitherOrder.{either_order}
use Rattle.circuit.specs.Meaning.{lists_of, reply_of}
use Rattle.circuit.specs.Entries.{StepsOf, answers_of, taken_of, last_state, Reached}
use Rattle.circuit.specs.EitherOrder.{SecondRefused, OrderOfSteps, RivalsInOrder}
use Rattle.circuit.specs.declared.types.State.{State}
use Rattle.circuit.specs.declared.types.Stepped.{Stepped}
use Rattle.circuit.proofs.MeaningFacts.{state_same}
use Rattle.circuit.proofs.EntryDemand.{Played, played_entries, prefix}

-- two steps that were both taken are the steps taken
both_noted : (t tags : List ℕ) (s : State) (a b : ℕ) (rs : List Stepped) → StepsOf t tags s (a ∷ b ∷ []) rs
    → answers_of rs ≡ taken ∷ taken ∷ [] → taken_of (a ∷ b ∷ []) rs ≡ a ∷ b ∷ []
both_noted t tags s a b [] h e = absurd h
both_noted t tags s a b (r ∷ []) h e = absurd h.1
both_noted t tags s a b (r ∷ q ∷ []) h e =
    let x : reply_of r.answer ≡ taken = cc in
    let y : reply_of q.answer ≡ taken = cc in
    (λ i. noted (x i) a (noted (y i) b []))
both_noted t tags s a b (r ∷ q ∷ p ∷ rs) h e = absurd h.1.1

module _ (t tags args steps : List ℕ) (s : State) (x : Reached t tags args steps s) where
  who_first : WhoGoesFirst t tags (lists_of s)
  who_first = subst (WhoGoesFirst t tags)
      (ap (λ l. l.state) (same_play t tags args x.first x.start steps) ∙ x.state)
      (either_order t tags args x.first x.start (asks tags steps) tags)

  -- both were taken: the state is reached by two steps more
  reaches : (a b : ℕ) (rs : List Stepped) → StepsOf t tags s (a ∷ b ∷ []) rs → answers_of rs ≡ taken ∷ taken ∷ []
      → Reached t tags args (steps ++ a ∷ b ∷ []) (last_state s rs)
  reaches a b rs h e =
      let p = played_entries t tags s (a ∷ b ∷ []) rs h in
      record {
        first = x.first;
        start = x.start;
        taken = play_nodes t tags x.first steps (a ∷ b ∷ [])
            ∙ ap₂ ◌++◌ x.taken (ap (λ z. (play_of t tags z (a ∷ b ∷ [])).nodes) x.state ∙ sym p.steps
            ∙ both_noted t tags s a b rs h e);
        state = play_state t tags x.first steps (a ∷ b ∷ []) ∙ ap (λ z. (play_of t tags z (a ∷ b ∷ [])).state) x.state ∙ sym p.state;
      }

  -- of two rivals, b after a
  second_refused : (a b : ℕ) (rs : List Stepped) → StepsOf t tags s (a ∷ b ∷ []) rs → SecondWaits t tags (lists_of s) a b
      → tagged tags b ≡ true → SecondRefused s b rs
  second_refused a b rs h w e =
      let p = played_entries t tags s (a ∷ b ∷ []) rs h in
      record {
        answers = p.answers ∙ w.answers ∙ ap (λ c. taken ∷ denied (pick c 22 23) b ∷ []) e;
        state = state_same (last_state s rs) (last_state s (take 1 rs)) (p.state ∙ w.state
            ∙ sym (played_entries t tags s (a ∷ []) (take 1 rs) (prefix t tags s (a ∷ b ∷ []) rs h 1)).state);
      }

pub order_of_steps : OrderOfSteps
order_of_steps t tags args steps s x a b rs rs' h two = record {
  a_then_b = e;
  b_then_a = e';
  same = same;
  reached = reaches t tags args steps s x a b rs h.0 e;
  reached' = subst (Reached t tags args (steps ++ b ∷ a ∷ [])) (sym same) (reaches t tags args steps s x b a rs' h.1 e');
}
  where
    w : EitherOrder t tags (lists_of s) a b
    w = (who_first t tags args steps s x).either a b two

    p : Played t tags s (a ∷ b ∷ []) rs
    p = played_entries t tags s (a ∷ b ∷ []) rs h.0

    p' : Played t tags s (b ∷ a ∷ []) rs'
    p' = played_entries t tags s (b ∷ a ∷ []) rs' h.1

    e : answers_of rs ≡ taken ∷ taken ∷ []
    e = p.answers ∙ w.a_then_b

    e' : answers_of rs' ≡ taken ∷ taken ∷ []
    e' = p'.answers ∙ w.b_then_a

    same : last_state s rs ≡ last_state s rs'
    same = state_same (last_state s rs) (last_state s rs') (p.state ∙ w.same ∙ sym p'.state)

pub rivals_in_order : RivalsInOrder
rivals_in_order t tags args steps s x a b rs rs' h two r =
    let f = who_first t tags args steps s x in
    let w = f.waits a b two r in
    let k = f.arbitrated (start_passes t tags args x.first x.start).holding a b two r in (
      second_refused t tags args steps s x a b rs h.0 w.0 k.1,
      second_refused t tags args steps s x b a rs' h.1 w.1 k.0,
    )
