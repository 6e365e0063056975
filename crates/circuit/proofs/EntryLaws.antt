-- the entries: occupants as numbers, 24, and the steps of a run
use Rattle.std.proofs.Common.{◌≡◌, ℕ, suc, ◌+◌, ◌<◌, ◌≤◌, Bool, true, false, not, ◌||◌, T, List, [], ◌∷◌, map, length, get_or, drop, sym}
use Rattle.std.proofs.Common.{refl, ap, ◌∙◌, subst, add-one, arith, drop_of_length-le, drop-cons}
use Rattle.table.specs.Bytes.{functions, nodes}
use Rattle.table.specs.Check.{accepted, refused, stage}
use Rattle.table.specs.declared.refusals.Reason.{Reason}
use Rattle.table.specs.declared.Node.{Node}
use Rattle.table.proofs.Passed.{passes}
use Rattle.list.specs.Tags.{after, check_with}
use Rattle.rules.specs.State.{State512}
use Rattle.rules.specs.Step.{Reply, taken, answered, denied, Stepped, refusal, over}
use Rattle.rules.specs.Circuit.{circuit_of, step_of}
use Rattle.rules.specs.Runs.{standing, Ran, whole, stopped, and_then, run_from, run_of}
use Rattle.circuit.specs.Meaning.{numbers, reply_of}
use Rattle.circuit.specs.declared.types.Answer.{Answer}
use Rattle.table.specs.Working.{Taken}
use Rattle.circuit.specs.Working.{Stands, Agreed, stray_in}
use Rattle.circuit.proofs.TurnLaws.{step_is, turn_stands, turn_stray, turn_stray'}
use Rattle.circuit.proofs.StandsLaws.{stands_parts, stands_by}
use Rattle.rules.proofs.Starts.{after_both, fair_from, tags_own}

-- a number, said to be a node's
abbrev pub as_node : ℕ → Node
as_node n = record { 0 = n }

pub numbered : (l : List ℕ) → numbers (map as_node l) ≡ l
numbered [] = refl
numbered (x ∷ l) = ap (λ r. x ∷ r) (numbered l)

-- 24
pub stands_from : (t : List ℕ) (s : State512) (b : Bool) → b ≡ stray_in t s.status s.occupant → b ≡ false → Stands t s
stands_from t s b e h = record { passes = sym e ∙ h }

pub step_stray : (t tags : List ℕ) → Taken t → (s : State512) (n : ℕ) → (n ≡ 0 → ⊥) → n ≤ nodes t
    → (b : Bool) → b ≡ stray_in t s.status s.occupant → b ≡ true → refusal s 24 0 ≡ circuit_of t tags s n
step_stray t tags fair s n d i b e h = go (over 3 (nodes t) s.status) refl
  where
    go : (x : Bool) → over 3 (nodes t) s.status ≡ x → refusal s 24 0 ≡ circuit_of t tags s n
    go true q = turn_stray t tags fair s n d i q
    go false q = turn_stray' t tags fair s n d i q (sym (ap (λ y. y || over (nodes t) (functions t) s.occupant) q) ∙ sym e ∙ h)

pub agreed_from : (t tags : List ℕ) (F N : ℕ) → check_with t tags ≡ accepted F N → Agreed t tags
agreed_from t tags F N e = record { fair = fair_from t tags F N e; tagging = tags_own t tags F N e }

-- 24 where query and runs look at it
module _ (t tags : List ℕ) (ag : Agreed t tags) (s : State512) where
  pub stray_standing : (b : Bool) → b ≡ stray_in t s.status s.occupant → b ≡ true → standing t tags s ≡ refused 24 0
  unfolding standing after stage
  stray_standing b e h = rw ag.tagging (go (over 3 (nodes t) s.status) refl)
    where
      go : (x : Bool) → over 3 (nodes t) s.status ≡ x
          → stage 24 (not x) 0 (λ _. stage 24 (not (over (nodes t) (functions t) s.occupant)) 0 (λ _. accepted (functions t) (nodes t)))
          ≡ refused 24 0
      go true q = refl
      go false q = rw (sym (ap (λ y. y || over (nodes t) (functions t) s.occupant) q) ∙ sym e ∙ h) refl

  pub stand_standing : Stands t s → standing t tags s ≡ accepted (functions t) (nodes t)
  unfolding standing after stage
  stand_standing st = let p = stands_parts t s st in rw (ag.tagging, p.0, p.1) refl

-- what passes both and 24
pub admitted_from : (t tags : List ℕ) (s : State512) (F N : ℕ) → standing t tags s ≡ accepted F N → Agreed t tags × Stands t s
unfolding standing
admitted_from t tags s F N e =
    let x = after_both (check_with t tags) _ F N e in
    let y = passes 24 (not (over 3 (nodes t) s.status)) 0 _ F N x.1 in
    let z = passes 24 (not (over (nodes t) (functions t) s.occupant)) 0 _ F N y.2 in
    (agreed_from t tags _ _ x.0.2, stands_by t s (is_no _ y.0) (is_no _ z.0))
  where
    is_no : (b : Bool) → T (not b) → b ≡ false
    is_no true h = absurd h
    is_no false h = refl

pub refused_standing : (t tags : List ℕ) (s : State512) (k p : ℕ) → check_with t tags ≡ refused k p → standing t tags s ≡
    refused k p
unfolding standing after
refused_standing t tags s k p e = rw e refl

-- a run over a list
abbrev pub plus : ℕ → Ran → Ran
plus i r = record { steps = i + r.steps; halt = r.halt; state = r.state }

pub run_turned : (t tags : List ℕ) (s : State512) (ns : List ℕ) (k p : ℕ) → standing t tags s ≡ refused k p
    → ◌≡◌ {A = Ran} (record { steps = 0; halt = stopped k p; state = s }) (run_of t tags s ns)
unfolding run_of
run_turned t tags s ns k p e = sym (rw e refl)

pub run_goes : (t tags : List ℕ) (s : State512) (ns : List ℕ) (F N : ℕ) → standing t tags s ≡ accepted F N → run_from t tags s ns ≡ run_of
    t tags s ns
unfolding run_of
run_goes t tags s ns F N e = sym (rw e refl)

one_more_lem : (x : Stepped) (l : Ran) → and_then x taken l ≡ plus 1 l
one_more_lem x l = λ j. record { steps = sum l.steps j; halt = l.halt; state = l.state }
  where
    sum : (k : ℕ) → suc k ≡ 1 + k
    sum k = omega arith

module _ (t tags : List ℕ) (ag : Agreed t tags) (s : State512) (ns : List ℕ) (i : ℕ) where
  module _ (h : i < length ns) (r : Reply) (s' : State512)
      (e : ◌≡◌ {A = Stepped} (record { answer = r; state = s' }) (circuit_of t tags s (get_or ns i 0))) where
    step_now : ◌≡◌ {A = Stepped} (record { answer = r; state = s' }) (step_of t tags s (get_or ns i 0))
    step_now = e ∙ sym (step_is t tags (functions t) (nodes t) ag.tagging s (get_or ns i 0))

    next_run : run_from t tags s (drop i ns) ≡ and_then (record { answer = r; state = s' }) r (run_from t tags s' (drop (suc i) ns))
    unfolding run_from
    next_run = ap (run_from t tags s) (drop-cons ns i 0 h)
        ∙ sym (ap (λ x. and_then x x.answer (run_from t tags x.state (drop (suc i) ns))) step_now)

    pub run_stops : (k p : ℕ) → r ≡ denied k p → (u : State512) → u ≡ s'
        → ◌≡◌ {A = Ran} (record { steps = i; halt = stopped k p; state = u }) (plus i (run_from t tags s (drop i ns)))
    run_stops k p q u w =
        (λ j. record { steps = plain j; halt = stopped k p; state = w j })
        ∙ sym (ap (plus i) (next_run ∙ ap (λ x. and_then (record { answer = x; state = s' }) x (run_from t tags s' (drop (suc i) ns))) q))
      where
        plain : i ≡ i + 0
        plain = omega arith

    run_on : (b : Reply) → r ≡ b → ((x : Stepped) (l : Ran) → and_then x b l ≡ plus 1 l)
        → plus i (run_from t tags s (drop i ns)) ≡ plus (i + 1) (run_from t tags s' (drop (i + 1) ns))
    run_on b q f =
        ap (plus i) (next_run ∙ ap (λ x. and_then (record { answer = x; state = s' }) x (run_from t tags s' (drop (suc i) ns))) q
        ∙ f (record { answer = b; state = s' }) (run_from t tags s' (drop (suc i) ns)))
        ∙ (λ j. record {
          steps = sum (run_from t tags s' (drop (suc i) ns)).steps j;
          halt = (run_from t tags s' (drop (suc i) ns)).halt;
          state = (run_from t tags s' (drop (suc i) ns)).state;
        })
        ∙ ap (λ k. plus (i + 1) (run_from t tags s' (drop k ns))) (sym (add-one i))
      where
        sum : (x : ℕ) → i + (1 + x) ≡ i + 1 + x
        sum x = omega arith

    pub run_goes_on : (a : Answer) → ((k : Reason) (p : Node) → a ≡ Answer.Refused k p → ⊥) → r ≡ reply_of a
        → plus i (run_from t tags s (drop i ns)) ≡ plus (i + 1) (run_from t tags s' (drop (i + 1) ns))
    run_goes_on Answer.Taken d q = run_on taken q one_more_lem
    run_goes_on (Answer.Answered v) d q = run_on (answered v) q one_more_lem
    run_goes_on (Answer.Refused k p) d q = absurd (d k p refl)

    pub run_stands : Stands t s → Stands t s'
    run_stands st = subst (λ x. Stands t x.state) (sym e) (turn_stands t tags ag.fair s st (get_or ns i 0))

  pub run_ends : length ns ≤ i → (u : State512) → u ≡ s
      → ◌≡◌ {A = Ran} (record { steps = i; halt = whole; state = u }) (plus i (run_from t tags s (drop i ns)))
  unfolding run_from
  run_ends h u w = (λ j. record { steps = plain j; halt = whole; state = w j })
      ∙ sym (ap (λ l. plus i (run_from t tags s l)) (drop_of_length-le ns {i = i} h))
    where
      plain : i ≡ i + 0
      plain = omega arith

  -- where the turns are counted by the list
  pub run_whole : length ns ≡ i → (u : State512) → u ≡ s
      → ◌≡◌ {A = Ran} (record { steps = length ns; halt = whole; state = u }) (plus i (run_from t tags s (drop i ns)))
  run_whole h u w = (λ j. record { steps = h j; halt = whole; state = u }) ∙ run_ends (omega (arith, h)) u w

pub run_begins : (r : Ran) → r ≡ plus 0 r
run_begins r = λ j. record { steps = plain r.steps j; halt = r.halt; state = r.state }
  where
    plain : (k : ℕ) → k ≡ 0 + k
    plain k = omega arith
