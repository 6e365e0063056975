-- every answer of the circuit fits its number
use Prim.Native.Nat.{ℕ, zero, suc, ◌≤◌}
use mathlib.Core.Bool.{Bool, true, false}
use mathlib.Core.Path.{◌≡◌, refl, sym, subst, ap}
use mathlib.Core.List.{List, [], ◌∷◌}
use native.Mathlib.Omega.{arith}
use Rattle.table.specs.Pick.{pick, Range}
use Rattle.table.specs.Bytes.{functions, nodes}
use Rattle.table.specs.Naming.{owner}
use Rattle.table.specs.Check.{Verdict, accepted, refused}
use Rattle.table.specs.Expressions.{expr_at, body_of}
use Rattle.table.specs.Syntax.{id}
use Rattle.list.specs.Tags.{tagged, listed, check_with, holds_at, missing}
use Rattle.list.proofs.NodeLaws.{few}
use Rattle.rules.specs.Arithmetic.{arithmetic}
use Rattle.rules.specs.State.{State512, View, entry, view}
use Rattle.rules.specs.Step.{Reply, taken, answered, denied, Stepped, refusal, done, told, circuit_step}
use Rattle.rules.proofs.Starts.{fair_from}
use Rattle.rules.specs.Play.{IsTaken, asks}
use Rattle.rules.specs.Circuit.{start_of, start_after, check_start, step_of, step_after, circuit_of, play_of, Possible}
use Rattle.rules.specs.Runs.{standing, Ran, run_from, run_after, run_of, Ended, gave, at_rest, spent, barred, Driven, Says, Picks}
use Rattle.rules.specs.Runs.{Drives, DrivesAfter, Found, names, nothing, unasked, Finds, FindsAfter, and_then}
use Rattle.rules.specs.Companions.{Bytes, Words, Fits}
use Rattle.rules.proofs.StepCases.{Cause, step_cases, number, place, no_node, bad_status, bad_occupant, main_done, no_move, occupied}
use Rattle.rules.proofs.Fits.{step_fits, plays_fit}
use Rattle.exports.specs.Numbers.{Refusable, Valued, FitsVerdict, FitsReply, FitsFound, FitsHalt, FitsEnded, verdict_of_start}
use Rattle.exports.proofs.Ranges.{refusable, stage_fits, after_fits, with_fits, lowest_within}
use Rattle.exports.specs.Answers.{missing_of}
use Rattle.rules.specs.First.{found_at, query_after}

-- what tags lack is a node's number
missing_few : (t tags : List ℕ) (F N : ℕ) → check_with t tags ≡ accepted F N → missing t tags ≤ 512
unfolding missing
missing_few t tags F N e =
    omega (arith, lowest_within (holds_at (listed t) tags) (nodes t), (few t (fair_from t tags F N e)).1)

pub missing_fits : (t tags : List ℕ) → FitsFound (missing_of t tags)
missing_fits t tags = go (check_with t tags) refl (with_fits t tags)
  where
    by : (n : ℕ) → n ≤ 512 → FitsFound (found_at n)
    by zero h = tt
    by (suc n) h = omega (arith, h)

    go : (v : Verdict) → check_with t tags ≡ v → FitsVerdict v → FitsFound (query_after v (missing t tags))
    go (accepted F N) e f = by (missing t tags) (missing_few t tags F N e)
    go (refused k p) e f = f

-- a start: the table, its tags, 11, 26
by_start : (v : Verdict) (s : State512) → FitsVerdict v → FitsVerdict (verdict_of_start (start_after v s))
unfolding start_after
by_start (accepted F N) s f = tt
by_start (refused k p) s f = f

pub start_fits : (t tags args : List ℕ) → FitsVerdict (verdict_of_start (start_of t tags args))
unfolding start_of check_start
start_fits t tags args = by_start _ _ (after_fits _ _ (with_fits t tags) (λ F N e.
    stage_fits 11 _ 0 _ (omega arith) (omega arith) (omega arith) (λ _.
    stage_fits 26 _ _ _ (omega arith) (omega arith) (missing_few t tags F N e) (λ _. tt))))

-- what is checked before a query and before a run
pub standing_fits : (t tags : List ℕ) (s : State512) → FitsVerdict (standing t tags s)
unfolding standing
standing_fits t tags s = after_fits _ _ (with_fits t tags) (λ F N e.
    stage_fits 24 _ 0 _ (omega arith) (omega arith) (omega arith) (λ _.
    stage_fits 24 _ 0 _ (omega arith) (omega arith) (omega arith) (λ _. tt)))

value_word : (l : List ℕ) → Words l → (n : ℕ) → Valued (entry l 0 n)
unfolding entry
value_word l w zero = omega arith
value_word l w (suc n) = w n

module _ (t tags : List ℕ) (s : State512) (n : ℕ) where
  module _ (l : nodes t ≤ 512) where
    cause_fits : (c : Cause (arithmetic t) (functions t) (nodes t) (body_of t) (expr_at t) (owner t) (tagged tags) s n)
        → Refusable (number c) (place c)
    cause_fits (no_node e) = refusable 12 0 (omega arith) (omega arith) (omega arith)
    cause_fits (bad_status r e) = refusable 24 0 (omega arith) (omega arith) (omega arith)
    cause_fits (bad_occupant r e) = refusable 24 0 (omega arith) (omega arith) (omega arith)
    cause_fits (main_done r e) = refusable 20 n (omega arith) (omega arith) (omega (arith, r.1, l))
    cause_fits (no_move r e h) = refusable 21 n (omega arith) (omega arith) (omega (arith, r.1, l))
    cause_fits (occupied r e h) = by_tag (tagged tags n)
      where
        by_tag : (b : Bool) → Refusable (pick b 22 23) n
        by_tag true = refusable 22 n (omega arith) (omega arith) (omega (arith, r.1, l))
        by_tag false = refusable 23 n (omega arith) (omega arith) (omega (arith, r.1, l))

  -- by the check of table and tags, then by the cause of a refusal or the move
  by_answer : (P : Stepped → Type 0) → ((k p : ℕ) → Refusable k p → P (refusal s k p))
      → (nodes t ≤ 512 → Range (nodes t) n → (u : State512)
      → P (record { answer = told (id (body_of t (functions t))) (view u); state = u }))
      → P (step_of t tags s n)
  unfolding step_of circuit_of
  by_answer P f g = go (check_with t tags) refl (with_fits t tags)
    where
      go : (v : Verdict) → check_with t tags ≡ v → FitsVerdict v
          → P (step_after v s (circuit_step (arithmetic t) (functions t) (nodes t) (body_of t) (expr_at t) (owner t) (tagged tags) s n))
      go (accepted F N) e b = unfold step_after in (
          let l : nodes t ≤ 512 = (few t (fair_from t tags F N e)).1 in
          step_cases (arithmetic t) (functions t) (nodes t) (body_of t) (expr_at t) (owner t) (tagged tags) s n P
          (λ c. f (number c) (place c) (cause_fits l c)) (λ r e m h. g l r _))
      go (refused k p) e b = unfold step_after in f k p b

  told_fits : (root : ℕ) (u : State512) → Fits u → FitsReply (told root (view u))
  told_fits root u w = by_done (done (view u) root)
    where
      by_done : (b : Bool) → FitsReply (pick b (answered (entry u.value 0 root)) taken)
      by_done true = value_word u.value w.value root
      by_done false = tt

  pub step_answers : Bytes t → Fits s → FitsReply (step_of t tags s n).answer
  step_answers b w =
      by_answer (λ r. Fits r.state → FitsReply r.answer) (λ k p f x. f) (λ l r u x. told_fits _ u x) (step_fits t tags b s w n)

  told_denied : (root : ℕ) (u : View) (k p : ℕ) → told root u ≡ denied k p → ⊥
  told_denied root u k p = by_done (done u root)
    where
      by_done : (b : Bool) → pick b (answered (u.value root)) taken ≡ denied k p → ⊥
      by_done true e = let z : ◌≡◌ {A = ℕ} 0 1 = cc in omega arith
      by_done false e = let z : ◌≡◌ {A = ℕ} 0 1 = cc in omega arith

  pub denied_fits : (k p : ℕ) → (step_of t tags s n).answer ≡ denied k p → Refusable k p
  denied_fits k p = by_answer (λ r. r.answer ≡ denied k p → Refusable k p)
      (λ i q f e. same i q f e) (λ l r u e. absurd (told_denied _ (view u) k p e))
    where
      parts : Reply → ℕ × ℕ
      parts (denied i q) = (i, q)
      parts taken = (0, 0)
      parts (answered v) = (0, 0)

      same : (i q : ℕ) → Refusable i q → denied i q ≡ denied k p → Refusable k p
      same i q f e = subst (λ x. Refusable x.0 x.1) (ap parts e) f

  pub possible_fits : Possible t tags s n → Valued n
  possible_fits = by_answer (λ r. IsTaken r.answer → Valued n) (λ k p f x. absurd x) (λ l r u x. omega (arith, r.1, l))

-- a run over a list: refused before it, or at a step
by_reply : (r : Stepped) (l : Ran) → FitsHalt l.halt → (a : Reply) → ((k p : ℕ) → a ≡ denied k p → Refusable k p)
    → FitsHalt (and_then r a l).halt
by_reply r l f taken d = f
by_reply r l f (answered v) d = f
by_reply r l f (denied k p) d = d k p refl

from_fits : (t tags : List ℕ) (s : State512) (ns : List ℕ) → FitsHalt (run_from t tags s ns).halt
unfolding run_from
from_fits t tags s [] = tt
from_fits t tags s (n ∷ ns) = by_reply (step_of t tags s n) _ (from_fits t tags (step_of t tags s n).state ns) _ (denied_fits t tags s n)

pub run_fits : (t tags : List ℕ) (s : State512) (ns : List ℕ) → FitsHalt (run_of t tags s ns).halt
unfolding run_of
run_fits t tags s ns = go (standing t tags s) (standing_fits t tags s)
  where
    go : (v : Verdict) → FitsVerdict v → FitsHalt (run_after v s (run_from t tags s ns)).halt
    go (accepted F N) f = from_fits t tags s ns
    go (refused k p) f = f

-- a query
pub query_fits : (t tags : List ℕ) (s : State512) (f : Found) → Finds t tags s f → FitsFound f
query_fits t tags s f = go (standing t tags s) (standing_fits t tags s) f
  where
    go : (v : Verdict) → FitsVerdict v → (f : Found) → FindsAfter v t tags s f → FitsFound f
    go (accepted F N) b (names n) h = possible_fits t tags s n h
    go (accepted F N) b nothing h = tt
    go (accepted F N) b (unasked k p) h = absurd h
    go (refused k p) b f h = subst FitsFound (sym h) b

-- a run with a budget: main's value in a state of words is a word
picks_fit : (t tags : List ℕ) → Bytes t → (s : State512) → Fits s → (budget : ℕ) (d : Driven) → Picks t tags s budget d
    → FitsEnded d.ended
unfolding play_of
picks_fit t tags b s w budget d h =
    go d.ended h.says (subst Fits h.state (plays_fit t b s w (asks tags h.picked)))
  where
    go : (e : Ended) → Says t tags budget d.steps d.state e → Fits d.state → FitsEnded e
    go (gave v) x f = subst Valued x.1 (value_word d.state.value f.value (id (body_of t (functions t))))
    go at_rest x f = tt
    go spent x f = tt
    go (barred k p) x f = absurd x

pub drive_fits : (t tags : List ℕ) → Bytes t → (s : State512) → Fits s → (budget : ℕ) (d : Driven) → Drives t tags s budget d
    → FitsEnded d.ended
drive_fits t tags b s w budget d = go (standing t tags s) (standing_fits t tags s)
  where
    go : (v : Verdict) → FitsVerdict v → DrivesAfter v t tags s budget d → FitsEnded d.ended
    go (accepted F N) f h = picks_fit t tags b s w budget d h
    go (refused k p) f h = subst (λ x. FitsEnded x.ended) (sym h) f
