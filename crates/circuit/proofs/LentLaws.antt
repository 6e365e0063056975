-- runs on lent arrays and a lent count: where table, tags or 24 refuse all of it is kept, else the count has the steps taken; and by value,
-- where the count lent is 0
use Rattle.std.proofs.Common.{◌≡◌, ℕ, List, sym, refl, ap, ◌∙◌}
use Rattle.table.specs.Check.{Verdict, accepted, refused, if_accepted}
use Rattle.rules.specs.State.{State512}
use Rattle.rules.specs.Runs.{standing, stopped, Ran, run_from, run_of, barred, Driven, Found, unasked}
use Rattle.rules.specs.First.{first_of, found_at, query_of, stays, drive_from, drive_of}
use Rattle.std.proofs.Common.{Result, Ok}
use Rattle.table.specs.declared.refusals.Refusal.{Refusal}
use Rattle.circuit.specs.declared.types.Ended.{Ended}
use Rattle.circuit.specs.Meaning.{halt_of, ended_of, RanLent, DrivenLent}
use Rattle.circuit.specs.Working.{ran_as, driven_as}
use Rattle.circuit.proofs.EntryLaws.{run_turned, run_goes}

module _ (t tags : List ℕ) (s : State512) where
  -- a choice by what is checked first
  chosen : {A : Type 0} (v : Verdict) → standing t tags s ≡ v → (x y : A) → if_accepted v x y ≡ if_accepted (standing t tags s) x y
  chosen v e x y = ap (λ w. if_accepted w x y) (sym e)

  pub ran_kept : (ns : List ℕ) (old k p : ℕ) (h : Result (Unit {0}) Refusal) → standing t tags s ≡ refused k p → halt_of h ≡ stopped k p
      → RanLent t tags s ns old h s old
  ran_kept ns old k p h e q =
      let w = run_turned t tags s ns k p e in
      record { halt = q ∙ ap (λ x. x.halt) w; state = ap (λ x. x.state) w; count = chosen _ e (run_of t tags s ns).steps old }

  pub ran_counted : (ns : List ℕ) (old F N : ℕ) (h : Result (Unit {0}) Refusal) (k : ℕ) (s' : State512) → standing t tags s ≡ accepted F N
      → ran_as h k s' ≡ run_from t tags s ns → RanLent t tags s ns old h s' k
  ran_counted ns old F N h k s' e q =
      let w = q ∙ run_goes t tags s ns F N e in
      record {
        halt = ap (λ x. x.halt) w;
        state = ap (λ x. x.state) w;
        count = ap (λ x. x.steps) w ∙ chosen _ e (run_of t tags s ns).steps old;
      }

  pub ran_by_value : (ns : List ℕ) (h : Result (Unit {0}) Refusal) (s' : State512) (k : ℕ) → RanLent t tags s ns 0 h s' k
      → ◌≡◌ {A = Ran} (record { steps = k; halt = halt_of h; state = s' }) (run_of t tags s ns)
  ran_by_value ns h s' k r = λ i. record { steps = (r.count ∙ whole (standing t tags s) refl) i; halt = r.halt i; state = r.state i }
    where
      whole : (v : Verdict) → standing t tags s ≡ v → if_accepted v (run_of t tags s ns).steps 0 ≡ (run_of t tags s ns).steps
      whole (accepted F N) e = refl
      whole (refused n p) e = ap (λ x. x.steps) (run_turned t tags s ns n p e)

  -- a query and a run with a budget, by what is checked first
  pub query_turned : (k p : ℕ) → standing t tags s ≡ refused k p → unasked k p ≡ query_of t tags s
  unfolding query_of
  query_turned k p e = sym (rw e refl)

  pub query_goes : (F N : ℕ) → standing t tags s ≡ accepted F N → (r : Found) → r ≡ found_at (first_of t tags s) → r ≡ query_of t tags s
  unfolding query_of
  query_goes F N e r q = q ∙ sym (rw e refl)

  drive_turned : (budget k p : ℕ) → standing t tags s ≡ refused k p → stays s (barred k p) ≡ drive_of t tags s budget
  unfolding drive_of
  drive_turned budget k p e = sym (rw e refl)

  drive_goes : (budget F N : ℕ) → standing t tags s ≡ accepted F N → drive_from t tags s budget ≡ drive_of t tags s budget
  unfolding drive_of
  drive_goes budget F N e = sym (rw e refl)

  pub driven_kept : (budget old k p : ℕ) (h : Result Ended Refusal) → standing t tags s ≡ refused k p → ended_of h ≡ barred k p
      → DrivenLent t tags s budget old h s old
  driven_kept budget old k p h e q =
      let w = drive_turned budget k p e in
      record { ended = q ∙ ap (λ x. x.ended) w; state = ap (λ x. x.state) w; count = chosen _ e (drive_of t tags s budget).steps old }

  pub driven_counted : (budget old F N : ℕ) (h : Ended) (k : ℕ) (s' : State512) → standing t tags s ≡ accepted F N
      → driven_as h k s' ≡ drive_from t tags s budget → DrivenLent t tags s budget old (Ok h) s' k
  driven_counted budget old F N h k s' e q =
      let w = q ∙ drive_goes budget F N e in
      record {
        ended = ap (λ x. x.ended) w;
        state = ap (λ x. x.state) w;
        count = ap (λ x. x.steps) w ∙ chosen _ e (drive_of t tags s budget).steps old;
      }

  pub driven_by_value : (budget : ℕ) (h : Result Ended Refusal) (s' : State512) (k : ℕ) → DrivenLent t tags s budget 0 h s' k
      → ◌≡◌ {A = Driven} (record { steps = k; ended = ended_of h; state = s' }) (drive_of t tags s budget)
  driven_by_value budget h s' k r =
      λ i. record { steps = (r.count ∙ whole (standing t tags s) refl) i; ended = r.ended i; state = r.state i }
    where
      whole : (v : Verdict) → standing t tags s ≡ v → if_accepted v (drive_of t tags s budget).steps 0 ≡ (drive_of t tags s budget).steps
      whole (accepted F N) e = refl
      whole (refused n p) e = ap (λ x. x.steps) (drive_turned budget n p e)
