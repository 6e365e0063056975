-- a step asked at a number, test by test; when it is possible, and what it keeps
use Rattle.std.proofs.Common.{◌≡◌, ℕ, ◌<◌, ◌≤◌, Bool, true, false, eqb, List, Some, sym, refl, ap, ◌∙◌}
use Rattle.std.proofs.Common.{subst, arith, lt-ltb, eq-eqb, ne_eqb}
use native.Mathlib.Decide.{ℕ_discrete, dec_le}
use Rattle.table.proofs.Tests.{ltb_no}
use Rattle.table.specs.declared.refusals.Reason.{Reason}
use Rattle.table.specs.declared.refusals.Reason.TheVariants.{NoStep, Waits, Collides}
use Rattle.table.specs.Refusals.{number_of}
use Rattle.table.specs.Pick.{pick}
use Rattle.table.specs.Syntax.{id}
use Rattle.table.specs.Bytes.{functions, nodes, root}
use Rattle.table.specs.Naming.{owner}
use Rattle.table.specs.Check.{accepted}
use Rattle.table.specs.Expressions.{body_of, expr_at}
use Rattle.table.specs.Working.{IsNode}
use Rattle.table.proofs.Bodies.{id_body}
use Rattle.list.specs.Tags.{tagged, check_with}
use Rattle.rules.specs.State.{State512, view, entry}
use Rattle.rules.specs.Step.{Act, stuck, blocked, does, Reply, taken, answered, denied, Stepped, refusal, done, told, outcome}
use Rattle.rules.specs.Step.{circuit_step, over}
use Rattle.rules.specs.Arithmetic.{arithmetic}
use Rattle.rules.specs.Circuit.{act_of, circuit_of, step_after, step_of}
use Rattle.table.specs.Working.{Taken}
use Rattle.circuit.specs.declared.plan.Plan.{Plan}
use Rattle.circuit.specs.Working.{Planned, performed, Stands, why_not}
use Rattle.circuit.proofs.StandsLaws.{kept, stands_parts}
use Rattle.circuit.proofs.ChainLaws.{ok}
use Rattle.table.specs.Check as TableCheck

-- a step of a table whose tags are taken is the circuit's
pub step_is : (t tags : List ℕ) (F N : ℕ) → check_with t tags ≡ accepted F N → (s : State512) (n : ℕ) → step_of t tags s n ≡ circuit_of t
    tags s n
unfolding step_of step_after
step_is t tags F N e s n = rw e refl

pub step_turned : (t tags : List ℕ) (k p : ℕ) → check_with t tags ≡ TableCheck.refused k p → (s : State512) (n : ℕ)
    → refusal s k p ≡ step_of t tags s n
unfolding step_of step_after
step_turned t tags k p e s n = sym (rw e refl)

pub main_root : (t : List ℕ) → Taken t → id (body_of t (functions t)) ≡ root t (functions t)
main_root t fair = id_body t (ok t fair) (functions t) ((ok t fair).f_low, omega arith)

module _ (t tags : List ℕ) (fair : Taken t) (s : State512) (n : ℕ) where
  pub turn_zero : n ≡ 0 → refusal s 12 0 ≡ circuit_of t tags s n
  unfolding circuit_of circuit_step
  turn_zero e = sym (rw (eq-eqb n 0 e) refl)

  pub turn_past : (n ≡ 0 → ⊥) → nodes t < n → refusal s 12 0 ≡ circuit_of t tags s n
  unfolding circuit_of circuit_step
  turn_past d h = sym (rw (ne_eqb n 0 d, lt-ltb (nodes t) n h) refl)

  module _ (d : n ≡ 0 → ⊥) (h : n ≤ nodes t) where
    pub turn_stray : over 3 (nodes t) s.status ≡ true → refusal s 24 0 ≡ circuit_of t tags s n
    unfolding circuit_of circuit_step
    turn_stray e = sym (rw (ne_eqb n 0 d, ltb_no (nodes t) n (λ q. omega arith), e) refl)

    pub turn_stray' : over 3 (nodes t) s.status ≡ false → over (nodes t) (functions t) s.occupant ≡ true → refusal s 24 0 ≡
        circuit_of t tags s n
    unfolding circuit_of circuit_step
    turn_stray' e f = sym (rw (ne_eqb n 0 d, ltb_no (nodes t) n (λ q. omega arith), e, f) refl)

    module _ (st : Stands t s) where
      abbrev main : ℕ
      main = id (body_of t (functions t))

      pub by_main : (b : Bool) → done (view s) main ≡ b
          → circuit_of t tags s n ≡ pick b (refusal s 20 n)
          (outcome (arithmetic t) (functions t) (nodes t) (body_of t) (expr_at t) (owner t) (tagged tags) s n (act_of t s n))
      unfolding circuit_of circuit_step
      by_main b e = let p = stands_parts t s st in rw (ne_eqb n 0 d, ltb_no (nodes t) n (λ q. omega arith), p.0, p.1, e) refl

      module _ (top x : ℕ) (et : top ≡ root t (functions t)) (ex : x ≡ entry s.status 0 top) where
        main_is : x ≡ entry s.status 0 main
        main_is = ex ∙ ap (entry s.status 0) (et ∙ sym (main_root t fair))

        pub turn_over : x ≡ 3 → refusal s 20 n ≡ circuit_of t tags s n
        turn_over e = sym (by_main true (eq-eqb (entry s.status 0 main) 3 (sym main_is ∙ e)))

        pub turn_on : (x ≡ 3 → ⊥) → circuit_of t tags s n
            ≡ outcome (arithmetic t) (functions t) (nodes t) (body_of t) (expr_at t) (owner t) (tagged tags) s n (act_of t s n)
        turn_on e = by_main false (ne_eqb (entry s.status 0 main) 3 (λ q. e (main_is ∙ q)))

  -- what the code says of a step
  abbrev pub Out : Act → Stepped
  Out a = outcome (arithmetic t) (functions t) (nodes t) (body_of t) (expr_at t) (owner t) (tagged tags) s n a

  pub out_refused : (a : Act) (k : Reason) → Some k ≡ why_not (tagged tags n) a
      → ◌≡◌ {A = Stepped} (record { answer = denied (number_of k) n; state = s }) (Out a)
  out_refused stuck k e = let q : k ≡ NoStep = cc in (λ i. record { answer = denied (number_of (q i)) n; state = s })
  out_refused blocked k e =
      let q : k ≡ pick (tagged tags n) Waits Collides = cc in
      (λ i. record { answer = denied (ap number_of q i) n; state = s }) ∙ by_tag (tagged tags n)
    where
      by_tag : (b : Bool) → ◌≡◌ {A = Stepped} (record { answer = denied (number_of (pick b Waits Collides)) n; state = s })
          (record { answer = denied (pick b 22 23) n; state = s })
      by_tag true = refl
      by_tag false = refl
  out_refused (does m) k e = cc

  pub out_moved : (p : Plan) → Planned t s n p → (s' : State512) → s' ≡ performed t s n p → (top : ℕ) → top ≡ root t (functions t)
      → (r : Reply) → r ≡ pick (eqb (entry s'.status 0 top) 3) (answered (entry s'.value 0 top)) taken
      → ◌≡◌ {A = Stepped} (record { answer = r; state = s' }) (Out (act_of t s n))
  out_moved p q s' h top et r er =
      let e : top ≡ id (body_of t (functions t)) = et ∙ sym (main_root t fair) in
      let f : r ≡ told (id (body_of t (functions t))) (view s') =
      er ∙ ap (λ x. pick (eqb (entry s'.status 0 x) 3) (answered (entry s'.value 0 x)) taken) e in
      (λ i. record { answer = f i; state = s' }) ∙ ap (λ u. record {
        answer = told (id (body_of t (functions t))) (view u);
        state = u;
      }) h ∙ ap Out q

  out_stands : n ≤ nodes t → Stands t s → (a : Act) → Stands t (Out a).state
  out_stands h st stuck = st
  out_stands h st blocked = st
  out_stands h st (does m) = kept t s st n h m

-- a step that isn't refused keeps 24's tests passed; in any state
module _ (t tags : List ℕ) (fair : Taken t) (s : State512) (st : Stands t s) where
  pub by_number : (P : Stepped → Type 0) (n : ℕ) → P (refusal s 12 0) → (IsNode t n → P (refusal s 20 n)) →
      (IsNode t n → P (Out t tags fair s n (act_of t s n)))
      → P (circuit_of t tags s n)
  by_number P n p q r = go (ℕ_discrete n 0) (dec_le n (nodes t))
    where
      go : Dec (n ≡ 0) → Dec (n ≤ nodes t) → P (circuit_of t tags s n)
      go (yes z) d = subst P (turn_zero t tags fair s n z) p
      go (no z) (no d) = subst P (turn_past t tags fair s n z (omega arith)) p
      go (no z) (yes d) = main (done (view s) (id (body_of t (functions t)))) refl
        where
          main : (b : Bool) → done (view s) (id (body_of t (functions t))) ≡ b → P (circuit_of t tags s n)
          main true e = subst P (sym (by_main t tags fair s n z d st true e)) (q (omega arith, d))
          main false e = subst P (sym (by_main t tags fair s n z d st false e)) (r (omega arith, d))

  pub turn_stands : (n : ℕ) → Stands t (circuit_of t tags s n).state
  turn_stands n = by_number (λ r. Stands t r.state) n st (λ i. st) (λ i. out_stands t tags fair s n i.1 st (act_of t s n))
