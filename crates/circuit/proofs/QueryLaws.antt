-- the query: the first node that has a step is the first possible one
use Rattle.std.proofs.Common.{◌≡◌, ℕ, zero, suc, ◌+◌, ◌-◌, ◌≤◌, Bool, true, false, not, List, Option, None, sym, refl}
use Rattle.std.proofs.Common.{ap, ◌∙◌, subst, arith}
use Rattle.table.specs.Bytes.{functions, nodes, root}
use Rattle.table.specs.declared.refusals.Reason.{Reason}
use Rattle.table.specs.Find.{lowest}
use Rattle.table.specs.Working.{Taken}
use Rattle.table.proofs.Loops.{lowest_more, lowest_found}
use Rattle.rules.specs.State.{State512, entry}
use Rattle.rules.specs.Circuit.{act_of}
use Rattle.rules.specs.Runs.{MainDone, names, nothing}
use Rattle.rules.specs.First.{first_of, found_at}
use Rattle.rules.specs.Sets.{goes, sets_of, ready, first_in}
use Rattle.rules.proofs.FirstFacts.{done_first}
use Rattle.rules.proofs.FirstBySets.{first_by_sets}
use Rattle.circuit.specs.Working.{Agreed, Stands, why_not}
use Rattle.circuit.proofs.ChainLaws.{ok}
use Rattle.circuit.proofs.StandsLaws.{stands_parts}
use Rattle.circuit.proofs.TurnLaws.{main_root}
use Rattle.circuit.proofs.WhyLaws.{ready_goes, why_goes, goes_why}

named : (n : ℕ) → 1 ≤ n → names n ≡ found_at n
named zero h = absurd (omega arith)
named (suc n) h = refl

-- no node below n has a step
abbrev pub NoneBelow : List ℕ → State512 → ℕ → Type 0
NoneBelow t s n = lowest (λ m. not (ready (sets_of t s) m)) (n - 1) ≡ 0

pub none_yet : (t : List ℕ) (s : State512) → NoneBelow t s 1
unfolding lowest
none_yet t s = refl

-- there is main's root
pub some_node : (t : List ℕ) → Taken t → 1 ≤ nodes t
some_node t fair =
    let p = ok t fair in
    let r = p.linking.roots (functions t) (p.f_low, omega arith) in
    omega (arith, r.0, r.1)

module _ (t : List ℕ) (s : State512) (b : Bool) (n : ℕ) (some : 1 ≤ n) (h : NoneBelow t s n) (k : Option Reason)
    (e : k ≡ why_not b (act_of t s n)) where
  abbrev unready : ℕ → Bool
  unready m = not (ready (sets_of t s) m)

  here : n - 1 + 1 ≡ n
  here = omega arith

  none_here : (y : Bool) → goes (act_of t s n) ≡ y → (k ≡ None → ⊥) → unready n ≡ true
  none_here true g d = absurd (d (e ∙ sym (why_goes b (act_of t s n) g)))
  none_here false g d = ap not (sym (ready_goes t s n) ∙ g)

  pub none_more : (k ≡ None → ⊥) → NoneBelow t s (n + 1)
  none_more d = subst (λ m. lowest unready m ≡ 0) (omega (arith, here))
      (lowest_more unready (n - 1) h (subst (λ m. unready m ≡ true) (sym here) (none_here _ refl d)))

  pub one_more_lem : k ≡ None → n ≤ nodes t → first_in (sets_of t s) (nodes t) ≡ n
  unfolding first_in
  one_more_lem z i = lowest_found unready (n - 1) (nodes t) h (subst (λ m. unready m ≡ false) (sym here) (ap not (sym (ready_goes t s n)
      ∙ goes_why b (act_of t s n) (sym z ∙ e)))) (omega arith) ∙ here

module _ (t tags : List ℕ) (ag : Agreed t tags) (s : State512) (st : Stands t s) (top x : ℕ) (et : top ≡ root t (functions t))
    (ex : x ≡ entry s.status 0 top) where
  main_is : x ≡ 3 → MainDone t s
  main_is e = ap (entry s.status 0) (main_root t ag.fair ∙ sym et) ∙ sym ex ∙ e

  not_done : (x ≡ 3 → ⊥) → MainDone t s → ⊥
  not_done d m = d (ex ∙ ap (entry s.status 0) (et ∙ sym (main_root t ag.fair)) ∙ m)

  by_sets : (x ≡ 3 → ⊥) → first_of t tags s ≡ first_in (sets_of t s) (nodes t)
  by_sets d =
      let p = stands_parts t s st in
      first_by_sets t tags s (functions t) (nodes t) ag.tagging p.0 p.1 (not_done d)

  pub query_done : x ≡ 3 → nothing ≡ found_at (first_of t tags s)
  query_done e = ap found_at (sym (done_first t tags s (main_is e)))

  pub query_none : (x ≡ 3 → ⊥) → (n : ℕ) → NoneBelow t s n → n ≡ nodes t + 1 → nothing ≡ found_at (first_of t tags s)
  unfolding first_in
  query_none d n h e = ap found_at (sym (by_sets d ∙ subst (λ m. lowest (λ m. not (ready (sets_of t s) m)) m ≡ 0) (omega arith) h))

  pub query_found : (x ≡ 3 → ⊥) → (n : ℕ) → 1 ≤ n → first_in (sets_of t s) (nodes t) ≡ n → names n ≡ found_at (first_of t tags s)
  query_found d n i e = named n i ∙ ap found_at (sym (by_sets d ∙ e))
