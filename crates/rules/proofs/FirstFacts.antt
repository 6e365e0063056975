-- the first possible node: it is possible, none below it is, and 0 says that there is none; so the query finds what it must
use Prim.Native.Nat.{ℕ, zero, suc, ◌≤◌, ◌<◌}
use mathlib.Core.Bool.{Bool, true, false, not}
use mathlib.Core.Path.{◌≡◌, refl, subst, ap, ap₂, ◌∙◌}
use mathlib.Core.List.{List}
use native.Mathlib.Omega.{arith}
use native.Mathlib.Decide.{dec_le}
use lib.Dec.{T, eqb, ltb}
use Rattle.table.specs.Pick.{pick}
use Rattle.table.specs.Bytes.{functions, nodes}
use Rattle.table.specs.Naming.{owner}
use Rattle.table.specs.Check.{Verdict, accepted, refused, stage}
use Rattle.table.specs.Expressions.{expr_at, body_of}
use Rattle.table.specs.Working.{IsNode}
use Rattle.list.specs.Tags.{tagged, after, check_with}
use Rattle.rules.specs.State.{State512}
use Rattle.rules.specs.Step.{Reply, taken, answered, denied, does, Move, perform, over, Stepped, refusal, circuit_step}
use Rattle.rules.specs.Play.{IsTaken}
use Rattle.rules.specs.Arithmetic.{arithmetic}
use Rattle.rules.specs.Circuit.{act_of, circuit_of, step_after, step_of, Possible}
use Rattle.rules.specs.Runs.{standing, MainDone, names, nothing, Finds, FindsAfter}
use Rattle.rules.specs.First.{is_taken, first_of, First, onward, after_first, found_at, query_after, query_of}
use Rattle.rules.proofs.StepCases.{step_cases}
use Rattle.rules.proofs.AnyState.{by_check, done_none}
use Rattle.table.proofs.LowestLaws.{lowest_fails}
use Rattle.table.proofs.FindLaws.{lowest_passes, passes_lowest}

-- the test and the statement
pub taken_test : (r : Reply) → IsTaken r → is_taken r ≡ true
taken_test taken a = refl
taken_test (answered v) a = refl
taken_test (denied k p) a = absurd a

test_taken : (r : Reply) → not (is_taken r) ≡ false → IsTaken r
test_taken taken e = tt
test_taken (answered v) e = tt
test_taken (denied k p) e = let z : ◌≡◌ {A = ℕ} 0 1 = cc in absurd (omega arith)

test_not : (r : Reply) → T (not (is_taken r)) → IsTaken r → ⊥
test_not taken h a = h
test_not (answered v) h a = h
test_not (denied k p) h a = a

not_test : (r : Reply) → (IsTaken r → ⊥) → T (not (is_taken r))
not_test taken h = h tt
not_test (answered v) h = h tt
not_test (denied k p) h = tt

module _ (t tags : List ℕ) (s : State512) where
  -- what is possible is a node
  pub possible_node : (n : ℕ) → Possible t tags s n → IsNode t n
  possible_node n = by_check t tags (λ f. IsTaken (f s n).answer → IsNode t n) (λ k p. absurd)
      (λ F N c. step_cases (arithmetic t) (functions t) (nodes t) (body_of t) (expr_at t) (owner t) (tagged tags) s n
      (λ r. IsTaken r.answer → IsNode t n) (λ c. absurd) (λ r e m h a. r))

  -- .. where table, tags and 24 are passed
  pub possible_stands : (n : ℕ) → Possible t tags s n → standing t tags s ≡ accepted (functions t) (nodes t)
  unfolding standing after stage step_of step_after circuit_of circuit_step
  possible_stands n = go (check_with t tags)
    where
      past : (b : Bool) (k p : ℕ) (r : Stepped) → IsTaken (pick b (refusal s k p) r).answer → (b ≡ false) × IsTaken r.answer
      past true k p r a = absurd a
      past false k p r a = (refl, a)

      go : (c : Verdict) → IsTaken (step_after c s (circuit_of t tags s n)).answer → after c (λ _.
          stage 24 (not (over 3 (nodes t) s.status)) 0 λ _.
          stage 24 (not (over (nodes t) (functions t) s.occupant)) 0 λ _.
          accepted (functions t) (nodes t)) ≡ accepted (functions t) (nodes t)
      go (accepted F N) a =
          let r = past (ltb (nodes t) n) 12 0 _ (past (eqb n 0) 12 0 _ a).1 in
          let p = past (over 3 (nodes t) s.status) 24 0 _ r.1 in
          let o = past (over (nodes t) (functions t) s.occupant) 24 0 _ p.1 in
          rw (p.0, o.0) refl
      go (refused k p) a = absurd a

  -- .. and its step is its move
  pub possible_move : (n : ℕ) → Possible t tags s n → (a : Move) × (act_of t s n ≡ does a)
      × ((step_of t tags s n).state ≡ perform (nodes t) (owner t) (body_of t) s n a)
  possible_move n = by_check t tags (λ f. IsTaken (f s n).answer → Moved n (f s n).state) (λ k p. absurd)
      (λ F N c. step_cases (arithmetic t) (functions t) (nodes t) (body_of t) (expr_at t) (owner t) (tagged tags) s n
      (λ r. IsTaken r.answer → Moved n r.state) (λ c. absurd) (λ r e m h a. (m, h, refl)))
    where
      Moved : ℕ → State512 → Type 0
      Moved n s' = (a : Move) × (act_of t s n ≡ does a) × (s' ≡ perform (nodes t) (owner t) (body_of t) s n a)

  abbrev test : ℕ → Bool
  test n = not (is_taken (step_of t tags s n).answer)

  pub first_some : (first_of t tags s ≡ 0 → ⊥) → First t tags s (first_of t tags s)
  unfolding first_of
  first_some h =
      let l = lowest_fails test (nodes t) h in
      record {
        node = l.there;
        possible = test_taken (step_of t tags s (first_of t tags s)).answer l.fails;
        least = λ n a. go n a (l.below n (possible_node n a).0) (dec_le (first_of t tags s) n);
      }
    where
      go : (n : ℕ) → Possible t tags s n → (n < first_of t tags s → T (test n)) → Dec (first_of t tags s ≤ n) → first_of t tags s ≤ n
      go n a f (yes q) = q
      go n a f (no q) = absurd (test_not (step_of t tags s n).answer (f (omega arith)) a)

  pub first_none : first_of t tags s ≡ 0 → (n : ℕ) → Possible t tags s n → ⊥
  unfolding first_of
  first_none e n a =
      let i = possible_node n a in
      test_not (step_of t tags s n).answer (lowest_passes test (nodes t) e n i.0 i.1) a

  pub none_first : ((n : ℕ) → Possible t tags s n → ⊥) → first_of t tags s ≡ 0
  unfolding first_of
  none_first f = passes_lowest test (nodes t) (λ i a b. not_test (step_of t tags s i).answer (f i))

  -- "once main's root is done the query says none"
  pub done_first : MainDone t s → first_of t tags s ≡ 0
  done_first d = none_first (λ n. done_none t tags s n d)

  pub query_done : (F N : ℕ) → standing t tags s ≡ accepted F N → MainDone t s → query_of t tags s ≡ nothing
  unfolding query_of
  query_done F N e d = ap₂ query_after e (done_first d)

  -- the first possible step is its node's move; where there is none nothing changes
  pub first_moves : (first_of t tags s ≡ 0 → ⊥) → (a : Move) × (act_of t s (first_of t tags s) ≡ does a)
      × (onward t tags s ≡ perform (nodes t) (owner t) (body_of t) s (first_of t tags s) a)
  unfolding onward
  first_moves h = possible_move (first_of t tags s) (first_some h).possible

  pub first_rests : first_of t tags s ≡ 0 → onward t tags s ≡ s
  unfolding onward
  first_rests e = ap (λ n. (step_of t tags s n).state) e
      ∙ by_check t tags (λ f. (f s 0).state ≡ s) (λ k p. refl)
      (λ F N c. step_cases (arithmetic t) (functions t) (nodes t) (body_of t) (expr_at t) (owner t) (tagged tags) s 0 (λ r. r.state ≡ s)
      (λ c. refl) (λ r e m h. absurd (omega (arith, r.0))))

  -- .. also after any number of first steps
  pub rests_on : first_of t tags s ≡ 0 → (k : ℕ) → after_first t tags s k ≡ s
  unfolding after_first
  rests_on e zero = refl
  rests_on e (suc k) = ap (λ u. after_first t tags u k) (first_rests e) ∙ rests_on e k

  pub query_named : (n : ℕ) → query_of t tags s ≡ names n → First t tags s n
  unfolding query_of
  query_named n = go (standing t tags s) (first_of t tags s) refl
    where
      one : (m : ℕ) → names m ≡ names n → m ≡ n
      one m e = cc

      go : (c : Verdict) (m : ℕ) → first_of t tags s ≡ m → query_after c m ≡ names n → First t tags s n
      go (accepted F N) zero e q = let z : ◌≡◌ {A = ℕ} 0 1 = cc in absurd (omega arith)
      go (accepted F N) (suc m) e q = subst (First t tags s) (e ∙ one (suc m) q) (first_some (λ z. omega (arith, z, e)))
      go (refused k p) m e q = let z : ◌≡◌ {A = ℕ} 0 1 = cc in absurd (omega arith)

  pub query_finds : Finds t tags s (query_of t tags s)
  unfolding query_of
  query_finds = go (standing t tags s)
    where
      found : (F N n : ℕ) → first_of t tags s ≡ n → FindsAfter (accepted F N) t tags s (found_at n)
      found F N zero e = first_none e
      found F N (suc n) e = subst (Possible t tags s) e (first_some (λ z. omega (arith, z, e))).possible

      go : (c : Verdict) → FindsAfter c t tags s (query_after c (first_of t tags s))
      go (accepted F N) = found F N (first_of t tags s) refl
      go (refused k p) = refl
