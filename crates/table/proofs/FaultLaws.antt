-- the nodes' part of the check, in one pass: the first number that a node meets, and the lowest of them
use Prim.Native.Nat.{ℕ, zero, suc, ◌+◌, ◌-◌, ◌≤◌, ◌<◌}
use mathlib.Core.Bool.{Bool, true, false}
use mathlib.Core.Path.{◌≡◌, refl, subst, sym, ap, ◌∙◌}
use mathlib.Core.List.{List}
use native.Mathlib.Omega.{arith}
use native.Mathlib.Decide.{ℕ_discrete, dec_lt}
use borrow.Author.Tests.{lt-ltb, le-ltb, eq-eqb, ne_eqb}
use lib.Dec.{eqb}
use Rattle.std.specs.Prelude.{Result, Ok, Err, IfErr, ⊤}
use Rattle.table.specs.declared.refusals.Reason.{Reason}
use Rattle.table.specs.declared.refusals.Refusal.{Refusal}
use Rattle.table.specs.Refusals.{number_of}
use Rattle.table.specs.Pick.{pick}
use Rattle.table.specs.Bytes.{functions, nodes}
use Rattle.table.specs.Find.{lowest}
use Rattle.table.specs.Check.{Verdict, accepted, refused, stage, formed, callee_fits, counted, scoped, tailed, const_fits}
use Rattle.table.specs.Working.{Fault, no_fault, test, fault_at, better, met_number, fault_of, check_nodes, fault_verdict}
use Rattle.table.proofs.Loops.{lowest_more, lowest_here, lowest_kept}

-- there is no number between 9 and 25
abbrev Numbered : ℕ → Type 0
Numbered k = 9 < k → 25 ≤ k

-- what a node's first fault k from number `low` on says of its tests
pub record Met (t : List ℕ) (low n k : ℕ) : Type 0 where
  pub range : (low ≤ k) × (k ≤ no_fault)
  pub numbered : Numbered k
  pub before : (j : ℕ) → low ≤ j → j < k → test t j n ≡ true
  pub here : k < no_fault → test t k n ≡ false

module _ (t : List ℕ) (n : ℕ) where
  -- no test has a number from 10 to 24
  untested : (j : ℕ) → 9 < j → j < 25 → test t j n ≡ true
  unfolding test
  untested j l h = rw (
    ne_eqb j 5 (λ e. omega arith),
    ne_eqb j 6 (λ e. omega arith),
    ne_eqb j 7 (λ e. omega arith),
    ne_eqb j 8 (λ e. omega arith),
    ne_eqb j 9 (λ e. omega arith),
    ne_eqb j 25 (λ e. omega arith),
  )

  -- one number more: it is met, or what comes after it is
  met_at : (low high k : ℕ) (b : Bool) → low < high → high ≤ no_fault → Numbered low → ((j : ℕ) → low < j → j < high → test t j n ≡ true)
      → test t low n ≡ b → Met t high n k → Met t low n (pick b k low)
  met_at low high k true l h i gap e m = record {
    range = (omega (arith, m.range.0), m.range.1);
    numbered = m.numbered;
    before = λ j a x. go j a x (ℕ_discrete j low) (dec_lt j high);
    here = m.here;
  }
    where
      go : (j : ℕ) → low ≤ j → j < k → Dec (j ≡ low) → Dec (j < high) → test t j n ≡ true
      go j a x (yes q) z = rw q e
      go j a x (no q) (yes z) = gap j (omega arith) z
      go j a x (no q) (no z) = m.before j (omega arith) x
  met_at low high k false l h i gap e m = record {
    range = (omega arith, omega arith);
    numbered = i;
    before = λ j a x. absurd (omega arith);
    here = λ x. e;
  }

  -- with no test before the next number
  met_next : (low k : ℕ) (b : Bool) → low < no_fault → Numbered low → test t low n ≡ b → Met t (low + 1) n k → Met t low n (pick b k low)
  met_next low k b l i e m = met_at low (low + 1) k b (omega arith) (omega arith) i (λ j x y. absurd (omega arith)) e m

  met_none : Met t no_fault n no_fault
  met_none = record {
    range = (omega arith, omega arith);
    numbered = λ i. omega arith;
    before = λ j a x. absurd (omega arith);
    here = λ x. absurd (omega arith);
  }

  pub met : Met t 5 n (fault_at t n)
  unfolding fault_at test
  met =
      met_next 5 _ (formed t n) (omega arith) (λ i. absurd (omega arith)) refl
      (met_next 6 _ (callee_fits t n) (omega arith) (λ i. absurd (omega arith)) refl
      (met_next 7 _ (counted t n) (omega arith) (λ i. absurd (omega arith)) refl
      (met_next 8 _ (scoped t n) (omega arith) (λ i. absurd (omega arith)) refl
      (met_at 9 25 _ (tailed t n) (omega arith) (omega arith) (λ i. absurd (omega arith)) untested refl
      (met_next 25 _ (const_fits t n) (omega arith) (λ i. omega arith) refl met_none)))))

-- the lowest number met by the nodes 1 to n, and the lowest node that meets it
pub record Lowest (t : List ℕ) (n : ℕ) (b : Fault) : Type 0 where
  pub range : (5 ≤ b.number) × (b.number ≤ no_fault)
  pub numbered : Numbered b.number
  pub before : (j : ℕ) → 5 ≤ j → j < b.number → lowest (test t j) n ≡ 0
  pub here : b.number < no_fault → lowest (test t b.number) n ≡ b.place
  pub some : b.number < no_fault → 1 ≤ b.place

pub lowest_start : (t : List ℕ) → Lowest t 0 (record { number = no_fault; place = 0 })
unfolding lowest
lowest_start t = record {
  range = (omega arith, omega arith);
  numbered = λ i. omega arith;
  before = λ j l i. refl;
  here = λ i. absurd (omega arith);
  some = λ i. absurd (omega arith);
}

pub lowest_next : (t : List ℕ) (n k : ℕ) (b : Fault) → Lowest t n b → k ≡ fault_at t (n + 1) → Lowest t (n + 1) (better b k (n + 1))
lowest_next t n k b h e = go (rw (← e) at (met t (n + 1))) (dec_lt k b.number)
  where
    go : Met t 5 (n + 1) k → Dec (k < b.number) → Lowest t (n + 1) (better b k (n + 1))
    go m (yes l) = rw (lt-ltb k b.number l) (record {
      range = m.range;
      numbered = m.numbered;
      before = λ j i x. lowest_more (test t j) n (h.before j i (omega arith)) (m.before j i x);
      here = λ i. lowest_here (test t k) n (h.before k m.range.0 l) (m.here i);
      some = λ i. omega arith;
    })
    go m (no l) = rw (le-ltb k b.number (omega arith)) (record {
      range = h.range;
      numbered = h.numbered;
      before = λ j i x. lowest_more (test t j) n (h.before j i x) (m.before j i (omega arith));
      here = λ i. lowest_kept (test t b.number) n (λ z. omega (arith, h.here i, h.some i, z)) ∙ h.here i;
      some = h.some;
    })

-- a turn of the pass: node n, after those below it
module _ (t : List ℕ) where
  abbrev pub SoFar : ℕ → Result ⊤ Refusal → Type 0
  SoFar n r = Lowest t n (fault_of r) × IfErr r (λ e. number_of e.reason < no_fault)

  pub lowest_turn : (n : ℕ) (best r : Result ⊤ Refusal) (k : Result ⊤ Reason) → 1 ≤ n → SoFar (n - 1) best → met_number k ≡ fault_at t n
      → fault_of r ≡ better (fault_of best) (met_number k) n
      → (IfErr best (λ e. number_of e.reason < no_fault) → IfErr r (λ e. number_of e.reason < no_fault)) → SoFar n r
  lowest_turn n best r k i h m e low =
      let b : (n - 1) + 1 ≡ n = omega arith in (
        rw e (subst (λ x. Lowest t x (better (fault_of best) (met_number k) x)) b
            (lowest_next t (n - 1) (met_number k) (fault_of best) h.0 (m ∙ ap (fault_at t) (sym b)))),
        low h.1,
      )

stage_on : (k p : ℕ) (rest : Unit {0} → Verdict) → p ≡ 0 → stage k true p rest ≡ rest tt
unfolding stage
stage_on k zero rest z = refl
stage_on k (suc p) rest z = absurd (omega arith)

stage_off : (k p q : ℕ) (rest : Unit {0} → Verdict) → p ≡ q → 1 ≤ q → stage k true p rest ≡ refused k q
unfolding stage
stage_off k zero q rest e i = absurd (omega arith)
stage_off k (suc p) q rest e i = ap (refused k) e

-- what the pass tells by the lowest number
abbrev pub told : List ℕ → Fault → Verdict
told t b = pick (eqb b.number no_fault) (accepted (functions t) (nodes t)) (refused b.number b.place)

-- so the pass gives what the numbers, one after the other, give
pub lowest_check : (t : List ℕ) (b : Fault) → Lowest t (nodes t) b → told t b ≡ check_nodes t
unfolding check_nodes test
lowest_check t b h = sym (
    from 5 6 (omega arith, omega arith) _ (λ l. l) (
    from 6 7 (omega arith, omega arith) _ (λ l. l) (
    from 7 8 (omega arith, omega arith) _ (λ l. l) (
    from 8 9 (omega arith, omega arith) _ (λ l. l) (
    from 9 25 (omega arith, omega arith) _ h.numbered (
    from 25 no_fault (omega arith, omega arith) _ (λ l. l) none))))) h.range.0)
  where
    none : no_fault ≤ b.number → accepted (functions t) (nodes t) ≡ told t b
    none l = sym (ap (λ x. pick x (accepted (functions t) (nodes t)) (refused b.number b.place))
        (eq-eqb b.number no_fault (omega (arith, h.range.1))))

    refusal : b.number < no_fault → told t b ≡ refused b.number b.place
    refusal l = ap (λ x. pick x (accepted (functions t) (nodes t)) (refused b.number b.place))
        (ne_eqb b.number no_fault (λ z. omega arith))

    -- the check from number `low` on: it refuses there, or goes on from `high`
    from : (low high : ℕ) → (5 ≤ low) × (low < no_fault) → (rest : Unit {0} → Verdict) → (low < b.number → high ≤ b.number)
        → (high ≤ b.number → rest tt ≡ told t b) → low ≤ b.number
        → stage low true (lowest (test t low) (nodes t)) rest ≡ told t b
    from low high i rest next f l = go (ℕ_discrete b.number low)
      where
        go : Dec (b.number ≡ low) → stage low true (lowest (test t low) (nodes t)) rest ≡ told t b
        go (yes e) =
            stage_off low (lowest (test t low) (nodes t)) b.place rest (rw e at (h.here (omega (arith, i.1))))
            (h.some (omega (arith, i.1)))
            ∙ ap (λ x. refused x b.place) (sym e) ∙ sym (refusal (omega (arith, i.1)))
        go (no e) =
            stage_on low (lowest (test t low) (nodes t)) rest (h.before low i.0 (omega arith)) ∙ f (next (omega arith))

-- of what the code keeps, whose reasons are those of the nodes' part
pub lowest_told : (t : List ℕ) (r : Result ⊤ Refusal) → SoFar t (nodes t) r → fault_verdict t r ≡ check_nodes t
lowest_told t (Ok _) h = lowest_check t _ h.0
lowest_told t (Err r) h =
    sym (ap (λ x. pick x (accepted (functions t) (nodes t)) (refused (number_of r.reason) r.place.0))
    (ne_eqb (number_of r.reason) no_fault (λ z. omega (arith, h.1, z)))) ∙ lowest_check t _ h.0
