-- each listed call has one record, and no other call has one
use Prim.Native.Nat.{ℕ, zero, suc, ◌+◌, ◌≤◌, ◌<◌}
use mathlib.Core.Path.{◌≡◌, refl, sym, ap, ap₂, ◌∙◌}
use mathlib.Core.Bool.{Bool, true, false, ◌&&◌}
use mathlib.Core.List.{List, [], ◌∷◌, ◌++◌}
use native.Mathlib.Omega.{arith}
use native.Mathlib.Decide.{ℕ_discrete, dec_lt}
use lib.Dec.{eqb}
use borrow.Author.Tests.{eq-eqb, ne_eqb}
use Rattle.table.specs.Pick.{pick, Range}
use Rattle.table.specs.Find.{one}
use Rattle.table.specs.Bytes.{functions, nodes}
use Rattle.table.specs.Working.{Taken}
use Rattle.list.specs.declared.Record.{Record}
use Rattle.list.specs.Tags.{callee_of, listed}
use Rattle.list.specs.Records.{record_at, calls_from, records_from, records_of}
use Rattle.list.proofs.TagFacts.{listed_call}
use Rattle.list.proofs.CallLaws.{listed_called}
use Rattle.pages.specs.Layout.{times_of}

times_both : (n : ℕ) (a b : List Record) → times_of n (a ++ b) ≡ times_of n a + times_of n b
unfolding times_of
times_both n [] b = sym (plain (times_of n b))
  where
    plain : (k : ℕ) → 0 + k ≡ k
    plain k = omega arith
times_both n (r ∷ a) b = ap (λ k. one (eqb r.node.0 n) + k) (times_both n a b) ∙ group (one (eqb r.node.0 n)) _ _
  where
    group : (x y z : ℕ) → x + (y + z) ≡ x + y + z
    group x y z = omega arith

module _ (t : List ℕ) (n : ℕ) where
  -- the records of one function: node n's, if it is among the nodes and listed as a call of f
  module _ (f : ℕ) where
    step : (k m : ℕ) → times_of n (calls_from t f (suc k) m)
        ≡ pick (listed t m && eqb (callee_of t m) f) (one (eqb m n)) 0 + times_of n (calls_from t f k (suc m))
    unfolding calls_from times_of
    step k m = go (listed t m && eqb (callee_of t m) f)
      where
        go : (b : Bool) → times_of n (pick b (record_at t m ∷ calls_from t f k (suc m)) (calls_from t f k (suc m)))
            ≡ pick b (one (eqb m n)) 0 + times_of n (calls_from t f k (suc m))
        go true = refl
        go false = plain (times_of n (calls_from t f k (suc m)))
          where
            plain : (k : ℕ) → k ≡ 0 + k
            plain k = omega arith

    nothing : (m : ℕ) → times_of n (calls_from t f 0 m) ≡ 0
    unfolding calls_from times_of
    nothing m = refl

    -- a node that is another
    apart : (m : ℕ) (b : Bool) → (m ≡ n → ⊥) → pick b (one (eqb m n)) 0 ≡ 0
    apart m true e = ap one (ne_eqb m n e)
    apart m false e = refl

    past : (k m : ℕ) → n < m → times_of n (calls_from t f k m) ≡ 0
    past zero m h = nothing m
    past (suc k) m h =
        step k m
        ∙ ap₂ (λ a b. a + b) (apart m (listed t m && eqb (callee_of t m) f) (λ e. omega (arith, e, h))) (past k (suc m) (omega (arith, h)))

    short : (k m : ℕ) → m + k ≤ n → times_of n (calls_from t f k m) ≡ 0
    short zero m h = nothing m
    short (suc k) m h =
        step k m
        ∙ ap₂ (λ a b. a + b) (apart m (listed t m && eqb (callee_of t m) f) (λ e. omega (arith, e, h))) (short k (suc m) (omega (arith, h)))

    among : (k m : ℕ) → m ≤ n → n < m + k → times_of n (calls_from t f k m) ≡ one (listed t n && eqb (callee_of t n) f)
    among zero m l h = absurd (omega (arith, l, h))
    among (suc k) m l h = step k m ∙ go (ℕ_discrete m n) (λ e. among k (suc m) (omega (arith, l, e)) (omega (arith, h)))
      where
        same : (b : Bool) → pick b 1 0 + 0 ≡ one b
        same true = refl
        same false = refl

        go : Dec (m ≡ n) → ((m ≡ n → ⊥) → times_of n (calls_from t f k (suc m)) ≡ one (listed t n && eqb (callee_of t n) f))
            → pick (listed t m && eqb (callee_of t m) f) (one (eqb m n)) 0 + times_of n (calls_from t f k (suc m))
            ≡ one (listed t n && eqb (callee_of t n) f)
        go (yes e) r =
            ap₂ (λ a b. pick (listed t m && eqb (callee_of t m) f) (one a) 0 + b) (eq-eqb m n e) (past k (suc m) (omega (arith, e)))
            ∙ same (listed t m && eqb (callee_of t m) f) ∙ ap (λ i. one (listed t i && eqb (callee_of t i) f)) e
        go (no e) r =
            ap₂ (λ a b. a + b) (apart m (listed t m && eqb (callee_of t m) f) e) (r e)
            ∙ plain (one (listed t n && eqb (callee_of t n) f))
          where
            plain : (k : ℕ) → 0 + k ≡ k
            plain k = omega arith

    of_function : (listed t n ≡ true → Range (nodes t) n)
        → times_of n (calls_from t f (nodes t) 1) ≡ one (listed t n && eqb (callee_of t n) f)
    of_function r = go (dec_lt 0 n) (dec_lt (nodes t) n)
      where
        none : (b c : Bool) → (b ≡ true → ⊥) → 0 ≡ one (b && c)
        none true c e = absurd (e refl)
        none false c e = refl

        go : Dec (0 < n) → Dec (nodes t < n) → times_of n (calls_from t f (nodes t) 1) ≡ one (listed t n && eqb (callee_of t n) f)
        go (yes l) (no h) = among (nodes t) 1 (omega (arith, l)) (omega (arith, h))
        go (yes l) (yes h) =
            short (nodes t) 1 (omega (arith, h)) ∙ none (listed t n) (eqb (callee_of t n) f) (λ q. omega (arith, h, (r q).1))
        go (no l) h = past (nodes t) 1 (omega (arith, l)) ∙ none (listed t n) (eqb (callee_of t n) f) (λ q. omega (arith, l, (r q).0))

  -- those of k functions from f on: there is one of the callee's alone
  module _ (r : listed t n ≡ true → Range (nodes t) n) where
    next : (k f : ℕ) → times_of n (records_from t (suc k) f)
        ≡ one (listed t n && eqb (callee_of t n) f) + times_of n (records_from t k (suc f))
    unfolding records_from
    next k f =
        times_both n (calls_from t f (nodes t) 1) (records_from t k (suc f))
        ∙ ap (λ a. a + times_of n (records_from t k (suc f))) (of_function f r)

    no_function : (f : ℕ) → times_of n (records_from t 0 f) ≡ 0
    unfolding records_from times_of
    no_function f = refl

    unlisted : listed t n ≡ false → (k f : ℕ) → times_of n (records_from t k f) ≡ 0
    unlisted e zero f = no_function f
    unlisted e (suc k) f =
        next k f ∙ ap₂ (λ a b. a + b) (ap (λ b. one (b && eqb (callee_of t n) f)) e) (unlisted e k (suc f))

    module _ (e : listed t n ≡ true) where
      above : (k f : ℕ) → callee_of t n < f → times_of n (records_from t k f) ≡ 0
      above zero f h = no_function f
      above (suc k) f h =
          next k f
          ∙ ap₂ (λ a b. a + b) (ap₂ (λ a b. one (a && b)) e (ne_eqb (callee_of t n) f (λ q. omega (arith, q, h))))
          (above k (suc f) (omega (arith, h)))

      within : (k f : ℕ) → f ≤ callee_of t n → callee_of t n < f + k → times_of n (records_from t k f) ≡ 1
      within zero f l h = absurd (omega (arith, l, h))
      within (suc k) f l h = next k f ∙ go (ℕ_discrete (callee_of t n) f) (λ q. within k (suc f) (omega (arith, l, q)) (omega (arith, h)))
        where
          go : Dec (callee_of t n ≡ f) → ((callee_of t n ≡ f → ⊥) → times_of n (records_from t k (suc f)) ≡ 1)
              → one (listed t n && eqb (callee_of t n) f) + times_of n (records_from t k (suc f)) ≡ 1
          go (yes q) w =
              ap₂ (λ a b. a + b) (ap₂ (λ a b. one (a && b)) e (eq-eqb (callee_of t n) f q)) (above k (suc f) (omega (arith, q)))
          go (no q) w = ap₂ (λ a b. a + b) (ap₂ (λ a b. one (a && b)) e (ne_eqb (callee_of t n) f q)) (w q)

-- so of all of them
pub listed_once : (t : List ℕ) → Taken t → (n : ℕ) → times_of n (records_of t) ≡ one (listed t n)
unfolding records_of
listed_once t ok n = go (listed t n) refl
  where
    inside : listed t n ≡ true → Range (nodes t) n
    inside e = (listed_call t (functions t) (nodes t) ok n e).0

    go : (b : Bool) → listed t n ≡ b → times_of n (records_from t (functions t) 1) ≡ one b
    go true e =
        let c = listed_called t ok n e in
        within t n inside e (functions t) 1 (omega (arith, c.0)) (omega (arith, c.1))
    go false e = unlisted t n inside e (functions t) 1
