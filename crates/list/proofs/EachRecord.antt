-- what holds of the record of every listed call holds of each record of the list; how large its numbers are
use Rattle.std.proofs.Common.{◌≡◌, ℕ, zero, suc, ◌<◌, ◌≤◌, Bool, true, false, ◌&&◌, eqb, List, [], ◌∷◌, ◌++◌, length, get_or, refl}
use Rattle.std.proofs.Common.{le_of_suc-le-suc, not-suc-le-zero, arith}
use Rattle.table.specs.Pick.{pick}
use Rattle.table.specs.Bytes.{functions, nodes}
use Rattle.table.specs.Naming.{owner}
use Rattle.table.specs.Working.{Taken}
use Rattle.table.proofs.Family.{owner_few}
use Rattle.list.specs.declared.Record.{Record}
use Rattle.list.specs.Tags.{callee_of, listed}
use Rattle.list.specs.Records.{no_record, record_at, calls_from, records_from, records_of}
use Rattle.list.proofs.NodeLaws.{few}
use Rattle.list.proofs.TagFacts.{listed_call}
use Rattle.list.proofs.CallLaws.{listed_called}

module _ (t : List ℕ) (P : Record → Type 0) (p : (n : ℕ) → listed t n ≡ true → P (record_at t n)) where
  abbrev pub Each : List Record → Type 0
  Each l = (i : ℕ) → i < length l → P (get_or l i no_record)

  each_none : Each []
  each_none i h = absurd (not-suc-le-zero h)

  each_more : (r : Record) (l : List Record) → P r → Each l → Each (r ∷ l)
  each_more r l q f zero h = q
  each_more r l q f (suc i) h = f i (le_of_suc-le-suc h)

  each_both : (a b : List Record) → Each a → Each b → Each (a ++ b)
  each_both [] b f g = g
  each_both (r ∷ a) b f g = each_more r (a ++ b) (f 0 (first a)) (each_both a b (λ i h. f (suc i) (next h)) g)
    where
      first : (a : List Record) → 0 < suc (length a)
      first a = omega arith

      next : {i n : ℕ} → i < n → suc i < suc n
      next h = omega arith

  by_listed : (n : ℕ) (l : List Record) → Each l → (b c : Bool) → listed t n ≡ b → Each (pick (b && c) (record_at t n ∷ l) l)
  by_listed n l f true true e = each_more (record_at t n) l (p n e) f
  by_listed n l f true false e = f
  by_listed n l f false c e = f

  each_call : (f k n : ℕ) → Each (calls_from t f k n)
  unfolding calls_from
  each_call f zero n = each_none
  each_call f (suc k) n = by_listed n (calls_from t f k (suc n)) (each_call f k (suc n)) (listed t n) (eqb (callee_of t n) f) refl

  each_from : (k f : ℕ) → Each (records_from t k f)
  unfolding records_from
  each_from zero f = each_none
  each_from (suc k) f = each_both (calls_from t f (nodes t) 1) (records_from t k (suc f)) (each_call f (nodes t) 1) (each_from k (suc f))

  pub each_record : Each (records_of t)
  unfolding records_of
  each_record = each_from (functions t) 1

-- functions are among 32, nodes among 512
pub record_small : (t : List ℕ) → Taken t → (n : ℕ) → listed t n ≡ true → (callee_of t n ≤ 32) × (owner t n ≤ 32) × (n ≤ 512)
record_small t ok n e =
    let f = few t ok in (
      omega (arith, (listed_called t ok n e).1, f.0),
      omega (arith, owner_few t n, f.0),
      omega (arith, (listed_call t (functions t) (nodes t) ok n e).0.1, f.1),
    )
