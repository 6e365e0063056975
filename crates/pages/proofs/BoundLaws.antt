-- no sheet has more than 24 pages: every page but the last is full, or one line short where the resource changes
use Prim.Native.Nat.{ℕ, zero, suc, ◌+◌, ◌-◌, ◌*◌, ◌%◌, ◌≤◌, ◌<◌}
use mathlib.Core.Path.{◌≡◌, refl, sym, ap, ◌∙◌}
use mathlib.Core.Logic.{◌⊎◌, inl, inr}
use mathlib.Core.Bool.{Bool, true, false, ◌&&◌, not}
use mathlib.Core.List.{List, [], ◌∷◌, ◌++◌}
use native.Mathlib.Omega.{arith}
use native.Mathlib.Decide.{dec_lt}
use lib.Dec.{eqb}
use lib.ListN.{length, length-append, length-replicate}
use borrow.Author.Tests.{eq-eqb, eqb-true}
use Rattle.table.specs.Pick.{pick}
use Rattle.table.specs.Find.{one}
use Rattle.table.specs.Bytes.{functions, nodes}
use Rattle.table.specs.Working.{Taken}
use Rattle.list.specs.declared.Record.{Record}
use Rattle.list.specs.Tags.{callee_of, listed}
use Rattle.list.specs.Records.{record_at, calls_from, records_from, records_of}
use Rattle.list.proofs.ArbiterFacts.{and_both}
use Rattle.list.proofs.NodeLaws.{few}
use Rattle.list.proofs.Totals.{few_records}
use Rattle.pages.specs.Rows.{title, gap, entry, gaps, resource, due, rows_after, rows_of}
use Rattle.pages.proofs.RowLaws.{rows_end, rows_on, rows_new}

-- the calls, and the changes of resource among them
unfoldable cost : (last : ℕ) → List Record → ℕ
cost last [] = 0
cost last (r ∷ rs) = one (not (eqb last (resource r))) + suc (cost (resource r) rs)

-- where a line of spaces is due, the resource changes
due_changes : (last f : ℕ) → due last f ≤ one (not (eqb last f))
unfolding due
due_changes last f = go (eqb last 0) (eqb last f)
  where
    go : (a b : Bool) → pick (not a && not b) 1 0 ≤ one (not b)
    go true true = omega arith
    go true false = omega arith
    go false true = omega arith
    go false false = omega arith

-- `rows` rows follow where `left` lines are left and c calls and changes are to come: they are whole pages after this one, and each page
-- but the last takes its 23 lines of calls and changes
record Paged (left c rows : ℕ) : Type 0 where
  pages : ℕ
  size : rows ≡ left + 24 * pages
  full : (pages ≡ 0) ⊎ (23 * pages + left ≤ c + 22)

paged : (page left last : ℕ) (rs : List Record) → Paged left (cost last rs) (length (rows_after page left last rs))
unfolding cost
paged page left last [] = record {
  pages = 0;
  size = ap length (rows_end page left last) ∙ length-replicate left gap ∙ plain left;
  full = inl refl;
}
  where
    plain : (n : ℕ) → n ≡ n + 24 * 0
    plain n = omega arith
paged page left last (r ∷ rs) = go (dec_lt left (due last (resource r) + 1))
    (paged page (left - (due last (resource r) + 1)) (resource r) rs) (paged (page + 1) 22 (resource r) rs)
  where
    go : Dec (left < due last (resource r) + 1)
        → Paged (left - (due last (resource r) + 1)) (cost (resource r) rs)
        (length (rows_after page (left - (due last (resource r) + 1)) (resource r) rs))
        → Paged 22 (cost (resource r) rs) (length (rows_after (page + 1) 22 (resource r) rs))
        → Paged left (one (not (eqb last (resource r))) + suc (cost (resource r) rs)) (length (rows_after page left last (r ∷ rs)))
    go (yes h) _ q = record {
      pages = q.pages + 1;
      size = omega (
        arith,
        ap length (rows_new page left last r rs h),
        length-append (gaps left) (title (page + 1) ∷ entry r ∷ rows_after (page + 1) 22 (resource r) rs),
        length-replicate left gap,
        q.size,
      );
      full = inr (more q.full);
    }
      where
        more : (q.pages ≡ 0) ⊎ (23 * q.pages + 22 ≤ cost (resource r) rs + 22)
            → 23 * (q.pages + 1) + left ≤ one (not (eqb last (resource r))) + suc (cost (resource r) rs) + 22
        more (inl e) = omega (arith, e, h, due_changes last (resource r))
        more (inr l) = omega (arith, l, h, due_changes last (resource r))
    go (no h) q _ = record {
      pages = q.pages;
      size = omega (
        arith,
        ap length (rows_on page left last r rs (omega (arith, h))),
        length-append (gaps (due last (resource r))) (entry r ∷ rows_after page (left - (due last (resource r) + 1)) (resource r) rs),
        length-replicate (due last (resource r)) gap,
        q.size,
        h,
      );
      full = more q.full;
    }
      where
        more : (q.pages ≡ 0) ⊎ (23 * q.pages + (left - (due last (resource r) + 1)) ≤ cost (resource r) rs + 22)
            → (q.pages ≡ 0) ⊎ (23 * q.pages + left ≤ one (not (eqb last (resource r))) + suc (cost (resource r) rs) + 22)
        more (inl e) = inl e
        more (inr l) = inr (omega (arith, l, h, due_changes last (resource r)))

-- the lines left on the page are there in any case
pub rows_least : (page left last : ℕ) (rs : List Record) → left ≤ length (rows_after page left last rs)
rows_least page left last rs = omega (arith, (paged page left last rs).size)

rows_size : (rs : List Record) → length (rows_of rs) ≡ 24 * ((paged 1 23 0 rs).pages + 1)
unfolding rows_of
rows_size rs = omega (arith, (paged 1 23 0 rs).size)

-- pages are whole
pub rows_whole : (rs : List Record) → length (rows_of rs) % 24 ≡ 0
rows_whole rs = omega (arith, rows_size rs)

pub empty_page : length (rows_of []) ≡ 24
unfolding rows_of
empty_page = ap (λ rows. suc (length rows)) (rows_end 1 23 0)

-- 544 calls and changes have room on 24 pages
room_for : (rs : List Record) → cost 0 rs ≤ 544 → length (rows_of rs) ≤ 576
room_for rs h = go (paged 1 23 0 rs).full
  where
    go : ((paged 1 23 0 rs).pages ≡ 0) ⊎ (23 * (paged 1 23 0 rs).pages + 23 ≤ cost 0 rs + 22) → length (rows_of rs) ≤ 576
    go (inl e) = omega (arith, e, rows_size rs)
    go (inr l) = omega (arith, l, h, rows_size rs)

-- the listed calls of one function have one resource, whatever comes after them
module _ (t : List ℕ) (f m : ℕ) (rest : List Record) (few_after : (last : ℕ) → cost last rest ≤ m) where
  record Costs (l : List Record) : Type 0 where
    same : cost f (l ++ rest) ≤ length l + m
    any : (last : ℕ) → cost last (l ++ rest) ≤ 1 + length l + m

  costs : (k n : ℕ) → Costs (calls_from t f k n)
  unfolding calls_from cost
  costs zero n = record { same = omega (arith, few_after f); any = λ last. omega (arith, few_after last) }
  costs (suc k) n = go (listed t n && eqb (callee_of t n) f) refl (costs k (suc n))
    where
      change : (b : Bool) → one b ≤ 1
      change true = omega arith
      change false = omega arith

      go : (b : Bool) → listed t n && eqb (callee_of t n) f ≡ b → Costs (calls_from t f k (suc n))
          → Costs (pick b (record_at t n ∷ calls_from t f k (suc n)) (calls_from t f k (suc n)))
      go false e next = next
      go true e next =
          let q = eqb-true (callee_of t n) f (and_both (listed t n) (eqb (callee_of t n) f) e).1 in
          record {
            same = omega (
              arith,
              ap (λ b. one (not b)) (eq-eqb f (callee_of t n) (sym q)),
              ap (λ g. cost g (calls_from t f k (suc n) ++ rest)) q,
              next.same,
            );
            any = λ last. omega (
              arith,
              change (not (eqb last (callee_of t n))),
              ap (λ g. cost g (calls_from t f k (suc n) ++ rest)) q,
              next.same,
            );
          }

-- so those of k functions change it at most k times
changes : (t : List ℕ) (k f last : ℕ) → cost last (records_from t k f) ≤ length (records_from t k f) + k
unfolding records_from cost
changes t zero f last = omega arith
changes t (suc k) f last = omega (
  arith,
  (costs t f (length (records_from t k (suc f)) + k) (records_from t k (suc f)) (changes t k (suc f)) (nodes t) 1).any last,
  length-append (calls_from t f (nodes t) 1) (records_from t k (suc f)),
)

-- the records of a table have room
pub few_pages : (t : List ℕ) → Taken t → length (rows_of (records_of t)) ≤ 576
few_pages t ok = room_for (records_of t) (omega (arith, at_most, few_records t ok, (few t ok).0, (few t ok).1))
  where
    at_most : cost 0 (records_of t) ≤ length (records_of t) + functions t
    at_most = unfold records_of in changes t (functions t) 1 0
