-- every answer fits its number: refusals by the checks that make them, records of an accepted table, values of a state of words
use Prim.Native.Nat.{ℕ, zero, suc, ◌≤◌, ◌<◌}
use mathlib.Core.Bool.{Bool, true, false, ◌&&◌}
use mathlib.Core.Path.{◌≡◌, refl, sym, subst}
use mathlib.Core.List.{List}
use native.Mathlib.Omega.{arith}
use lib.Dec.{T, eqb, ltb, leb, leb→le}
use native.Mathlib.Decide.{dec_lt}
use lib.ListN.{length, get_or, get_or-eq_default}
use Rattle.table.specs.Pick.{pick}
use Rattle.table.specs.Bytes.{functions, nodes}
use Rattle.table.specs.Find.{lowest}
use Rattle.table.specs.Check.{Verdict, accepted, refused, stage, sizes, check_of, operation_counts}
use Rattle.table.specs.Working.{Taken}
use Rattle.table.proofs.SurveyLaws.{taken_by}
use Rattle.table.proofs.RuleLaws.{operation_few}
use Rattle.list.specs.declared.Record.{Record}
use Rattle.list.specs.Tags.{after, listed, tag_fits, check_with, fill_verdict, tags_refusal}
use Rattle.list.specs.Records.{no_record, record_at, records_of, records_verdict}
use Rattle.list.proofs.NodeLaws.{few}
use Rattle.list.proofs.EachRecord.{each_record, record_small}
use Rattle.pages.specs.Sheet.{sheet_bytes}
use Rattle.pages.proofs.SheetLaws.{bytes_fit}
use Rattle.exports.specs.Codes.{item, past, item_after, item_of, extent_after, extent_of}
use Rattle.exports.specs.Numbers.{Refusable, FitsVerdict, FitsCounts, FitsItem, FitsExtent}

-- a number of the rules, at a place that is a node's or none
pub refusable : (k p : ℕ) → 1 ≤ k → k ≤ 255 → p ≤ 512 → Refusable k p
refusable k p a b c = (a, omega (arith, b), omega (arith, c))

pub counts_fit : (op : ℕ) → FitsCounts (operation_counts op)
counts_fit op = let f = operation_few op in (omega (arith, f.0), omega (arith, f.1))

pub stage_fits : (k : ℕ) (b : Bool) (p : ℕ) (rest : Unit {0} → Verdict) → 1 ≤ k → k ≤ 255 → p ≤ 512 → (T b → FitsVerdict (rest tt))
    → FitsVerdict (stage k b p rest)
unfolding stage
stage_fits k false p rest l h q f = refusable k 0 l h (omega arith)
stage_fits k true zero rest l h q f = f tt
stage_fits k true (suc p) rest l h q f = refusable k (suc p) l h q

pub after_fits : (v : Verdict) (rest : Unit {0} → Verdict) → FitsVerdict v → ((F N : ℕ) → v ≡ accepted F N → FitsVerdict (rest tt))
    → FitsVerdict (after v rest)
unfolding after
after_fits (accepted F N) rest b f = f F N refl
after_fits (refused k p) rest b f = b

pub lowest_within : (p : ℕ → Bool) (k : ℕ) → lowest p k ≤ k
unfolding lowest
lowest_within p zero = omega arith
lowest_within p (suc k) = go (lowest p k) (lowest_within p k) (eqb (lowest p k) 0) (p (suc k))
  where
    go : (r : ℕ) → r ≤ k → (b c : Bool) → pick b (pick c 0 (suc k)) r ≤ suc k
    go r h true true = omega arith
    go r h true false = omega arith
    go r h false c = omega (arith, h)

-- the table: past 2 there are at most 512 nodes
last_of : (a b c : Bool) → T (a && (b && c)) → T c
last_of true true c h = h
last_of true false c h = absurd h
last_of false b c h = absurd h

few_nodes : (t : List ℕ) → T (sizes t) → nodes t ≤ 512
unfolding sizes
few_nodes t z = leb→le (nodes t) 512 (last_of (leb 1 (functions t) && leb (functions t) 32) (leb 1 (nodes t)) (leb (nodes t) 512) z)

pub check_fits : (t : List ℕ) → FitsVerdict (check_of t)
unfolding check_of
check_fits t =
    stage_fits 1 _ 0 _ (omega arith) (omega arith) (omega arith) (λ _.
    stage_fits 2 _ 0 _ (omega arith) (omega arith) (omega arith) (λ z.
    let in_size : (p : ℕ → Bool) → lowest p (nodes t) ≤ 512 = λ p. omega (arith, lowest_within p (nodes t), few_nodes t z) in
    stage_fits 3 _ 0 _ (omega arith) (omega arith) (omega arith) (λ _.
    stage_fits 4 _ _ _ (omega arith) (omega arith) (in_size _) (λ _.
    stage_fits 5 _ _ _ (omega arith) (omega arith) (in_size _) (λ _.
    stage_fits 6 _ _ _ (omega arith) (omega arith) (in_size _) (λ _.
    stage_fits 7 _ _ _ (omega arith) (omega arith) (in_size _) (λ _.
    stage_fits 8 _ _ _ (omega arith) (omega arith) (in_size _) (λ _.
    stage_fits 9 _ _ _ (omega arith) (omega arith) (in_size _) (λ _.
    stage_fits 25 _ _ _ (omega arith) (omega arith) (in_size _) (λ _. tt))))))))))

module _ (t : List ℕ) where
  few_taken : (F N : ℕ) → check_of t ≡ accepted F N → nodes t ≤ 512
  few_taken F N e = (few t (taken_by t F N (sym e)).0).1

  pub with_fits : (tags : List ℕ) → FitsVerdict (check_with t tags)
  unfolding check_with tags_refusal
  with_fits tags = after_fits _ _ (check_fits t) (λ F N e.
      stage_fits 10 _ _ _ (omega arith) (omega arith) (omega (arith, lowest_within (tag_fits t tags) (nodes t), few_taken F N e)) (λ _. tt))

  pub fill_fits : (len : ℕ) → FitsVerdict (fill_verdict t len)
  unfolding fill_verdict
  fill_fits len = after_fits _ _ (check_fits t) (λ F N e. stage_fits 10 _ 0 _ (omega arith) (omega arith) (omega arith) (λ _. tt))

  pub records_fit : (len : ℕ) → FitsVerdict (records_verdict t len)
  unfolding records_verdict
  records_fit len = after_fits _ _ (check_fits t) (λ F N e. stage_fits 10 _ 0 _ (omega arith) (omega arith) (omega arith) (λ _. tt))

-- a record of the list: its functions are among 32, its node among 512
module _ (t : List ℕ) (ok : Taken t) where
  record_fits_lem : (n : ℕ) → listed t n ≡ true → FitsItem (item (record_at t n))
  record_fits_lem n e =
      let s = record_small t ok n e in
      (omega (arith, s.0), omega (arith, s.1), omega (arith, s.2))

  -- at every place of the list, and past it
  pub list_fits : (i : ℕ) → FitsItem (item (get_or (records_of t) i no_record))
  list_fits i = go (dec_lt i (length (records_of t)))
    where
      go : Dec (i < length (records_of t)) → FitsItem (item (get_or (records_of t) i no_record))
      go (yes h) = each_record t (λ r. FitsItem (item r)) record_fits_lem i h
      go (no h) = subst (λ r. FitsItem (item r)) (sym (get_or-eq_default (records_of t) no_record (omega (arith, h))))
          (omega arith, omega arith, omega arith)

pub item_fits : (t : List ℕ) (i : ℕ) → FitsItem (item_of t i)
item_fits t i = go (check_of t) refl (check_fits t)
  where
    by_place : (b : Bool) (r : Record) → FitsItem (item r) → FitsItem (pick b (item r) past)
    by_place true r f = f
    by_place false r f = tt

    go : (v : Verdict) → check_of t ≡ v → FitsVerdict v → FitsItem (item_after v (records_of t) i)
    go (accepted F N) e f = by_place (ltb i (length (records_of t))) (get_or (records_of t) i no_record)
        (list_fits t (taken_by t F N (sym e)).0 i)
    go (refused k p) e f = f

-- a sheet has at most 19008 bytes
pub extent_fits : (t : List ℕ) → FitsExtent (extent_of t)
extent_fits t = go (check_of t) (check_fits t)
  where
    go : (v : Verdict) → FitsVerdict v → FitsExtent (extent_after v (length (sheet_bytes t)))
    go (accepted F N) f = omega (arith, bytes_fit t)
    go (refused k p) f = f
