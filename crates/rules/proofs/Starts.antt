-- what a start takes: the table, its tags, the arguments and the list are looked at one after the other
use Prim.Native.Nat.{ℕ, zero, suc, ◌≤◌, ◌<◌}
use mathlib.Core.Bool.{Bool, true, false, ◌&&◌}
use mathlib.Core.Path.{◌≡◌, refl, sym, ap, ◌∙◌}
use mathlib.Core.List.{List}
use native.Mathlib.Omega.{arith}
use lib.Dec.{eqb, eqb→eq}
use lib.ListN.{length}
use borrow.Author.Tests.{ne_eqb}
use Rattle.table.specs.Bytes.{functions, nodes, params}
use Rattle.table.specs.Check.{Verdict, accepted, refused, stage, check_of}
use Rattle.table.proofs.Tests.{true_t}
use Rattle.table.proofs.FindLaws.{same}
use Rattle.table.proofs.Passed.{passes, passed, goes_on}
use Rattle.list.specs.Tags.{Holding, after, tag_length, none_past, tags_refusal, tags_of, check_with, missing}
use Rattle.list.proofs.TagFacts.{order_taken, goes_order, tags_hold, tags_taken}
use Rattle.list.proofs.HoldingLaws.{none_missing, missing_exactly}
use Rattle.rules.specs.State.{State512}
use Rattle.rules.specs.Circuit.{started, turned, opening, check_start, start_after, start_of}
use Rattle.rules.specs.Starts.{Fitting, StartsExactly}
use Rattle.rules.specs.Companions.{OwnStart}

-- what a start that was taken has passed
pub record Passes (t tags args : List ℕ) (s : State512) : Type 0 where
  pub check : check_of t ≡ accepted (functions t) (nodes t)
  pub check_tags : check_with t tags ≡ accepted (functions t) (nodes t)
  pub count : length args ≡ params t (functions t)
  pub holding : Holding t tags
  pub state : s ≡ opening t args

pub after_both : (c : Verdict) (rest : Unit {0} → Verdict) (F N : ℕ) → after c rest ≡ accepted F N
    → ((F' N' : ℕ) × (c ≡ accepted F' N')) × (rest tt ≡ accepted F N)
unfolding after
after_both (accepted F' N') rest F N e = ((F', N', refl), e)
after_both (refused k p) rest F N e = absurd (let z : ◌≡◌ {A = ℕ} 0 1 = cc in omega arith)

start_both : (c : Verdict) (s r : State512) → start_after c s ≡ started r → ((F N : ℕ) × (c ≡ accepted F N)) × (r ≡ s)
unfolding start_after
start_both (accepted F N) s r e = ((F, N, refl), cc)
start_both (refused k p) s r e = absurd (let z : ◌≡◌ {A = ℕ} 0 1 = cc in omega arith)

-- a table whose tags are taken is taken, and both tell its sizes
pub fair_from : (t tags : List ℕ) (F N : ℕ) → check_with t tags ≡ accepted F N → check_of t ≡ accepted (functions t) (nodes t)
unfolding check_with
fair_from t tags F N e =
    let x = after_both (check_of t) _ F N e in
    let p = passed t x.0.0 x.0.1 x.0.2 in
    x.0.2 ∙ sym (λ i. accepted (p.1 i) (p.2 i))

pub tags_own : (t tags : List ℕ) (F N : ℕ) → check_with t tags ≡ accepted F N → check_with t tags ≡ accepted (functions t) (nodes t)
unfolding check_with tags_refusal
tags_own t tags F N e =
    let x = after_both (check_of t) _ F N e in
    let f = passes 10 (eqb (length tags) (tag_length t) && none_past t tags) _ _ F N x.1 in
    e ∙ sym f.2

pub start_passes : (t tags args : List ℕ) (s : State512) → start_of t tags args ≡ started s → Passes t tags args s
unfolding start_of check_start
start_passes t tags args s e =
    let a = start_both (check_start t tags args) (opening t args) s e in
    let b = after_both (check_with t tags) _ a.0.0 a.0.1 a.0.2 in
    let d = passes 11 (eqb (length args) (params t (functions t))) 0 _ a.0.0 a.0.1 b.1 in
    let l = passes 26 true (missing t tags) _ a.0.0 a.0.1 d.2 in
    record {
      check = fair_from t tags b.0.0 b.0.1 b.0.2;
      check_tags = tags_own t tags b.0.0 b.0.1 b.0.2;
      count = eqb→eq (length args) (params t (functions t)) d.0;
      holding = (none_missing t tags).0 l.1;
      state = a.1;
    }

-- table and tags come first, then 11
pub start_first : (t tags args : List ℕ) (k p : ℕ) → check_with t tags ≡ refused k p → start_of t tags args ≡ turned k p
unfolding start_of start_after check_start after
start_first t tags args k p e = rw e refl

pub start_second : (t tags args : List ℕ) (F N : ℕ) → check_with t tags ≡ accepted F N → (length args ≡ params t (functions t) → ⊥)
    → start_of t tags args ≡ turned 11 0
unfolding start_of start_after check_start after stage
start_second t tags args F N e d = rw (e, ne_eqb (length args) (params t (functions t)) d) refl

-- what is left to look at once 11 is passed
module _ (t tags : List ℕ) where
  abbrev listing : Unit {0} → Verdict
  listing _ = stage 26 true (missing t tags) λ _. accepted (functions t) (nodes t)

  -- and what is said then
  pub start_listed : (args : List ℕ) (F N : ℕ) → check_with t tags ≡ accepted F N → length args ≡ params t (functions t)
      → start_of t tags args ≡ start_after (listing tt) (opening t args)
  unfolding start_of check_start after
  start_listed args F N e c = ap (λ v. start_after v (opening t args))
      (ap (λ v. after v (λ _. stage 11 (eqb (length args) (params t (functions t))) 0 listing)) e
      ∙ goes_on 11 (eqb (length args) (params t (functions t))) 0 listing (same (length args) (params t (functions t)) c) refl)

  pub start_taken : (args : List ℕ) (F N : ℕ) → check_with t tags ≡ accepted F N → length args ≡ params t (functions t) → missing t tags ≡ 0
      → start_of t tags args ≡ started (opening t args)
  unfolding start_after stage
  start_taken args F N e c z =
      start_listed args F N e c ∙ ap (λ m. start_after (stage 26 true m (λ _. accepted (functions t) (nodes t))) (opening t args)) z

  pub start_lacks : (args : List ℕ) (F N : ℕ) → check_with t tags ≡ accepted F N → length args ≡ params t (functions t) → (n : ℕ) → 1 ≤ n
      → missing t tags ≡ n → start_of t tags args ≡ turned 26 n
  unfolding start_after stage
  start_lacks args F N e c zero l z = absurd (omega arith)
  start_lacks args F N e c (suc n) l z =
      start_listed args F N e c ∙ ap (λ m. start_after (stage 26 true m (λ _. accepted (functions t) (nodes t))) (opening t args)) z

-- no refusal has the number m
abbrev pub Not : ℕ → Verdict → Type 0
Not m (accepted F N) = Unit {0}
Not m (refused k p) = k ≡ m → ⊥

stage_not : (m k : ℕ) (b : Bool) (p : ℕ) (rest : Unit {0} → Verdict) → (k ≡ m → ⊥) → Not m (rest tt) → Not m (stage k b p rest)
unfolding stage
stage_not m k false p rest d f = d
stage_not m k true zero rest d f = f
stage_not m k true (suc p) rest d f = d

after_not : (m : ℕ) (c : Verdict) (rest : Unit {0} → Verdict) → Not m c → Not m (rest tt) → Not m (after c rest)
unfolding after
after_not m (accepted F N) rest x y = y
after_not m (refused k p) rest x y = x

-- table and tags are refused by 1 to 10 and 25 alone
pub with_not : (t tags : List ℕ) (m : ℕ) → 10 < m → (m ≡ 25 → ⊥) → Not m (check_with t tags)
unfolding check_with check_of tags_refusal
with_not t tags m h d = after_not m _ _
    (stage_not m 1 _ _ _ (low 1 (omega arith)) (stage_not m 2 _ _ _ (low 2 (omega arith)) (stage_not m 3 _ _ _ (low 3 (omega arith))
    (stage_not m 4 _ _ _ (low 4 (omega arith)) (stage_not m 5 _ _ _ (low 5 (omega arith)) (stage_not m 6 _ _ _ (low 6 (omega arith))
    (stage_not m 7 _ _ _ (low 7 (omega arith)) (stage_not m 8 _ _ _ (low 8 (omega arith)) (stage_not m 9 _ _ _ (low 9 (omega arith))
    (stage_not m 25 _ _ _ (λ e. d (sym e)) tt))))))))))
    (stage_not m 10 _ _ _ (low 10 (omega arith)) tt)
  where
    low : (k : ℕ) → k < 11 → k ≡ m → ⊥
    low k l e = omega (arith, e, h, l)

-- so a start that is turned back by 26 got that far
lacks_from : (t tags args : List ℕ) (n : ℕ) → start_of t tags args ≡ turned 26 n
    → ((F N : ℕ) × (check_with t tags ≡ accepted F N)) × (length args ≡ params t (functions t)) × (missing t tags ≡ n) × (1 ≤ n)
unfolding start_of check_start after start_after stage
lacks_from t tags args n = go (check_with t tags) (with_not t tags 26 (omega arith) (λ e. omega (arith, e)))
  where
    told : (b : Bool) (m : ℕ) → Unit {0} → Verdict
    told b m _ = stage 11 b 0 (λ _. stage 26 true m (λ _. accepted (functions t) (nodes t)))

    counted : Bool
    counted = eqb (length args) (params t (functions t))

    by : (b : Bool) (m : ℕ) → counted ≡ b → missing t tags ≡ m → start_after (told b m tt) (opening t args) ≡ turned 26 n
        → (length args ≡ params t (functions t)) × (missing t tags ≡ n) × (1 ≤ n)
    by false m q w e = absurd (let z : ◌≡◌ {A = ℕ} 11 26 = cc in omega (arith, z))
    by true zero q w e = absurd (let z : ◌≡◌ {A = ℕ} 0 1 = cc in omega arith)
    by true (suc m) q w e =
        let z : suc m ≡ n = cc in
        (eqb→eq (length args) (params t (functions t)) (true_t _ q), w ∙ z, omega (arith, z))

    go : (c : Verdict) → Not 26 c → start_after (after c (told counted (missing t tags))) (opening t args) ≡ turned 26 n
        → ((F N : ℕ) × (c ≡ accepted F N)) × (length args ≡ params t (functions t)) × (missing t tags ≡ n) × (1 ≤ n)
    go (accepted F N) u e = let x = by counted (missing t tags) refl refl e in ((F, N, refl), x.0, x.1, x.2)
    go (refused k p) u e = absurd (u (let z : ◌≡◌ {A = ℕ} k 26 = cc in z))

pub starts_exactly : (t tags args : List ℕ) → StartsExactly t tags args
starts_exactly t tags args = record {
  first = start_first t tags args;
  second = start_second t tags args;
  taken = λ s. (
    λ e. let p = start_passes t tags args s e in (fits (functions t) (nodes t) p.check_tags p.count, p.holding, p.state),
    λ x. let o = (order_taken t (functions t) (nodes t) x.0.table tags).1 x.0.order in
        start_taken t tags args _ _ o x.0.count ((none_missing t tags).1 x.1) ∙ ap started (sym x.2),
  );
  lacking = λ n. (
    λ e. let f = lacks_from t tags args n e in
        (fits f.0.0 f.0.1 f.0.2 f.1, (missing_exactly t tags n f.3).0 f.2),
    λ x. let o = (order_taken t (functions t) (nodes t) x.0.table tags).1 x.0.order in
        start_lacks t tags args _ _ o x.0.count n x.1.there.0 ((missing_exactly t tags n x.1.there.0).1 x.1),
  );
}
  where
    fits : (F N : ℕ) → check_with t tags ≡ accepted F N → length args ≡ params t (functions t) → Fitting t tags args
    fits F N e n =
        let c = fair_from t tags F N e in
        record { table = c; order = goes_order t (functions t) (nodes t) c tags F N e; count = n }

-- every accepted table starts with its own list
pub own_start : OwnStart
own_start t args F N check count =
    start_taken t (tags_of t) args _ _ (tags_taken t F N check) count ((none_missing t (tags_of t)).1 (tags_hold t F N check))
