-- the rules that the sweep looks up by kind, and what they say of a node
use Prim.Native.Nat.{ℕ, zero, suc, ◌+◌, ◌-◌, ◌*◌, ◌/◌, ◌%◌, ◌≤◌, ◌<◌}
use mathlib.Core.Bool.{Bool, true, false, ◌||◌}
use mathlib.Core.Path.{◌≡◌, sym, ap, ◌∙◌}
use mathlib.Core.List.{List}
use native.Mathlib.Omega.{arith}
use native.Mathlib.Decide.{ℕ_discrete}
use lib.Dec.{eqb, leb}
use lib.ListN.{length, get_or, set}
use lib.Seq.{get_or-set_same, get_or-set_other}
use borrow.Author.Tests.{eq-eqb, ne_eqb, le-leb}
use Rattle.table.specs.declared.Counts.{Counts}
use Rattle.table.specs.declared.kinds.Rule.{Rule}
use Rattle.table.specs.Pick.{pick}
use Rattle.table.specs.Find.{one}
use Rattle.table.specs.Check.{between, among, fields, counts_of, operation_counts}
use Rattle.table.specs.Sweep.{rule_of, packed, RulesOf, KindFits, tail_reach}
use Rattle.table.proofs.CellLaws.{by_eight}
use Rattle.table.proofs.CountLaws.{counts_by}

-- one kind more
pub rules_more : (l : List Rule) (k : ℕ) (r : Rule) → k < length l → r ≡ rule_of k → RulesOf k l → RulesOf (k + 1) (set l k r)
rules_more l k r b e h j none i = go (ℕ_discrete j k)
  where
    go : Dec (j ≡ k) → get_or (set l k r) j none ≡ rule_of j
    go (yes q) = rw q (get_or-set_same l k r none b ∙ e)
    go (no q) = get_or-set_other l k j r none q ∙ h j none (omega arith)

-- what is left of the kinds below 8, as a match leaves it
abbrev Not : ℕ → ℕ → Type 0
Not k j = k ≡ j → ⊥

below_five : (k : ℕ) → k < 8 → Not k 5 → Not k 6 → Not k 7 → k < 5
below_five k b e f g = omega arith

below_one : (k : ℕ) → k < 5 → Not k 1 → Not k 2 → Not k 3 → Not k 4 → k ≡ 0
below_one k b e f g h = omega arith

pub no_kind : (k : ℕ) → k < 8
    → ((((((Unit {0} × Not k 1) × Not k 2) × Not k 3) × Not k 4) × Not k 5) × Not k 6) × Not k 7 → k ≡ 0
no_kind k b r = below_one k (below_five k b r.0.0.1 r.0.1 r.1)
    r.0.0.0.0.0.0.1 r.0.0.0.0.0.1 r.0.0.0.0.1 r.0.0.0.1

pub reach_most : (k : ℕ) → tail_reach k ≤ 2048
reach_most k = go (eqb k 5) (eqb k 6)
  where
    go : (a b : Bool) → pick a 2 (pick b 1025 2048) ≤ 2048
    go true b = omega arith
    go false true = omega arith
    go false false = omega arith

-- a test as a number
pub one_yes : (k m : ℕ) → one (eqb k m) ≡ 1 → k ≡ m
one_yes k m h = go (ℕ_discrete k m)
  where
    go : Dec (k ≡ m) → k ≡ m
    go (yes e) = e
    go (no e) = absurd (omega (arith, sym h ∙ ap one (ne_eqb k m e)))

pub one_most : (b : Bool) → one b ≤ 1
one_most true = omega arith
one_most false = omega arith

-- a number times 0 or 1
pub flag_times : (x y : ℕ) → y ≤ 1 → x * y ≤ x
flag_times x zero h = omega arith
flag_times x (suc zero) h = omega arith
flag_times x (suc (suc y)) h = absurd (omega arith)

-- the tests that are looked up are those of the kind
abbrev Told : ℕ → Type 0
Told k = (e w o p m q : ℕ) → 1 ≤ o → p ≤ 8 → q ≤ 1 → e < p * (rule_of k).parameter + (rule_of k).extras
    → (rule_of k).call ≤ w → w ≤ (o + q - 1) * (rule_of k).call + (rule_of k).words * m → KindFits k e w o p (m + 1) q

-- a node that is neither a call nor a parameter
neither : (k e w o p m q : ℕ) → (k ≡ 4 → ⊥) → (k ≡ 2 → ⊥) → (k ≡ 1 → w ≤ m) → fields k e w 0 ≡ true → e < 16 → KindFits k e w o p (m + 1) q
neither k e w o p m q a b c f l = record {
  shaped = f;
  callee = λ h. absurd (a h);
  ends = λ h. absurd (a h);
  param = λ h. absurd (b h);
  constant = λ h. omega (arith, c h);
  small = l;
}

fits_rules : (k : ℕ) → k < 8 → Told k
unfolding fields
fits_rules = by_eight Told
    (λ e w o p m q i b j x y z. absurd (omega arith))
    (λ e w o p m q i b j x y z. neither 1 e w o p m q (λ h. omega arith) (λ h. omega arith) (λ h. omega (arith, h, z))
    (rw (none e (omega (arith, x)))) (omega (arith, x)))
    (λ e w o p m q i b j x y z. record {
      shaped = rw (none w (omega (arith, z)));
      callee = λ k. absurd (omega arith);
      ends = λ k. absurd (omega arith);
      param = λ k. omega (arith, x);
      constant = λ k. absurd (omega arith);
      small = omega (arith, x, b);
    })
    (λ e w o p m q i b j x y z. neither 3 e w o p m q (λ h. omega arith) (λ h. omega arith) (λ h. omega (arith, h, z))
    (rw (le-leb e 10 (omega (arith, x)), none w (omega (arith, z)))) (omega (arith, x)))
    (λ e w o p m q i b j x y z. record {
      shaped = rw (none e (omega (arith, x)));
      callee = λ k. (omega (arith, y), omega (arith, z, i, j));
      ends = λ k s. omega (arith, z, i, j);
      param = λ k. absurd (omega arith);
      constant = λ k. absurd (omega arith);
      small = omega (arith, x);
    })
    (λ e w o p m q i b j x y z. neither 5 e w o p m q (λ h. omega arith) (λ h. omega arith) (λ h. omega (arith, h, z))
    (rw (none e (omega (arith, x)), none w (omega (arith, z)))) (omega (arith, x)))
    (λ e w o p m q i b j x y z. neither 6 e w o p m q (λ h. omega arith) (λ h. omega arith) (λ h. omega (arith, h, z))
    (rw (none e (omega (arith, x)), none w (omega (arith, z)))) (omega (arith, x)))
    (λ e w o p m q i b j x y z. neither 7 e w o p m q (λ h. omega arith) (λ h. omega arith) (λ h. omega (arith, h, z))
    (rw (none e (omega (arith, x)))) (omega (arith, x)))
  where
    none : (x : ℕ) → x ≤ 0 → eqb x 0 ≡ true
    none x h = eq-eqb x 0 (omega arith)

pub fits_told : (k e w o p m q : ℕ) (r : Rule) → k < 8 → r ≡ rule_of k → 1 ≤ o → p ≤ 8 → q ≤ 1 → e < p * r.parameter + r.extras
    → r.call ≤ w → w ≤ (o + q - 1) * (rule_of k).call + (rule_of k).words * m → KindFits k e w o p (m + 1) q
fits_told k e w o p m q r i er j l n x y z = fits_rules k i e w o p m q j l n (rw er at x) (rw er at y) z

-- so few children that two numbers of them are one
abbrev pub Few : Counts → Type 0
Few c = (c.low ≤ 9) × (c.high ≤ 9)

pub operation_few : (e : ℕ) → Few (operation_counts e)
unfolding operation_counts
operation_few e = go (leb e 4 || among 8 9 e) (among 5 7 e) (eqb e 10)
  where
    go : (a b c : Bool) → Few (pick a (between 2 2) (pick b (between 1 1) (pick c (between 1 8) (between 0 0))))
    go true b c = (omega arith, omega arith)
    go false true c = (omega arith, omega arith)
    go false false true = (omega arith, omega arith)
    go false false false = (omega arith, omega arith)

pub counts_few : (k e : ℕ) → Few (counts_of k e 0)
unfolding counts_of
counts_few k e = go (eqb k 3) (eqb k 4) (eqb k 5) (eqb k 6)
  where
    go : (a b c d : Bool)
        → Few (pick a (operation_counts e) (pick b (between 0 0) (pick c (between 3 3) (pick d (between 2 9) (between 0 0)))))
    go true b c d = operation_few e
    go false true c d = (omega arith, omega arith)
    go false false true d = (omega arith, omega arith)
    go false false false true = (omega arith, omega arith)
    go false false false false = (omega arith, omega arith)

-- what a kind's numbers are at most
pub record Small (r : Rule) : Type 0 where
  pub extras : r.extras ≤ 11
  pub parameter : r.parameter ≤ 1
  pub call : r.call ≤ 1
  pub reach : r.reach ≤ 4097
  pub bound : r.bound ≤ 1
  pub primitive : r.primitive ≤ 1
  pub words : r.words ≤ 512
  pub counts : r.counts ≤ 4097

pub rule_small : (k : ℕ) (r : Rule) → r ≡ rule_of k → Small r
rule_small k r e = rw e (record {
  extras = either (eqb k 3) (eqb k 1 || among 4 7 k) (omega arith) (omega arith);
  parameter = one_most (eqb k 2);
  call = one_most (eqb k 4);
  reach = omega (arith, reach_most k, one_most (eqb k 6));
  bound = one_most (eqb k 7);
  primitive = one_most (eqb k 3);
  words = either (eqb k 7) (eqb k 1) (omega arith) (omega arith);
  counts = omega (arith, counts_few k 11);
})
  where
    either : (b c : Bool) {x m : ℕ} → x ≤ m → 1 ≤ m → pick b x (one c) ≤ m
    either true c f g = f
    either false c f g = omega (arith, one_most c, g)

-- a primitive has its operation's counts
counts_packed : (k e : ℕ) → packed (counts_of k 11 0) + packed (operation_counts e) * one (eqb k 3) ≡ packed (counts_of k e 0)
unfolding counts_of operation_counts
counts_packed k e = go (ℕ_discrete k 3)
  where
    go : Dec (k ≡ 3) → packed (counts_of k 11 0) + packed (operation_counts e) * one (eqb k 3) ≡ packed (counts_of k e 0)
    go (yes z) = rw z (omega arith)
    go (no z) = rw (ne_eqb k 3 z) (omega arith)

-- a call has its callee's parameters more
counts_more : (k e p : ℕ)
    → ((counts_of k e p).low ≡ (counts_of k e 0).low + p * one (eqb k 4))
    × ((counts_of k e p).high ≡ (counts_of k e 0).high + p * one (eqb k 4))
unfolding counts_of
counts_more k e p = go (ℕ_discrete k 4)
  where
    go : Dec (k ≡ 4)
        → ((counts_of k e p).low ≡ (counts_of k e 0).low + p * one (eqb k 4))
        × ((counts_of k e p).high ≡ (counts_of k e 0).high + p * one (eqb k 4))
    go (yes z) = rw z (omega arith, omega arith)
    go (no z) =
        let s = counts_by k e p 0 (λ y. absurd (z y)) in
        let n : p * one (eqb k 4) ≡ 0 = rw (ne_eqb k 4 z) (omega arith) in
        (omega (arith, ap (λ c. c.low) s, n), omega (arith, ap (λ c. c.high) s, n))

-- how many children a node may have: its kind's, its operation's and its callee's numbers
pub wants_told : (k e p x w : ℕ) → x ≡ packed (counts_of k 11 0) + packed (operation_counts e) * one (eqb k 3) → p ≤ 8
    → ((k ≡ 4 → ⊥) → p ≡ 0) → w ≡ x + 257 * p → (w % 256 ≡ (counts_of k e p).low) × (w / 256 ≡ (counts_of k e p).high)
wants_told k e p x w ex l alone ew =
    let m = counts_more k e p in
    let q = ex ∙ counts_packed k e in
    let f = counts_few k e in
    let n = calls (ℕ_discrete k 4) in
    (omega (arith, m.0, q, f, n, l, ew), omega (arith, m.1, q, f, n, l, ew))
  where
    calls : Dec (k ≡ 4) → p * one (eqb k 4) ≡ p
    calls (yes z) = rw z (omega arith)
    calls (no z) = rw (ne_eqb k 4 z) (omega (arith, alone z))
