-- what an accepted table has passed, test by test
use Prim.Native.Nat.{ℕ, zero, suc, ◌+◌, ◌*◌, ◌≤◌}
use mathlib.Core.Bool.{Bool, true, false}
use mathlib.Core.Path.{◌≡◌, refl}
use mathlib.Core.List.{List}
use native.Mathlib.Omega.{arith}
use lib.Dec.{T, leb, eqb→eq, leb→le}
use lib.ListN.{length}
use Rattle.table.specs.Bytes.{functions, nodes, params, width_byte, root, kind, extra, word, first}
use Rattle.table.specs.Working.{IsNode, IsFunction, Linked}
use Rattle.table.proofs.KindLaws.{kind_known}
use Rattle.table.proofs.Tests.{T_true}
use Rattle.table.proofs.FindLaws.{both, lowest_passes, all_passes}
use Rattle.table.specs.Check.{Verdict, accepted, refused, among, sizes, whole, root_fits, linked, record_fits, formed, callee_fits}
use Rattle.table.specs.Check.{counted, scoped, tailed, const_fits, stage, check_of}

pub record Passed (t : List ℕ) : Type 0 where
  pub linking : Linked t
  pub f_low : 1 ≤ functions t
  pub f_high : functions t ≤ 32
  pub n_low : 1 ≤ nodes t
  pub n_high : nodes t ≤ 512
  pub size : length t ≡ 4 + 4 * functions t + 10 * nodes t
  pub records : (f : ℕ) → IsFunction t f → T (record_fits t f)
  pub forms : (n : ℕ) → IsNode t n → T (formed t n)
  pub callees : (n : ℕ) → IsNode t n → T (callee_fits t n)
  pub children : (n : ℕ) → IsNode t n → T (counted t n)
  pub scopes : (n : ℕ) → IsNode t n → T (scoped t n)
  pub tails : (n : ℕ) → IsNode t n → T (tailed t n)
  pub constants : (n : ℕ) → IsNode t n → T (const_fits t n)

pub in_range : (low high n : ℕ) → T (among low high n) → (low ≤ n) × (n ≤ high)
in_range low high n h = let p = both (leb low n) (leb n high) h in (leb→le low n p.0, leb→le n high p.1)

pub params_small : (t : List ℕ) → Passed t → (f : ℕ) → IsFunction t f → params t f ≤ 8
unfolding record_fits
params_small t ok f i = leb→le (params t f) 8 (both (leb (params t f) 8) (leb (width_byte t f) 32) (ok.records f i)).0

pub kind_small : (t : List ℕ) → Passed t → (n : ℕ) → IsNode t n → kind t n ≤ 7
unfolding formed
kind_small t ok n i = kind_known (kind t n) (extra t n) (word t n) (first t n) (T_true _ (ok.forms n i))

-- one number passed
refused_not : (k p F N : ℕ) → refused k p ≡ accepted F N → ⊥
refused_not k p F N e = let z : ◌≡◌ {A = ℕ} 0 1 = cc in omega arith

pub passes : (k : ℕ) (b : Bool) (p : ℕ) (rest : Unit {0} → Verdict) (F N : ℕ) → stage k b p rest ≡ accepted F N
    → T b × (p ≡ 0) × (rest tt ≡ accepted F N)
unfolding stage
passes k false p rest F N e = absurd (refused_not k 0 F N e)
passes k true zero rest F N e = (tt, refl, e)
passes k true (suc p) rest F N e = absurd (refused_not k (suc p) F N e)

pub goes_on : (k : ℕ) (b : Bool) (p : ℕ) (rest : Unit {0} → Verdict) → T b → p ≡ 0 → stage k b p rest ≡ rest tt
unfolding stage
goes_on k false p rest h z = absurd h
goes_on k true zero rest h z = refl
goes_on k true (suc p) rest h z = absurd (omega arith)

pub passed : (t : List ℕ) (F N : ℕ) → check_of t ≡ accepted F N → Passed t × (functions t ≡ F) × (nodes t ≡ N)
unfolding check_of sizes whole root_fits
passed t F N e =
    let p1 = passes 1 _ _ _ F N e in
    let p2 = passes 2 _ _ _ F N p1.2 in
    let p3 = passes 3 _ _ _ F N p2.2 in
    let p4 = passes 4 _ _ _ F N p3.2 in
    let p5 = passes 5 _ _ _ F N p4.2 in
    let p6 = passes 6 _ _ _ F N p5.2 in
    let p7 = passes 7 _ _ _ F N p6.2 in
    let p8 = passes 8 _ _ _ F N p7.2 in
    let p9 = passes 9 _ _ _ F N p8.2 in
    let p25 = passes 25 _ _ _ F N p9.2 in
    let s = both (among 1 32 (functions t)) (among 1 512 (nodes t)) p2.0 in
    let f = in_range 1 32 (functions t) s.0 in
    let n = in_range 1 512 (nodes t) s.1 in (
      record {
        f_low = f.0;
        f_high = f.1;
        n_low = n.0;
        n_high = n.1;
        size = eqb→eq _ _ p3.0;
        linking = record {
          roots = λ f i. in_range 1 (nodes t) (root t f) (all_passes (root_fits t) (functions t) p4.0 f i.0 i.1);
          links = λ n i. lowest_passes (linked t) (nodes t) p4.1 n i.0 i.1;
        };
        records = λ f i. all_passes (record_fits t) (functions t) p5.0 f i.0 i.1;
        forms = λ n i. lowest_passes (formed t) (nodes t) p5.1 n i.0 i.1;
        callees = λ n i. lowest_passes (callee_fits t) (nodes t) p6.1 n i.0 i.1;
        children = λ n i. lowest_passes (counted t) (nodes t) p7.1 n i.0 i.1;
        scopes = λ n i. lowest_passes (scoped t) (nodes t) p8.1 n i.0 i.1;
        tails = λ n i. lowest_passes (tailed t) (nodes t) p9.1 n i.0 i.1;
        constants = λ n i. lowest_passes (const_fits t) (nodes t) p25.1 n i.0 i.1;
      },
      (let q = p25.2 in f_same q),
      (let q = p25.2 in n_same q),
    )
  where
    f_same : accepted (functions t) (nodes t) ≡ accepted F N → functions t ≡ F
    f_same q = cc

    n_same : accepted (functions t) (nodes t) ≡ accepted F N → nodes t ≡ N
    n_same q = cc
