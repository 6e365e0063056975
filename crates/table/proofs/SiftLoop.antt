-- all nodes sifted, turn by turn
use Prim.Native.Nat.{ℕ, ◌+◌, ◌≤◌, ◌<◌}
use mathlib.Core.Path.{◌≡◌, subst, sym, ap, ◌∙◌}
use mathlib.Core.List.{List}
use native.Mathlib.Omega.{arith}
use native.Mathlib.Decide.{ℕ_discrete}
use lib.Dec.{T, eqb}
use lib.ListN.{length, get_or, set, replicate, length-set, length-replicate}
use lib.Seq.{get_or-set_same, get_or-set_other}
use borrow.Author.Tests.{eq-eqb, ne_eqb}
use Rattle.table.specs.declared.sweep.Sifting.{Sifting}
use Rattle.table.specs.Pick.{Range}
use Rattle.table.specs.Find.{one}
use Rattle.table.specs.Bytes.{functions, nodes, kind}
use Rattle.table.specs.Naming.{parent, tail}
use Rattle.table.specs.Sweep.{RootsFit, down_of, Whole, NodeFits, bound_fits, BoundsTo, Wants, Wanted, Sifts, Sifted}
use Rattle.table.proofs.Loops.{blank_at}
use Rattle.table.proofs.Family.{parent_lower}
use Rattle.table.proofs.HandEnd.{LinkedTo, all_linked}
use Rattle.table.proofs.SiftLaws.{down_none}

-- after the nodes up to k: what they hand down is at hand, if the table is whole
pub record SiftedTo (t : List ℕ) (k : ℕ) (wanted offspring bounds : List ℕ) (count : ℕ) : Type 0 where
  pub counts : Wanted t k wanted
  pub size : length offspring ≡ 513
  pub handed : Whole t → (n : ℕ) → n ≤ k → get_or offspring n 0 ≡ down_of t n
  pub fits : (n : ℕ) → 1 ≤ n → n ≤ k → NodeFits t n
  pub bounded : BoundsTo t k bounds count

pub sifted_none : (t wanted offspring bounds : List ℕ) → length wanted ≡ 513 → offspring ≡ replicate 513 0 → bounds ≡ replicate 513 0
    → SiftedTo t 0 wanted offspring bounds 0
sifted_none t wanted offspring bounds l h e = record {
  counts = record { size = l; each = λ n a b. absurd (omega arith) };
  size = ap length h ∙ length-replicate {A = ℕ} 513 0;
  handed = λ w n i. let z : n ≡ 0 = omega arith in rw z (ap (λ x. get_or x 0 0) h ∙ blank_at {A = ℕ} 513 0 0 ∙ sym (down_none t));
  fits = λ n a b. absurd (omega arith);
  bounded = record {
    size = ap length e ∙ length-replicate {A = ℕ} 513 0;
    few = omega arith;
    nodes = λ i h. absurd (omega arith);
    all = λ f n a b. absurd (omega arith);
  };
}

-- node k + 1 put aside: it counts if it is a bound
module _ (t : List ℕ) (k : ℕ) (bounds : List ℕ) (count : ℕ) (h : BoundsTo t k bounds count) (room : k < 512) where
  earlier : (i : ℕ) → i < count → get_or (set bounds count (k + 1)) i 0 ≡ get_or bounds i 0
  earlier i l = get_or-set_other bounds count i (k + 1) 0 (λ e. omega (arith, e))

  bounds_with : kind t (k + 1) ≡ 7 → BoundsTo t (k + 1) (set bounds count (k + 1)) (count + 1)
  bounds_with e = record {
    size = length-set bounds count (k + 1) ∙ h.size;
    few = omega (arith, h.few);
    nodes = λ i l. inside i (ℕ_discrete i count) l;
    all = λ f n a b. each f n a b (ℕ_discrete n (k + 1));
  }
    where
      last : get_or (set bounds count (k + 1)) count 0 ≡ k + 1
      last = get_or-set_same bounds count (k + 1) 0 (omega (arith, h.size, h.few))

      inside : (i : ℕ) → Dec (i ≡ count) → i < count + 1 → Range (k + 1) (get_or (set bounds count (k + 1)) i 0)
      inside i (yes q) l = rw (q, last) (omega arith, omega arith)
      inside i (no q) l = let r = h.nodes i (omega arith) in rw (earlier i (omega arith)) (r.0, omega (arith, r.1))

      each : ((i : ℕ) → i < count + 1 → T (bound_fits t (get_or (set bounds count (k + 1)) i 0))) → (n : ℕ) → 1 ≤ n → n ≤ k + 1
          → Dec (n ≡ k + 1) → T (bound_fits t n)
      each f n a b (yes q) = subst (λ m. T (bound_fits t m)) (last ∙ sym q) (f count (omega arith))
      each f n a b (no q) = h.all (λ i l. subst (λ m. T (bound_fits t m)) (earlier i l) (f i (omega arith))) n a (omega arith)

  bounds_without : (kind t (k + 1) ≡ 7 → ⊥) → BoundsTo t (k + 1) (set bounds count (k + 1)) (count + 0)
  unfolding bound_fits
  bounds_without e = record {
    size = length-set bounds count (k + 1) ∙ h.size;
    few = omega (arith, h.few);
    nodes = λ i l. let r = h.nodes i (omega arith) in rw (earlier i (omega arith)) (r.0, omega (arith, r.1));
    all = λ f n a b. each f n a b (ℕ_discrete n (k + 1));
  }
    where
      each : ((i : ℕ) → i < count + 0 → T (bound_fits t (get_or (set bounds count (k + 1)) i 0))) → (n : ℕ) → 1 ≤ n → n ≤ k + 1
          → Dec (n ≡ k + 1) → T (bound_fits t n)
      each f n a b (yes q) = rw (q, ne_eqb (kind t (k + 1)) 7 e) tt
      each f n a b (no q) = h.all (λ i l. subst (λ m. T (bound_fits t m)) (earlier i l) (f i (omega arith))) n a (omega arith)

  bounds_more : (b : ℕ) → b ≡ one (eqb (kind t (k + 1)) 7) → BoundsTo t (k + 1) (set bounds count (k + 1)) (count + b)
  bounds_more b e = go (ℕ_discrete (kind t (k + 1)) 7)
    where
      go : Dec (kind t (k + 1) ≡ 7) → BoundsTo t (k + 1) (set bounds count (k + 1)) (count + b)
      go (yes q) = subst (λ x. BoundsTo t (k + 1) (set bounds count (k + 1)) (count + x)) (sym (e ∙ ap one (eq-eqb _ 7 q))) (bounds_with q)
      go (no q) = subst (λ x. BoundsTo t (k + 1) (set bounds count (k + 1)) (count + x)) (sym (e
          ∙ ap one (ne_eqb _ 7 q))) (bounds_without q)

module _ (t : List ℕ) (k : ℕ) (wanted offspring bounds : List ℕ) (count : ℕ) (h : SiftedTo t k wanted offspring bounds count)
    (room : k < 512) (x : ℕ) (up : x ≡ get_or offspring (parent t (k + 1)) 0) (r : Sifting) (s : Sifts t (k + 1) x r) where
  inherits : Whole t → (s.ending ≡ one (tail t (k + 1))) × (r.down ≡ down_of t (k + 1))
  inherits w = s.heir w (up ∙ h.handed w (parent t (k + 1)) (omega (arith, parent_lower t (k + 1) (omega arith))))

  pub sifted_more : SiftedTo t (k + 1) (set wanted (k + 1) r.wants) (set offspring (k + 1) r.down) (set bounds count (k + 1))
      (count + r.bound)
  sifted_more = record {
    counts = record {
      size = length-set wanted (k + 1) _ ∙ h.counts.size;
      each = λ n a b. wants n a b (ℕ_discrete n (k + 1));
    };
    size = length-set offspring (k + 1) _ ∙ h.size;
    handed = λ w n a. told w n a (ℕ_discrete n (k + 1));
    fits = λ n a b. each n a b (ℕ_discrete n (k + 1));
    bounded = bounds_more t k bounds count h.bounded room _ s.bound;
  }
    where
      wants : (n : ℕ) → 1 ≤ n → n ≤ k + 1 → Dec (n ≡ k + 1) → Wants t n (get_or (set wanted (k + 1) r.wants) n 0)
      wants n a b (yes q) = rw (q, get_or-set_same wanted (k + 1) r.wants 0 (omega (arith, h.counts.size))) s.counts
      wants n a b (no q) = rw (get_or-set_other wanted (k + 1) n r.wants 0 q) (h.counts.each n a (omega arith))

      told : Whole t → (n : ℕ) → n ≤ k + 1 → Dec (n ≡ k + 1) → get_or (set offspring (k + 1) r.down) n 0 ≡ down_of t n
      told w n a (yes q) = rw q (get_or-set_same offspring (k + 1) r.down 0 (omega (arith, h.size)) ∙ (inherits w).1)
      told w n a (no q) = get_or-set_other offspring (k + 1) n r.down 0 q ∙ h.handed w n (omega arith)

      each : (n : ℕ) → 1 ≤ n → n ≤ k + 1 → Dec (n ≡ k + 1) → NodeFits t n
      each n a b (yes q) = rw q (record { ending = s.ending; fits = s.fits; tails = λ w. (inherits w).0 })
      each n a b (no q) = h.fits n a (omega arith)

pub sifted_all : (t kin kids : List ℕ) (k : ℕ) (wanted offspring bounds : List ℕ) (count : ℕ) → k ≡ nodes t → LinkedTo t k kin kids
    → RootsFit t (functions t) → SiftedTo t k wanted offspring bounds count → Sifted t kin kids wanted offspring bounds count
sifted_all t kin kids k wanted offspring bounds count e l rf h =
    let all = all_linked t kin kids k e l rf in
    record {
      links = all.0;
      kindred = all.1;
      children = all.2;
      counts = subst (λ n. Wanted t n wanted) e h.counts;
      fits = λ n i. h.fits n i.0 (omega (arith, i.1, e));
      handed = λ w. record { told = λ n b. h.handed w n (omega (arith, e)) };
      bounded = subst (λ n. BoundsTo t n bounds count) e h.bounded;
    }
