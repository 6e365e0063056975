-- the loops that hand kin on, turn by turn, and what holds once they have gone through
use Prim.Native.Nat.{ℕ, ◌+◌, ◌*◌, ◌≤◌, ◌<◌}
use mathlib.Core.Bool.{Bool, true, false, ◌&&◌, ◌||◌}
use mathlib.Core.Path.{◌≡◌, refl, sym, ap, ap₂, ◌∙◌}
use mathlib.Core.List.{List}
use native.Mathlib.Omega.{arith}
use native.Mathlib.Decide.{ℕ_discrete, dec_le}
use lib.Dec.{eqb, ltb}
use lib.ListN.{length, get_or, set, replicate, length-set, length-replicate}
use lib.Seq.{get_or-set_same, get_or-set_other}
use borrow.Author.Tests.{eq-eqb, ne_eqb, lt-ltb}
use Rattle.table.specs.Pick.{pick}
use Rattle.table.specs.Bytes.{functions, nodes, root, first, next}
use Rattle.table.specs.Find.{one, total, highest}
use Rattle.table.specs.Naming.{names, owner}
use Rattle.table.specs.Working.{IsNode, Framed}
use Rattle.table.specs.Sweep.{kin_of, handed, root_kin, kin_to, mentions_to, Handed, hand, Links}
use Rattle.table.proofs.Loops.{total_more, highest_more, blank_at}
use Rattle.table.proofs.HandLaws.{kin_here, kin_owner, kin_small, hand_size, hand_none, hand_at}

-- nothing handed yet
pub handed_none : (t kin : List ℕ) → kin ≡ replicate 513 0 → Handed t 0 0 kin
unfolding kin_to root_kin mentions_to total highest
handed_none t kin e = record {
  size = ap length e ∙ length-replicate {A = ℕ} 513 0;
  none = blank 0;
  told = λ v i. blank v;
  unnamed = λ v i z. refl;
  once = λ v i z. absurd (z (blank v));
}
  where
    blank : (j : ℕ) → get_or kin j 0 ≡ 0
    blank j = ap (λ x. get_or x j 0) e ∙ blank_at {A = ℕ} 513 j 0

-- function f + 1 hands to its root, which nothing named
module _ (t kin : List ℕ) (fr : Framed t) (f : ℕ) (h : Handed t f 0 kin) (r : ℕ) (er : r ≡ root t (f + 1)) (i : IsNode t r)
    (free : get_or kin r 0 ≡ 0) where
  root_at : (v : ℕ) → get_or (set kin r (f + 1 + 65536)) v 0 ≡ pick (eqb (root t (f + 1)) v) (f + 1 + 65536) (get_or kin v 0)
  root_at v = go (ℕ_discrete r v)
    where
      go : Dec (r ≡ v) → get_or (set kin r (f + 1 + 65536)) v 0 ≡ pick (eqb (root t (f + 1)) v) (f + 1 + 65536) (get_or kin v 0)
      go (yes e) = rw (eq-eqb (root t (f + 1)) v (sym er ∙ e))
          (ap (λ w. get_or (set kin w (f + 1 + 65536)) v 0) e ∙ get_or-set_same kin v _ 0 (omega (arith, e, h.size, i.1, fr.n_high)))
      go (no e) = rw (ne_eqb (root t (f + 1)) v (λ q. e (er ∙ q))) (get_or-set_other kin r v _ 0 (λ q. e (sym q)))

  kin_more : (v : ℕ) → kin_to t (f + 1) 0 v ≡ pick (eqb (root t (f + 1)) v) (f + 1 + 65536) (kin_to t f 0 v)
  unfolding kin_to root_kin highest
  kin_more v = ap root_kin (highest_more (λ f. eqb (root t f) v) f) ∙ go (eqb (root t (f + 1)) v)
    where
      go : (b : Bool) → root_kin (pick b (f + 1) (highest (λ f. eqb (root t f) v) f))
          ≡ pick b (f + 1 + 65536) (root_kin (highest (λ f. eqb (root t f) v) f))
      go true = ap (λ b. pick b 0 (f + 1 + 65536)) (ne_eqb (f + 1) 0 (λ e. omega arith))
      go false = refl

  mentions_more : (v : ℕ) → mentions_to t (f + 1) 0 v ≡ one (eqb (root t (f + 1)) v) + mentions_to t f 0 v
  unfolding mentions_to
  mentions_more v = omega (arith, total_more (λ f. one (eqb (root t f) v)) f)

  pub handed_root : Handed t (f + 1) 0 (set kin r (f + 1 + 65536))
  handed_root = record {
    size = length-set kin r _ ∙ h.size;
    none = get_or-set_other kin r 0 _ 0 (λ e. omega (arith, i.0, e)) ∙ h.none;
    told = λ v j. root_at v ∙ ap (λ x. pick (eqb (root t (f + 1)) v) (f + 1 + 65536) x) (h.told v j) ∙ sym (kin_more v);
    unnamed = λ v j z. mentions_more v ∙ few v j (ℕ_discrete r v) z;
    once = λ v j z. mentions_more v ∙ single v j (ℕ_discrete r v) z;
  }
    where
      few : (v : ℕ) → IsNode t v → Dec (r ≡ v) → get_or (set kin r (f + 1 + 65536)) v 0 ≡ 0
          → one (eqb (root t (f + 1)) v) + mentions_to t f 0 v ≡ 0
      few v j (yes e) z = absurd (let q = root_at v in omega (arith, z, rw (eq-eqb (root t (f + 1)) v (sym er ∙ e)) at q))
      few v j (no e) z =
          let b = ne_eqb (root t (f + 1)) v (λ q. e (er ∙ q)) in
          let q = root_at v in
          rw b (omega (arith, h.unnamed v j (sym (rw b at q) ∙ z)))

      single : (v : ℕ) → IsNode t v → Dec (r ≡ v) → (get_or (set kin r (f + 1 + 65536)) v 0 ≡ 0 → ⊥)
          → one (eqb (root t (f + 1)) v) + mentions_to t f 0 v ≡ 1
      single v j (yes e) z =
          rw (eq-eqb (root t (f + 1)) v (sym er ∙ e)) (omega (arith, h.unnamed v j (ap (λ x. get_or kin x 0) (sym e) ∙ free)))
      single v j (no e) z =
          let b = ne_eqb (root t (f + 1)) v (λ q. e (er ∙ q)) in
          let q = root_at v in
          rw b (omega (arith, h.once v j (λ y. z ((rw b at q) ∙ y))))

-- what a node was handed is small
pub own_small : (t kin : List ℕ) → Framed t → (k : ℕ) → IsNode t (k + 1) → Handed t (functions t) k kin → get_or kin (k + 1) 0 < 67108864
own_small t kin fr k i h = go (ℕ_discrete (get_or kin (k + 1) 0) 0)
  where
    go : Dec (get_or kin (k + 1) 0 ≡ 0) → get_or kin (k + 1) 0 < 67108864
    go (yes z) = omega arith
    go (no z) =
        kin_small t fr (k + 1) i _
        (h.told (k + 1) i ∙ kin_here t (k + 1) k i.0 (omega arith) (omega (arith, i.1)) (λ e. z (h.told (k + 1) i ∙ e)))

-- node k + 1 hands to its next and its first; all up to k have their kin
module _ (t kin kin' : List ℕ) (fr : Framed t) (k : ℕ) (i : IsNode t (k + 1)) (h : Handed t (functions t) k kin)
    (before : (v : ℕ) → 1 ≤ v → v ≤ k → get_or kin v 0 ≡ 0 → ⊥) (l : Links t (k + 1) kin kin') where
  abbrev n : ℕ
  n = k + 1

  abbrev a : ℕ
  a = first t n

  abbrev b : ℕ
  b = next t n

  abbrev w : ℕ
  w = get_or kin n 0

  abbrev middle : List ℕ
  middle = hand kin b (w + 65536)

  inside : (v : ℕ) → v ≤ nodes t → v < 513
  inside v e = omega (arith, fr.n_high)

  pub own_kin : w ≡ kin_of t n
  own_kin = h.told n i ∙ kin_here t n k i.0 (omega arith) (omega (arith, i.1)) (λ z. l.named (h.told n i ∙ z))

  middle_at : (u : ℕ) → 1 ≤ u → get_or middle u 0 ≡ pick (eqb b u) (w + 65536) (get_or kin u 0)
  middle_at = hand_at kin b _ h.size (inside b l.next_in)

  at : (u : ℕ) → 1 ≤ u → get_or kin' u 0 ≡ pick (eqb a u) (owner t n + 64 * n + 65536) (pick (eqb b u) (w + 65536) (get_or kin u 0))
  at u j =
      ap (λ x. get_or x u 0) l.made
      ∙ hand_at middle a _ (hand_size kin b _ h.size (inside b l.next_in)) (inside a l.first_in_lem) u j
      ∙ ap₂ (λ x y. pick (eqb a u) (x + 64 * n + 65536) y) (kin_owner t fr n i w own_kin) (middle_at u j)

  -- a node that names is not named, so what it names is higher
  filled : (v : ℕ) → 1 ≤ v → v ≤ n → get_or kin v 0 ≡ 0 → ⊥
  filled v j e z = go (ℕ_discrete v n)
    where
      go : Dec (v ≡ n) → ⊥
      go (yes q) = l.named (ap (λ x. get_or kin x 0) (sym q) ∙ z)
      go (no q) = before v j (omega arith) z

  pub next_on : (b ≡ 0 → ⊥) → n < b
  next_on z = go (dec_le b n)
    where
      go : Dec (b ≤ n) → n < b
      go (yes q) = absurd (filled b (omega arith) q l.next_free)
      go (no q) = omega arith

  -- what first names was free before next was handed to
  first_free : (a ≡ 0 → ⊥) → (b ≡ a → ⊥) × (get_or kin a 0 ≡ 0)
  first_free z = go (ℕ_discrete b a) (sym (middle_at a (omega arith)) ∙ l.first_free)
    where
      go : Dec (b ≡ a) → pick (eqb b a) (w + 65536) (get_or kin a 0) ≡ 0 → (b ≡ a → ⊥) × (get_or kin a 0 ≡ 0)
      go (yes q) e = absurd (omega (arith, rw (eq-eqb b a q) at e))
      go (no q) e = (q, rw (ne_eqb b a q) at e)

  pub first_on : (a ≡ 0 → ⊥) → n < a
  first_on z = go (dec_le a n)
    where
      go : Dec (a ≤ n) → n < a
      go (yes q) = absurd (filled a (omega arith) q (first_free z).1)
      go (no q) = omega arith

  names_by : (u : ℕ) → IsNode t u → names t n u ≡ (eqb a u || eqb b u)
  unfolding names
  names_by u j = go (ℕ_discrete a u) (ℕ_discrete b u)
    where
      go : Dec (a ≡ u) → Dec (b ≡ u) → (ltb n u && (eqb a u || eqb b u)) ≡ (eqb a u || eqb b u)
      go (yes q) y = ap (λ x. x && (eqb a u || eqb b u)) (lt-ltb n u (omega (arith, q, j.0, first_on (λ z. omega (arith, z, q, j.0)))))
      go (no p) (yes q) = ap (λ x. x && (eqb a u || eqb b u)) (lt-ltb n u (omega (
        arith,
        q,
        j.0,
        next_on (λ z. omega
            (arith, z, q, j.0)),
      )))
      go (no p) (no q) = rw (ne_eqb a u p, ne_eqb b u q) (no_and (ltb n u))
        where
          no_and : (x : Bool) → (x && false) ≡ false
          no_and true = refl
          no_and false = refl

  kin_on : (u : ℕ) → IsNode t u → kin_to t (functions t) n u
      ≡ pick (eqb a u) (owner t n + 64 * n + 65536) (pick (eqb b u) (kin_of t n + 65536) (kin_to t (functions t) k u))
  unfolding kin_to handed
  kin_on u j =
      ap from (highest_more (λ m. names t m u) k ∙ ap (λ x. pick x n (highest (λ m. names t m u) k)) (names_by u j))
      ∙ go (eqb a u) (eqb b u) refl
    where
      from : ℕ → ℕ
      from m = pick (eqb m 0) (root_kin (highest (λ f. eqb (root t f) u) (functions t))) (handed t m u)

      go : (x y : Bool) → eqb a u ≡ x → from (pick (x || y) n (highest (λ m. names t m u) k))
          ≡ pick x (owner t n + 64 * n + 65536) (pick y (kin_of t n + 65536) (from (highest (λ m. names t m u) k)))
      go true y e = rw (ne_eqb n 0 (λ z. omega arith), e)
      go false true e = rw (ne_eqb n 0 (λ z. omega arith), e)
      go false false e = refl

  mentions_on : (u : ℕ) → mentions_to t (functions t) n u ≡ one (eqb a u) + one (eqb b u) + mentions_to t (functions t) k u
  unfolding mentions_to
  mentions_on u = omega (arith, total_more (λ m. one (eqb (first t m) u) + one (eqb (next t m) u)) k)

  pub handed_link : Handed t (functions t) n kin'
  handed_link = record {
    size = ap length l.made ∙ hand_size middle a _ (hand_size kin b _ h.size (inside b l.next_in)) (inside a l.first_in_lem);
    none = ap (λ x. get_or x 0 0) l.made ∙ hand_none middle a _ (hand_size kin b _ h.size (inside b l.next_in)) (inside a
        l.first_in_lem);
    told = λ u j. at u j.0
        ∙ ap₂ (λ x y. pick (eqb a u) (owner t n + 64 * n + 65536) (pick (eqb b u) (x + 65536) y)) own_kin (h.told u j)
        ∙ sym (kin_on u j);
    unnamed = λ u j z. mentions_on u ∙ few u j (ℕ_discrete a u) (ℕ_discrete b u) z;
    once = λ u j z. mentions_on u ∙ single u j (ℕ_discrete a u) (ℕ_discrete b u) z;
  }
    where
      few : (u : ℕ) → IsNode t u → Dec (a ≡ u) → Dec (b ≡ u) → get_or kin' u 0 ≡ 0
          → one (eqb a u) + one (eqb b u) + mentions_to t (functions t) k u ≡ 0
      few u j (yes p) y z = absurd (let q = at u j.0 in omega (arith, z, rw (eq-eqb a u p) at q))
      few u j (no p) (yes y) z = absurd (let q = at u j.0 in omega (arith, z, rw (ne_eqb a u p, eq-eqb b u y) at q))
      few u j (no p) (no y) z =
          let q = at u j.0 in
          rw (ne_eqb a u p, ne_eqb b u y) (omega (arith, h.unnamed u j (sym (rw (ne_eqb a u p, ne_eqb b u y) at q) ∙ z)))

      single : (u : ℕ) → IsNode t u → Dec (a ≡ u) → Dec (b ≡ u) → (get_or kin' u 0 ≡ 0 → ⊥)
          → one (eqb a u) + one (eqb b u) + mentions_to t (functions t) k u ≡ 1
      single u j (yes p) y z =
          let f = first_free (λ e. omega (arith, e, p, j.0)) in
          rw (eq-eqb a u p, ne_eqb b u (λ e. f.0 (e ∙ sym p)))
          (omega (arith, h.unnamed u j (ap (λ x. get_or kin x 0) (sym p) ∙ f.1)))
      single u j (no p) (yes y) z =
          rw (ne_eqb a u p, eq-eqb b u y) (omega (arith, h.unnamed u j (ap (λ x. get_or kin x 0) (sym y) ∙ l.next_free)))
      single u j (no p) (no y) z =
          let q = at u j.0 in
          rw (ne_eqb a u p, ne_eqb b u y) (omega (arith, h.once u j (λ e. z ((rw (ne_eqb a u p, ne_eqb b u y) at q) ∙ e))))

  -- what has its kin keeps it
  pub still_named : (v : ℕ) → 1 ≤ v → v ≤ n → get_or kin' v 0 ≡ 0 → ⊥
  still_named v j e z = go (eqb a v) (eqb b v) (sym (at v j) ∙ z)
    where
      go : (x y : Bool) → pick x (owner t n + 64 * n + 65536) (pick y (w + 65536) (get_or kin v 0)) ≡ 0 → ⊥
      go true y q = omega arith
      go false true q = omega arith
      go false false q = filled v j e q
