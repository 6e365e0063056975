-- the arrays of names, turn by turn: what the roots name, then what firsts and nexts name
use Prim.Native.Nat.{ℕ, ◌+◌, ◌*◌, ◌≤◌}
use mathlib.Core.Bool.{Bool, true, false, ◌&&◌, ◌||◌}
use mathlib.Core.Path.{◌≡◌, refl, sym, ap, ap₂, ◌∙◌}
use mathlib.Core.List.{List}
use native.Mathlib.Omega.{arith}
use lib.Dec.{eqb, ltb}
use lib.ListN.{length, get_or, set, replicate, length-set, length-replicate}
use Rattle.table.specs.Pick.{pick}
use Rattle.table.specs.Bytes.{functions, nodes, root, first, next}
use Rattle.table.specs.Find.{one, total, highest}
use Rattle.table.specs.Naming.{mentions, root_of, names, namer}
use Rattle.table.specs.Working.{slot_of, ahead_of, IsNode, Framed, Mentioned, Rooted, Named, linked_by}
use Rattle.table.specs.Check.{forward, linked}
use Rattle.table.proofs.Loops.{total_more, highest_more, placed, bumped, ahead_placed, bumped_few, blank_at}

-- the number j of a node that an array has a place for
abbrev pub Slot : ℕ → Type 0
Slot j = (1 ≤ j) × (j ≤ 512)

-- after the roots of the functions 1 to f
pub record RootsTo (t m r : List ℕ) (f : ℕ) : Type 0 where
  pub sized : length m ≡ 513
  pub sized' : length r ≡ 513
  pub few : (j : ℕ) → get_or m j 0 ≤ f
  pub counts : (j : ℕ) → Slot j → get_or m j 0 ≡ total (λ f. one (eqb (root t f) j)) f
  pub tops : (j : ℕ) → Slot j → get_or r j 0 ≡ highest (λ f. eqb (root t f) j) f

pub roots_more : (t m r : List ℕ) (f v at : ℕ) → RootsTo t m r f → v ≡ root t (f + 1) → at ≡ slot_of v
    → RootsTo t (set m at (get_or m at 0 + 1)) (set r at (f + 1)) (f + 1)
roots_more t m r f v at h e here = record {
  sized = length-set m at (get_or m at 0 + 1) ∙ h.sized;
  sized' = length-set r at (f + 1) ∙ h.sized';
  few = bumped_few m at f h.few;
  counts = λ j i. bumped v j i.0 i.1 m h.sized at here
      ∙ ap₂ (λ x y. one (eqb x j) + y) e (h.counts j i) ∙ sym (total_more (λ f. one (eqb (root t f) j)) f);
  tops = λ j i. placed v j i.0 i.1 r h.sized' (f + 1) at here
      ∙ ap₂ (λ x y. pick (eqb x j) (f + 1) y) e (h.tops j i) ∙ sym (highest_more (λ f. eqb (root t f) j) f);
}

pub roots_none : (t m r : List ℕ) → m ≡ replicate 513 0 → r ≡ replicate 513 0 → RootsTo t m r 0
unfolding total highest
roots_none t m r em er = record {
  sized = ap length em ∙ length-replicate {A = ℕ} 513 0;
  sized' = ap length er ∙ length-replicate {A = ℕ} 513 0;
  few = λ j. omega (arith, blank m em j);
  counts = λ j i. blank m em j;
  tops = λ j i. blank r er j;
}
  where
    blank : (l : List ℕ) → l ≡ replicate 513 0 → (j : ℕ) → get_or l j 0 ≡ 0
    blank l e j = ap (λ x. get_or x j 0) e ∙ blank_at {A = ℕ} 513 j 0

-- a node has a place
pub slot_of_lem : (t : List ℕ) → Framed t → (n : ℕ) → IsNode t n → Slot n
slot_of_lem t fr n i = (i.0, omega (arith, i.1, fr.n_high))

pub roots_all : (t m r : List ℕ) → Framed t → RootsTo t m r (functions t) → Rooted t m r
unfolding root_of
roots_all t m r fr h = record {
  mentioned = record { sized = h.sized; few = h.few; counts = λ n i. h.counts n (slot_of_lem t fr n i) };
  tops = λ n i. h.tops n (slot_of_lem t fr n i);
}

-- after the links of the nodes 1 to n; `tops` counts what the roots name
pub record LinksTo (t tops m l : List ℕ) (n : ℕ) : Type 0 where
  pub sized : length m ≡ 513
  pub sized' : length l ≡ 513
  pub few : (j : ℕ) → get_or m j 0 ≤ functions t + 2 * n
  pub counts : (j : ℕ) → Slot j
      → get_or m j 0 ≡ get_or tops j 0 + total (λ m. one (eqb (first t m) j) + one (eqb (next t m) j)) n
  pub holders : (j : ℕ) → Slot j → get_or l j 0 ≡ highest (λ m. names t m j) n

module _ (t tops m l : List ℕ) (n : ℕ) (h : LinksTo t tops m l n) (u v a b c d : ℕ) (eu : u ≡ first t (n + 1)) (ev : v ≡ next t (n + 1))
    (ea : a ≡ slot_of u) (eb : b ≡ slot_of v) (ec : c ≡ ahead_of (n + 1) u) (ed : d ≡ ahead_of (n + 1) v) where
  abbrev m₁ : List ℕ
  m₁ = set m a (get_or m a 0 + 1)

  abbrev m₂ : List ℕ
  m₂ = set m₁ b (get_or m₁ b 0 + 1)

  abbrev l₁ : List ℕ
  l₁ = set l c (n + 1)

  size₁ : length m₁ ≡ 513
  size₁ = length-set m a (get_or m a 0 + 1) ∙ h.sized

  size₂ : length l₁ ≡ 513
  size₂ = length-set l c (n + 1) ∙ h.sized'

  sum : (j x y z : ℕ) → y + (x + z) ≡ z + (x + y)
  sum j x y z = omega arith

  either_way : (p x y : Bool) (k z : ℕ) → pick (p && y) k (pick (p && x) k z) ≡ pick (p && (x || y)) k z
  either_way true true true k z = refl
  either_way true true false k z = refl
  either_way true false y k z = refl
  either_way false x y k z = refl

  counted : (j : ℕ) → Slot j → get_or m₂ j 0 ≡ get_or tops j 0 + total (λ m. one (eqb (first t m) j) + one (eqb (next t m) j)) (n + 1)
  counted j i =
      let g : ℕ → ℕ = λ m. one (eqb (first t m) j) + one (eqb (next t m) j) in
      let p = bumped v j i.0 i.1 m₁ size₁ b eb in
      let q = bumped u j i.0 i.1 m h.sized a ea in
      let x = ap (λ w. one (eqb w j)) eu in
      let y = ap (λ w. one (eqb w j)) ev in
      omega (arith, p, q, x, y, h.counts j i, total_more g n)

  held : (j : ℕ) → Slot j → get_or (set l₁ d (n + 1)) j 0 ≡ highest (λ m. names t m j) (n + 1)
  unfolding names
  held j i =
      ahead_placed v j i.0 i.1 l₁ size₂ (n + 1) d ed
      ∙ ap (λ z. pick (ltb (n + 1) j && eqb v j) (n + 1) z) (ahead_placed u j i.0 i.1 l h.sized' (n + 1) c ec)
      ∙ either_way (ltb (n + 1) j) (eqb u j) (eqb v j) (n + 1) (get_or l j 0)
      ∙ ap₂ (λ x y. pick (ltb (n + 1) j && (eqb x j || eqb y j)) (n + 1) (get_or l j 0)) eu ev
      ∙ ap (λ z. pick (names t (n + 1) j) (n + 1) z) (h.holders j i)
      ∙ sym (highest_more (λ m. names t m j) n)

  few₂ : (j : ℕ) → get_or m₂ j 0 ≤ functions t + 2 * (n + 1)
  few₂ j = omega (arith, bumped_few m₁ b (functions t + 2 * n + 1) (bumped_few m a (functions t + 2 * n) h.few) j)

  pub links_more : LinksTo t tops m₂ (set l₁ d (n + 1)) (n + 1)
  links_more = record {
    sized = length-set m₁ b (get_or m₁ b 0 + 1) ∙ size₁;
    sized' = length-set l₁ d (n + 1) ∙ size₂;
    few = few₂;
    counts = counted;
    holders = held;
  }

pub links_none : (t m l : List ℕ) → Mentioned t m → l ≡ replicate 513 0 → LinksTo t m m l 0
unfolding total highest
links_none t m l h e = record {
  sized = h.sized;
  sized' = ap length e ∙ length-replicate {A = ℕ} 513 0;
  few = λ j. omega (arith, h.few j);
  counts = λ j i. omega arith;
  holders = λ j i. ap (λ x. get_or x j 0) e ∙ blank_at {A = ℕ} 513 j 0;
}

pub links_all : (t tops m l : List ℕ) → Framed t → Mentioned t tops → LinksTo t tops m l (nodes t) → Named t m l
unfolding mentions namer
links_all t tops m l fr r h = record {
  counts = λ n i. omega (arith, h.counts n (slot_of_lem t fr n i), r.counts n i);
  holders = λ n i. h.holders n (slot_of_lem t fr n i);
}

-- 4 at a node, from what the arrays hold
pub told_linked : (t : List ℕ) (n a b k r N : ℕ) → a ≡ first t n → b ≡ next t n → k ≡ mentions t n → r ≡ root_of t n → N ≡ nodes t
    → linked_by n a b k r N ≡ linked t n
unfolding linked forward
told_linked t n a b k r N p q x y z = rw (p, q, x, y, z)
