-- what each node is part of, node by node: its function and parent in its slot, its tail position in an array
use Prim.Native.Nat.{ℕ, ◌+◌, ◌-◌, ◌*◌, ◌≤◌, ◌<◌}
use mathlib.Core.Bool.{Bool, true, false, ◌&&◌}
use mathlib.Core.Path.{◌≡◌, sym, ap, ap₂, ◌∙◌}
use mathlib.Core.List.{List}
use native.Mathlib.Omega.{arith}
use native.Mathlib.Decide.{ℕ_discrete}
use lib.Dec.{eqb}
use lib.ListN.{length, get_or, set, replicate, length-set, length-replicate}
use lib.Seq.{get_or-set_same, get_or-set_other}
use borrow.Author.Tests.{eq-eqb}
use Rattle.table.specs.Pick.{pick}
use Rattle.table.specs.Bytes.{nodes, first}
use Rattle.table.specs.Naming.{root_of, namer, owner, parent, tail_child, tail}
use Rattle.table.specs.Decoded.{cell_at, put_number, node_slot}
use Rattle.table.specs.Working.{Filled, Tails, Framed, Linked, Kindred}
use Rattle.table.proofs.Links.{namer_lower}
use Rattle.table.proofs.Family.{owner_step, parent_step, parent_lower, tail_step, owner_in}
use Rattle.table.proofs.FilledLaws.{filled_at, filled_kin}

-- node n, of which the lower ones have their function and parent in their slots
module _ (t cells : List ℕ) (F N n : ℕ) (low : 1 ≤ n) (high : n ≤ 512) (h : Filled t F N (n - 1) cells) (m r x y : ℕ)
    (em : m ≡ namer t n) (er : r ≡ root_of t n) (ex : x ≡ pick (eqb m 0) r (cell_at cells (node_slot m) 6))
    (ey : y ≡ pick (eqb m 0) 0 (pick (eqb (first t m) n) m (cell_at cells (node_slot m) 7))) where
  lower : m < n
  lower = omega (arith, em, namer_lower t n low)

  pub new_owner : x ≡ owner t n
  new_owner = ex ∙ above (ℕ_discrete m 0) ∙ ap (λ k. pick (eqb k 0) (root_of t n) (owner t k)) em ∙ sym (owner_step t n low)
    where
      above : Dec (m ≡ 0) → pick (eqb m 0) r (cell_at cells (node_slot m) 6) ≡ pick (eqb m 0) (root_of t n) (owner t m)
      above (yes q) = rw (eq-eqb m 0 q) er
      above (no q) = ap₂ (λ a b. pick (eqb m 0) a b) er
          (filled_at t cells F N (n - 1) m (omega arith) (omega (arith, lower)) h 6 (omega arith) (omega (arith, lower)))

  pub new_parent : y ≡ parent t n
  new_parent = ey ∙ above (ℕ_discrete m 0)
      ∙ ap (λ k. pick (eqb k 0) 0 (pick (eqb (first t k) n) k (parent t k))) em ∙ sym (parent_step t n low)
    where
      above : Dec (m ≡ 0) → pick (eqb m 0) 0 (pick (eqb (first t m) n) m (cell_at cells (node_slot m) 7))
          ≡ pick (eqb m 0) 0 (pick (eqb (first t m) n) m (parent t m))
      above (yes q) = rw (eq-eqb m 0 q)
      above (no q) = ap (λ a. pick (eqb m 0) 0 (pick (eqb (first t m) n) m a))
          (filled_at t cells F N (n - 1) m (omega arith) (omega (arith, lower)) h 7 (omega arith) (omega (arith, lower)))

  -- both put into its slot
  pub related : (a : List ℕ) (s : ℕ) → s ≡ node_slot n → a ≡ put_number cells s 5 (x + 64 * y) → n ≤ N → x < 64 → Filled t F N n a
  related a s es ea i small =
      let q : n - 1 + 1 ≡ n = omega arith in
      let f = filled_kin t cells F N (n - 1) x y (omega arith) (omega arith) h (new_owner ∙ ap (owner t) (sym q))
      (new_parent ∙ ap (parent t) (sym q)) small in
      rw (ea, es) (rw q at f)

-- the tail positions of the nodes up to n
pub record TailsTo (t : List ℕ) (l : List Bool) (n : ℕ) : Type 0 where
  pub size : length l ≡ 513
  pub tails : (j : ℕ) → 1 ≤ j → j ≤ n → get_or l j false ≡ tail t j

pub tails_none : (t : List ℕ) → TailsTo t (replicate 513 true) 0
tails_none t = record { size = length-replicate 513 true; tails = λ j a b. absurd (omega arith) }

module _ (t : List ℕ) (l : List Bool) (n : ℕ) (h : TailsTo t l n) (room : n < 512) (p : ℕ) (ep : p ≡ parent t (n + 1)) (z : Bool)
    (ez : z ≡ pick (eqb p 0) true (tail_child t p (n + 1) && get_or l p false)) where
  new_tail : z ≡ tail t (n + 1)
  new_tail = ez ∙ above (ℕ_discrete p 0)
      ∙ ap (λ k. pick (eqb k 0) true (tail_child t k (n + 1) && tail t k)) ep ∙ sym (tail_step t (n + 1) (omega arith))
    where
      above : Dec (p ≡ 0) → pick (eqb p 0) true (tail_child t p (n + 1) && get_or l p false) ≡ pick (eqb p 0) true
          (tail_child t p (n + 1) && tail t p)
      above (yes q) = rw (eq-eqb p 0 q)
      above (no q) = ap (λ b. pick (eqb p 0) true (tail_child t p (n + 1) && b)) (h.tails p (omega arith)
          (omega (arith, ep, parent_lower t (n + 1) (omega arith))))

  pub tails_more : TailsTo t (set l (n + 1) z) (n + 1)
  tails_more = record { size = length-set l (n + 1) z ∙ h.size; tails = λ j a b. go j a b (ℕ_discrete j (n + 1)) }
    where
      go : (j : ℕ) → 1 ≤ j → j ≤ n + 1 → Dec (j ≡ n + 1) → get_or (set l (n + 1) z) j false ≡ tail t j
      go j a b (yes q) = rw q (get_or-set_same l (n + 1) z false (omega (arith, h.size)) ∙ new_tail)
      go j a b (no q) = get_or-set_other l (n + 1) j z false q ∙ h.tails j a (omega arith)

pub tails_all : (t : List ℕ) (l : List Bool) → TailsTo t l (nodes t) → Tails t l
tails_all t l h n i = h.tails n i.0 i.1

-- function and parent of the nodes up to n in one number
pub record RecalledTo (t : List ℕ) (n : ℕ) (kin : List ℕ) : Type 0 where
  pub size : length kin ≡ 513
  pub told : (m : ℕ) → 1 ≤ m → m ≤ n → get_or kin m 0 ≡ owner t m + 64 * parent t m

pub recalled_none : (t : List ℕ) → RecalledTo t 0 (replicate 513 0)
recalled_none t = record { size = length-replicate {A = ℕ} 513 0; told = λ m a b. absurd (omega arith) }

pub recalled_more : (t : List ℕ) (n : ℕ) (kin : List ℕ) → RecalledTo t n kin → n < 512 → (x y : ℕ) → x ≡ owner t (n + 1)
    → y ≡ parent t (n + 1)
    → RecalledTo t (n + 1) (set kin (n + 1) (x + 64 * y))
recalled_more t n kin h room x y ex ey = record {
  size = length-set kin (n + 1) _ ∙ h.size;
  told = λ m a b. go m a b (ℕ_discrete m (n + 1));
}
  where
    go : (m : ℕ) → 1 ≤ m → m ≤ n + 1 → Dec (m ≡ n + 1) → get_or (set kin (n + 1) (x + 64 * y)) m 0 ≡ owner t m + 64 * parent t m
    go m a b (yes q) = rw q (get_or-set_same kin (n + 1) _ 0 (omega (arith, h.size)) ∙ ap₂ (λ x y. x + 64 * y) ex ey)
    go m a b (no q) = get_or-set_other kin (n + 1) m _ 0 q ∙ h.told m a (omega arith)

pub recalled_all : (t : List ℕ) (n : ℕ) (kin : List ℕ) → Framed t → Linked t → n ≡ nodes t → RecalledTo t n kin → Kindred t kin
recalled_all t n kin fr lk e h = record {
  size = h.size;
  owners = λ m i. omega (arith, h.told m i.0 (omega (arith, i.1)), (owner_in t lk m i).1, fr.f_high);
  parents = λ m i. omega (
    arith,
    h.told m i.0 (omega (arith, i.1)),
    (owner_in t lk m i).1,
    fr.f_high,
    parent_lower t m
        i.0,
    i.1,
    fr.n_high,
  );
}
