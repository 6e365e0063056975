-- from the entries of two states to the sets: a steady node stays where it was, an open one is armed, an idle or done one is in none
use Prim.Native.Nat.{ℕ, ◌<◌}
use mathlib.Core.Bool.{Bool, true, false}
use mathlib.Core.Path.{◌≡◌, refl, subst, sym, ap, ◌∙◌}
use native.Mathlib.Omega.{arith}
use lib.Dec.{eqb}
use Rattle.table.specs.Pick.{pick, Range}
use Rattle.table.specs.Syntax.{Expr, id}
use Rattle.table.specs.Well.{Laid}
use Rattle.table.proofs.SyntaxLaws.{node_id, sub_node}
use Rattle.table.proofs.CallPlaces.{sub_call}
use Rattle.rules.specs.Arithmetic.{Arithmetic}
use Rattle.rules.specs.State.{View}
use Rattle.rules.specs.Step.{done, act}
use Rattle.rules.specs.Play.{calls}
use Rattle.rules.specs.Sets.{sort, entered, Sets, sets_in, Stays}
use Rattle.rules.proofs.Occupied.{called}
use Rattle.rules.proofs.Sorts.{busy_sort, sort_by, sort_is, rank_open, rank_none, entered_not, inside_sort}
use Rattle.rules.proofs.SortSame.{Child, child_inside, Steady, sort_same, entered_same}

-- up names the parent of a node, 0 for a root
pub record Upward (F N : ℕ) (body at : ℕ → Expr) (home up : ℕ → ℕ) : Type 0 where
  pub child : (m c : ℕ) → Range N m → Child c (at m) → up c ≡ m
  pub root : (f : ℕ) → Range F f → up (id (body f)) ≡ 0
  pub top : (n : ℕ) → Range N n → up n ≡ 0 → id (body (home n)) ≡ n

module _ (units : Arithmetic) {F N : ℕ} {body at : ℕ → Expr} {home : ℕ → ℕ} (laid : Laid F N body at home) where
  -- a node's child has its function
  pub child_home : (m c : ℕ) → Range N m → Child c (at m) → home c ≡ home m
  child_home m c r k =
      (laid.inside (home m) c (laid.home_there m r) (sub_node (at m) c (body (home m)) (laid.placed m r) (child_inside c (at m) k))).0

  -- a call's callee is a lower function; a root belongs to its function
  pub callee_below : (m g : ℕ) → Range N m → calls (at m) g ≡ true → Range F g × (g < home m)
  callee_below m g r e =
      let h = laid.home_there m r in
      let k = called laid m g r e in
      let b = laid.well.below (home m) m g h (sub_call m g k.0 (body (home m)) k.1) in
      ((b.0, omega (arith, b.1, h.1)), b.1)

  pub root_home : (g : ℕ) → Range F g → (home (id (body g)) ≡ g) × Range N (id (body g))
  root_home g r = let i = laid.inside g (id (body g)) r (node_id (body g)) in (i.0, (i.1, i.2))

  module _ (s s' : View) where
    abbrev x : Sets
    x = sets_in units body at home s

    abbrev y : Sets
    y = sets_in units body at home s'

    sort_at : (z : View) (m : ℕ) → sort (act units body (home m) z (at m)) ≡ sort_by body z (at m)
    sort_at z m = sort_is units body (home m) z (at m)

    pub steady_stays : (m : ℕ) → Steady body s s' (at m) → Stays x y m
    steady_stays m k =
        let e = sort_at s' m ∙ sort_same body s s' (at m) k ∙ sym (sort_at s m) in
        (ap (λ i. eqb i 2) e, ap (λ i. eqb i 1) e, entered_same body s s' (at m) k.status k.second)

    -- by the number of the sort
    pub armed_as : (m k : ℕ) → sort_by body s' (at m) ≡ k → y.armed m ≡ eqb k 2
    armed_as m k e = ap (λ i. eqb i 2) (sort_at s' m ∙ e)

    pub waiting_as : (m k : ℕ) → sort_by body s' (at m) ≡ k → y.waiting m ≡ eqb k 1
    waiting_as m k e = ap (λ i. eqb i 1) (sort_at s' m ∙ e)

    -- a call inside doesn't wait
    pub inside_waits : (z : View) (m g : ℕ) → calls (at m) g ≡ true → entered z (at m) ≡ true
        → eqb (sort (act units body (home m) z (at m))) 1 ≡ false
    inside_waits z m g c e = ap (λ i. eqb i 1) (sort_at z m ∙ inside_sort z body (at m) g c e) ∙ either (done z (id (body g)))
      where
        either : (b : Bool) → eqb (pick b 2 0) 1 ≡ false
        either true = refl
        either false = refl

    -- a node's own entries
    module _ (m : ℕ) (r : Range N m) where
      own : id (at m) ≡ m
      own = laid.number m r

      pub own_status : s'.status m ≡ s.status m → s'.status (id (at m)) ≡ s.status (id (at m))
      own_status e = subst (λ i. s'.status i ≡ s.status i) (sym own) e

      pub own_second : s'.second m ≡ s.second m → s'.second (id (at m)) ≡ s.second (id (at m))
      own_second e = subst (λ i. s'.second i ≡ s.second i) (sym own) e

      pub at_open : s'.status m ≡ 1 → (y.armed m ≡ true) × (y.waiting m ≡ false) × (y.inside m ≡ false)
      at_open e =
          let z = ap s'.status own ∙ e in
          let k = rank_open (s'.status (id (at m))) (busy_sort body s' (at m)) z in
          (armed_as m 2 k, waiting_as m 2 k, entered_not s' (at m) (λ q. omega (arith, z, q)))

      pub at_rest_lem : (s'.status m ≡ 1 → ⊥) → (s'.status m ≡ 2 → ⊥) → (y.armed m ≡ false) × (y.waiting m ≡ false) × (y.inside m ≡ false)
      at_rest_lem p q =
          let e = ap s'.status own in
          let k = rank_none (s'.status (id (at m))) (busy_sort body s' (at m)) (λ z. p (sym e ∙ z)) (λ z. q (sym e ∙ z)) in
          (armed_as m 0 k, waiting_as m 0 k, entered_not s' (at m) (λ z. q (sym e ∙ z)))
