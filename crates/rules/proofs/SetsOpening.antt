-- children of a node open: they are armed, and all other nodes but that one stay where they were
use Prim.Native.Nat.{ℕ}
use mathlib.Core.Path.{◌≡◌, sym, ◌∙◌}
use native.Mathlib.Omega.{arith}
use Rattle.table.specs.Pick.{Range}
use Rattle.table.specs.Syntax.{Expr, id}
use Rattle.table.specs.Well.{Laid}
use Rattle.rules.specs.Arithmetic.{Arithmetic}
use Rattle.rules.specs.State.{View}
use Rattle.rules.specs.Sets.{Sets, sets_in, Opening}
use Rattle.rules.proofs.SortSame.{Child, Alike}
use Rattle.rules.proofs.SetsSteady.{Upward, callee_below, steady_stays, own_status, own_second, at_open}

module _ (units : Arithmetic) {F N : ℕ} {body at : ℕ → Expr} {home up : ℕ → ℕ} (laid : Laid F N body at home)
    (kin : Upward F N body at home up) (s s' : View) where
  abbrev x : Sets
  x = sets_in units body at home s

  abbrev y : Sets
  y = sets_in units body at home s'

  -- children of n open
  module _ (n : ℕ) (r : Range N n) (opens : ℕ → Type 0) (child : (c : ℕ) → opens c → Child c (at n))
      (opened : (m : ℕ) → opens m → s'.status m ≡ 1) (alike : (c : ℕ) → (opens c → ⊥) → Alike s s' c)
      (kept : (m : ℕ) → (m ≡ n → ⊥) → (opens m → ⊥) → (s'.status m ≡ s.status m) × (s'.second m ≡ s.second m)) where
    pub opening : Opening N x y n opens
    opening = record {
      opened = λ m q o. at_open units laid s s' m q (opened m o);
      others = λ m q d e. steady_stays units laid s s' m (record {
        status = own_status units laid s s' m q (kept m d e).0;
        second = own_second units laid s s' m q (kept m d e).1;
        children = λ c k. alike c (λ o. d (sym (kin.child m c q k) ∙ kin.child n c r (child c o)));
        callee = λ g c i. (alike (id (body g)) (λ o. not_root g (callee_below units laid m g q c).0 o)).0;
      });
    }
      where
        not_root : (g : ℕ) → Range F g → opens (id (body g)) → ⊥
        not_root g q o = omega (arith, r.0, kin.root g q, kin.child n (id (body g)) r (child (id (body g)) o))
