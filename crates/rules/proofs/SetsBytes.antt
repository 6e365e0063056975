-- the calls among the nodes of an accepted table, by the bytes of their records
use Prim.Native.Nat.{ℕ}
use mathlib.Core.Bool.{Bool, true, false, ◌&&◌, not}
use mathlib.Core.Path.{◌≡◌, refl, sym, ap, ◌∙◌}
use mathlib.Core.List.{List}
use native.Mathlib.Omega.{arith}
use lib.Dec.{eqb}
use borrow.Author.Tests.{eq-eqb, ne_eqb}
use Rattle.table.specs.Syntax.{Expr, const, param, prim, call, self, cond, bind, bound}
use Rattle.table.specs.Bytes.{kind, word}
use Rattle.table.specs.Naming.{owner}
use Rattle.table.specs.Check.{accepted, check_of}
use Rattle.table.specs.Expressions.{expr_at}
use Rattle.table.specs.Working.{IsNode}
use Rattle.table.proofs.Passed.{passed}
use Rattle.table.proofs.NodeCases.{NodeCase, node_case}
use Rattle.table.proofs.NodeCases.{is_const, is_param, is_prim, is_call_lem, is_self, is_cond, is_bind, is_bound}
use Rattle.list.specs.Tags.{is_call}
use Rattle.rules.specs.State.{State512, entry}
use Rattle.rules.specs.Play.{calls}
use Rattle.rules.specs.Sets.{of_call, sets_of}

calls_of_lem : (g : ℕ) (u : Expr) → calls u g ≡ of_call (λ n f. eqb f g) u
calls_of_lem g (const n v) = refl
calls_of_lem g (param n i) = refl
calls_of_lem g (prim n op es) = refl
calls_of_lem g (call n f es) = refl
calls_of_lem g (self n es) = refl
calls_of_lem g (cond n a b c) = refl
calls_of_lem g (bind n ds b) = refl
calls_of_lem g (bound n d) = refl

module _ (t : List ℕ) (F N : ℕ) (check : check_of t ≡ accepted F N) (n : ℕ) (i : IsNode t n) where
  -- of another kind than 4, a call, a self call
  other_kind : (k : ℕ) → kind t n ≡ k → eqb k 4 ≡ false → is_call t n ≡ false
  unfolding is_call
  other_kind k e z = ap (λ b. b && not (eqb (word t n) (owner t n))) (ap (λ x. eqb x 4) e ∙ z)

  is_a_call : kind t n ≡ 4 → (word t n ≡ owner t n → ⊥) → is_call t n ≡ true
  unfolding is_call
  is_a_call e d =
      let p = ap (λ x. eqb x 4) e in
      let q = ne_eqb (word t n) (owner t n) d in
      (λ j. p j && not (q j))

  is_self_call : kind t n ≡ 4 → word t n ≡ owner t n → is_call t n ≡ false
  unfolding is_call
  is_self_call e d =
      let p = ap (λ x. eqb x 4) e in
      let q = eq-eqb (word t n) (owner t n) d in
      (λ j. p j && not (q j))

  by_bytes : (f : ℕ → ℕ → Bool) → of_call f (expr_at t n) ≡ (is_call t n && f n (word t n))
  by_bytes f = go (node_case t (passed t F N check).0 n i)
    where
      no : (u : Expr) → expr_at t n ≡ u → of_call f u ≡ false → is_call t n ≡ false
          → of_call f (expr_at t n) ≡ (is_call t n && f n (word t n))
      no u e z c = ap (of_call f) e ∙ z ∙ sym (ap (λ b. b && f n (word t n)) c)

      go : NodeCase t n → of_call f (expr_at t n) ≡ (is_call t n && f n (word t n))
      go (is_const k z e) = no _ e refl (other_kind 1 k refl)
      go (is_param k z l e) = no _ e refl (other_kind 2 k refl)
      go (is_prim k l e) = no _ e refl (other_kind 3 k refl)
      go (is_call_lem k l h w e) = ap (of_call f) e ∙ sym (ap (λ b. b && f n (word t n)) (is_a_call k (λ z. omega (arith, h, z))))
      go (is_self k w l h e) = no _ e refl (is_self_call k w)
      go (is_cond k a b d z e) = no _ e refl (other_kind 5 k refl)
      go (is_bind k a b l e) = no _ e refl (other_kind 6 k refl)
      go (is_bound k z l e) = no _ e refl (other_kind 7 k refl)

  -- the call sites of g; who is inside; who is held
  pub calls_bytes : (g : ℕ) → calls (expr_at t n) g ≡ (is_call t n && eqb (word t n) g)
  calls_bytes g = calls_of_lem g (expr_at t n) ∙ by_bytes (λ m f. eqb f g)

  pub inside_bytes : (s : State512) → (sets_of t s).inside n ≡ (is_call t n && (eqb (entry s.status 0 n) 2 && entry s.second false n))
  inside_bytes s = by_bytes (λ m f. eqb (entry s.status 0 m) 2 && entry s.second false m)

  pub held_bytes : (s : State512) → (sets_of t s).held n ≡ (is_call t n && not (eqb (entry s.occupant 0 (word t n)) 0))
  held_bytes s = by_bytes (λ m f. not (eqb (entry s.occupant 0 f) 0))
