-- self calls of an accepted table stand in tail position only
use Prim.Native.Nat.{ℕ, ◌≤◌, ◌<◌}
use mathlib.Core.Bool.{◌&&◌, not}
use mathlib.Core.Path.{◌≡◌, refl, subst, sym, ◌∙◌}
use mathlib.Core.Logic.{◌⊎◌, inl, inr, ⊎_elim}
use mathlib.Core.List.{List}
use native.Mathlib.Omega.{arith}
use lib.Dec.{T, eqb, eqb→eq, not_T}
use Rattle.table.specs.Well.{NoSelf, NoSelf*, Tail}
use Rattle.table.specs.Bytes.{nodes, root, kind, first, next}
use Rattle.table.proofs.FindLaws.{both, pair, either, orl, orr, same, isnt}
use Rattle.table.specs.Naming.{parent, tail_child, tail}
use Rattle.table.specs.Working.{IsNode, IsFunction, Linked}
use Rattle.table.proofs.Passed.{Passed}
use Rattle.table.proofs.Links.{link, backwards}
use Rattle.table.proofs.Family.{parent_root, parent_first, parent_next, parent_lower, tail_top, tail_down}
use Rattle.table.specs.Expressions.{exprs_at, expr_at, body_of, defs_at, then_at, else_at}
use Rattle.table.proofs.Tree.{kids, defs_along}
use Rattle.table.proofs.Children.{Final, final}
use Rattle.table.proofs.NodeCases.{NodeCase, node_case}
use Rattle.table.proofs.NodeCases.{is_const, is_param, is_prim, is_call_lem, is_self, is_cond, is_bind, is_bound}

-- which children of n may be in tail position
module _ (t : List ℕ) (n c : ℕ) where
  tail_cases : T (tail_child t n c) → ((kind t n ≡ 5) × (first t n ≡ c → ⊥)) ⊎ ((kind t n ≡ 6) × (next t c ≡ 0))
  unfolding tail_child
  tail_cases h =
      let x = eqb (kind t n) 5 in
      let y = not (eqb (first t n) c) in
      let z = eqb (kind t n) 6 in
      let w = eqb (next t c) 0 in
      ⊎_elim
      (λ p. let q = both x y p in inl (eqb→eq (kind t n) 5 q.0, λ e. isnt (eqb (first t n) c) q.1 (same (first t n) c e)))
      (λ p. let q = both z w p in inr (eqb→eq (kind t n) 6 q.0, eqb→eq (next t c) 0 q.1))
      (either (x && y) (z && w) h)

  branch_tail : kind t n ≡ 5 → (first t n ≡ c → ⊥) → T (tail_child t n c)
  unfolding tail_child
  branch_tail k f =
      let x = eqb (kind t n) 5 in
      let y = not (eqb (first t n) c) in
      orl (x && y) (eqb (kind t n) 6 && eqb (next t c) 0)
      (pair x y (same (kind t n) 5 k) (not_T (eqb (first t n) c) (λ h. f (eqb→eq (first t n) c h))))

  body_tail : kind t n ≡ 6 → next t c ≡ 0 → T (tail_child t n c)
  unfolding tail_child
  body_tail k z =
      let x = eqb (kind t n) 6 in
      let y = eqb (next t c) 0 in
      orr (eqb (kind t n) 5 && not (eqb (first t n) c)) (x && y) (pair x y (same (kind t n) 6 k) (same (next t c) 0 z))

module _ (t : List ℕ) (ok : Passed t) where
  abbrev lk : Linked t
  lk = ok.linking

  -- where n placed, and what may stand there
  pub record Placed (n : ℕ) : Type 0 where
    pub in_tail : T (tail t n) → Tail (expr_at t n)
    pub elsewhere : (T (tail t n) → ⊥) → NoSelf (expr_at t n)

  step : (n : ℕ) → IsNode t n → ((m : ℕ) → n < m → m ≤ nodes t → Placed m) → Placed n
  step n i f = go (node_case t ok n i)
    where
      child : (c : ℕ) → IsNode t c → parent t c ≡ n → tail t c ≡ (tail_child t n c && tail t n)
      child c j e = subst (λ p. tail t c ≡ (tail_child t p c && tail t p)) e (tail_down t c j.0 (λ z. omega (arith, z, e, i.0)))

      at : (c : ℕ) → IsNode t c → parent t c ≡ n → Placed c
      at c j e = f c (omega (arith, parent_lower t c j.0, e)) j.1

      -- a child that is in no tail position
      outside : (c : ℕ) → IsNode t c → parent t c ≡ n → (T (tail_child t n c) → T (tail t n) → ⊥) → NoSelf (expr_at t c)
      outside c j e h = (at c j e).elsewhere (λ x. let q = both (tail_child t n c) (tail t n) (subst T (child c j e) x) in h q.0 q.1)

      inside : (c : ℕ) → IsNode t c → parent t c ≡ n → T (tail_child t n c) → T (tail t n) → Tail (expr_at t c)
      inside c j e h x = (at c j e).in_tail (subst T (sym (child c j e)) (pair (tail_child t n c) (tail t n) h x))

      -- all children, of a node that is neither an if nor a let
      all_out : (kind t n ≡ 5 → ⊥) → (kind t n ≡ 6 → ⊥) → NoSelf* (exprs_at t (first t n))
      all_out x y = kids t lk n (λ c es. NoSelf* es) tt
          (λ c j e g. (outside c j e (λ h z. ⊎_elim (λ p. x p.0) (λ p. y p.0) (tail_cases t n c h)), g)) n i refl

      go : NodeCase t n → Placed n
      go (is_const k z e) = record { in_tail = λ x. subst Tail (sym e) tt; elsewhere = λ x. subst NoSelf (sym e) tt }
      go (is_param k z l e) = record { in_tail = λ x. subst Tail (sym e) tt; elsewhere = λ x. subst NoSelf (sym e) tt }
      go (is_prim k c e) =
          let h = all_out (λ x. omega (arith, x, k)) (λ x. omega (arith, x, k)) in
          record { in_tail = λ x. subst Tail (sym e) h; elsewhere = λ x. subst NoSelf (sym e) h }
      go (is_call_lem k l q c e) =
          let h = all_out (λ x. omega (arith, x, k)) (λ x. omega (arith, x, k)) in
          record { in_tail = λ x. subst Tail (sym e) h; elsewhere = λ x. subst NoSelf (sym e) h }
      go (is_self k w l c e) =
          let h = all_out (λ x. omega (arith, x, k)) (λ x. omega (arith, x, k)) in
          record { in_tail = λ x. subst Tail (sym e) h; elsewhere = λ x. absurd (x l) }
      go (is_cond k a b c z e) = record {
        in_tail = λ x. subst Tail (sym e) (
          first_out,
          inside (then_at t n) b pb (branch_tail t n (then_at t n) k b_not) x,
          inside (else_at t n) c pc (branch_tail t n (else_at t n) k c_not) x,
        );
        elsewhere = λ x. subst NoSelf (sym e) (first_out, outside (then_at t n) b pb (λ h y. x y), outside (else_at t n) c pc (λ h y. x y));
      }
        where
          la : n < first t n
          la = ((link t lk n i).first_on (λ z. omega (arith, z, a.0))).0

          lb : first t n < then_at t n
          lb = ((link t lk (first t n) a).next_on (λ z. omega (arith, z, b.0))).0

          lc : then_at t n < else_at t n
          lc = ((link t lk (then_at t n) b).next_on (λ z. omega (arith, z, c.0))).0

          pa : parent t (first t n) ≡ n
          pa = parent_first t lk n i (λ z. omega (arith, z, a.0))

          pb : parent t (then_at t n) ≡ n
          pb = parent_next t lk (first t n) a (λ z. omega (arith, z, b.0)) ∙ pa

          pc : parent t (else_at t n) ≡ n
          pc = parent_next t lk (then_at t n) b (λ z. omega (arith, z, c.0)) ∙ pb

          b_not : first t n ≡ then_at t n → ⊥
          b_not q = omega (arith, q, lb)

          c_not : first t n ≡ else_at t n → ⊥
          c_not q = omega (arith, q, lb, lc)

          first_out : NoSelf (expr_at t (first t n))
          first_out = outside (first t n) a pa
              (λ h y. ⊎_elim (λ p. p.1 refl) (λ p. omega (arith, p.0, k)) (tail_cases t n (first t n) h))
      go (is_bind k a b c e) = record {
        in_tail = λ x. subst Tail (sym e)
            (defs, subst Tail (sym fin.is) (inside fin.at fin.node pf (body_tail t n fin.at k fin.ends) x));
        elsewhere = λ x. subst NoSelf (sym e) (defs, subst NoSelf (sym fin.is) (outside fin.at fin.node pf (λ h y. x y)));
      }
        where
          pa : parent t (first t n) ≡ n
          pa = parent_first t lk n i (λ z. omega (arith, z, a.0))

          fin : Final t ok (first t n)
          fin = final t ok (first t n) a

          pf : parent t fin.at ≡ n
          pf = fin.sibling ∙ pa

          defs : NoSelf* (defs_at t (first t n))
          defs = defs_along t lk n NoSelf* tt
              (λ c j e z g. (outside c j e (λ h y. ⊎_elim (λ p. omega (arith, p.0, k)) (λ p. z p.1) (tail_cases t n c h)), g))
              (first t n) a pa
      go (is_bound k z l e) = record { in_tail = λ x. subst Tail (sym e) tt; elsewhere = λ x. subst NoSelf (sym e) tt }

  pub placed : (n : ℕ) → IsNode t n → Placed n
  placed = backwards t lk Placed step

  pub tail_body : (f : ℕ) → IsFunction t f → Tail (body_of t f)
  unfolding body_of
  tail_body f i =
      let r = lk.roots f i in
      (placed (root t f) r).in_tail (subst T (sym (tail_top t (root t f) r.0 (parent_root t lk f i))) tt)
