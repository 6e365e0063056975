-- what each kind of node of an accepted table is, and what the check says of it
use Prim.Native.Nat.{ℕ, zero, suc, ◌≤◌, ◌<◌}
use mathlib.Core.Bool.{Bool, true, false, ◌&&◌, ◌||◌, not}
use mathlib.Core.Path.{◌≡◌, refl, subst, ap, ◌∙◌}
use mathlib.Core.List.{List}
use native.Mathlib.Omega.{arith}
use native.Mathlib.Decide.{ℕ_discrete}
use lib.Dec.{T, eqb, ltb, leb, eqb→eq, ltb→lt}
use lib.ListN.{length}
use borrow.Author.Tests.{eq-eqb, ne_eqb}
use Rattle.table.specs.Pick.{pick}
use Rattle.table.specs.Syntax.{Exprs, const, param, prim, call, self, cond, bind, bound, none, some, id}
use Rattle.table.specs.Bytes.{params, kind, extra, word, first, next}
use Rattle.table.proofs.FindLaws.{both, same}
use Rattle.table.specs.Naming.{owner, tail, in_scope, children}
use Rattle.table.specs.Check.{among, fields, formed, is_kind, callee_fits, operation_counts, counts_of, within, counted, scoped, tailed}
use Rattle.table.specs.Working.{IsNode, Linked}
use Rattle.table.proofs.Passed.{Passed, in_range}
use Rattle.table.proofs.Family.{pick_true, pick_false}
use Rattle.table.proofs.Tree.{exprs_none, exprs_some, more, no_more, first_or, next_or}
use Rattle.table.specs.Expressions.{cond_of, bind_of, node_of, exprs_at, expr_at, defs_at, final_at, then_at, else_at}

pub data NodeCase (t : List ℕ) (n : ℕ) : Type 0 where
  is_const : kind t n ≡ 1 → first t n ≡ 0 → expr_at t n ≡ const n (word t n) → NodeCase t n
  is_param : kind t n ≡ 2 → first t n ≡ 0 → extra t n < params t (owner t n) → expr_at t n ≡ param n (extra t n) → NodeCase t n
  is_prim : kind t n ≡ 3 → T (within (operation_counts (extra t n)) (length (children t n))) → expr_at t n ≡ prim n (extra t n)
      (exprs_at t (first t n))
      → NodeCase t n
  is_call_lem : kind t n ≡ 4 → 1 ≤ word t n → word t n < owner t n → length (children t n) ≡ params t (word t n)
      → expr_at t n ≡ call n (word t n) (exprs_at t (first t n)) → NodeCase t n
  is_self : kind t n ≡ 4 → word t n ≡ owner t n → T (tail t n) → length (children t n) ≡ params t (word t n)
      → expr_at t n ≡ self n (exprs_at t (first t n)) → NodeCase t n
  is_cond : kind t n ≡ 5 → IsNode t (first t n) → IsNode t (then_at t n) → IsNode t (else_at t n)
      → next t (else_at t n) ≡ 0
      → expr_at t n ≡ cond n (expr_at t (first t n)) (expr_at t (then_at t n)) (expr_at t (else_at t n)) → NodeCase t n
  is_bind : kind t n ≡ 6 → IsNode t (first t n) → IsNode t (then_at t n) → length (children t n) ≤ 9
      → expr_at t n ≡ bind n (defs_at t (first t n)) (final_at t (first t n)) → NodeCase t n
  is_bound : kind t n ≡ 7 → first t n ≡ 0 → T (in_scope t (word t n) n) → expr_at t n ≡ bound n (word t n) → NodeCase t n

-- one case of a definition by kinds
split : {C : Type 0} (k i : ℕ) (x y : Bool) → (k ≡ i → T x → C) → (T y → C) → T (pick (eqb k i) x y) → C
split {C} k i x y f g h = go (ℕ_discrete k i)
  where
    go : Dec (k ≡ i) → C
    go (yes e) = f e (subst T (pick_true (eqb k i) x y (eq-eqb k i e)) h)
    go (no e) = g (subst T (pick_false (eqb k i) x y (ne_eqb k i e)) h)

implies : (a b : Bool) → T (not a || b) → T a → T b
implies true b h x = h
implies false b h x = absurd x

module _ (t : List ℕ) (ok : Passed t) (n : ℕ) (i : IsNode t n) where
  abbrev lk : Linked t
  lk = ok.linking

  abbrev es : Exprs
  es = exprs_at t (first t n)

  abbrev count : ℕ
  count = length (children t n)

  -- the syntax by kind
  as_const : kind t n ≡ 1 → expr_at t n ≡ const n (word t n)
  unfolding expr_at node_of
  as_const e = rw e refl

  as_param : kind t n ≡ 2 → expr_at t n ≡ param n (extra t n)
  unfolding expr_at node_of
  as_param e = rw e refl

  as_prim : kind t n ≡ 3 → expr_at t n ≡ prim n (extra t n) es
  unfolding expr_at node_of
  as_prim e = rw e refl

  as_call : kind t n ≡ 4 → expr_at t n ≡ pick (eqb (word t n) (owner t n)) (self n es) (call n (word t n) es)
  unfolding expr_at node_of
  as_call e = rw e refl

  as_cond : kind t n ≡ 5 → expr_at t n ≡ cond_of n es
  unfolding expr_at node_of
  as_cond e = rw e refl

  as_bind : kind t n ≡ 6 → expr_at t n ≡ bind_of n es
  unfolding expr_at node_of
  as_bind e = rw e refl

  as_bound : kind t n ≡ 7 → expr_at t n ≡ bound n (word t n)
  unfolding expr_at node_of
  as_bound e = rw e refl

  -- what the numbers 6 to 9 say by kind
  callee : kind t n ≡ 4 → (1 ≤ word t n) × (word t n ≤ owner t n)
  unfolding callee_fits
  callee e = in_range 1 (owner t n) (word t n)
      (implies (is_kind t 4 n) (among 1 (owner t n) (word t n)) (ok.callees n i) (same (kind t n) 4 e))

  tail_call : kind t n ≡ 4 → word t n ≡ owner t n → T (tail t n)
  unfolding tailed
  tail_call e f =
      implies (is_kind t 4 n && eqb (word t n) (owner t n)) (tail t n) (ok.tails n i)
      (rw (eq-eqb (kind t n) 4 e) (same (word t n) (owner t n) f))

  index : kind t n ≡ 2 → extra t n < params t (owner t n)
  unfolding scoped
  index e =
      let a = not (is_kind t 2 n) || ltb (extra t n) (params t (owner t n)) in
      let b = not (is_kind t 7 n) || in_scope t (word t n) n in
      ltb→lt (extra t n) (params t (owner t n))
      (implies (is_kind t 2 n) (ltb (extra t n) (params t (owner t n))) (both a b (ok.scopes n i)).0 (same (kind t n) 2 e))

  scope : kind t n ≡ 7 → T (in_scope t (word t n) n)
  unfolding scoped
  scope e =
      let a = not (is_kind t 2 n) || ltb (extra t n) (params t (owner t n)) in
      let b = not (is_kind t 7 n) || in_scope t (word t n) n in
      implies (is_kind t 7 n) (in_scope t (word t n) n) (both a b (ok.scopes n i)).1 (same (kind t n) 7 e)

  counted_prim : kind t n ≡ 3 → T (within (operation_counts (extra t n)) count)
  unfolding counted counts_of
  counted_prim e = let h = ok.children n i in rw e at h

  counted_call : kind t n ≡ 4 → count ≡ params t (word t n)
  unfolding counted counts_of
  counted_call e =
      let h = ok.children n i in
      let r = in_range (params t (word t n)) (params t (word t n)) count (rw e at h) in
      omega (arith, r.0, r.1)

  counted_cond : kind t n ≡ 5 → count ≡ 3
  unfolding counted counts_of
  counted_cond e = let h = ok.children n i in let r = in_range 3 3 count (rw e at h) in omega (arith, r.0, r.1)

  counted_bind : kind t n ≡ 6 → (2 ≤ count) × (count ≤ 9)
  unfolding counted counts_of
  counted_bind e = let h = ok.children n i in in_range 2 9 count (rw e at h)

  case_call : kind t n ≡ 4 → Dec (word t n ≡ owner t n) → NodeCase t n
  case_call e (yes s) =
      is_self e s (tail_call e s) (counted_call e)
      (as_call e ∙ pick_true (eqb (word t n) (owner t n)) (self n es) (call n (word t n) es) (eq-eqb (word t n) (owner t n) s))
  case_call e (no s) =
      let c = callee e in
      is_call_lem e c.0 (omega (arith, c.1, s)) (counted_call e)
      (as_call e ∙ pick_false (eqb (word t n) (owner t n)) (self n es) (call n (word t n) es) (ne_eqb (word t n) (owner t n) s))

  case_cond : kind t n ≡ 5 → NodeCase t n
  unfolding children cond_of
  case_cond e =
      let a = more t lk (first t n) 2 (first_or t lk n i) (counted_cond e) in
      let b = more t lk (then_at t n) 1 (next_or t lk (first t n) a.0) a.1 in
      let c = more t lk (else_at t n) 0 (next_or t lk (then_at t n) b.0) b.1 in
      let z = no_more t lk (next t (else_at t n)) (next_or t lk (else_at t n) c.0) c.1 in
      is_cond e a.0 b.0 c.0 z (as_cond e ∙ ap (cond_of n) (exprs_some t lk (first t n) a.0
      ∙ ap (some (expr_at t (first t n))) (exprs_some t lk (then_at t n) b.0
      ∙ ap (some (expr_at t (then_at t n))) (exprs_some t lk (else_at t n) c.0))))

  case_bind : kind t n ≡ 6 → NodeCase t n
  unfolding children bind_of defs_at final_at
  case_bind e = go count refl (counted_bind e)
    where
      go : (j : ℕ) → count ≡ j → (2 ≤ count) × (count ≤ 9) → NodeCase t n
      go zero q h = absurd (omega (arith, q, h.0))
      go (suc zero) q h = absurd (omega (arith, q, h.0))
      go (suc (suc j)) q h =
          let a = more t lk (first t n) (suc j) (first_or t lk n i) q in
          let b = more t lk (then_at t n) j (next_or t lk (first t n) a.0) a.1 in
          is_bind e a.0 b.0 h.1 (as_bind e ∙ ap (bind_of n) (exprs_some t lk (first t n) a.0))

  pub node_case : NodeCase t n
  unfolding formed fields
  node_case =
      let k = kind t n in
      let e = extra t n in
      let w = word t n in
      let c = first t n in
      let x1 = eqb e 0 && eqb c 0 in
      let x2 = eqb w 0 && eqb c 0 in
      let x3 = leb e 10 && eqb w 0 in
      let x5 = eqb e 0 && eqb w 0 in
      let y7 = pick (eqb k 7) x1 false in
      let y6 = pick (eqb k 6) x5 y7 in
      let y5 = pick (eqb k 5) x5 y6 in
      let y4 = pick (eqb k 4) (eqb e 0) y5 in
      let y3 = pick (eqb k 3) x3 y4 in
      let y2 = pick (eqb k 2) x2 y3 in
      split k 1 x1 y2 (λ q h. is_const q (eqb→eq c 0 (both (eqb e 0) (eqb c 0) h).1) (as_const q))
      (split k 2 x2 y3 (λ q h. is_param q (eqb→eq c 0 (both (eqb w 0) (eqb c 0) h).1) (index q) (as_param q))
      (split k 3 x3 y4 (λ q h. is_prim q (counted_prim q) (as_prim q))
      (split k 4 (eqb e 0) y5 (λ q h. case_call q (ℕ_discrete w (owner t n)))
      (split k 5 x5 y6 (λ q h. case_cond q)
      (split k 6 x5 y7 (λ q h. case_bind q)
      (split k 7 x1 false (λ q h. is_bound q (eqb→eq c 0 (both (eqb e 0) (eqb c 0) h).1) (scope q) (as_bound q))
      (λ h. absurd h))))))) (ok.forms n i)

  pub id_at : id (expr_at t n) ≡ n
  id_at = go node_case
    where
      go : NodeCase t n → id (expr_at t n) ≡ n
      go (is_const k z e) = ap id e
      go (is_param k z l e) = ap id e
      go (is_prim k c e) = ap id e
      go (is_call_lem k l h c e) = ap id e
      go (is_self k w l c e) = ap id e
      go (is_cond k a b c z e) = ap id e
      go (is_bind k a b c e) = ap id e
      go (is_bound k z s e) = ap id e

  -- the children of an if
  pub kids_three : (a : IsNode t (first t n)) (b : IsNode t (then_at t n)) (c : IsNode t (else_at t n))
      → next t (else_at t n) ≡ 0
      → exprs_at t (first t n) ≡ some (expr_at t (first t n)) (some (expr_at t (then_at t n)) (some (expr_at t (else_at t n)) none))
  kids_three a b c z =
      exprs_some t lk (first t n) a ∙ ap (some (expr_at t (first t n))) (exprs_some t lk (then_at t n) b
      ∙ ap (some (expr_at t (then_at t n))) (exprs_some t lk (else_at t n) c
      ∙ ap (some (expr_at t (else_at t n))) (ap (exprs_at t) z ∙ exprs_none t lk)))
