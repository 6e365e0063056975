-- an accepted table is a program laid out over node numbers
use Prim.Native.Nat.{ℕ, suc, ◌≤◌}
use mathlib.Core.Path.{◌≡◌, refl, subst, sym, ap, ◌∙◌}
use mathlib.Core.List.{List}
use native.Mathlib.Omega.{arith}
use lib.ListN.{length}
use Rattle.table.specs.Syntax.{Expr, Sub, Exprs, call, none, some, id, size, arity, roots}
use Rattle.table.specs.Well.{Fn, Laid, CallIn}
use Rattle.table.proofs.CallPlaces.{call_node, call_at}
use Rattle.table.specs.Bytes.{functions, nodes, params, word, first}
use Rattle.table.specs.Naming.{owner, children}
use Rattle.table.specs.Check.{accepted, check_of}
use Rattle.table.specs.Working.{IsNode, IsFunction}
use Rattle.table.proofs.Passed.{Passed, passed, params_small}
use Rattle.table.proofs.Family.{owner_in}
use Rattle.table.specs.Expressions.{exprs_at, expr_at, body_of}
use Rattle.table.proofs.NodeCases.{NodeCase, node_case, id_at}
use Rattle.table.proofs.NodeCases.{is_const, is_param, is_prim, is_call_lem, is_self, is_cond, is_bind, is_bound}
use Rattle.table.proofs.Children.{roots_kids}
use Rattle.table.proofs.NodePlaces.{in_body, node_owner}
use Rattle.table.proofs.Bodies.{well, part_is, owned_node}

length_roots : (es : Exprs) → length (roots es) ≡ size es
length_roots none = refl
length_roots (some e es) = ap suc (length_roots es)

module _ (t : List ℕ) (ok : Passed t) where
  -- at most 8 arguments, since the callee has as many parameters
  few : (n f : ℕ) → IsNode t n → IsFunction t f → length (children t n) ≡ params t f → size (exprs_at t (first t n)) ≤ 8
  few n f i j h = subst (λ k. k ≤ 8) (sym h ∙ ap length (sym (roots_kids t ok n i)) ∙ length_roots (exprs_at t (first t n)))
      (params_small t ok f j)

  few_at : (n : ℕ) → IsNode t n → arity (expr_at t n) ≤ 8
  few_at n i = go (node_case t ok n i) (owner_in t ok.linking n i)
    where
      go : NodeCase t n → IsFunction t (owner t n) → arity (expr_at t n) ≤ 8
      go (is_const k z e) o = rw e (omega arith)
      go (is_param k z l e) o = rw e (omega arith)
      go (is_prim k q e) o = rw e (omega arith)
      go (is_call_lem k l h q e) o = rw e (few n (word t n) i (l, omega arith) q)
      go (is_self k w l q e) o = rw e (few n (word t n) i (omega (arith, o.0), omega (arith, o.1)) q)
      go (is_cond k a b d z e) o = rw e (omega arith)
      go (is_bind k a b d e) o = rw e (omega arith)
      go (is_bound k z l e) o = rw e (omega arith)

  by_size : Laid (functions t) (nodes t) (body_of t) (expr_at t) (owner t)
  by_size = record {
    some_function = ok.f_low;
    functions = ok.f_high;
    nodes = ok.n_high;
    well = well t ok;
    home_there = owner_in t ok.linking;
    placed = in_body t ok;
    number = id_at t ok;
    inside = λ f m i k. let r = node_owner t ok f m i k in (r.1, r.0.0, r.0.1);
    owned = owned_node t ok;
    part = λ f u i s. (part_is t ok f i u s).0;
    few = λ f u i s.
        let r = part_is t ok f i u s in
        subst (λ x. arity x ≤ 8) (sym r.0) (few_at (id u) r.1);
  }

-- the check's own F and N are the table's
pub laid : (t : List ℕ) (F N : ℕ) → check_of t ≡ accepted F N → Laid (functions t) (nodes t) (body_of t) (expr_at t) (owner t)
laid t F N e = by_size t (passed t F N e).0

-- a call node, by its number
module _ {F N : ℕ} {body at : ℕ → Expr} {home : ℕ → ℕ} (laid : Laid F N body at home) where
  pub call_here : (f c g : ℕ) → Fn F body f → CallIn c g (body f) → (es : Exprs) × (at c ≡ call c g es)
  call_here f c g q i =
      let o = laid.inside f c q (call_node c g (body f) i) in
      call_at (at c) c g (laid.number c (o.1, o.2)) (body f) (laid.well.apart f q) i
      (subst (λ x. Sub (at c) (body x)) o.0 (laid.placed c (o.1, o.2)))
