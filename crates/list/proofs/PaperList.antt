-- the arbiter list of an accepted table is the paper's A of its program (section 4.2 with document 01's readings)
use Rattle.std.proofs.Common.{◌≡◌, ℕ, zero, suc, ◌<◌, ◌≤◌, ◌⊎◌, List, sym, refl, ◌∙◌, inl, inr, arith}
use Rattle.table.specs.Syntax.{Expr, Exprs, const, param, prim, call, self, cond, bind, bound, none, some}
use Rattle.table.specs.Well.{CallIn, CallIn*}
use Rattle.table.specs.Pick.{Range}
use Rattle.table.specs.Bytes.{functions, nodes}
use Rattle.table.specs.Check.{accepted, check_of}
use Rattle.table.specs.Expressions.{expr_at, body_of}
use Rattle.table.proofs.LaidOut.{laid}
use Rattle.list.specs.Sets.{Calls, ∅}
use Rattle.list.specs.Conflict.{C, C*, PC, A, A*}
use Rattle.list.specs.Paper.{paper_pc, paper_a, paper_a*, PaperC, body_sets, PaperListed}
use Rattle.list.specs.CallSets.{callee_at, Listed}
use Rattle.list.specs.Tags.{callee_of}
use Rattle.table.specs.Working.{Taken}
use Rattle.list.specs.Working.{calls_by, calls_at}
use Rattle.list.proofs.ListedCalls.{Calling, sets_all}
use Rattle.list.specs.PaperList.{Decides, PaperList}
use Rattle.list.proofs.ArbiterFacts.{c_decides, sets_decides}
use Rattle.list.proofs.PaperConflict.{to_paper, from_paper}
use Rattle.list.proofs.Callees.{callee_word, calls_there, listed_exactly}
use Rattle.list.proofs.CallLaws.{body_set}
use Rattle.table.proofs.SurveyLaws.{taken_by}

-- equivalences
abbrev Iff : Type 0 → Type 0 → Type 0
Iff P Q = (P → Q) × (Q → P)

same : {P : Type 0} → Iff P P
same = (λ h. h, λ h. h)

through : {P Q R : Type 0} → Iff P Q → Iff Q R → Iff P R
through x y = (λ h. y.0 (x.0 h), λ h. x.1 (y.1 h))

back : {P Q : Type 0} → Iff P Q → Iff Q P
back x = (x.1, x.0)

either : {P P' Q Q' : Type 0} → Iff P P' → Iff Q Q' → Iff (P ⊎ Q) (P' ⊎ Q')
either {P} {P'} {Q} {Q'} x y = (to, from)
  where
    to : P ⊎ Q → P' ⊎ Q'
    to (inl h) = inl (x.0 h)
    to (inr h) = inr (y.0 h)

    from : P' ⊎ Q' → P ⊎ Q
    from (inl h) = inl (x.1 h)
    from (inr h) = inr (y.1 h)

-- A by one pass is the paper's
module _ (callee : ℕ → ℕ) (B : ℕ → Calls) (α : ℕ) where
  pass : (es : Exprs) → Iff (PC callee B ∅ es α) (paper_pc callee B es α)
  pass es = (to_paper callee B es α, from_paper callee B es α)

  mutual
    a_paper : (e : Expr) → Iff (A callee B e α) (paper_a callee B e α)
    a_paper (const n v) = same
    a_paper (param n i) = same
    a_paper (prim n op es) = either (pass es) (a_paper* es)
    a_paper (call n g es) = either (pass es) (a_paper* es)
    a_paper (self n es) = either (pass es) (a_paper* es)
    a_paper (cond n a b c) = either (a_paper a) (either (a_paper b) (a_paper c))
    a_paper (bind n ds b) = either (either (pass ds) (a_paper* ds)) (a_paper b)
    a_paper (bound n d) = same

    a_paper* : (es : Exprs) → Iff (A* callee B es α) (paper_a* callee B es α)
    a_paper* none = same
    a_paper* (some e es) = either (a_paper e) (a_paper* es)

-- C of an expression rests on the sets of its callees alone
module _ (callee : ℕ → ℕ) (B B' : ℕ → Calls) (m : ℕ) where
  mutual
    c_by : (e : Expr) → ((c g : ℕ) → CallIn c g e → Iff (B g m) (B' g m)) → Iff (C callee B e m) (C callee B' e m)
    c_by (const n v) f = same
    c_by (param n i) f = same
    c_by (prim n op es) f = c_by* es f
    c_by (call n g es) f = either (c_by* es (λ c h i. f c h (inr i))) (either same (f n g (inl (refl, refl))))
    c_by (self n es) f = c_by* es f
    c_by (cond n a b d) f = either (c_by a (λ c h i. f c h (inl i)))
        (either (c_by b (λ c h i. f c h (inr (inl i)))) (c_by d (λ c h i. f c h (inr (inr i)))))
    c_by (bind n ds b) f = either (c_by* ds (λ c h i. f c h (inl i))) (c_by b (λ c h i. f c h (inr i)))
    c_by (bound n d) f = same

    c_by* : (es : Exprs) → ((c g : ℕ) → CallIn* c g es → Iff (B g m) (B' g m)) → Iff (C* callee B es m) (C* callee B' es m)
    c_by* none f = same
    c_by* (some e es) f = either (c_by e (λ c h i. f c h (inl i))) (c_by* es (λ c h i. f c h (inr i)))

-- callees are lower, so one family of sets obeys the equations
module _ (body at : ℕ → Expr) (F : ℕ) (below : (f c g : ℕ) → Range F f → CallIn c g (body f) → (1 ≤ g) × (g < f))
    (B B' : ℕ → Calls) (x : PaperC body at F B) (y : PaperC body at F B') where
  agree : (k f m : ℕ) → f ≤ k → Range F f → Iff (B f m) (B' f m)
  agree zero f m l r = absurd (omega (arith, r.0))
  agree (suc k) f m l r = through (x f r m) (through (c_by (callee_at at) B B' m (body f)
      (λ c g i. let b = below f c g r i in agree k g m (omega (arith, b.1)) (b.0, omega (arith, b.1, r.1)))) (back (y f r m)))

module _ (t : List ℕ) (ok : Taken t) where
  calls : (f : ℕ) → Range (functions t) f → Calling (Range (nodes t)) (body_of t f)
  calls = calls_there t (functions t) (nodes t) ok

  decided : (g m : ℕ) → Decides (calls_by t g m) (body_sets t g m)
  unfolding calls_by
  decided = sets_decides (functions t) (nodes t) (body_of t) (expr_at t) (callee_of t) (callee_word t) calls (functions t) (omega arith)

  decided_in : (e : Expr) (m : ℕ) → Decides (calls_at t e m) (C (callee_at (expr_at t)) (body_sets t) e m)
  unfolding calls_at
  decided_in = c_decides (nodes t) (callee_of t) (callee_at (expr_at t)) (callee_word t) (calls_by t) (body_sets t) decided
      (sets_all (Range (nodes t)) (functions t) (body_of t) (expr_at t) calls (functions t) (omega arith))

  own_sets : PaperC (body_of t) (expr_at t) (functions t) (body_sets t)
  own_sets f r m =
      let e = body_set t ok f m r in
      let x = decided f m in
      let y = decided_in (body_of t f) m in
      (λ h. y.0 (sym e ∙ x.1 h), λ h. x.0 (e ∙ y.1 h))

  a_in : (f n : ℕ) → Iff (A (callee_at (expr_at t)) (body_sets t) (body_of t f) n)
      (paper_a (callee_at (expr_at t)) (body_sets t) (body_of t f) n)
  a_in f n = a_paper (callee_at (expr_at t)) (body_sets t) n (body_of t f)

  whole : (n : ℕ) → Iff (Listed (body_of t) (expr_at t) (functions t) n) (PaperListed t n)
  whole n = (λ h. (h.0, h.1, (a_in h.0 n).0 h.2), λ h. (h.0, h.1, (a_in h.0 n).1 h.2))

  of_taken : PaperList t
  of_taken = record {
    exactly = λ n. through (listed_exactly t (functions t) (nodes t) ok n) (whole n);
    bodies = own_sets;
    unique = λ B x f r m.
        agree (body_of t) (expr_at t) (functions t) (laid t (functions t) (nodes t) ok).well.below B (body_sets t) x own_sets f f m
        (omega arith) r;
  }

-- the list of an accepted table is the paper's
pub paper_list : (t : List ℕ) (F N : ℕ) → check_of t ≡ accepted F N → PaperList t
paper_list t F N e = of_taken t (taken_by t F N (sym e)).0
