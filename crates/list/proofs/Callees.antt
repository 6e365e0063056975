-- of an accepted table: a call's callee is its word; `reached` decides what main reaches, and `listed` the arbiter list
use Rattle.std.proofs.Common.{◌≡◌, ℕ, ◌<◌, ◌≤◌, Bool, true, false, not, ◌&&◌, eqb, List, sym, refl, ap, ◌∙◌, subst, arith, ne_eqb}
use native.Mathlib.Decide.{ℕ_discrete}
use Rattle.table.specs.Pick.{pick, Range}
use Rattle.table.specs.Syntax.{Expr, Exprs, const, param, prim, call, self, cond, bind, bound, none, some, id, Sub}
use Rattle.table.specs.Well.{CallIn, Laid}
use Rattle.table.specs.Reach.{Reached, main, called, InReach}
use Rattle.list.specs.CallSets.{callee, callee_at, Listed}
use Rattle.list.specs.PaperList.{Decides}
use Rattle.list.proofs.ListedCalls.{Calling, listed_all}
use Rattle.list.proofs.ArbiterFacts.{listed_decides}
use Rattle.list.proofs.ReachedCalls.{reached_decides}
use Rattle.table.proofs.CallPlaces.{call_node, sub_call}
use Rattle.table.specs.Bytes.{functions, nodes, kind, extra, word, first}
use Rattle.table.specs.Naming.{owner}
use Rattle.table.specs.Check.{accepted, check_of}
use Rattle.table.specs.Expressions.{cond_of, bind_of, node_of, exprs_at, expr_at, body_of}
use Rattle.list.specs.Tags.{is_call, callee_of, reached, listed}
use Rattle.table.proofs.LaidOut.{laid, call_here}
use Rattle.table.proofs.ReachedFunctions.{reached_there}

callee_cond : (n : ℕ) (es : Exprs) → callee (cond_of n es) ≡ 0
unfolding cond_of
callee_cond n none = refl
callee_cond n (some a none) = refl
callee_cond n (some a (some b none)) = refl
callee_cond n (some a (some b (some c es))) = refl

callee_bind : (n : ℕ) (es : Exprs) → callee (bind_of n es) ≡ 0
unfolding bind_of
callee_bind n none = refl
callee_bind n (some e es) = refl

-- a call's callee is its word
pub callee_word : (t : List ℕ) (n : ℕ) → callee_of t n ≡ callee_at (expr_at t) n
unfolding expr_at node_of callee_of is_call
callee_word t n = sym (go (ℕ_discrete (kind t n) 4))
  where
    es : Exprs
    es = exprs_at t (first t n)

    a_call : (b : Bool) → callee (pick b (self n es) (call n (word t n) es)) ≡ pick (not b) (word t n) 0
    a_call true = refl
    a_call false = refl

    other : (a b c d e : Bool) → callee (pick a (const n (word t n)) (pick b (param n (extra t n)) (pick c (prim n (extra t n) es)
        (pick d (cond_of n es) (pick e (bind_of n es) (bound n (word t n))))))) ≡ 0
    other true b c d e = refl
    other false true c d e = refl
    other false false true d e = refl
    other false false false true e = callee_cond n es
    other false false false false true = callee_bind n es
    other false false false false false = refl

    go : Dec (kind t n ≡ 4) → callee (expr_at t n) ≡ pick (eqb (kind t n) 4 && not (eqb (word t n) (owner t n))) (word t n) 0
    go (yes e) = rw e (a_call (eqb (word t n) (owner t n)))
    go (no e) = rw (ne_eqb (kind t n) 4 e)
        (other (eqb (kind t n) 1) (eqb (kind t n) 2) (eqb (kind t n) 3) (eqb (kind t n) 5) (eqb (kind t n) 6))

-- the expression whose callee is a function is a call of it
call_of : (u : Expr) (g : ℕ) → callee u ≡ g → 1 ≤ g → (es : Exprs) × (u ≡ call (id u) g es)
call_of (const n v) g e l = absurd (omega arith)
call_of (param n i) g e l = absurd (omega arith)
call_of (prim n op es) g e l = absurd (omega arith)
call_of (call n h es) g e l = (es, ap (λ k. call n k es) e)
call_of (self n es) g e l = absurd (omega arith)
call_of (cond n a b c) g e l = absurd (omega arith)
call_of (bind n ds b) g e l = absurd (omega arith)
call_of (bound n d) g e l = absurd (omega arith)

module _ (t : List ℕ) (F N : ℕ) (check : check_of t ≡ accepted F N) where
  abbrev lay : Laid (functions t) (nodes t) (body_of t) (expr_at t) (owner t)
  lay = laid t F N check

  -- calls are nodes of the table ..
  pub calls_there : (f : ℕ) → Range (functions t) f → Calling (Range (nodes t)) (body_of t f)
  calls_there f o c g i = let r = lay.inside f c o (call_node c g (body_of t f) i) in (r.1, r.2)

  -- .. and of a function below the body's own
  pub call_below : (f c g : ℕ) → Range (functions t) f → CallIn c g (body_of t f) → (callee_of t c ≡ g) × (1 ≤ g) × (g < f)
  call_below f c g o i = let b = lay.well.below f c g o i in (callee_word t c ∙ ap callee (call_here lay f c g o i).1, b.0, b.1)

  -- what main reaches are functions of the table
  pub reached_in_lem : (f : ℕ) → Reached (functions t) (body_of t) f → Range (functions t) f
  reached_in_lem = reached_there (functions t) (body_of t) lay.some_function lay.well

  -- the functions decided to be reached are those that main reaches
  pub reached_exactly : (f : ℕ) → Decides (reached t f) (Reached (functions t) (body_of t) f)
  unfolding reached
  reached_exactly = reached_decides (functions t) (body_of t) (expr_at t) reached_in_lem lay.well.below
      (λ f c g o i. ap callee (call_here lay f c g o i).1) (nodes t) (callee_of t) (callee_word t) calls_there

  pub main_reached : reached t (functions t) ≡ true
  main_reached = (reached_exactly (functions t)).1 main

  -- a function called at a node of a function that is reached
  pub call_reached : (n g : ℕ) → Range (nodes t) n → callee_of t n ≡ g → 1 ≤ g → reached t (owner t n) ≡ true → reached t g ≡ true
  call_reached n g r e l h =
      let u = call_of (expr_at t n) g (sym (callee_word t n) ∙ e) l in
      (reached_exactly g).1 (called (owner t n) (id (expr_at t n)) g ((reached_exactly (owner t n)).0 h)
      (sub_call (id (expr_at t n)) g u.0 (body_of t (owner t n))
      (subst (λ x. Sub x (body_of t (owner t n))) u.1 (lay.placed n r))))

  -- the decided list is the arbiter list
  pub listed_exactly : (n : ℕ) → Decides (listed t n) (Listed (body_of t) (expr_at t) (functions t) n)
  unfolding listed reached
  listed_exactly = listed_decides (functions t) (nodes t) (body_of t) (expr_at t) (callee_of t) (callee_word t) calls_there reached_in_lem
      reached_exactly

  -- what is listed is a call in the body of a function that main reaches
  pub listed_stands : (n : ℕ) → listed t n ≡ true
      → (f : ℕ) × (g : ℕ) × Reached (functions t) (body_of t) f × CallIn n g (body_of t f)
  listed_stands n e =
      listed_all (λ c. (f : ℕ) × (g : ℕ) × Reached (functions t) (body_of t) f × CallIn c g (body_of t f)) (functions t)
      (body_of t) (expr_at t)
      (λ f r c g i. (f, g, r, i)) n ((listed_exactly n).0 e)

  pub listed_reached : (n : ℕ) → listed t n ≡ true → InReach t n
  listed_reached n e =
      let x = listed_stands n e in
      let f = x.0 in
      let here = lay.inside f n (reached_in_lem f x.2) (call_node n x.1 (body_of t f) x.3) in
      subst (Reached (functions t) (body_of t)) (sym here.0) x.2
