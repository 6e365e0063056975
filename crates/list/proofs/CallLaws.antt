-- the call sets and the conflicts of an accepted table: every call is of a function below main; a body's set; what a node's conflicts are
use Rattle.std.proofs.Common.{◌≡◌, ℕ, zero, suc, ◌+◌, ◌-◌, ◌<◌, ◌≤◌, Bool, true, false, ◌&&◌, ◌||◌, eqb, List, sym, refl, ap, ◌∙◌, subst}
use Rattle.std.proofs.Common.{ap₂, inl, inr, suc-add, arith, eq-eqb, ne_eqb}
use Rattle.table.specs.Pick.{pick, Range}
use Rattle.table.specs.Syntax.{Expr, Exprs, const, param, prim, call, self, cond, bind, bound, none, some, Sub, Sub*}
use Rattle.table.specs.Well.{CallIn, CallIn*}
use Rattle.table.specs.Bytes.{functions, nodes}
use Rattle.table.specs.Naming.{owner}
use Rattle.table.specs.Expressions.{expr_at, body_of}
use Rattle.table.specs.Working.{IsNode, IsFunction}
use Rattle.table.proofs.LaidOut.{laid}
use Rattle.list.specs.Arbiters.{Test, no_calls, joined, calls_in, calls_in*, parallel, conflicts, conflicts*, calls_of}
use Rattle.list.specs.Arbiters.{listed_in}
use Rattle.list.specs.CallSets.{callee_at, sets}
use Rattle.list.specs.Tags.{callee_of, reached, listed}
use Rattle.table.specs.Working.{Taken}
use Rattle.list.specs.Working.{Callee, calls_by, calls_at, conflicts_at}
use Rattle.list.proofs.ListedCalls.{Calling, c_all, sets_all}
use Rattle.list.proofs.ArbiterFacts.{c_decides, sets_decides, any_in, both_and}
use Rattle.list.proofs.Callees.{callee_word, calls_there, call_below, reached_in_lem, listed_stands}

pub or_left : (a b : Bool) → a ≡ true → a || b ≡ true
or_left true b e = refl
or_left false b e = absurd (let z : ◌≡◌ {A = ℕ} 0 1 = cc in omega arith)

pub or_right : (a b : Bool) → b ≡ true → a || b ≡ true
or_right true b e = refl
or_right false b e = e

-- sets that agree on the callees of an expression
module _ (N : ℕ) (target : ℕ → ℕ) (B B' : ℕ → Test) (m : ℕ) where
  mutual
    unfolding calls_in joined no_calls

    over : (e : Expr) → ((c g : ℕ) → CallIn c g e → B g m ≡ B' g m) → calls_in N target B e m ≡ calls_in N target B' e m
    over (const n v) f = refl
    over (param n i) f = refl
    over (prim n op es) f = over* es f
    over (call n g es) f =
        ap₂ (λ p q. p || (eqb n m || q)) (over* es (λ c h i. f c h (inr i))) (f n g (inl (refl, refl)))
    over (self n es) f = over* es f
    over (cond n a b c) f =
        let p = over a (λ c g i. f c g (inl i)) in
        let q = over b (λ c g i. f c g (inr (inl i))) in
        let r = over c (λ c g i. f c g (inr (inr i))) in
        λ z. p z || (q z || r z)
    over (bind n ds b) f = ap₂ (λ p q. p || q) (over* ds (λ c g i. f c g (inl i))) (over b (λ c g i. f c g (inr i)))
    over (bound n d) f = refl

    over* : (es : Exprs) → ((c g : ℕ) → CallIn* c g es → B g m ≡ B' g m) → calls_in* N target B es m ≡ calls_in* N target B' es m
    over* none f = refl
    over* (some e es) f = ap₂ (λ p q. p || q) (over e (λ c g i. f c g (inl i))) (over* es (λ c g i. f c g (inr i)))

-- a body's set does not change once it is made
module _ (N : ℕ) (target : ℕ → ℕ) (body : ℕ → Expr) (m : ℕ) where
  abbrev S : ℕ → ℕ → Test
  S = calls_of N target body

  same_up : (d a g : ℕ) → g ≤ a → S (d + a) g m ≡ S a g m
  unfolding calls_of
  same_up zero a g h = ap (λ k. S k g m) (zero_plus a)
    where
      zero_plus : (a : ℕ) → 0 + a ≡ a
      zero_plus a = omega arith
  same_up (suc d) a g h =
      ap (λ k. S k g m) (suc-add d a)
      ∙ ap (λ b. pick b (calls_in N target (S (d + a)) (body g) m) (S (d + a) g m)) (ne_eqb g (suc (d + a)) (λ e. omega (arith, e)))
      ∙ same_up d a g h

  own_set : (k : ℕ) → S (suc k) (suc k) m ≡ calls_in N target (S k) (body (suc k)) m
  unfolding calls_of
  own_set k = ap (λ b. pick b (calls_in N target (S k) (body (suc k)) m) (S k (suc k) m)) (eq-eqb (suc k) (suc k) refl)

  whole_set : (F g : ℕ) → 1 ≤ g → g ≤ F → ((c h : ℕ) → CallIn c h (body g) → h < g) → S F g m ≡ calls_in N target (S F) (body g) m
  whole_set F zero p q f = absurd (omega arith)
  whole_set F (suc k) p q f =
      ap (λ j. S j (suc k) m) (sum F (suc k) q) ∙ same_up (F - suc k) (suc k) (suc k) (omega arith) ∙ own_set k
      ∙ over N target (S k) (S F) m (body (suc k))
      (λ c h i. let l = f c h i in sym (ap (λ j. S j h m) (sum F k (omega arith)) ∙ same_up (F - k) k h (omega arith)))
    where
      sum : (F a : ℕ) → a ≤ F → F ≡ F - a + a
      sum F a h = omega arith

-- conflicts of a part are those of the whole
module _ (N : ℕ) (target : ℕ → ℕ) (B : ℕ → Test) (m : ℕ) (u : Expr) (h : conflicts N target B u m ≡ true) where
  abbrev K : Expr → Bool
  K e = conflicts N target B e m

  abbrev K* : Exprs → Bool
  K* es = conflicts* N target B es m

  abbrev P : Exprs → Bool
  P es = parallel N target B no_calls es m

  mutual
    unfolding conflicts joined

    part : (e : Expr) → Sub u e → conflicts N target B e m ≡ true
    part (const n v) s = subst (λ e. K e ≡ true) s h
    part (param n i) s = subst (λ e. K e ≡ true) s h
    part (prim n op es) (inl s) = subst (λ e. K e ≡ true) s h
    part (prim n op es) (inr s) = or_right (P es) (K* es) (part* es s)
    part (call n g es) (inl s) = subst (λ e. K e ≡ true) s h
    part (call n g es) (inr s) = or_right (P es) (K* es) (part* es s)
    part (self n es) (inl s) = subst (λ e. K e ≡ true) s h
    part (self n es) (inr s) = or_right (P es) (K* es) (part* es s)
    part (cond n a b c) (inl s) = subst (λ e. K e ≡ true) s h
    part (cond n a b c) (inr (inl s)) = or_left (K a) (K b || K c) (part a s)
    part (cond n a b c) (inr (inr (inl s))) = or_right (K a) (K b || K c) (or_left (K b) (K c) (part b s))
    part (cond n a b c) (inr (inr (inr s))) = or_right (K a) (K b || K c) (or_right (K b) (K c) (part c s))
    part (bind n ds b) (inl s) = subst (λ e. K e ≡ true) s h
    part (bind n ds b) (inr (inl s)) = or_left (P ds || K* ds) (K b) (or_right (P ds) (K* ds) (part* ds s))
    part (bind n ds b) (inr (inr s)) = or_right (P ds || K* ds) (K b) (part b s)
    part (bound n d) s = subst (λ e. K e ≡ true) s h

    part* : (es : Exprs) → Sub* u es → conflicts* N target B es m ≡ true
    part* none s = absurd s
    part* (some e es) (inl s) = or_left (K e) (K* es) (part e s)
    part* (some e es) (inr s) = or_right (K e) (K* es) (part* es s)

-- a call in a part is one in the whole
module _ (u : Expr) (c g : ℕ) (k : CallIn c g u) where
  mutual
    call_up : (e : Expr) → Sub u e → CallIn c g e
    call_up (const n v) s = subst (CallIn c g) s k
    call_up (param n i) s = subst (CallIn c g) s k
    call_up (prim n op es) (inl s) = subst (CallIn c g) s k
    call_up (prim n op es) (inr s) = call_up* es s
    call_up (call n h es) (inl s) = subst (CallIn c g) s k
    call_up (call n h es) (inr s) = inr (call_up* es s)
    call_up (self n es) (inl s) = subst (CallIn c g) s k
    call_up (self n es) (inr s) = call_up* es s
    call_up (cond n a b d) (inl s) = subst (CallIn c g) s k
    call_up (cond n a b d) (inr (inl s)) = inl (call_up a s)
    call_up (cond n a b d) (inr (inr (inl s))) = inr (inl (call_up b s))
    call_up (cond n a b d) (inr (inr (inr s))) = inr (inr (call_up d s))
    call_up (bind n ds b) (inl s) = subst (CallIn c g) s k
    call_up (bind n ds b) (inr (inl s)) = inl (call_up* ds s)
    call_up (bind n ds b) (inr (inr s)) = inr (call_up b s)
    call_up (bound n d) s = subst (CallIn c g) s k

    call_up* : (es : Exprs) → Sub* u es → CallIn* c g es
    call_up* none s = absurd s
    call_up* (some e es) (inl s) = inl (call_up e s)
    call_up* (some e es) (inr s) = inr (call_up* es s)

module _ (t : List ℕ) (ok : Taken t) where
  -- a call is a node, and of a function below main
  abbrev Called : ℕ → Type 0
  Called c = Range (nodes t) c × Callee (callee_of t c)

  calling : (f : ℕ) → IsFunction t f → Calling Called (body_of t f)
  calling f o c g i =
      let b = call_below t (functions t) (nodes t) ok f c g o i in (
        calls_there t (functions t) (nodes t) ok f o c g i,
        (omega (arith, b.0, b.1), omega (arith, b.0, b.2, o.1, (laid t (functions t) (nodes t) ok).functions)),
      )

  calling_at : (n : ℕ) → IsNode t n → Calling Called (expr_at t n)
  calling_at n i c g k =
      let l = laid t (functions t) (nodes t) ok in
      calling (owner t n) (l.home_there n i) c g (call_up (expr_at t n) c g k (body_of t (owner t n)) (l.placed n i))

  pub calls_called : (n : ℕ) → IsNode t n → (m : ℕ) → calls_at t (expr_at t n) m ≡ true → Called m
  unfolding calls_at calls_by
  calls_called n i m e =
      c_all Called (callee_at (expr_at t)) (sets (body_of t) (expr_at t) (functions t)) (expr_at t n)
      (λ c g k. (calling_at n i c g k, sets_all Called (functions t) (body_of t) (expr_at t) calling (functions t) (omega arith) g)) m
      ((c_decides (nodes t) (callee_of t) (callee_at (expr_at t)) (callee_word t)
      (calls_of (nodes t) (callee_of t) (body_of t) (functions t)) (sets (body_of t) (expr_at t) (functions t))
      (sets_decides (functions t) (nodes t) (body_of t) (expr_at t) (callee_of t) (callee_word t) (λ f o c g k. (calling f o c g k).0)
      (functions t) (omega arith))
      (λ g m s. (sets_all Called (functions t) (body_of t) (expr_at t) calling (functions t) (omega arith) g m s).0)
      (expr_at t n) m).0 e)

  -- C of a body
  pub body_set : (g m : ℕ) → IsFunction t g → calls_by t g m ≡ calls_at t (body_of t g) m
  unfolding calls_at calls_by
  body_set g m i =
      whole_set (nodes t) (callee_of t) (body_of t) m (functions t) g i.0 i.1
      (λ c h k. ((laid t (functions t) (nodes t) ok).well.below g c h i k).1)

  -- the conflicts of a node are listed, if its function is reached
  pub node_listed : (n : ℕ) → IsNode t n → reached t (owner t n) ≡ true → (m : ℕ) → conflicts_at t (expr_at t n) m ≡ true
      → listed t m ≡ true
  unfolding conflicts_at calls_by listed listed_in reached
  node_listed n i h m e =
      let l = laid t (functions t) (nodes t) ok in
      let o = l.home_there n i in
      any_in (functions t) (λ f. reached t f && conflicts_at t (body_of t f) m) (owner t n) o.0 o.1
      (both_and (reached t (owner t n)) (conflicts_at t (body_of t (owner t n)) m) h
      (part (nodes t) (callee_of t) (calls_of (nodes t) (callee_of t) (body_of t) (functions t)) m (expr_at t n) e (body_of t (owner t n))
      (l.placed n i)))

  -- what is listed is a call of a function of the table
  pub listed_called : (n : ℕ) → listed t n ≡ true → (1 ≤ callee_of t n) × (callee_of t n ≤ functions t)
  listed_called n e =
      let x = listed_stands t (functions t) (nodes t) ok n e in
      let o = reached_in_lem t (functions t) (nodes t) ok x.0 x.2 in
      let b = call_below t (functions t) (nodes t) ok x.0 n x.1 o x.3 in
      (omega (arith, b.0, b.1), omega (arith, b.0, b.2, o.1))
