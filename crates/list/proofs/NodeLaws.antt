-- a node's calls and conflicts by its kind, and those of a chain of siblings, link by link
use Rattle.std.proofs.Common.{◌≡◌, ℕ, ◌<◌, ◌≤◌, Bool, true, false, ◌&&◌, ◌||◌, eqb, List, sym, refl, ap, ◌∙◌, subst, ap₂, arith, ne_eqb}
use Rattle.table.proofs.Tests.{and_no}
use Rattle.table.specs.Pick.{pick}
use Rattle.table.specs.Syntax.{Expr, Exprs, const, param, prim, call, self, cond, bind, bound, none, some}
use Rattle.table.specs.Bytes.{functions, nodes, root, kind, extra, word, first, next}
use Rattle.table.specs.Naming.{owner}
use Rattle.table.specs.Expressions.{last_of, exprs_at, expr_at, body_of, defs_at, final_at, then_at, else_at}
use Rattle.table.specs.Working.{IsNode, IsFunction, Linked}
use Rattle.table.proofs.Passed.{Passed, passed}
use Rattle.table.proofs.Links.{link}
use Rattle.table.proofs.Family.{first_node, next_node, owner_root, owner_first, owner_next, owner_in}
use Rattle.table.proofs.Tree.{exprs_none, exprs_some, defs_none, defs_some}
use Rattle.table.proofs.NodeCases.{NodeCase, node_case, kids_three}
use Rattle.table.proofs.NodeCases.{is_const, is_param, is_prim, is_call_lem, is_self, is_cond, is_bind, is_bound}
use Rattle.list.specs.Arbiters.{Test, no_calls, joined, calls_in, parallel, conflicts}
use Rattle.list.specs.Tags.{callee_of, reached}
use Rattle.list.specs.CallSets.{callee}
use Rattle.table.specs.Decoded.{cell_at, node_slot, node_field}
use Rattle.table.specs.Working.{Taken, Decoded}
use Rattle.list.specs.Working.{calls_by, calls_at, calls_at*, conflicts_at, conflicts_at*, parallel_at, called_in}
use Rattle.list.specs.Working.{twice_in, entry_at, siblings, kids_at, Within, Beside}
use Rattle.list.proofs.CallLaws.{or_left, or_right, calls_called, node_listed}
use Rattle.list.proofs.ParallelLaws.{called_none}
use Rattle.list.proofs.Meets.{or_no, or_swap}
use Rattle.list.proofs.WalkLaws.{joined_is}
use Rattle.list.proofs.Callees.{callee_word}
use Rattle.list.proofs.CallWords.{call_low}

-- the calls s and the conflicts x of an expression
pub record Is (t : List ℕ) (e : Expr) (s x : Test) : Type 0 where
  pub calls : (m : ℕ) → calls_at t e m ≡ s m
  pub conflicts : (m : ℕ) → conflicts_at t e m ≡ x m

module _ (t : List ℕ) where
  is_no_calls : (e : Expr) → (n v : ℕ) → e ≡ const n v → Is t e no_calls no_calls
  unfolding calls_at calls_in conflicts_at conflicts
  is_no_calls e n v p = record { calls = λ m. ap (λ u. calls_at t u m) p; conflicts = λ m. ap (λ u. conflicts_at t u m) p }

  is_no_calls_param : (e : Expr) → (n v : ℕ) → e ≡ param n v → Is t e no_calls no_calls
  unfolding calls_at calls_in conflicts_at conflicts
  is_no_calls_param e n v p = record { calls = λ m. ap (λ u. calls_at t u m) p; conflicts = λ m. ap (λ u. conflicts_at t u m) p }

  is_no_calls_bound : (e : Expr) → (n v : ℕ) → e ≡ bound n v → Is t e no_calls no_calls
  unfolding calls_at calls_in conflicts_at conflicts
  is_no_calls_bound e n v p = record { calls = λ m. ap (λ u. calls_at t u m) p; conflicts = λ m. ap (λ u. conflicts_at t u m) p }

  is_operation : (e : Expr) (n op : ℕ) (es : Exprs) → e ≡ prim n op es
      → Is t e (calls_at* t es) (joined (parallel_at t es) (conflicts_at* t es))
  unfolding calls_at calls_at* calls_in conflicts_at conflicts_at* conflicts parallel_at
  is_operation e n op es p = record { calls = λ m. ap (λ u. calls_at t u m) p; conflicts = λ m. ap (λ u. conflicts_at t u m) p }

  is_again : (e : Expr) (n : ℕ) (es : Exprs) → e ≡ self n es → Is t e (calls_at* t es) (joined (parallel_at t es) (conflicts_at* t es))
  unfolding calls_at calls_at* calls_in conflicts_at conflicts_at* conflicts parallel_at
  is_again e n es p = record { calls = λ m. ap (λ u. calls_at t u m) p; conflicts = λ m. ap (λ u. conflicts_at t u m) p }

  is_entry : (e : Expr) (n g : ℕ) (es : Exprs) → e ≡ call n g es
      → Is t e (joined (calls_at* t es) (joined (eqb n) (calls_by t g))) (joined (parallel_at t es) (conflicts_at* t es))
  unfolding calls_at calls_at* calls_in conflicts_at conflicts_at* conflicts parallel_at
  is_entry e n g es p = record { calls = λ m. ap (λ u. calls_at t u m) p; conflicts = λ m. ap (λ u. conflicts_at t u m) p }

  is_choice : (e : Expr) (n : ℕ) (a b c : Expr) → e ≡ cond n a b c
      → Is t e (calls_at* t (some a (some b (some c none)))) (conflicts_at* t (some a (some b (some c none))))
  unfolding calls_at calls_at* calls_in conflicts_at conflicts_at* conflicts joined no_calls
  is_choice e n a b c p = record {
    calls = λ m. ap (λ u. calls_at t u m) p ∙ ap (λ z. calls_at t a m || (calls_at t b m || z)) (sym (or_no (calls_at t c m)));
    conflicts = λ m. ap (λ u. conflicts_at t u m) p
        ∙ ap (λ z. conflicts_at t a m || (conflicts_at t b m || z)) (sym (or_no (conflicts_at t c m)));
  }

  is_let_lem : (e : Expr) (n : ℕ) (ds : Exprs) (b : Expr) → e ≡ bind n ds b
      → Is t e (joined (calls_at* t ds) (calls_at t b)) (joined (joined (parallel_at t ds) (conflicts_at* t ds)) (conflicts_at t b))
  unfolding calls_at calls_at* calls_in conflicts_at conflicts_at* conflicts parallel_at
  is_let_lem e n ds b p = record { calls = λ m. ap (λ u. calls_at t u m) p; conflicts = λ m. ap (λ u. conflicts_at t u m) p }

  joined_left : (s s' : Test) (m : ℕ) → s m ≡ true → joined s s' m ≡ true
  unfolding joined
  joined_left s s' m e = or_left (s m) (s' m) e

  joined_right : (s s' : Test) (m : ℕ) → s' m ≡ true → joined s s' m ≡ true
  unfolding joined
  joined_right s s' m e = or_right (s m) (s' m) e

  pub entry_none : (n : ℕ) → callee_of t n ≡ 0 → (m : ℕ) → entry_at t n m ≡ false
  unfolding entry_at
  entry_none n z m = ap (λ g. pick (eqb g 0) false (eqb n m || calls_by t g m)) z

  pub entry_is : (n g : ℕ) → callee_of t n ≡ g → 1 ≤ g → (m : ℕ) → entry_at t n m ≡ joined (eqb n) (calls_by t g) m
  unfolding entry_at joined
  entry_is n g e l m = ap (λ g. pick (eqb g 0) false (eqb n m || calls_by t g m)) e
      ∙ ap (λ b. pick b false (eqb n m || calls_by t g m)) (ne_eqb g 0 (λ z. omega (arith, z, l)))

  -- siblings, link by link
  pub none_calls : (m : ℕ) → calls_at* t none m ≡ false
  unfolding calls_at* calls_in no_calls
  none_calls m = refl

  pub none_conflicts : (m : ℕ) → conflicts_at* t none m ≡ false
  unfolding conflicts_at* conflicts no_calls
  none_conflicts m = refl

  pub none_twice : (h : ℕ) → twice_in t none h ≡ false
  unfolding twice_in
  none_twice h = refl

  pub none_parallel : (m : ℕ) → parallel_at t none m ≡ false
  unfolding parallel_at parallel no_calls
  none_parallel m = refl

  pub some_calls : (e : Expr) (es : Exprs) (m : ℕ) → calls_at* t (some e es) m ≡ joined (calls_at t e) (calls_at* t es) m
  unfolding calls_at calls_at* calls_in
  some_calls e es m = refl

  pub some_conflicts : (e : Expr) (es : Exprs) (m : ℕ) → conflicts_at* t (some e es) m ≡ joined (conflicts_at t e) (conflicts_at* t es) m
  unfolding conflicts_at conflicts_at* conflicts
  some_conflicts e es m = refl

  pub some_twice : (e : Expr) (es : Exprs) (h : ℕ)
      → twice_in t (some e es) h ≡ twice_in t es h || (called_in t (calls_at t e) h && called_in t (calls_at* t es) h)
  unfolding twice_in
  some_twice e es h = refl

  pub lone_calls : (e : Expr) (m : ℕ) → calls_at* t (some e none) m ≡ calls_at t e m
  unfolding calls_at calls_at* calls_in joined no_calls
  lone_calls e m = or_no (calls_at t e m)

  pub lone_conflicts : (e : Expr) (m : ℕ) → conflicts_at* t (some e none) m ≡ conflicts_at t e m
  unfolding conflicts_at conflicts_at* conflicts joined no_calls
  lone_conflicts e m = or_no (conflicts_at t e m)

  pub lone_twice : (e : Expr) (h : ℕ) → twice_in t (some e none) h ≡ false
  lone_twice e h =
      some_twice e none h ∙ ap₂ (λ p q. p || (called_in t (calls_at t e) h && q)) (none_twice h) (called_none t
      (calls_at* t none) h none_calls)
      ∙ and_no (called_in t (calls_at t e) h)

module _ (t : List ℕ) (f n : ℕ) (at : Within t f n) where
  abbrev ok : Passed t
  ok = (passed t (functions t) (nodes t) at.taken).0

  abbrev lk : Linked t
  lk = ok.linking

  abbrev i : IsNode t n
  i = at.node

  abbrev v : NodeCase t n
  v = node_case t ok n i

  -- a leaf
  pub leaf : (kind t n ≡ 3 → ⊥) → (kind t n ≡ 4 → ⊥) → (kind t n ≡ 5 → ⊥) → (kind t n ≡ 6 → ⊥) → Is t (expr_at t n) no_calls no_calls
  leaf a b c d = go v
    where
      go : NodeCase t n → Is t (expr_at t n) no_calls no_calls
      go (is_const k z e) = is_no_calls t (expr_at t n) n (word t n) e
      go (is_param k z l e) = is_no_calls_param t (expr_at t n) n (extra t n) e
      go (is_prim k q e) = absurd (a k)
      go (is_call_lem k l h q e) = absurd (b k)
      go (is_self k w l q e) = absurd (b k)
      go (is_cond k x y w z e) = absurd (c k)
      go (is_bind k x y q e) = absurd (d k)
      go (is_bound k z s e) = is_no_calls_bound t (expr_at t n) n (word t n) e

  -- an operation, a call: what it enters, and what the children call, side by side
  pub apart : 3 ≤ kind t n → kind t n ≤ 4 → Is t (expr_at t n) (joined (entry_at t n) (calls_at* t (kids_at t false n)))
      (joined (parallel_at t (kids_at t false n)) (conflicts_at* t (kids_at t false n)))
  apart p r = go v
    where
      es : Exprs
      es = kids_at t false n

      held : Test
      held = joined (parallel_at t es) (conflicts_at* t es)

      entering_none : callee_of t n ≡ 0 → Is t (expr_at t n) (calls_at* t es) held
          → Is t (expr_at t n) (joined (entry_at t n) (calls_at* t es)) held
      entering_none z is = record {
        calls = λ m. is.calls m ∙ sym (joined_is (entry_at t n) (calls_at* t es) m
            ∙ ap (λ b. b || calls_at* t es m) (entry_none t n z m));
        conflicts = is.conflicts;
      }

      entering_one : (g : ℕ) → callee_of t n ≡ g → 1 ≤ g → Is t (expr_at t n) (joined (calls_at* t es) (joined (eqb n) (calls_by t g))) held
          → Is t (expr_at t n) (joined (entry_at t n) (calls_at* t es)) held
      entering_one g e l is = record {
        calls = λ m. is.calls m ∙ joined_is (calls_at* t es) (joined (eqb n) (calls_by t g)) m
            ∙ or_swap (calls_at* t es m) (joined (eqb n) (calls_by t g) m)
            ∙ ap (λ b. b || calls_at* t es m) (sym (entry_is t n g e l m)) ∙ sym (joined_is (entry_at t n) (calls_at* t es) m);
        conflicts = is.conflicts;
      }

      go : NodeCase t n → Is t (expr_at t n) (joined (entry_at t n) (calls_at* t es)) held
      go (is_const k z e) = absurd (omega (arith, k, p))
      go (is_param k z l e) = absurd (omega (arith, k, p))
      go (is_prim k q e) =
          entering_none (callee_word t n ∙ ap callee e) (is_operation t (expr_at t n) n (extra t n) (exprs_at t (first t n)) e)
      go (is_call_lem k l h q e) =
          entering_one (word t n) (callee_word t n ∙ ap callee e) l (is_entry t (expr_at t n) n (word t n) (exprs_at t (first t n)) e)
      go (is_self k w l q e) = entering_none (callee_word t n ∙ ap callee e) (is_again t (expr_at t n) n (exprs_at t (first t n)) e)
      go (is_cond k x y w z e) = absurd (omega (arith, k, r))
      go (is_bind k x y q e) = absurd (omega (arith, k, r))
      go (is_bound k z s e) = absurd (omega (arith, k, r))

  -- an operation and a self call enter nothing
  pub enters_none : kind t n ≡ 3 → callee_of t n ≡ 0
  enters_none p = go v
    where
      go : NodeCase t n → callee_of t n ≡ 0
      go (is_const k z e) = absurd (omega (arith, k, p))
      go (is_param k z l e) = absurd (omega (arith, k, p))
      go (is_prim k q e) = callee_word t n ∙ ap callee e
      go (is_call_lem k l h q e) = absurd (omega (arith, k, p))
      go (is_self k w l q e) = absurd (omega (arith, k, p))
      go (is_cond k x y w z e) = absurd (omega (arith, k, p))
      go (is_bind k x y q e) = absurd (omega (arith, k, p))
      go (is_bound k z s e) = absurd (omega (arith, k, p))

  pub enters_again : kind t n ≡ 4 → word t n ≡ f → callee_of t n ≡ 0
  enters_again p r = go v
    where
      go : NodeCase t n → callee_of t n ≡ 0
      go (is_const k z e) = absurd (omega (arith, k, p))
      go (is_param k z l e) = absurd (omega (arith, k, p))
      go (is_prim k q e) = absurd (omega (arith, k, p))
      go (is_call_lem k l h q e) = absurd (omega (arith, h, r, at.own))
      go (is_self k w l q e) = callee_word t n ∙ ap callee e
      go (is_cond k x y w z e) = absurd (omega (arith, k, p))
      go (is_bind k x y q e) = absurd (omega (arith, k, p))
      go (is_bound k z s e) = absurd (omega (arith, k, p))

  -- a call of another function
  pub record Entering : Type 0 where
    pub low : 1 ≤ word t n
    pub below : word t n < f
    pub target : callee_of t n ≡ word t n

  pub entering : kind t n ≡ 4 → (word t n ≡ f → ⊥) → Entering
  entering p r = go v
    where
      go : NodeCase t n → Entering
      go (is_const k z e) = absurd (omega (arith, k, p))
      go (is_param k z l e) = absurd (omega (arith, k, p))
      go (is_prim k q e) = absurd (omega (arith, k, p))
      go (is_call_lem k l h q e) = record { low = l; below = omega (arith, h, at.own); target = callee_word t n ∙ ap callee e }
      go (is_self k w l q e) = absurd (r (w ∙ at.own))
      go (is_cond k x y w z e) = absurd (omega (arith, k, p))
      go (is_bind k x y q e) = absurd (omega (arith, k, p))
      go (is_bound k z s e) = absurd (omega (arith, k, p))

  -- an if: what its three parts call, one after the other
  pub record Choosing : Type 0 where
    pub there : Within t f (first t n)
    pub past : n < first t n
    pub is : Is t (expr_at t n) (calls_at* t (siblings t false (first t n))) (conflicts_at* t (siblings t false (first t n)))

  child : (first t n ≡ 0 → ⊥) → Within t f (first t n)
  child z = record { taken = at.taken; node = first_node t lk n i z; own = owner_first t lk n i z ∙ at.own; in_reach = at.in_reach }

  pub choosing : kind t n ≡ 5 → Choosing
  choosing p = go v
    where
      go : NodeCase t n → Choosing
      go (is_const k z e) = absurd (omega (arith, k, p))
      go (is_param k z l e) = absurd (omega (arith, k, p))
      go (is_prim k q e) = absurd (omega (arith, k, p))
      go (is_call_lem k l h q e) = absurd (omega (arith, k, p))
      go (is_self k w l q e) = absurd (omega (arith, k, p))
      go (is_cond k x y w z e) =
          let s : first t n ≡ 0 → ⊥ = λ q. omega (arith, q, x.0) in
          record {
            there = child s;
            past = ((link t lk n i).first_on s).0;
            is = subst (λ es. Is t (expr_at t n) (calls_at* t es) (conflicts_at* t es)) (sym (kids_three t ok n i x y w z))
                (is_choice t (expr_at t n) n (expr_at t (first t n)) (expr_at t (then_at t n)) (expr_at t (else_at t n)) e);
          }
      go (is_bind k x y q e) = absurd (omega (arith, k, p))
      go (is_bound k z s e) = absurd (omega (arith, k, p))

  -- a let: the definientia side by side, then the body
  pub record Binding : Type 0 where
    pub some_child : first t n ≡ 0 → ⊥
    pub past : n < first t n
    pub is : Is t (expr_at t n) (joined (calls_at* t (kids_at t true n)) (calls_at t (final_at t (first t n))))
        (joined (joined (parallel_at t (kids_at t true n)) (conflicts_at* t (kids_at t true n))) (conflicts_at t (final_at t (first t n))))

  pub binding : kind t n ≡ 6 → Binding
  binding p = go v
    where
      go : NodeCase t n → Binding
      go (is_const k z e) = absurd (omega (arith, k, p))
      go (is_param k z l e) = absurd (omega (arith, k, p))
      go (is_prim k q e) = absurd (omega (arith, k, p))
      go (is_call_lem k l h q e) = absurd (omega (arith, k, p))
      go (is_self k w l q e) = absurd (omega (arith, k, p))
      go (is_cond k x y w z e) = absurd (omega (arith, k, p))
      go (is_bind k x y q e) =
          let s : first t n ≡ 0 → ⊥ = λ q. omega (arith, q, x.0) in
          record {
            some_child = s;
            past = ((link t lk n i).first_on s).0;
            is = is_let_lem t (expr_at t n) n (defs_at t (first t n)) (final_at t (first t n)) e;
          }
      go (is_bound k z s e) = absurd (omega (arith, k, p))

  -- children whose calls and conflicts are their node's
  beside_by : (defs : Bool) (s x : Test) → Is t (expr_at t n) s x → ((m : ℕ) → calls_at* t (kids_at t defs n) m ≡ true → s m ≡ true)
      → ((m : ℕ) → parallel_at t (kids_at t defs n) m ≡ true → x m ≡ true) → Beside t n defs
  beside_by defs s x is p q = record {
    calls = λ m e. calls_called t at.taken n i m (is.calls m ∙ p m e);
    conflicts = λ m e. node_listed t at.taken n i (ap (reached t) at.own ∙ at.in_reach) m (is.conflicts m ∙ q m e);
  }

  pub beside_apart : 3 ≤ kind t n → kind t n ≤ 4 → Beside t n false
  beside_apart p r =
      let es = kids_at t false n in
      beside_by false (joined (entry_at t n) (calls_at* t es)) (joined (parallel_at t es) (conflicts_at* t es)) (apart p r)
      (λ m e. joined_right t (entry_at t n) (calls_at* t es) m e) (λ m e. joined_left t (parallel_at t es) (conflicts_at* t es) m e)

  pub beside_binding : kind t n ≡ 6 → Beside t n true
  beside_binding p =
      let ds = kids_at t true n in
      let b = final_at t (first t n) in
      beside_by true (joined (calls_at* t ds) (calls_at t b)) (joined (joined (parallel_at t ds) (conflicts_at* t ds)) (conflicts_at t b))
      (binding p).is (λ m e. joined_left t (calls_at* t ds) (calls_at t b) m e)
      (λ m e. joined_left t (joined (parallel_at t ds) (conflicts_at* t ds)) (conflicts_at t b) m
      (joined_left t (parallel_at t ds) (conflicts_at* t ds) m e))

  -- the first child, and the next sibling
  pub first_there : (first t n ≡ 0 → ⊥) → Within t f (first t n) × (n < first t n)
  first_there z = (child z, ((link t lk n i).first_on z).0)

  pub next_there : (next t n ≡ 0 → ⊥) → Within t f (next t n) × (n < next t n)
  next_there z = (
    record { taken = at.taken; node = next_node t lk n i z; own = owner_next t lk n i z ∙ at.own; in_reach = at.in_reach },
    ((link t lk n i).next_on z).0,
  )

  -- siblings from n on
  pub ends_defs : next t n ≡ 0 → siblings t true n ≡ none
  ends_defs z = defs_none t lk n z

  pub ends_plain : next t n ≡ 0 → siblings t false n ≡ some (expr_at t n) none
  ends_plain z = exprs_some t lk n i ∙ ap (some (expr_at t n)) (ap (exprs_at t) z ∙ exprs_none t lk)

  pub goes_on : (defs : Bool) → (next t n ≡ 0 → ⊥) → siblings t defs n ≡ some (expr_at t n) (siblings t defs (next t n))
  goes_on true z = defs_some t lk n (next_node t lk n i z)
  goes_on false z = exprs_some t lk n i

  pub final_here : next t n ≡ 0 → final_at t n ≡ expr_at t n
  unfolding final_at
  final_here z = ap (λ x. last_of (expr_at t n) (exprs_at t x)) z ∙ ap (last_of (expr_at t n)) (exprs_none t lk)

  pub final_next : (next t n ≡ 0 → ⊥) → final_at t n ≡ final_at t (next t n)
  unfolding final_at
  final_next z = ap (last_of (expr_at t n)) (exprs_some t lk (next t n) (next_node t lk n i z))

  -- no children
  pub no_child : first t n ≡ 0 → siblings t false (first t n) ≡ none
  no_child z = ap (exprs_at t) z ∙ exprs_none t lk

-- the root of a body
pub root_there : (t : List ℕ) → Taken t → (g : ℕ) → IsFunction t g → reached t g ≡ true → Within t g (root t g)
root_there t ok g i h =
    let lk = (passed t (functions t) (nodes t) ok).0.linking in
    record { taken = ok; node = lk.roots g i; own = owner_root t lk g i; in_reach = h }

pub body_root : (t : List ℕ) (g : ℕ) → body_of t g ≡ expr_at t (root t g)
unfolding body_of
body_root t g = refl

pub few : (t : List ℕ) → Taken t → (functions t ≤ 32) × (nodes t ≤ 512)
few t ok = let p = (passed t (functions t) (nodes t) ok).0 in (p.f_high, p.n_high)

pub owner_few : (t : List ℕ) → Taken t → (n : ℕ) → IsNode t n → IsFunction t (owner t n)
owner_few t ok = owner_in t (passed t (functions t) (nodes t) ok).0.linking

-- what was read of a node
pub told : (t : List ℕ) (f n : ℕ) (cells : List ℕ) → Decoded t cells → Within t f n → (k r : ℕ) → k < 8
    → r ≡ cell_at cells (node_slot n) k → r ≡ node_field t n k
told t f n cells y at k r l e = e ∙ y.node n k at.node l

-- a call's word is its low half
pub told_callee : (t : List ℕ) (f n : ℕ) (cells : List ℕ) → Decoded t cells → Within t f n → kind t n ≡ 4 → (r : ℕ)
    → r ≡ cell_at cells (node_slot n) 2 → r ≡ word t n
told_callee t f n cells y at k r e = e ∙ y.node n 2 at.node (omega arith) ∙ call_low t at.taken n at.node k
