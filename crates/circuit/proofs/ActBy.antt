-- the step of a node, read off its record, is the step of its expression; and where the numbers in a record lead
use Rattle.std.proofs.Common.{◌≡◌, ℕ, zero, suc, Bool, false, ◌&&◌, eqb, List, [], ◌∷◌, ◌++◌, map, sym, refl, ap, ◌∙◌, ap₂, arith, eq-eqb}
use Rattle.std.proofs.Common.{ne_eqb}
use Rattle.table.specs.Pick.{pick}
use Rattle.table.specs.Environment.{values}
use Rattle.table.specs.Syntax.{Expr, Exprs, none, some, id, roots, const, param, prim, call, self, cond, bind, bound}
use Rattle.table.specs.Bytes.{root, kind, extra, word, first}
use Rattle.table.specs.Naming.{owner, chain, children, initial}
use Rattle.table.specs.Expressions.{exprs_at, expr_at, body_of, defs_at, final_at, then_at, else_at}
use Rattle.table.specs.Working.{IsNode, IsFunction}
use Rattle.table.proofs.Passed.{Passed}
use Rattle.table.proofs.Family.{owner_in}
use Rattle.table.proofs.NodeCases.{NodeCase, node_case, id_at}
use Rattle.table.proofs.NodeCases.{is_const, is_param, is_prim, is_call_lem, is_self, is_cond, is_bind, is_bound}
use Rattle.table.proofs.Children.{values_are, roots_kids, Final, final}
use Rattle.table.proofs.Bodies.{id_body}
use Rattle.rules.specs.State.{State512, View, view, entry, register}
use Rattle.rules.specs.Step.{Act, stuck, blocked, does, begins, turns, finishes, enters, leaves, restarts, all_done, branch, by_status}
use Rattle.rules.specs.Step.{act}
use Rattle.rules.specs.Arithmetic.{keep_all, arithmetic}
use Rattle.rules.specs.Circuit.{act_of}
use Rattle.table.specs.Working.{Taken}
use Rattle.circuit.specs.Working.{each_done, last_from, given, kept_by, opens, passed}
use Rattle.circuit.proofs.ChainLaws.{ok}
use Rattle.rules.proofs.AnyState.{bound_node}

-- the step of a node by the parts of its record
-- an open node, by its kind
unfoldable pub open_by : (t value registers : List ℕ) → ℕ → Act
open_by t value registers n =
    pick (eqb (kind t n) 1) (does (finishes (word t n)))
    (pick (eqb (kind t n) 2) (does (finishes (register registers (owner t n) (extra t n))))
    (pick (eqb (kind t n) 7) (does (finishes (entry value 0 (word t n))))
    (does (begins (opens t n)))))

unfoldable pub prim_by : (t status value : List ℕ) → ℕ → Act
prim_by t status value n =
    pick (each_done (entry status 0) (children t n)) (does (finishes ((arithmetic t).result (owner t n) (extra t n) (given t value n))))
    stuck

unfoldable pub self_by : (t status value : List ℕ) → ℕ → Act
self_by t status value n = pick (each_done (entry status 0) (children t n))
    (does (restarts (owner t n) (kept_by t value (owner t n) n))) stuck

unfoldable pub call_by : (t status : List ℕ) → List Bool → (value occupant : List ℕ) → ℕ → Act
call_by t status second value occupant n =
    let g : ℕ = word t n in
    pick (entry second false n)
    (pick (eqb (entry status 0 (root t g)) 3) (does (leaves g ((arithmetic t).keep (owner t n) (entry value 0 (root t g))))) stuck)
    (pick (each_done (entry status 0) (children t n))
    (pick (eqb (entry occupant 0 g) 0) (does (enters g (kept_by t value g n))) blocked) stuck)

-- the branch that a condition's value takes
unfoldable pub branch_by : (t value : List ℕ) → ℕ → ℕ
branch_by t value n = pick (eqb (entry value 0 (first t n)) 0) (else_at t n) (then_at t n)

unfoldable pub cond_by : (t status : List ℕ) → List Bool → (value : List ℕ) → ℕ → Act
cond_by t status second value n =
    pick (entry second false n) (passed status value (branch_by t value n))
    (pick (eqb (entry status 0 (first t n)) 3) (does (turns (branch_by t value n))) stuck)

unfoldable pub bind_by : (t status : List ℕ) → List Bool → (value : List ℕ) → ℕ → Act
bind_by t status second value n =
    pick (entry second false n) (passed status value (last_from 0 (children t n)))
    (pick (each_done (entry status 0) (initial (children t n))) (does (turns (last_from 0 (children t n)))) stuck)

-- a busy node, by its kind
unfoldable pub busy_by : (t status : List ℕ) → List Bool → (value occupant : List ℕ) → ℕ → Act
busy_by t status second value occupant n =
    pick (eqb (kind t n) 3) (prim_by t status value n)
    (pick (eqb (kind t n) 4) (pick (eqb (word t n) (owner t n)) (self_by t status value n) (call_by t status second value occupant n))
    (pick (eqb (kind t n) 5) (cond_by t status second value n)
    (pick (eqb (kind t n) 6) (bind_by t status second value n)
    stuck)))

abbrev pub act_by : List ℕ → State512 → ℕ → Act
act_by t s n = by_status (entry s.status 0 n) (open_by t s.value s.registers n)
    (busy_by t s.status s.second s.value s.occupant n)

all_done_is : (s : View) (es : Exprs) → all_done s es ≡ each_done s.status (roots es)
unfolding each_done
all_done_is s none = refl
all_done_is s (some e es) = ap (λ b. eqb (s.status (id e)) 3 && b) (all_done_is s es)

initial_snoc : (l : List ℕ) (x : ℕ) → initial (l ++ (x ∷ [])) ≡ l
unfolding initial
initial_snoc [] x = refl
initial_snoc (y ∷ []) x = refl
initial_snoc (y ∷ (z ∷ l)) x = ap (λ r. y ∷ r) (initial_snoc (z ∷ l) x)

last_snoc : (l : List ℕ) (x d : ℕ) → last_from d (l ++ (x ∷ [])) ≡ x
unfolding last_from
last_snoc [] x d = refl
last_snoc (y ∷ l) x d = last_snoc l x y

branch_id : (v : ℕ) (b c : Expr) → id (branch v b c) ≡ pick (eqb v 0) (id c) (id b)
branch_id zero b c = refl
branch_id (suc v) b c = sym (rw (ne_eqb (suc v) 0 (λ z. omega arith)) refl)

module _ (t : List ℕ) (fair : Taken t) (n : ℕ) (i : IsNode t n) where
  abbrev p : Passed t
  p = ok t fair

  pub own_in : IsFunction t (owner t n)
  own_in = owner_in t p.linking n i

  other : {X : Type 0} (k j : ℕ) → kind t n ≡ k → kind t n ≡ j → (k ≡ j → ⊥) → X
  other k j e f d = absurd (d (sym e ∙ f))

  -- a call's callee is a function, an if has three children, a let two, a bound's word is a node
  pub callee_in : kind t n ≡ 4 → IsFunction t (word t n)
  callee_in e = go (node_case t p n i) own_in
    where
      go : NodeCase t n → IsFunction t (owner t n) → IsFunction t (word t n)
      go (is_const k z q) o = other 1 4 k e (λ x. omega arith)
      go (is_param k z l q) o = other 2 4 k e (λ x. omega arith)
      go (is_prim k c q) o = other 3 4 k e (λ x. omega arith)
      go (is_call_lem k l h c q) o = (l, omega arith)
      go (is_self k w l c q) o = (omega arith, omega arith)
      go (is_cond k a b c z q) o = other 5 4 k e (λ x. omega arith)
      go (is_bind k a b c q) o = other 6 4 k e (λ x. omega arith)
      go (is_bound k z s q) o = other 7 4 k e (λ x. omega arith)

  pub three_in : kind t n ≡ 5 → IsNode t (first t n) × IsNode t (then_at t n) × IsNode t (else_at t n)
  three_in e = go (node_case t p n i)
    where
      go : NodeCase t n → IsNode t (first t n) × IsNode t (then_at t n) × IsNode t (else_at t n)
      go (is_const k z q) = other 1 5 k e (λ x. omega arith)
      go (is_param k z l q) = other 2 5 k e (λ x. omega arith)
      go (is_prim k c q) = other 3 5 k e (λ x. omega arith)
      go (is_call_lem k l h c q) = other 4 5 k e (λ x. omega arith)
      go (is_self k w l c q) = other 4 5 k e (λ x. omega arith)
      go (is_cond k a b c z q) = (a, b, c)
      go (is_bind k a b c q) = other 6 5 k e (λ x. omega arith)
      go (is_bound k z s q) = other 7 5 k e (λ x. omega arith)

  pub let_in : kind t n ≡ 6 → IsNode t (first t n)
  let_in e = go (node_case t p n i)
    where
      go : NodeCase t n → IsNode t (first t n)
      go (is_const k z q) = other 1 6 k e (λ x. omega arith)
      go (is_param k z l q) = other 2 6 k e (λ x. omega arith)
      go (is_prim k c q) = other 3 6 k e (λ x. omega arith)
      go (is_call_lem k l h c q) = other 4 6 k e (λ x. omega arith)
      go (is_self k w l c q) = other 4 6 k e (λ x. omega arith)
      go (is_cond k a b c z q) = a
      go (is_bind k a b c q) = a
      go (is_bound k z s q) = other 7 6 k e (λ x. omega arith)

  pub bound_in : kind t n ≡ 7 → IsNode t (word t n)
  bound_in e = go (node_case t p n i)
    where
      go : NodeCase t n → IsNode t (word t n)
      go (is_const k z q) = other 1 7 k e (λ x. omega arith)
      go (is_param k z l q) = other 2 7 k e (λ x. omega arith)
      go (is_prim k c q) = other 3 7 k e (λ x. omega arith)
      go (is_call_lem k l h c q) = other 4 7 k e (λ x. omega arith)
      go (is_self k w l c q) = other 4 7 k e (λ x. omega arith)
      go (is_cond k a b c z q) = other 5 7 k e (λ x. omega arith)
      go (is_bind k a b c q) = other 6 7 k e (λ x. omega arith)
      go (is_bound k z s q) = bound_node t p n n (word t n) i q

  module _ (s : State512) where
    abbrev es : Exprs
    es = exprs_at t (first t n)

    abbrev st : ℕ → ℕ
    st = entry s.status 0

    abbrev va : ℕ → ℕ
    va = entry s.value 0

    done_kids : all_done (view s) es ≡ each_done st (children t n)
    done_kids = all_done_is (view s) es ∙ ap (each_done st) (roots_kids t p n i)

    value_kids : values va es ≡ given t s.value n
    value_kids = values_are va es ∙ ap (map va) (roots_kids t p n i)

    abbrev Is : Act → Type 0
    Is a = act_of t s n ≡ a

    -- both parts of a step by its kind
    parts : (e : Expr) (o b : Act) → expr_at t n ≡ e → act (arithmetic t) (body_of t) (owner t n) (view s) e ≡ by_status (st n) o b
        → o ≡ open_by t s.value s.registers n → b ≡ busy_by t s.status s.second s.value s.occupant n
        → Is (act_by t s n)
    parts e o b q a f g = ap (act (arithmetic t) (body_of t) (owner t n) (view s)) q ∙ a ∙ ap₂ (by_status (st n)) f g

    as_const : kind t n ≡ 1 → expr_at t n ≡ const n (word t n) → Is (act_by t s n)
    unfolding open_by busy_by
    as_const k q = parts _ _ _ q refl (sym (rw k refl)) (sym (rw k refl))

    as_param : kind t n ≡ 2 → expr_at t n ≡ param n (extra t n) → Is (act_by t s n)
    unfolding open_by busy_by
    as_param k q = parts _ _ _ q refl (sym (rw k refl)) (sym (rw k refl))

    as_bound : kind t n ≡ 7 → expr_at t n ≡ bound n (word t n) → Is (act_by t s n)
    unfolding open_by busy_by
    as_bound k q = parts _ _ _ q refl (sym (rw k refl)) (sym (rw k refl))

    begins_all : (kind t n ≡ 3) → does (begins (roots es)) ≡ open_by t s.value s.registers n
    unfolding open_by opens
    begins_all k = ap (λ l. does (begins l)) (roots_kids t p n i) ∙ sym (rw k refl)

    begins_call : (kind t n ≡ 4) → does (begins (roots es)) ≡ open_by t s.value s.registers n
    unfolding open_by opens
    begins_call k = ap (λ l. does (begins l)) (roots_kids t p n i) ∙ sym (rw k refl)

    as_prim : kind t n ≡ 3 → expr_at t n ≡ prim n (extra t n) es → Is (act_by t s n)
    unfolding busy_by prim_by
    as_prim k q = parts _ _ _ q refl (begins_all k)
        (ap₂ (λ b l. pick b (does (finishes ((arithmetic t).result (owner t n) (extra t n) l))) stuck) done_kids value_kids
        ∙ sym (rw k refl))

    as_call : kind t n ≡ 4 → (word t n ≡ owner t n → ⊥) → expr_at t n ≡ call n (word t n) es → IsFunction t (word t n) → Is (act_by t s n)
    unfolding busy_by call_by
    as_call k w q f =
        let r : id (body_of t (word t n)) ≡ root t (word t n) = id_body t p (word t n) f in
        parts _ _ _ q refl (begins_call k)
        (ap₂ (λ x y. pick (entry s.second false n) x y)
        (ap (λ m. pick (eqb (st m) 3) (does (leaves (word t n) ((arithmetic t).keep (owner t n) (va m)))) stuck) r)
        (ap₂ (λ b l. pick b (pick (eqb (entry s.occupant 0 (word t n)) 0)
        (does (enters (word t n) (keep_all (arithmetic t) (word t n) l))) blocked) stuck) done_kids
        value_kids)
        ∙ sym (rw (k, ne_eqb (word t n) (owner t n) w) refl))

    as_self : kind t n ≡ 4 → word t n ≡ owner t n → expr_at t n ≡ self n es → Is (act_by t s n)
    unfolding busy_by self_by
    as_self k w q = parts _ _ _ q refl (begins_call k)
        (ap₂ (λ b l. pick b (does (restarts (owner t n) (keep_all (arithmetic t) (owner t n) l))) stuck) done_kids value_kids
        ∙ sym (rw (k, eq-eqb (word t n) (owner t n) w) refl))

    as_cond : kind t n ≡ 5 → IsNode t (first t n) → IsNode t (then_at t n) → IsNode t (else_at t n)
        → expr_at t n ≡ cond n (expr_at t (first t n)) (expr_at t (then_at t n)) (expr_at t (else_at t n)) → Is (act_by t s n)
    unfolding open_by opens busy_by cond_by branch_by
    as_cond k a b c q =
        let x = expr_at t (first t n) in
        let y = expr_at t (then_at t n) in
        let z = expr_at t (else_at t n) in
        let ea : id x ≡ first t n = id_at t p (first t n) a in
        let er : id (branch (va (id x)) y z) ≡ pick (eqb (va (first t n)) 0) (else_at t n) (then_at t n) =
        branch_id (va (id x)) y z ∙ ap (λ m. pick (eqb (va m) 0) (id z) (id y)) ea
        ∙ ap₂ (λ u v. pick (eqb (va (first t n)) 0) u v) (id_at t p (else_at t n) c) (id_at t p (then_at t n) b) in
        parts _ _ _ q refl (ap (λ m. does (begins (m ∷ []))) ea ∙ sym (rw k refl))
        (ap₂ (λ m r. pick (entry s.second false n) (pick (eqb (st r) 3) (does (finishes (va r))) stuck)
        (pick (eqb (st m) 3) (does (turns r)) stuck)) ea er ∙ sym (rw k refl))

    as_bind : kind t n ≡ 6 → IsNode t (first t n) → expr_at t n ≡ bind n (defs_at t (first t n))
        (final_at t (first t n)) → Is (act_by t s n)
    unfolding open_by opens busy_by bind_by children
    as_bind k a q =
        let f : Final t p (first t n) = final t p (first t n) a in
        let ds = defs_at t (first t n) in
        let eb : id (final_at t (first t n)) ≡ last_from 0 (chain t (first t n)) =
        ap id f.is ∙ id_at t p f.at f.node ∙ sym (last_snoc (roots ds) f.at 0) ∙ ap (last_from 0) (sym f.list) in
        let ed : roots ds ≡ initial (chain t (first t n)) = sym (initial_snoc (roots ds) f.at) ∙ ap initial (sym f.list) in
        parts _ _ _ q refl (ap (λ l. does (begins l)) ed ∙ sym (rw k refl))
        (ap₂ (λ b m. pick (entry s.second false n) (pick (eqb (st m) 3) (does (finishes (va m))) stuck)
        (pick b (does (turns m)) stuck)) (all_done_is (view s) ds ∙ ap (each_done st) ed) eb ∙ sym (rw k refl))

    pub act_is : act_of t s n ≡ act_by t s n
    act_is = go (node_case t p n i)
      where
        go : NodeCase t n → act_of t s n ≡ act_by t s n
        go (is_const k z q) = as_const k q
        go (is_param k z l q) = as_param k q
        go (is_prim k c q) = as_prim k q
        go (is_call_lem k l h c q) = as_call k (λ w. omega arith) q (callee_in k)
        go (is_self k w l c q) = as_self k w q
        go (is_cond k a b c z q) = as_cond k a b c q
        go (is_bind k a b c q) = as_bind k a q
        go (is_bound k z h q) = as_bound k q

    -- at an open node, at a busy one, at any other
    pub open_is : st n ≡ 1 → (x : Act) → x ≡ open_by t s.value s.registers n → x ≡ act_of t s n
    open_is h x e = e ∙ sym (act_is ∙ rw h refl)

    pub busy_is : st n ≡ 2 → (x : Act) → x ≡ busy_by t s.status s.second s.value s.occupant n → x ≡ act_of t s n
    busy_is h x e = e ∙ sym (act_is ∙ rw h refl)

    pub rest_is : (st n ≡ 1 → ⊥) → (st n ≡ 2 → ⊥) → stuck ≡ act_of t s n
    rest_is p q = sym (act_is ∙ rw (ne_eqb (st n) 1 p, ne_eqb (st n) 2 q) refl)
