-- what the walk of a node comes to, by its kind, from what it called
use Rattle.std.proofs.Common.{◌≡◌, ℕ, ◌^◌, ◌<◌, ◌≤◌, true, false, eqb, List, [], length, get_or, replicate, sym, refl, ap, ◌∙◌}
use Rattle.std.proofs.Common.{subst, arith}
use lib.Bits.{bit_or}
use Rattle.table.specs.Bytes.{functions, nodes, root, kind, word, first}
use Rattle.table.specs.Expressions.{expr_at, final_at}
use Rattle.table.specs.Working.{IsFunction}
use Rattle.list.specs.declared.kept.Kept.{Kept}
use Rattle.list.specs.declared.walk.Siblings.{Siblings}
use Rattle.list.specs.Arbiters.{Test, no_calls, joined}
use Rattle.list.specs.Tags.{callee_of, reached}
use Rattle.table.specs.Working.{Taken}
use Rattle.list.specs.Working.{calls_by, calls_at, calls_at*, conflicts_at, conflicts_at*, parallel_at, siblings, kids_at, Seen}
use Rattle.list.specs.Working.{entry_at, row, Adds, Memo, Grown, Walk, Onto, OntoNode, OntoKids}
use Rattle.list.specs.Working.{Within, KindTo, Chained, Sided}
use Rattle.list.proofs.Callees.{call_reached}
use Rattle.list.proofs.WalkLaws.{met_at, walked_at, walk_none, walk_same, walk_entry, walk_body}
use Rattle.list.proofs.OntoLaws.{onto_one, onto_walk, onto_same, onto_two}
use Rattle.list.proofs.NodeLaws.{Is, leaf, apart, enters_none, enters_again, entering, choosing, binding, body_root}
use Rattle.list.proofs.NodeLaws.{entry_none, entry_is, few, owner_few}

module _ (t : List ℕ) (f n : ℕ) (at : Within t f n) where
  by_is : (s x : Test) (mask : ℕ) (set set' : List ℕ) (kept kept' : Kept) → Is t (expr_at t n) s x → Walk t s x mask set set' kept kept'
      → Walk t (calls_at t (expr_at t n)) (conflicts_at t (expr_at t n)) mask set set' kept kept'
  by_is s x mask set set' kept kept' is w =
      walk_same t s (calls_at t (expr_at t n)) x (conflicts_at t (expr_at t n)) mask set set' kept kept' is.calls is.conflicts w

  -- what is left where a kind is 3 or 4, and not 3
  pub call_kind : (k : ℕ) → KindTo t n k 4 → (k ≡ 3 → ⊥) → kind t n ≡ 4
  call_kind k e q = sym e.is ∙ omega (arith, e.low, e.high, q)

  none_there : (m : ℕ) → no_calls m ≡ false
  none_there = unfold no_calls in (λ m. refl)

  enter_none : (set : List ℕ) (kept : Kept) → callee_of t n ≡ 0 → length set ≡ 8 → Memo t kept
      → Walk t (entry_at t n) no_calls 0 set set kept kept
  enter_none set kept z l memo = walk_none t (entry_at t n) no_calls set kept (entry_none t n z) none_there l memo

  at_leaf : (k : ℕ) (set : List ℕ) (kept : Kept) → k ≡ kind t n → (k ≡ 3 → ⊥) → (k ≡ 4 → ⊥) → (k ≡ 5 → ⊥) → (k ≡ 6 → ⊥) → length set ≡ 8
      → Memo t kept → Walk t (calls_at t (expr_at t n)) (conflicts_at t (expr_at t n)) 0 set set kept kept
  at_leaf k set kept e x y z w l memo =
      by_is no_calls no_calls 0 set set kept kept (leaf t f n at (λ q. x (e ∙ q)) (λ q. y (e ∙ q)) (λ q. z (e ∙ q)) (λ q. w (e ∙ q)))
      (walk_none t no_calls no_calls set kept none_there none_there l memo)

  -- kinds below 3 and above 6 are leaves
  pub at_low : (k : ℕ) (set : List ℕ) (kept : Kept) → k ≡ kind t n → k < 3 → length set ≡ 8 → Memo t kept
      → Walk t (calls_at t (expr_at t n)) (conflicts_at t (expr_at t n)) 0 set set kept kept
  at_low k set kept e h =
      at_leaf k set kept e (λ q. omega (arith, q, h)) (λ q. omega (arith, q, h)) (λ q. omega (arith, q, h)) (λ q. omega (arith, q, h))

  pub at_high : (k : ℕ) (set : List ℕ) (kept : Kept) → k ≡ kind t n → 6 < k → length set ≡ 8 → Memo t kept
      → Walk t (calls_at t (expr_at t n)) (conflicts_at t (expr_at t n)) 0 set set kept kept
  at_high k set kept e h =
      at_leaf k set kept e (λ q. omega (arith, q, h)) (λ q. omega (arith, q, h)) (λ q. omega (arith, q, h)) (λ q. omega (arith, q, h))

  -- an operation, a call: what it enters, then its children
  pub at_apart : (k mask mask' mask'' : ℕ) (set set' set'' : List ℕ) (kept kept' kept'' : Kept) → KindTo t n k 6 → (k ≡ 5 → ⊥) → (k ≡ 6 → ⊥)
      → Onto t (entry_at t n) no_calls mask mask' set set' kept kept' → OntoKids t n mask' mask'' set' set'' kept' kept''
      → OntoNode t n mask mask'' set set'' kept kept''
  at_apart k mask mask' mask'' set set' set'' kept kept' kept'' e x y v w =
      let es = kids_at t false n in
      let held = joined (parallel_at t es) (conflicts_at* t es) in
      let is = apart t f n at (omega (arith, e.is, e.low)) (omega (arith, e.is, e.high, x, y)) in
      onto_same t (joined (entry_at t n) (calls_at* t es)) (joined no_calls held) mask set set'' kept kept'' (calls_at t (expr_at t n))
      (conflicts_at t (expr_at t n)) mask'' is.calls (λ m. is.conflicts m ∙ none_joined held m)
      (onto_two t (entry_at t n) no_calls mask set set' kept kept' (calls_at* t es) held mask' mask'' set'' kept'' v w)
    where
      none_joined : (x : Test) (m : ℕ) → x m ≡ joined no_calls x m
      none_joined x = unfold joined no_calls in (λ m. refl)

  pub at_choice : (k d : ℕ) (s : Siblings) (set set' : List ℕ) (kept kept' : Kept) → k ≡ kind t n → k ≡ 5 → d ≡ first t n
      → Chained t f d false s set set' kept kept'
      → Walk t (calls_at t (expr_at t n)) (conflicts_at t (expr_at t n)) s.once set set' kept kept'
  at_choice k d s set set' kept kept' e q y v =
      let es = siblings t false (first t n) in
      by_is (calls_at* t es) (conflicts_at* t es) s.once set set' kept kept' (choosing t f n at (sym e ∙ q)).is
      (subst (λ x. Walk t (calls_at* t (siblings t false x)) (conflicts_at* t (siblings t false x)) s.once set set' kept kept') y
      v.walk)

  pub at_let : (k mask mask' : ℕ) (s : Siblings) (set set' set'' : List ℕ) (kept kept' kept'' : Kept) → k ≡ kind t n → k ≡ 6
      → Sided t f n true s set set' kept kept' → OntoNode t s.last.0 (bit_or mask s.once) mask' set' set'' kept' kept''
      → OntoNode t n mask mask' set set'' kept kept''
  at_let k mask mask' s set set' set'' kept kept' kept'' e q v w =
      let ds = kids_at t true n in
      let b = final_at t (first t n) in
      let held = joined (parallel_at t ds) (conflicts_at* t ds) in
      let is = (binding t f n at (sym e ∙ q)).is in
      onto_same t (joined (calls_at* t ds) (calls_at t b)) (joined held (conflicts_at t b)) mask set set'' kept kept''
      (calls_at t (expr_at t n)) (conflicts_at t (expr_at t n)) mask' is.calls is.conflicts
      (onto_two t (calls_at* t ds) held mask set set' kept kept' (calls_at t b) (conflicts_at t b) (bit_or mask s.once) mask' set'' kept''
      (onto_one t (calls_at* t ds) held mask set set' kept kept' s.once v.walk)
      (subst (λ u. Onto t (calls_at t u) (conflicts_at t u) (bit_or mask s.once) mask' set' set'' kept' kept'') (sym (v.last refl).3) w))

  -- an operation and a self call enter nothing
  pub at_same : (k : ℕ) (set : List ℕ) (kept : Kept) → KindTo t n k 4 → k ≡ 3 → length set ≡ 8 → Memo t kept
      → Walk t (entry_at t n) no_calls 0 set set kept kept
  at_same k set kept e q = enter_none set kept (enters_none t f n at (sym e.is ∙ q))

  pub at_again : (k w : ℕ) (set : List ℕ) (kept : Kept) → KindTo t n k 4 → (k ≡ 3 → ⊥) → w ≡ word t n → w ≡ f → length set ≡ 8 → Memo t kept
      → Walk t (entry_at t n) no_calls 0 set set kept kept
  at_again k w set kept e q u y = enter_none set kept (enters_again t f n at (call_kind k e q) (sym u ∙ y))

  -- the callee's number
  pub callee_there : (k w : ℕ) → KindTo t n k 4 → (k ≡ 3 → ⊥) → w ≡ word t n → (w ≡ f → ⊥) → IsFunction t w × (w < f) × (w ≤ 31)
  callee_there k w e q u y =
      let g = entering t f n at (call_kind k e q) (λ z. y (u ∙ z)) in
      let o = subst (IsFunction t) at.own (owner_few t at.taken n at.node) in
      let l = (few t at.taken).0 in
      ((omega (arith, g.low, u), omega (arith, g.below, u, o.1)), omega (arith, g.below, u), omega (arith, g.below, u, o.1, l))

  -- the callee is reached, since f is
  pub callee_reached : (k w : ℕ) → KindTo t n k 4 → (k ≡ 3 → ⊥) → w ≡ word t n → (w ≡ f → ⊥) → reached t w ≡ true
  callee_reached k w e q u y =
      let g = entering t f n at (call_kind k e q) (λ z. y (u ∙ z)) in
      call_reached t (functions t) (nodes t) at.taken n w at.node (g.target ∙ sym u) (callee_there k w e q u y).0.0
      (ap (reached t) at.own ∙ at.in_reach)

  -- a call of another function
  pub at_entry : (k w v : ℕ) (set set' set'' site : List ℕ) (kept kept' : Kept) → KindTo t n k 4 → (k ≡ 3 → ⊥) → w ≡ word t n
      → (w ≡ f → ⊥) → v ≡ 2 ^ w → Memo t kept' × Grown kept kept' × Seen kept' w → Adds (row kept'.calls w) set set'
      → Adds (eqb n) set' set'' → Adds (eqb n) (get_or kept'.sites w []) site
      → Walk t (entry_at t n) no_calls (bit_or (get_or kept'.called w 0) v) set set'' kept (met_at kept' w site)
  at_entry k w v set set' set'' site kept kept' e q u y h body add put met =
      let g = entering t f n at (call_kind k e q) (λ z. y (u ∙ z)) in
      let i = callee_there k w e q u y in
      let below = get_or kept'.called w 0 in
      subst (λ z. Walk t (entry_at t n) no_calls (bit_or below z) set set'' kept (met_at kept' w site)) (sym h)
      (walk_same t (joined (eqb n) (calls_by t w)) (entry_at t n) no_calls no_calls (bit_or below (2 ^ w)) set set'' kept
      (met_at kept' w site) (entry_is t n w (g.target ∙ sym u) i.0.0) (λ m. refl)
      (walk_entry t n w set set' set'' site kept kept' at.node i.0 (i.0.0, i.2) (g.target ∙ sym u) body.0 body.1 body.2 add put met))

-- a body, walked from its root
pub at_body : (t : List ℕ) → Taken t → (g d mask : ℕ) (own : List ℕ) (kept kept' : Kept) → IsFunction t g → d ≡ root t g
    → OntoNode t d 0 mask (replicate 8 0) own kept kept'
    → Memo t (walked_at kept' g own (bit_or mask 1)) × Grown kept (walked_at kept' g own (bit_or mask 1))
    × Seen (walked_at kept' g own (bit_or mask 1)) g
at_body t ok g d mask own kept kept' i e w =
    walk_body t ok g mask own kept kept' i (omega (arith, i.1, (few t ok).0))
    (subst (λ u. Walk t (calls_at t u) (conflicts_at t u) mask (replicate 8 0) own kept kept') (ap (expr_at t) e
    ∙ sym (body_root t g))
    (onto_walk t (calls_at t (expr_at t d)) (conflicts_at t (expr_at t d)) mask (replicate 8 0) own kept kept' w))
