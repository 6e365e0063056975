-- states that agree on few entries give a node the same sort of step, and the same place inside its callee
use Prim.Native.Nat.{ℕ, zero, suc}
use mathlib.Core.Bool.{Bool, true, false, ◌&&◌}
use mathlib.Core.Path.{◌≡◌, refl, subst, sym, ap, ◌∙◌}
use mathlib.Core.Logic.{◌⊎◌, inl, inr}
use native.Mathlib.Decide.{ℕ_discrete}
use lib.Dec.{eqb}
use borrow.Author.Tests.{eq-eqb}
use Rattle.table.specs.Pick.{pick}
use Rattle.table.specs.Syntax.{Expr, Exprs, const, param, prim, call, self, cond, bind, bound, none, some, id, roots, Node}
use Rattle.table.proofs.SyntaxLaws.{node_id}
use Rattle.rules.specs.State.{View, In}
use Rattle.rules.specs.Step.{done, all_done, branch}
use Rattle.rules.specs.Play.{calls}
use Rattle.rules.specs.Sets.{entered}
use Rattle.rules.proofs.LaidFacts.{root_node}
use Rattle.rules.proofs.Sorts.{rank, busy_sort, sort_by, rank_busy, rank_none}

-- c is a child of u
abbrev pub Child : ℕ → Expr → Type 0
Child c (const n v) = ⊥
Child c (param n i) = ⊥
Child c (prim n op es) = In c (roots es)
Child c (call n g es) = In c (roots es)
Child c (self n es) = In c (roots es)
Child c (cond n x y z) = (c ≡ id x) ⊎ (c ≡ id y) ⊎ (c ≡ id z)
Child c (bind n ds b) = In c (roots ds) ⊎ (c ≡ id b)
Child c (bound n d) = ⊥

-- a child is a node of the whole
pub child_inside : (c : ℕ) (u : Expr) → Child c u → Node c u
child_inside c (const n v) k = absurd k
child_inside c (param n i) k = absurd k
child_inside c (prim n op es) k = inr (root_node c es k)
child_inside c (call n g es) k = inr (root_node c es k)
child_inside c (self n es) k = inr (root_node c es k)
child_inside c (cond n x y z) (inl k) = inr (inl (subst (λ m. Node m x) (sym k) (node_id x)))
child_inside c (cond n x y z) (inr (inl k)) = inr (inr (inl (subst (λ m. Node m y) (sym k) (node_id y))))
child_inside c (cond n x y z) (inr (inr k)) = inr (inr (inr (subst (λ m. Node m z) (sym k) (node_id z))))
child_inside c (bind n ds b) (inl k) = inr (inl (root_node c ds k))
child_inside c (bind n ds b) (inr k) = inr (inr (subst (λ m. Node m b) (sym k) (node_id b)))
child_inside c (bound n d) k = absurd k

-- done or not as before, with the same value
abbrev pub Alike : View → View → ℕ → Type 0
Alike s s' c = (done s' c ≡ done s c) × (s'.value c ≡ s.value c)

-- its own status and phase, its children, and the root of the callee that it is inside of
pub record Steady (body : ℕ → Expr) (s s' : View) (u : Expr) : Type 0 where
  pub status : s'.status (id u) ≡ s.status (id u)
  pub second : s'.second (id u) ≡ s.second (id u)
  pub children : (c : ℕ) → Child c u → Alike s s' c
  pub callee : (g : ℕ) → calls u g ≡ true → entered s u ≡ true → done s' (id (body g)) ≡ done s (id (body g))

all_same : (s s' : View) (es : Exprs) → ((c : ℕ) → In c (roots es) → Alike s s' c) → all_done s' es ≡ all_done s es
all_same s s' none f = refl
all_same s s' (some e es) f =
    let p = (f (id e) (inl refl)).0 in
    let q = all_same s s' es (λ c i. f c (inr i)) in
    (λ i. p i && q i)

rank_same : (t t' b b' : ℕ) → t' ≡ t → (t ≡ 2 → b' ≡ b) → rank t' b' ≡ rank t b
rank_same t t' b b' e f = ap (λ x. rank x b') e ∙ go (ℕ_discrete t 2) (ℕ_discrete t 1)
  where
    go : Dec (t ≡ 2) → Dec (t ≡ 1) → rank t b' ≡ rank t b
    go (yes q) d = rank_busy t b' q ∙ f q ∙ sym (rank_busy t b q)
    go (no q) (yes d) = ap (λ x. rank x b') d ∙ sym (ap (λ x. rank x b) d)
    go (no q) (no d) = rank_none t b' d q ∙ sym (rank_none t b d q)

-- in each phase
phase_same : (w w' : Bool) (i i' j j' : ℕ) → w' ≡ w → (w ≡ true → i' ≡ i) → j' ≡ j → pick w' i' j' ≡ pick w i j
phase_same true w' i i' j j' e f g = ap (λ x. pick x i' j') e ∙ f refl
phase_same false w' i i' j j' e f g = ap (λ x. pick x i' j') e ∙ g

module _ (body : ℕ → Expr) (s s' : View) where
  busy_same : (u : Expr) → Steady body s s' u → s.status (id u) ≡ 2 → busy_sort body s' u ≡ busy_sort body s u
  busy_same (const n v) y e = refl
  busy_same (param n i) y e = refl
  busy_same (prim n op es) y e = ap (λ b. pick b 2 0) (all_same s s' es y.children)
  busy_same (call n g es) y e = phase_same (s.second n) (s'.second n) _ _ _ _ y.second
      (λ w. ap (λ b. pick b 2 0) (y.callee g (eq-eqb g g refl) (within w))) (ap (λ b. pick b 1 0) (all_same s s' es y.children))
    where
      within : s.second n ≡ true → (eqb (s.status n) 2 && s.second n) ≡ true
      within w =
          let p = eq-eqb (s.status n) 2 e in
          (λ i. p i && w i)
  busy_same (self n es) y e = ap (λ b. pick b 2 0) (all_same s s' es y.children)
  busy_same (cond n x y z) k e = phase_same (s.second n) (s'.second n) _ _ _ _ k.second
      (λ w. ap (λ b. pick b 2 0) (chosen (s'.value (id x)) ∙ ap (λ v. done s (id (branch v y z))) (k.children (id x) (inl refl)).1))
      (ap (λ b. pick b 2 0) (k.children (id x) (inl refl)).0)
    where
      chosen : (v : ℕ) → done s' (id (branch v y z)) ≡ done s (id (branch v y z))
      chosen zero = (k.children (id z) (inr (inr refl))).0
      chosen (suc v) = (k.children (id y) (inr (inl refl))).0
  busy_same (bind n ds b) y e = phase_same (s.second n) (s'.second n) _ _ _ _ y.second
      (λ w. ap (λ b. pick b 2 0) (y.children (id b) (inr refl)).0)
      (ap (λ b. pick b 2 0) (all_same s s' ds (λ c i. y.children c (inl i))))
  busy_same (bound n d) y e = refl

  pub sort_same : (u : Expr) → Steady body s s' u → sort_by body s' u ≡ sort_by body s u
  sort_same u y = rank_same (s.status (id u)) (s'.status (id u)) (busy_sort body s u) (busy_sort body s' u) y.status (busy_same u y)

  pub entered_same : (u : Expr) → s'.status (id u) ≡ s.status (id u) → s'.second (id u) ≡ s.second (id u)
      → entered s' u ≡ entered s u
  entered_same (const n v) p q = refl
  entered_same (param n i) p q = refl
  entered_same (prim n op es) p q = refl
  entered_same (call n g es) p q = (λ i. eqb (p i) 2 && q i)
  entered_same (self n es) p q = refl
  entered_same (cond n a b c) p q = refl
  entered_same (bind n ds b) p q = refl
  entered_same (bound n d) p q = refl
