-- what a busy node waits for: while a child that it opened first is not done it has no step; and who else is in no set of those that wait
use Rattle.std.proofs.Common.{◌≡◌, ℕ, Bool, true, false, not, ◌&&◌, ◌||◌, eqb, ◌⊎◌, List, [], ◌∷◌, sym, refl, ap, ◌∙◌, subst, inl, inr}
use Rattle.std.proofs.Common.{⊎_elim, true≢false, arith, eq-eqb, ne_eqb, eqb-true}
use native.Mathlib.Decide.{ℕ_discrete}
use Rattle.table.specs.Pick.{pick}
use Rattle.table.specs.Syntax.{Expr, const, param, prim, call, self, cond, bind, bound, id}
use Rattle.table.specs.Bytes.{kind, word, first}
use Rattle.table.specs.Naming.{owner, children, initial}
use Rattle.table.specs.Expressions.{expr_at, body_of}
use Rattle.table.specs.Working.{Taken, IsNode}
use Rattle.table.proofs.NodeCases.{NodeCase, node_case}
use Rattle.table.proofs.NodeCases.{is_const, is_param, is_prim, is_call_lem, is_self, is_cond, is_bind, is_bound}
use Rattle.rules.specs.State.{State512, View, view, In, entry}
use Rattle.rules.specs.Step.{done, all_done, branch}
use Rattle.rules.specs.Circuit.{act_of}
use Rattle.rules.specs.Arithmetic.{arithmetic}
use Rattle.rules.specs.Sets.{sort, sets_of, of_call}
use Rattle.rules.proofs.Sorts.{sort_is, sort_by}
use Rattle.circuit.specs.Meaning.{state_as}
use Rattle.circuit.specs.Working.{each_done, opens, gathers_at}
use Rattle.circuit.proofs.ChainLaws.{ok}
use Rattle.circuit.proofs.ActBy.{prim_by, self_by, call_by, cond_by, bind_by}
use Rattle.circuit.proofs.OpensLaws.{opens_all, opens_if, opens_let}
use Rattle.circuit.proofs.SortLaws.{sort_prim, sort_self, sort_call, sort_cond, sort_bind, sort_leaf}

not_done : (st : ℕ → ℕ) (l : List ℕ) (m : ℕ) → In m l → (st m ≡ 3 → ⊥) → each_done st l ≡ false
unfolding each_done
not_done st [] m i d = absurd i
not_done st (n ∷ l) m (inl e) d = ap (λ b. b && each_done st l) (ne_eqb (st n) 3 (λ z. d (ap st e ∙ z)))
not_done st (n ∷ l) m (inr i) d = ap (λ b. eqb (st n) 3 && b) (not_done st l m i d) ∙ off (eqb (st n) 3)
  where
    off : (b : Bool) → (b && false) ≡ false
    off true = refl
    off false = refl

module _ (t : List ℕ) (fair : Taken t) (n : ℕ) (i : IsNode t n) (a : List ℕ) (b : List Bool) (c d e : List ℕ)
    (busy : entry a 0 n ≡ 2) (phase : entry b false n ≡ false) (m : ℕ) (k : In m (opens t n)) (undone : entry a 0 m ≡ 3 → ⊥) where
  abbrev Waits : Type 0
  Waits = 0 ≡ sort (act_of t (state_as a b c d e) n)

  all_kids : (kind t n ≡ 5 → ⊥) → (kind t n ≡ 6 → ⊥) → each_done (entry a 0) (children t n) ≡ false
  all_kids p q = not_done (entry a 0) (children t n) m (subst (In m) (opens_all t fair n i p q) k) undone

  as_prim : kind t n ≡ 3 → Waits
  as_prim h = sort_prim t fair n i a b c d e busy 0 h (sym at)
    where
      at : sort (prim_by t a c n) ≡ 0
      at = unfold prim_by in rw (all_kids (λ z. omega (arith, z, h)) (λ z. omega (arith, z, h))) refl

  as_self : kind t n ≡ 4 → word t n ≡ owner t n → Waits
  as_self h w = sort_self t fair n i a b c d e busy 0 h w (sym at)
    where
      at : sort (self_by t a c n) ≡ 0
      at = unfold self_by in rw (all_kids (λ z. omega (arith, z, h)) (λ z. omega (arith, z, h))) refl

  as_call : kind t n ≡ 4 → (word t n ≡ owner t n → ⊥) → Waits
  as_call h w = sort_call t fair n i a b c d e busy 0 h w (sym at)
    where
      at : sort (call_by t a b c e n) ≡ 0
      at = unfold call_by in rw (phase, all_kids (λ z. omega (arith, z, h)) (λ z. omega (arith, z, h))) refl

  as_cond : kind t n ≡ 5 → Waits
  as_cond h = sort_cond t fair n i a b c d e busy 0 h (sym at)
    where
      here : In m (first t n ∷ []) → entry a 0 (first t n) ≡ 3 → ⊥
      here (inl q) z = undone (ap (entry a 0) q ∙ z)
      here (inr z) y = z

      only : In m (first t n ∷ [])
      only = subst (In m) (opens_if t fair n i h) k

      at : sort (cond_by t a b c n) ≡ 0
      at = unfold cond_by in rw (phase, ne_eqb (entry a 0 (first t n)) 3 (here only)) refl

  as_bind : kind t n ≡ 6 → Waits
  as_bind h = sort_bind t fair n i a b c d e busy 0 h (sym at)
    where
      defs : In m (initial (children t n))
      defs = subst (In m) (opens_let t fair n i h) k

      at : sort (bind_by t a b c n) ≡ 0
      at = unfold bind_by in rw (phase, not_done (entry a 0) (initial (children t n)) m defs undone) refl

  pub busy_waits : Waits
  busy_waits = go (ℕ_discrete (kind t n) 3) (ℕ_discrete (kind t n) 4) (ℕ_discrete (kind t n) 5) (ℕ_discrete (kind t n) 6)
    where
      called : kind t n ≡ 4 → Dec (word t n ≡ owner t n) → Waits
      called h (yes w) = as_self h w
      called h (no w) = as_call h w

      go : Dec (kind t n ≡ 3) → Dec (kind t n ≡ 4) → Dec (kind t n ≡ 5) → Dec (kind t n ≡ 6) → Waits
      go (yes h) q r s = as_prim h
      go (no p) (yes h) r s = called h (ℕ_discrete (word t n) (owner t n))
      go (no p) (no q) (yes h) s = as_cond h
      go (no p) (no q) (no r) (yes h) = as_bind h
      go (no p) (no q) (no r) (no s) = sort_leaf t fair n i a b c d e busy p q r s

-- 2 or 0; and 1 for a call in first phase alone
other_sort : (o y w f g : Bool) → eqb (pick o 2 (pick y (pick w (pick f 2 0) (pick g 2 0)) 0)) 1 ≡ false
other_sort true y w f g = refl
other_sort false false w f g = refl
other_sort false true true true g = refl
other_sort false true true false g = refl
other_sort false true false f true = refl
other_sort false true false f false = refl

call_sort : (o y w f g : Bool) → (y && not w) ≡ false → eqb (pick o 2 (pick y (pick w (pick f 2 0) (pick g 1 0)) 0)) 1 ≡ false
call_sort true y w f g h = refl
call_sort false false w f g h = refl
call_sort false true true true g h = refl
call_sort false true true false g h = refl
call_sort false true false f g h = absurd (true≢false h)

module _ (body : ℕ → Expr) (s : View) where
  -- a call that is busy in first phase
  abbrev calling : Expr → Bool
  calling u = of_call (λ n g. eqb (s.status n) 2 && not (s.second n)) u

  one_calls : (u : Expr) → calling u ≡ false → eqb (sort_by body s u) 1 ≡ false
  one_calls (const n v) h = other_sort (eqb (s.status n) 1) (eqb (s.status n) 2) false false false
  one_calls (param n i) h = other_sort (eqb (s.status n) 1) (eqb (s.status n) 2) false false false
  one_calls (bound n d) h = other_sort (eqb (s.status n) 1) (eqb (s.status n) 2) false false false
  one_calls (prim n op es) h = other_sort (eqb (s.status n) 1) (eqb (s.status n) 2) false false (all_done s es)
  one_calls (self n es) h = other_sort (eqb (s.status n) 1) (eqb (s.status n) 2) false false (all_done s es)
  one_calls (call n g es) h =
      call_sort (eqb (s.status n) 1) (eqb (s.status n) 2) (s.second n) (done s (id (body g))) (all_done s es) h
  one_calls (cond n a b c) h = other_sort (eqb (s.status n) 1) (eqb (s.status n) 2) (s.second n)
      (done s (id (branch (s.value (id a)) b c))) (done s (id a))
  one_calls (bind n ds b) h =
      other_sort (eqb (s.status n) 1) (eqb (s.status n) 2) (s.second n) (done s (id b)) (all_done s ds)

-- a node that does not gather is not among those that wait
module _ (t : List ℕ) (fair : Taken t) (n : ℕ) (i : IsNode t n) (s : State512)
    (not_so : gathers_at t s.status s.second n ≡ false) where
  first_phase : kind t n ≡ 4 → (eqb (entry s.status 0 n) 2 && not (entry s.second false n)) ≡ false
  first_phase k = go (eqb (entry s.status 0 n) 2) (entry s.second false n) (eqb (kind t n) 3) (eqb (kind t n) 4)
      (eq-eqb (kind t n) 4 k) not_so
    where
      go : (y w f g : Bool) → g ≡ true → (y && (not w && (f || g))) ≡ false → (y && not w) ≡ false
      go false w f g e h = refl
      go true true f g e h = refl
      go true false true g e h = h
      go true false false g e h = absurd (true≢false (sym e ∙ h))

  not_calling : NodeCase t n → calling (body_of t) (view s) (expr_at t n) ≡ false
  not_calling (is_const k z q) = ap (calling (body_of t) (view s)) q
  not_calling (is_param k z l q) = ap (calling (body_of t) (view s)) q
  not_calling (is_prim k c q) = ap (calling (body_of t) (view s)) q
  not_calling (is_call_lem k l h c q) = ap (calling (body_of t) (view s)) q ∙ first_phase k
  not_calling (is_self k w l c q) = ap (calling (body_of t) (view s)) q
  not_calling (is_cond k x y z v q) = ap (calling (body_of t) (view s)) q
  not_calling (is_bind k x y z q) = ap (calling (body_of t) (view s)) q
  not_calling (is_bound k z l q) = ap (calling (body_of t) (view s)) q

  pub waits_not : (sets_of t s).waiting n ≡ false
  waits_not = ap (λ k. eqb k 1) (sort_is (arithmetic t) (body_of t) (owner t n) (view s) (expr_at t n))
      ∙ one_calls (body_of t) (view s) (expr_at t n) (not_calling (node_case t (ok t fair) n i))

-- whether a node gathers, as the code finds out
module _ (t status : List ℕ) (second : List Bool) (n : ℕ) where
  pub gathers_idle : (entry status 0 n ≡ 2 → ⊥) → false ≡ gathers_at t status second n
  gathers_idle d =
      sym (ap (λ b. b && (not (entry second false n) && (eqb (kind t n) 3 || eqb (kind t n) 4))) (ne_eqb (entry status 0 n) 2 d))

  pub gathers_late : entry second false n ≡ true → false ≡ gathers_at t status second n
  gathers_late e =
      sym (ap (λ b. eqb (entry status 0 n) 2 && (not b && (eqb (kind t n) 3 || eqb (kind t n) 4))) e ∙ off (eqb (entry status 0 n) 2))
    where
      off : (b : Bool) → (b && false) ≡ false
      off true = refl
      off false = refl

  pub gathers_kind : entry status 0 n ≡ 2 → entry second false n ≡ false → (k : ℕ) → k ≡ kind t n → (b : Bool) → b ≡ (eqb k 3 || eqb k 4)
      → b ≡ gathers_at t status second n
  gathers_kind p q k e b h =
      let u = eq-eqb (entry status 0 n) 2 p in
      h ∙ ap (λ j. eqb j 3 || eqb j 4) e ∙ sym (λ j. u j && (not (q j) && (eqb (kind t n) 3 || eqb (kind t n) 4)))

  -- who gathers
  pub record Gathering : Type 0 where
    pub busy : entry status 0 n ≡ 2
    pub phase : entry second false n ≡ false
    pub kinds : (kind t n ≡ 3) ⊎ (kind t n ≡ 4)

  pub gathering : gathers_at t status second n ≡ true → Gathering
  gathering h = go (eqb (entry status 0 n) 2) (entry second false n) (eqb (kind t n) 3) (eqb (kind t n) 4) refl refl refl refl h
    where
      go : (y w f g : Bool) → eqb (entry status 0 n) 2 ≡ y → entry second false n ≡ w → eqb (kind t n) 3 ≡ f → eqb (kind t n) 4 ≡ g
          → (y && (not w && (f || g))) ≡ true → Gathering
      go true false true g a b c d e = record { busy = eqb-true _ 2 a; phase = b; kinds = inl (eqb-true _ 3 c) }
      go true false false true a b c d e = record { busy = eqb-true _ 2 a; phase = b; kinds = inr (eqb-true _ 4 d) }
      go true false false false a b c d e = absurd (true≢false (sym e))
      go true true f g a b c d e = absurd (true≢false (sym e))
      go false w f g a b c d e = absurd (true≢false (sym e))

  pub not_if : Gathering → (kind t n ≡ 5 → ⊥) × (kind t n ≡ 6 → ⊥)
  not_if x = ⊎_elim (λ k. (λ z. omega (arith, z, k), λ z. omega (arith, z, k))) (λ k. (λ z. omega (arith, z, k), λ z. omega (arith, z, k)))
      x.kinds

-- a child, not 0, that is not done
pub undone_child : (status : List ℕ) (d : ℕ) (b : Bool) → b ≡ (not (eqb d 0) && not (eqb (entry status 0 d) 3)) → b ≡ true
    → (d ≡ 0 → ⊥) × (entry status 0 d ≡ 3 → ⊥)
undone_child status d b e h = (
  λ z. true≢false (sym (sym (ap (λ x. not x && not (eqb (entry status 0 d) 3)) (eq-eqb d 0 z)) ∙ sym e ∙ h)),
  λ z. true≢false (sym (sym (ap (λ x. not (eqb d 0) && not x) (eq-eqb (entry status 0 d) 3 z) ∙ off (not (eqb d 0))) ∙ sym e ∙ h)),
)
  where
    off : (b : Bool) → (b && false) ≡ false
    off true = refl
    off false = refl
