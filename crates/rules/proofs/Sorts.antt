-- the sort of a node's step, read off the state: it rests on what is done and on the branch that is taken, on no other value,
-- no register and no occupant
use Prim.Native.Nat.{ℕ}
use mathlib.Core.Bool.{Bool, true, false, ◌&&◌, true≢false}
use mathlib.Core.Path.{◌≡◌, refl, sym, ap, ◌∙◌}
use mathlib.Core.List.{List}
use lib.Dec.{eqb}
use borrow.Author.Tests.{eqb-true, ne_eqb}
use Rattle.table.specs.Pick.{pick}
use Rattle.table.specs.Syntax.{Expr, const, param, prim, call, self, cond, bind, bound, id}
use Rattle.rules.specs.Arithmetic.{Arithmetic}
use Rattle.rules.specs.State.{View}
use Rattle.rules.specs.Step.{Act, stuck, blocked, does, enters, done, all_done, branch, by_status, act}
use Rattle.rules.specs.Play.{calls}
use Rattle.rules.specs.Sets.{sort, entered}

-- 2 at an open node, at a busy one as its parts say, else 0
abbrev pub rank : (status busy : ℕ) → ℕ
rank t b = pick (eqb t 1) 2 (pick (eqb t 2) b 0)

abbrev pub busy_sort : (body : ℕ → Expr) → View → Expr → ℕ
busy_sort body s (const n v) = 0
busy_sort body s (param n i) = 0
busy_sort body s (prim n op es) = pick (all_done s es) 2 0
busy_sort body s (call n g es) = pick (s.second n) (pick (done s (id (body g))) 2 0) (pick (all_done s es) 1 0)
busy_sort body s (self n es) = pick (all_done s es) 2 0
busy_sort body s (cond n a b c) =
    pick (s.second n) (pick (done s (id (branch (s.value (id a)) b c))) 2 0) (pick (done s (id a)) 2 0)
busy_sort body s (bind n ds b) = pick (s.second n) (pick (done s (id b)) 2 0) (pick (all_done s ds) 2 0)
busy_sort body s (bound n d) = 0

abbrev pub sort_by : (body : ℕ → Expr) → View → Expr → ℕ
sort_by body s u = rank (s.status (id u)) (busy_sort body s u)

pub sort_pick : (b : Bool) (x y : Act) (i j : ℕ) → sort x ≡ i → sort y ≡ j → sort (pick b x y) ≡ pick b i j
sort_pick true x y i j p q = p
sort_pick false x y i j p q = q

sort_status : (t : ℕ) (o b : Act) (i : ℕ) → sort o ≡ 2 → sort b ≡ i → sort (by_status t o b) ≡ rank t i
sort_status t o b i p q = sort_pick (eqb t 1) o (pick (eqb t 2) b stuck) 2 (pick (eqb t 2) i 0) p (sort_pick (eqb t 2) b stuck i 0 q refl)

-- whether its callee is free or not
sort_entry : (b : Bool) (g : ℕ) (vs : List ℕ) → sort (pick b (does (enters g vs)) blocked) ≡ 1
sort_entry true g vs = refl
sort_entry false g vs = refl

module _ (units : Arithmetic) (body : ℕ → Expr) (h : ℕ) (s : View) where
  pub sort_is : (u : Expr) → sort (act units body h s u) ≡ sort_by body s u
  sort_is (const n v) = sort_status (s.status n) _ _ 0 refl refl
  sort_is (param n i) = sort_status (s.status n) _ _ 0 refl refl
  sort_is (prim n op es) = sort_status (s.status n) _ _ _ refl (sort_pick (all_done s es) _ _ 2 0 refl refl)
  sort_is (call n g es) = sort_status (s.status n) _ _ _ refl (sort_pick (s.second n) _ _ _ _
      (sort_pick (done s (id (body g))) _ _ 2 0 refl refl)
      (sort_pick (all_done s es) _ _ 1 0 (sort_entry (eqb (s.occupant g) 0) g _) refl))
  sort_is (self n es) = sort_status (s.status n) _ _ _ refl (sort_pick (all_done s es) _ _ 2 0 refl refl)
  sort_is (cond n a b c) = sort_status (s.status n) _ _ _ refl (sort_pick (s.second n) _ _ _ _
      (sort_pick (done s (id (branch (s.value (id a)) b c))) _ _ 2 0 refl refl) (sort_pick (done s (id a)) _ _ 2 0 refl refl))
  sort_is (bind n ds b) = sort_status (s.status n) _ _ _ refl (sort_pick (s.second n) _ _ _ _
      (sort_pick (done s (id b)) _ _ 2 0 refl refl) (sort_pick (all_done s ds) _ _ 2 0 refl refl))
  sort_is (bound n d) = sort_status (s.status n) _ _ 0 refl refl

-- what the status alone says
pub rank_open : (t b : ℕ) → t ≡ 1 → rank t b ≡ 2
rank_open t b e = ap (λ x. rank x b) e

pub rank_busy : (t b : ℕ) → t ≡ 2 → rank t b ≡ b
rank_busy t b e = ap (λ x. rank x b) e

pub rank_none : (t b : ℕ) → (t ≡ 1 → ⊥) → (t ≡ 2 → ⊥) → rank t b ≡ 0
rank_none t b d e =
    let p = ne_eqb t 1 d in
    let q = ne_eqb t 2 e in
    (λ i. pick (p i) 2 (pick (q i) b 0))

module _ (s : View) where
  -- a call is inside where it is busy, in second phase
  pub entered_not : (u : Expr) → (s.status (id u) ≡ 2 → ⊥) → entered s u ≡ false
  entered_not (const n v) d = refl
  entered_not (param n i) d = refl
  entered_not (prim n op es) d = refl
  entered_not (call n g es) d = ap (λ b. b && s.second n) (ne_eqb (s.status n) 2 d)
  entered_not (self n es) d = refl
  entered_not (cond n a b c) d = refl
  entered_not (bind n ds b) d = refl
  entered_not (bound n x) d = refl

  busy_of : (a b : Bool) → (a && b) ≡ true → (a ≡ true) × (b ≡ true)
  busy_of true b e = (refl, e)
  busy_of false b e = absurd (true≢false (sym e))

  pub entered_yes : (u : Expr) → entered s u ≡ true → (s.status (id u) ≡ 2) × (s.second (id u) ≡ true)
  entered_yes (const n v) e = absurd (true≢false (sym e))
  entered_yes (param n i) e = absurd (true≢false (sym e))
  entered_yes (prim n op es) e = absurd (true≢false (sym e))
  entered_yes (call n g es) e = let b = busy_of (eqb (s.status n) 2) (s.second n) e in (eqb-true (s.status n) 2 b.0, b.1)
  entered_yes (self n es) e = absurd (true≢false (sym e))
  entered_yes (cond n a b c) e = absurd (true≢false (sym e))
  entered_yes (bind n ds b) e = absurd (true≢false (sym e))
  entered_yes (bound n d) e = absurd (true≢false (sym e))

  -- a call of g that is inside: its step is to leave, once g's root is done
  pub inside_sort : (body : ℕ → Expr) (u : Expr) (g : ℕ) → calls u g ≡ true → entered s u ≡ true
      → sort_by body s u ≡ pick (done s (id (body g))) 2 0
  inside_sort body (const n v) g c e = absurd (true≢false (sym e))
  inside_sort body (param n i) g c e = absurd (true≢false (sym e))
  inside_sort body (prim n op es) g c e = absurd (true≢false (sym e))
  inside_sort body (call n f es) g c e =
      let b = entered_yes (call n f es) e in
      rank_busy (s.status n) _ b.0
      ∙ ap (λ w. pick w (pick (done s (id (body f))) 2 0) (pick (all_done s es) 1 0)) b.1
      ∙ ap (λ f. pick (done s (id (body f))) 2 0) (eqb-true f g c)
  inside_sort body (self n es) g c e = absurd (true≢false (sym e))
  inside_sort body (cond n a b d) g c e = absurd (true≢false (sym e))
  inside_sort body (bind n ds b) g c e = absurd (true≢false (sym e))
  inside_sort body (bound n d) g c e = absurd (true≢false (sym e))
