-- a node is done: it is in no set; its parent is to be read anew; the calls inside its function, if it is a root, are armed
use Prim.Native.Nat.{ℕ}
use mathlib.Core.Bool.{Bool, true, false, ◌&&◌, ◌||◌, true≢false}
use mathlib.Core.Path.{◌≡◌, refl, sym, ap, ◌∙◌}
use native.Mathlib.Omega.{arith}
use native.Mathlib.Decide.{ℕ_discrete}
use lib.Dec.{eqb}
use borrow.Author.Tests.{eq-eqb, ne_eqb}
use Rattle.table.specs.Pick.{pick, Range}
use Rattle.table.specs.Syntax.{Expr, id}
use Rattle.table.specs.Well.{Laid}
use Rattle.rules.specs.Arithmetic.{Arithmetic}
use Rattle.rules.specs.State.{View}
use Rattle.rules.specs.Play.{calls}
use Rattle.rules.specs.Sets.{entered, Sets, sets_in, Stays, Ending}
use Rattle.table.proofs.Tests.{or_yes, or_no, and_no}
use Rattle.rules.proofs.Performed.{Finishes}
use Rattle.rules.proofs.Sorts.{inside_sort}
use Rattle.rules.proofs.SortSame.{Alike, entered_same}
use Rattle.rules.proofs.SetsSteady.{Upward, callee_below, root_home, steady_stays, armed_as, waiting_as, inside_waits}
use Rattle.rules.proofs.SetsSteady.{own_status, own_second, at_rest_lem}

module _ (units : Arithmetic) {F N : ℕ} {body at : ℕ → Expr} {home up : ℕ → ℕ} (laid : Laid F N body at home)
    (kin : Upward F N body at home up) (s s' : View) where
  abbrev x : Sets
  x = sets_in units body at home s

  abbrev y : Sets
  y = sets_in units body at home s'

  -- node n is done
  module _ (n v : ℕ) (r : Range N n) (d : Finishes s s' n v) where
    alike : (c : ℕ) → (c ≡ n → ⊥) → Alike s s' c
    alike c e = (ap (λ k. eqb k 3) (d.others c e).0, (d.others c e).2)

    module _ (m : ℕ) (q : Range N m) (e : m ≡ n → ⊥) (f : m ≡ up n → ⊥) where
      stays_inside : y.inside m ≡ x.inside m
      stays_inside = entered_same body s s' (at m) (own_status units laid s s' m q (d.others m e).0)
          (own_second units laid s s' m q (d.others m e).1)

      -- .. unless it is inside the function of n, and n its root
      stays : ((g : ℕ) → calls (at m) g ≡ true → entered s (at m) ≡ true → id (body g) ≡ n → ⊥) → Stays x y m
      stays z = steady_stays units laid s s' m (record {
        status = own_status units laid s s' m q (d.others m e).0;
        second = own_second units laid s s' m q (d.others m e).1;
        children = λ c k. alike c (λ w. f (sym (kin.child m c q k) ∙ ap up w));
        callee = λ g c i. (alike (id (body g)) (z g c i)).0;
      })

      abbrev Result : Type 0
      Result = (y.armed m ≡ (x.armed m || (eqb (up n) 0 && (x.inside m && calls (at m) (home n)))))
          × (y.waiting m ≡ x.waiting m)

      as_before : (eqb (up n) 0 && (x.inside m && calls (at m) (home n))) ≡ false → Stays x y m → Result
      as_before z k = (k.0 ∙ sym (ap (λ c. x.armed m || c) z ∙ or_no (x.armed m)), k.1)

      -- a call inside: it leaves next
      leaves_next : up n ≡ 0 → entered s (at m) ≡ true → calls (at m) (home n) ≡ true → Result
      leaves_next z i c =
          let j = stays_inside ∙ i in
          let w : s'.status (id (body (home n))) ≡ 3 = ap s'.status (kin.top n r z) ∙ d.status in
          let k = inside_sort s' body (at m) (home n) c j ∙ ap (λ b. pick b 2 0) (eq-eqb (s'.status (id (body (home n)))) 3 w) in
          let p = eq-eqb (up n) 0 z in (
            armed_as units laid s s' m 2 k ∙ sym ((λ a. x.armed m || (p a && (i a && c a))) ∙ or_yes (x.armed m)),
            waiting_as units laid s s' m 2 k ∙ sym (inside_waits units laid s s' s m (home n) c i),
          )

      -- n the root of g: then g is the function of n
      same_home : (g : ℕ) → calls (at m) g ≡ true → id (body g) ≡ n → (g ≡ home n) × (up n ≡ 0)
      same_home g c w =
          let b = (callee_below units laid m g q c).0 in
          (sym (root_home units laid g b).0 ∙ ap home w, sym (ap up w) ∙ kin.root g b)

      result : Result
      result = go (ℕ_discrete (up n) 0) (entered s (at m)) (calls (at m) (home n)) refl refl
        where
          go : Dec (up n ≡ 0) → (i c : Bool) → entered s (at m) ≡ i → calls (at m) (home n) ≡ c → Result
          go (yes z) true true i c = leaves_next z i c
          go (yes z) true false i c = as_before
              (ap (λ b. eqb (up n) 0 && (x.inside m && b)) c ∙ ap (λ b. eqb (up n) 0 && b) (and_no (x.inside m)) ∙ and_no (eqb (up n) 0))
              (stays (λ g k j w. true≢false (sym k ∙ ap (calls (at m)) (same_home g k w).0 ∙ c)))
          go (yes z) false b i c = as_before
              (ap (λ k. eqb (up n) 0 && (k && calls (at m) (home n))) i ∙ and_no (eqb (up n) 0))
              (stays (λ g k j w. true≢false (sym j ∙ i)))
          go (no z) a b i c = as_before (ap (λ k. k && (x.inside m && calls (at m) (home n))) (ne_eqb (up n) 0 z))
              (stays (λ g k j w. z (same_home g k w).1))

    pub ending : Ending N at home up x y n
    ending = record {
      own = at_rest_lem units laid s s' n r (λ e. omega (arith, d.status, e)) (λ e. omega (arith, d.status, e));
      armed = λ m q e f. (result m q e f).0;
      others = λ m q e f. ((result m q e f).1, stays_inside m q e f);
    }
