-- the sets after any move, from any state of the right size
use Prim.Native.Nat.{ℕ}
use mathlib.Core.Bool.{true, false, ◌&&◌, true≢false}
use mathlib.Core.Path.{◌≡◌, refl, subst, sym, ap, ◌∙◌}
use mathlib.Core.List.{List}
use native.Mathlib.Omega.{arith}
use native.Mathlib.Decide.{ℕ_discrete}
use lib.Dec.{eqb}
use borrow.Author.Tests.{eqb-true, eqb-false, eq-eqb, ne_eqb}
use Rattle.table.specs.Pick.{pick, Range}
use Rattle.table.specs.Syntax.{Expr, id}
use Rattle.table.specs.Well.{Laid}
use Rattle.rules.specs.Arithmetic.{Arithmetic}
use Rattle.rules.specs.State.{State512, Sized, View, view, In}
use Rattle.rules.specs.Step.{does, Move, begins, turns, finishes, enters, leaves, restarts, act, perform}
use Rattle.rules.specs.Play.{calls}
use Rattle.rules.specs.Sets.{sort, entered, Sets, sets_in, holds, Placed, Updated}
use Rattle.rules.proofs.Performed.{Owns, Does, Fair, Enters, Begins}
use Rattle.rules.proofs.StepFacts.{moved_does}
use Rattle.rules.proofs.Sorts.{inside_sort}
use Rattle.rules.proofs.SortSame.{Child, Alike}
use Rattle.rules.proofs.Tells.{EntersTo, Tells, TellsAct, act_tells}
use Rattle.rules.proofs.SetsSteady.{Upward, armed_as, waiting_as}
use Rattle.rules.proofs.SetsOpening.{opening}
use Rattle.rules.proofs.SetsEnding.{ending}
use Rattle.rules.proofs.SetsRenewing.{MadeNew, Goes, renewing}
use Rattle.rules.proofs.SetsHeld.{held_same, held_entered, held_left}

module _ (units : Arithmetic) {F N : ℕ} {body at : ℕ → Expr} {home up : ℕ → ℕ} (laid : Laid F N body at home)
    (kin : Upward F N body at home up) where
  -- of what is done, entry by entry
  module _ (s s' : View) (n : ℕ) (r : Range N n) where
    abbrev x : Sets
    x = sets_in units body at home s

    abbrev y : Sets
    y = sets_in units body at home s'

    own : id (at n) ≡ n
    own = laid.number n r

    -- an open node that becomes busy isn't done before or after
    begun : (ns : List ℕ) → Begins s s' n ns → s.status n ≡ 1 → (c : ℕ) → (In c ns → ⊥) → Alike s s' c
    begun ns d e c o = (go (ℕ_discrete c n), d.valued c)
      where
        go : Dec (c ≡ n) → eqb (s'.status c) 3 ≡ eqb (s.status c) 3
        go (yes i) = ap (λ k. eqb (s'.status k) 3) i ∙ ap (λ k. eqb k 3) d.busy ∙ sym
            (ap (λ k. eqb (s.status k) 3) i ∙ ap (λ k. eqb k 3) e)
        go (no i) = ap (λ k. eqb k 3) (d.others c i o)

    module _ (g : ℕ) (vs : List ℕ) (d : Enters s s' (Owns N home g) (id (body g)) g vs n) (away : Owns N home g n → ⊥) where
      entered_body : MadeNew N home s s' g (id (body g)) (λ m. eqb m n)
      entered_body = record {
        root = d.new.root.0;
        idle = λ m o e. (d.new.idle m o e).0;
        kept = λ m o i. let k = d.new.others m (eqb-false m n i) o in (k.0, k.1);
        alike = λ c o. go c o (ℕ_discrete c n);
        outside = λ m e o. away (subst (Owns N home g) (eqb-true m n e) o);
      }
        where
          go : (c : ℕ) → (Owns N home g c → ⊥) → Dec (c ≡ n) → Alike s s' c
          go c o (yes i) = subst (Alike s s') (sym i) (ap (λ k. eqb k 3) d.status, d.value)
          go c o (no i) = let k = d.new.others c i o in (ap (λ k. eqb k 3) k.0, k.2)

      module _ (fn : Range F g) (here : act units body (home n) s (at n) ≡ does (enters g vs))
          (k : EntersTo s (at n) g) where
        goes_in : Goes units laid s s' g fn (λ m. eqb m n) entered_body n
        goes_in =
            let c : calls (at n) g ≡ true = ap (λ u. calls u g) k.is ∙ eq-eqb g g refl in
            let m : k.node ≡ n = sym (ap id k.is) ∙ own in
            let p = eq-eqb (s'.status k.node) 2 (ap s'.status m ∙ d.status ∙ ap s.status (sym m) ∙ k.waits.0) in
            let w = ap s'.second m ∙ d.second in
            let i : entered s' (at n) ≡ true = ap (entered s') k.is ∙ (λ i. p i && w i) in
            let z = inside_sort s' body (at n) g c i
            ∙ ap (λ b. pick b 2 0) (ne_eqb (s'.status (id (body g))) 3 (λ q. omega (arith, d.new.root.0, q))) in
            record {
              before = ap (λ a. eqb (sort a) 2) here;
              after = (armed_as units laid s s' n 0 z, waiting_as units laid s s' n 0 z, i);
            }

    pub placed_by : (a : Move) → act units body (home n) s (at n) ≡ does a → Fair F N home body n a → Does N home body s s' n a
        → Tells body (home n) s (at n) a → Placed N body at home up x y n a
    placed_by (begins ns) here f d k = opening units laid kin s s' n r (λ m. In m ns) k.1 d.opens
        (begun ns d (ap s.status (sym own) ∙ k.0)) (λ m e o. (d.others m e o, d.seconds m))
    placed_by (turns j) here f d k = opening units laid kin s s' n r (λ m. m ≡ j) (λ c e. subst (λ i. Child i (at n)) (sym e) k)
        (λ m e. ap s'.status e ∙ d.opens) (λ c o. (ap (λ i. eqb i 3) (d.others c o), d.valued c))
        (λ m e o. (d.others m o, d.seconds m e))
    placed_by (finishes v) here f d k = ending units laid kin s s' n v r d.0
    placed_by (enters g vs) here f d k = renewing units laid s s' g (f.0, f.1) (λ m. eqb m n) (entered_body g vs d f.4)
        (λ m q i. subst (Goes units laid s s' g (f.0, f.1) (λ m. eqb m n) (entered_body g vs d f.4)) (sym (eqb-true m n i))
        (goes_in g vs d f.4 (f.0, f.1) here k))
    placed_by (leaves g v) here f d k = ending units laid kin s s' n v r d.done
    placed_by (restarts h vs) here f d k = renewing units laid s s' h (f.0, f.1) (λ m. false)
        (record {
          root = d.0.root.0;
          idle = λ m o e. (d.0.idle m o e).0;
          kept = λ m o i. let k = d.0.others m (λ z. z) o in (k.0, k.1);
          alike = λ c o. let k = d.0.others c (λ z. z) o in (ap (λ i. eqb i 3) k.0, k.2);
          outside = λ m e. absurd (true≢false (sym e));
        })
        (λ m q i. absurd (true≢false (sym i)))

    pub held_by_lem : (a : Move) → Does N home body s s' n a → (m : ℕ) → y.held m ≡ holds at x a m
    held_by_lem (begins ns) d m = held_same s s' (λ f. (d.functions f).0) (at m)
    held_by_lem (turns j) d m = held_same s s' (λ f. (d.functions f).0) (at m)
    held_by_lem (finishes v) d m = held_same s s' (λ f. (d.1 f).0) (at m)
    held_by_lem (enters g vs) d m = held_entered s s' g (λ f e. (d.new.functions f e).0) (λ z. omega (arith, d.occupies, z, r.0)) (at m)
    held_by_lem (leaves g v) d m = held_left s s' g d.occupants d.frees (at m)
    held_by_lem (restarts h vs) d m = held_same s s' d.1 (at m)

  -- a move that is made
  pub sets_updated : (s : State512) → Sized s → (n : ℕ) → Range N n → (a : Move) → act units body (home n) (view s) (at n) ≡ does a
      → Updated N body at home up (sets_in units body at home (view s)) (sets_in units body at home (view (perform N home body s n a))) n a
  sets_updated s sized n r a here =
      let w = moved_does units laid s sized n r a here in
      let k = subst (TellsAct body (home n) (view s) (at n)) here (act_tells units body (home n) (view s) (at n)) in
      record {
        placed = placed_by (view s) (view (perform N home body s n a)) n r a here w.0 w.1 k;
        held = λ m q. held_by_lem (view s) (view (perform N home body s n a)) n r a w.1 m;
      }
