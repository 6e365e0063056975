-- a step ignores what states have past N and F: two that agree up to them get one answer, and agree after it
use Prim.Native.Nat.{ℕ}
use mathlib.Core.Bool.{Bool, true, false}
use mathlib.Core.Path.{◌≡◌, refl, subst, ap}
use native.Mathlib.Omega.{arith}
use lib.Dec.{eqb, ltb}
use borrow.Author.Tests.{eqb-false, ltb-false}
use Rattle.table.specs.Syntax.{Expr, const, param, prim, call, self, cond, bind, bound, id, Node, Sub}
use Rattle.table.specs.Pick.{pick, Range}
use Rattle.table.specs.Well.{Laid}
use Rattle.table.proofs.SyntaxLaws.{node_id, sub_node}
use Rattle.table.proofs.CallPlaces.{sub_call}
use Rattle.rules.specs.Arithmetic.{Arithmetic}
use Rattle.rules.specs.State.{View, State512, Sized, view}
use Rattle.rules.specs.Step.{Act, stuck, blocked, does, done, act, over, taken, answered, Stepped, outcome, circuit_step}
use Rattle.rules.specs.Companions.{Agree}
use Rattle.rules.proofs.LaidFacts.{fn_main, callee_fn}
use Rattle.rules.proofs.Frame.{Same}
use Rattle.rules.proofs.ActSame.{Beside, act_same, read_own}
use Rattle.rules.proofs.ListsAgree.{over_agree}
use Rattle.rules.proofs.MovesAgree.{perform_agree}

-- which step a node has: all that it reads lies within N and F
module _ (units : Arithmetic) {F N : ℕ} {body at : ℕ → Expr} {home : ℕ → ℕ} (laid : Laid F N body at home)
    (s s' : View) (agree : Agree (Range N) (Range F) s s') (h : ℕ) (r : Range F h) where
  within : (f m : ℕ) → Range F f → Node m (body f) → Same s' s m
  within f m q k =
      let i = laid.inside f m q k in
      (agree.status m (i.1, i.2), agree.second m (i.1, i.2), agree.value m (i.1, i.2))

  beside : (u : Expr) → Sub u (body h) → ((n d : ℕ) → u ≡ bound n d → Range N d) → Beside body h s' s u
  beside (const n v) p b = tt
  beside (param n i) p b = agree.register h i r
  beside (bound n d) p b = agree.value d (b n d refl)
  beside (prim n op es) p b = tt
  beside (call n g es) p b = (λ z. let k = within g (id (body g)) fn_g (node_id (body g)) in (k.0, k.2), λ z. agree.occupant g fn_g)
    where
      fn_g : Range F g
      fn_g = callee_fn laid.well h n g r (sub_call n g es (body h) p)
  beside (self n es) p b = tt
  beside (cond n x y z) p b = tt
  beside (bind n ds e) p b = tt

  act_agree : (u : Expr) → Sub u (body h) → ((n d : ℕ) → u ≡ bound n d → Range N d) → act units body h s u ≡ act units body h s' u
  act_agree u p b = act_same units body h s' s u
      (read_own body h s' s u (λ m k. within h m r (sub_node u m (body h) p k)) (beside u p b))

-- two answers that are one, with states that agree
abbrev pub OneAnswer : (F N : ℕ) → Stepped → Stepped → Type 0
OneAnswer F N x y = (x.answer ≡ y.answer) × Agree (Range N) (Range F) (view x.state) (view y.state)

module _ (units : Arithmetic) {F N : ℕ} {body at : ℕ → Expr} {home : ℕ → ℕ} (laid : Laid F N body at home) (tags : ℕ → Bool)
    (s s' : State512) (z : Sized s) (z' : Sized s') (agree : Agree (Range N) (Range F) (view s) (view s')) (n : ℕ)
    (bounds : (m d : ℕ) → Range N n → at n ≡ bound m d → Range N d) where
  main_in : Range N (id (body F))
  main_in = let i = laid.inside F (id (body F)) (fn_main laid) (node_id (body F)) in (i.1, i.2)

  both_tests : (b b' : Bool) (x x' y y' : Stepped) → b ≡ b' → OneAnswer F N x x' → (b ≡ false → OneAnswer F N y y')
      → OneAnswer F N (pick b x y) (pick b' x' y')
  both_tests b b' x x' y y' e f g = subst (λ c. OneAnswer F N (pick b x y) (pick c x' y')) e (go b refl)
    where
      go : (c : Bool) → b ≡ c → OneAnswer F N (pick c x y) (pick c x' y')
      go true q = f
      go false q = g q

  outcome_agree : (a : Act) → OneAnswer F N (outcome units F N body at home tags s n a) (outcome units F N body at home tags s' n a)
  outcome_agree stuck = (refl, agree)
  outcome_agree blocked = (refl, agree)
  outcome_agree (does m) =
      let x = perform_agree (Range N) (Range F) N home body s s' z z' agree n m in
      let p = x.status (id (body F)) main_in in
      let v = x.value (id (body F)) main_in in
      ((λ i. pick (eqb (p i) 3) (answered (v i)) taken), x)

  pub step_agree : OneAnswer F N (circuit_step units F N body at home tags s n) (circuit_step units F N body at home tags s' n)
  unfolding circuit_step
  step_agree =
      both_tests (eqb n 0) (eqb n 0) _ _ _ _ refl (refl, agree)
      (λ e0. both_tests (ltb N n) (ltb N n) _ _ _ _ refl (refl, agree)
      (λ e1. both_tests (over 3 N s.status) (over 3 N s'.status) _ _ _ _
      (over_agree 3 N s.status s'.status (λ m p q. agree.status m (p, q))) (refl, agree)
      (λ e2. both_tests (over N F s.occupant) (over N F s'.occupant) _ _ _ _
      (over_agree N F s.occupant s'.occupant (λ f p q. agree.occupant f (p, q))) (refl, agree)
      (λ e3. both_tests (done (view s) (id (body F))) (done (view s') (id (body F))) _ _ _ _
      (ap (λ x. eqb x 3) (agree.status (id (body F)) main_in)) (refl, agree)
      (λ e4. subst (λ a. OneAnswer F N (outcome units F N body at home tags s n (act units body (home n) (view s) (at n)))
      (outcome units F N body at home tags s' n a)) (acts (there e0 e1)) (outcome_agree (act units body (home n) (view s) (at n))))))))
    where
      there : eqb n 0 ≡ false → ltb N n ≡ false → Range N n
      there a b = (omega (arith, eqb-false n 0 a), ltb-false N n b)

      acts : Range N n → act units body (home n) (view s) (at n) ≡ act units body (home n) (view s') (at n)
      acts r = act_agree units laid (view s) (view s') agree (home n) (laid.home_there n r) (at n)
          (laid.placed n r) (λ m d e. bounds m d r e)
