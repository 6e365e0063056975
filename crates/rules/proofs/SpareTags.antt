-- from a start on, a body that main doesn't reach has no step, so no tag in it is asked for
use Prim.Native.Nat.{ℕ}
use mathlib.Core.Bool.{Bool, true, false, ◌||◌, not}
use mathlib.Core.Path.{◌≡◌, refl, subst, sym, ap, ap₂, ◌∙◌}
use mathlib.Core.Logic.{⊎_elim}
use mathlib.Core.List.{List, [], ◌∷◌, ◌++◌}
use native.Mathlib.Omega.{arith}
use lib.Dec.{eqb, ltb}
use lib.ListN.{length}
use borrow.Author.Tests.{eqb-false, ltb-false}
use Rattle.table.specs.Syntax.{Expr, const, param, prim, call, self, cond, bind, bound, id}
use Rattle.table.specs.Pick.{pick, Range}
use Rattle.table.specs.Bytes.{functions, nodes, params}
use Rattle.table.specs.Naming.{owner}
use Rattle.table.specs.Check.{Verdict, accepted, stage, check_of}
use Rattle.table.specs.Expressions.{expr_at, body_of}
use Rattle.table.specs.Well.{Fn, Laid}
use Rattle.table.specs.Reach.{Reached, InReach}
use Rattle.table.proofs.SyntaxLaws.{node_id, sub_node, every_node}
use Rattle.table.proofs.LowestLaws.{lowest_same}
use Rattle.list.specs.Tags.{tagged, listed, after, check_with, holds_at, missing}
use Rattle.list.proofs.HoldingLaws.{holds_other}
use Rattle.list.proofs.Theorems.{listed_reached, order_taken}
use Rattle.rules.specs.Arithmetic.{Arithmetic, arithmetic}
use Rattle.rules.specs.State.{State512, View, view}
use Rattle.rules.specs.Step.{Act, stuck, blocked, does, by_status, act, done, over, Stepped, refusal, outcome, circuit_step}
use Rattle.rules.specs.Play.{Ask, played}
use Rattle.rules.specs.Circuit.{started, check_start, start_after, opening, start_of, circuit_of, step_after, step_of, plays_of}
use Rattle.rules.specs.SpareTags.{AlikeInReach, AskedAlike, SpareBodies, SpareTags}
use Rattle.rules.proofs.SameSteps.{asked_alike}
use Rattle.rules.proofs.OutOfReach.{KeepsBody, steps_keep}
use Rattle.rules.proofs.Frame.{Same}
use Rattle.rules.proofs.Kept.{Kept}
use Rattle.rules.proofs.Shape.{Still, open_moves, busy_moves}
use Rattle.rules.proofs.ActCases.{by_state}
use Rattle.rules.proofs.Invariant.{active?, Sound}
use Rattle.rules.proofs.ActiveReached.{active_reached}
use Rattle.rules.proofs.Acting.{stepping}
use Rattle.rules.proofs.Logs.{played_state}
use Rattle.rules.proofs.Starts.{start_passes}
use Rattle.rules.proofs.Demands.{table_kept, lay}

-- a node that is idle or done has no step
still_stuck : (units : Arithmetic) (body : ℕ → Expr) (h : ℕ) (s : View) (u : Expr) → Still s (id u) → act units body h s u ≡ stuck
still_stuck units body h s u = go u
  where
    rests : (n : ℕ) → Still s n → (o b : Act) → by_status (s.status n) o b ≡ stuck
    rests n z o b = by_state (λ y. y ≡ stuck) (s.status n) o b (λ e. absurd (open_moves s n e z)) (λ e. absurd (busy_moves s n e z)) refl

    go : (u : Expr) → Still s (id u) → act units body h s u ≡ stuck
    go (const n v) z = rests n z _ _
    go (param n i) z = rests n z _ _
    go (prim n op es) z = rests n z _ _
    go (call n g es) z = rests n z _ _
    go (self n es) z = rests n z _ _
    go (cond n a b c) z = rests n z _ _
    go (bind n ds b) z = rests n z _ _
    go (bound n d) z = rests n z _ _

module _ (units : Arithmetic) {F N : ℕ} {body at : ℕ → Expr} {home : ℕ → ℕ} (laid : Laid F N body at home) (s : State512) where
  -- of the tags a step asks for its node's alone, and only where the node is blocked
  step_tags : (tags tags' : ℕ → Bool) (n : ℕ)
      → (Range N n → act units body (home n) (view s) (at n) ≡ blocked → tags n ≡ tags' n)
      → circuit_step units F N body at home tags s n ≡ circuit_step units F N body at home tags' s n
  unfolding circuit_step
  step_tags tags tags' n same =
      under (eqb n 0) _ (λ e. under (ltb N n) _ (λ e'.
      ap (λ x. pick (over 3 N s.status) (refusal s 24 0) (pick (over N F s.occupant) (refusal s 24 0)
      (pick (done (view s) (id (body F))) (refusal s 20 n) x)))
      (at_node (act units body (home n) (view s) (at n)) (same (omega (arith, eqb-false n 0 e), ltb-false N n e')))))
    where
      under : (b : Bool) {y z : Stepped} (x : Stepped) → (b ≡ false → y ≡ z) → pick b x y ≡ pick b x z
      under true x f = refl
      under false x f = f refl

      at_node : (x : Act) → (x ≡ blocked → tags n ≡ tags' n)
          → outcome units F N body at home tags s n x ≡ outcome units F N body at home tags' s n x
      at_node stuck f = refl
      at_node blocked f = ap (λ b. refusal s (pick b 22 23) n) (f refl)
      at_node (does m) f = refl

  module _ (sound : Sound F body (view s)) (n : ℕ) (r : Range N n) where
    -- a node out of reach has no step ..
    out_stuck : (Reached F body (home n) → ⊥) → act units body (home n) (view s) (at n) ≡ stuck
    out_stuck out = ⊎_elim (λ a. absurd (out (active_reached F body (view s) sound (home n) fn a)))
        (λ a. still_stuck units body (home n) (view s) (at n)
        (every_node (Still (view s)) (id (at n)) (body (home n)) (sound.rest (home n) fn a)
        (sub_node (at n) (id (at n)) (body (home n)) (laid.placed n r) (node_id (at n)))))
        (active? F (view s) (home n))
      where
        fn : Fn F body (home n)
        fn = laid.home_there n r

    -- .. so one that is blocked is in reach
    blocked_reached : act units body (home n) (view s) (at n) ≡ blocked → Reached F body (home n)
    blocked_reached e =
        let moving : Still (view s) (id (at n)) → ⊥ = λ z. apart (sym (still_stuck units body (home n) (view s) (at n) z) ∙ e) in
        active_reached F body (view s) sound (home n) (laid.home_there n r)
        (stepping sound (home n) (laid.home_there n r) (at n) (laid.placed n r) moving).0
      where
        apart : stuck ≡ blocked → ⊥
        apart z = let w : ◌≡◌ {A = ℕ} 0 1 = cc in omega arith

-- the check takes both
checks_alike : (t tags tags' : List ℕ) (F N : ℕ) → check_of t ≡ accepted F N → AlikeInReach t tags tags'
    → check_with t tags ≡ check_with t tags'
checks_alike t tags tags' F N e a = (order_taken t F N e tags).1 a.order ∙ sym ((order_taken t F N e tags').1 a.order')

-- after any steps from a start
module _ (t tags args : List ℕ) (s : State512) (e : start_of t tags args ≡ started s) where
  abbrev check : check_of t ≡ accepted (functions t) (nodes t)
  check = (start_passes t tags args s e).check

  abbrev l : Laid (functions t) (nodes t) (body_of t) (expr_at t) (owner t)
  l = lay t (functions t) (nodes t) check

  abbrev state : List (Ask (List ℕ)) → State512
  state asked = (played (step_of t) s asked).state

  kept : (asked : List (Ask (List ℕ))) → Kept (arithmetic t) l (view s) (played (step_of t) s asked)
  kept asked =
      let p = start_passes t tags args s e in
      subst (λ r. Kept (arithmetic t) l (view r) (played (step_of t) r asked)) (sym p.state)
      (table_kept t (functions t) (nodes t) p.check args p.count asked)

  sound : (asked : List (Ask (List ℕ))) → Sound (functions t) (body_of t) (view (state asked))
  sound asked = (kept asked).good.sound

  -- every entry out of reach is as it was
  keeps_body : (asked : List (Ask (List ℕ))) (f : ℕ) → Fn (functions t) (body_of t) f → (Reached (functions t) (body_of t) f → ⊥)
      → KeepsBody (body_of t) (view s) (view (state asked)) f
  keeps_body asked f r out = steps_keep l.well f r out (view s) (view (state asked)) _ (sound []) (kept asked).steps

  keeps_node : (asked : List (Ask (List ℕ))) (n : ℕ) → Range (nodes t) n × (InReach t n → ⊥) → Same (view s) (view (state asked)) n
  keeps_node asked n x = (keeps_body asked (owner t n) (l.home_there n x.0) x.1).0 n (l.owned (owner t n) n x.0 refl)

  module _ (tags₁ tags₂ : List ℕ) (alike : AlikeInReach t tags₁ tags₂) where
    checks : check_with t tags₁ ≡ check_with t tags₂
    checks = checks_alike t tags₁ tags₂ (functions t) (nodes t) check alike

    abbrev After : State512 → Type 0
    After x = (asked : List (Ask (List ℕ))) × (state asked ≡ x)

    same_step : (x : State512) → After x → (n : ℕ) → step_of t tags₁ x n ≡ step_of t tags₂ x n
    unfolding step_of circuit_of
    same_step x a n =
        ap (λ c. step_after c x (circuit_of t tags₁ x n)) checks ∙ ap (step_after (check_with t tags₂) x)
        (step_tags (arithmetic t) l x (tagged tags₁) (tagged tags₂) n
        (λ r b. alike.tag n r (blocked_reached (arithmetic t) l x
        (subst (λ y. Sound (functions t) (body_of t) (view y)) a.1 (sound a.0)) n r b)))

    one_more_lem : (x : State512) → After x → (n : ℕ) → After (step_of t tags₁ x n).state
    one_more_lem x a n =
        let b : Ask (List ℕ) = record { tags = tags₁; node = n } in
        (a.0 ++ b ∷ [], played_state (step_of t) s a.0 (b ∷ []) ∙ ap (λ y. (step_of t tags₁ y n).state) a.1)

    same_asked : (asked : List (Ask (List ℕ))) → AskedAlike t tags₁ tags₂ (state asked)
    same_asked asked = asked_alike t tags₁ tags₂ checks After same_step one_more_lem (state asked) (asked, refl)

  pub spare_bodies : (asked : List (Ask (List ℕ))) → SpareBodies t s asked
  unfolding plays_of
  spare_bodies asked = record {
    still = λ n r out. out_stuck (arithmetic t) l (state asked) (sound asked) n r out;
    kept = record {
      status = λ n x. sym (keeps_node asked n x).0;
      second = λ n x. sym (keeps_node asked n x).1;
      value = λ n x. sym (keeps_node asked n x).2;
      register = λ f i x. sym ((keeps_body asked f x.0 x.1).1.1 i);
      occupant = λ f x. sym (keeps_body asked f x.0 x.1).1.0;
    };
    alike = λ tags tags' a. same_asked tags tags' a asked;
  }

-- they lack the same of the list, which main reaches
missing_alike : (t tags tags' : List ℕ) (F N : ℕ) → check_of t ≡ accepted F N → AlikeInReach t tags tags'
    → missing t tags ≡ missing t tags'
unfolding missing holds_at
missing_alike t tags tags' F N e a =
    lowest_same (holds_at (listed t) tags) (holds_at (listed t) tags') (nodes t) (λ n r. go n r (listed t n) refl)
  where
    go : (n : ℕ) → Range (nodes t) n → (b : Bool) → listed t n ≡ b → holds_at (listed t) tags n ≡ holds_at (listed t) tags' n
    go n r true l = ap (λ x. not (listed t n) || x) (a.tag n r (listed_reached t F N e n l))
    go n r false l = holds_other (listed t) tags n l ∙ sym (holds_other (listed t) tags' n l)

-- of the tags a start sees the check's verdict, and what they lack
pub spare_tags : (t tags tags' args : List ℕ) (F N : ℕ) → check_of t ≡ accepted F N → AlikeInReach t tags tags'
    → SpareTags t tags tags' args
unfolding start_of check_start
spare_tags t tags tags' args F N e a = record {
  start = ap₂ (λ c m. start_after (after c (argued m)) (opening t args)) (checks_alike t tags tags' F N e a)
      (missing_alike t tags tags' F N e a);
  holding = λ h n r l. sym (a.tag n r (listed_reached t F N e n l)) ∙ h n r l;
}
  where
    argued : ℕ → Unit {0} → Verdict
    argued m _ = stage 11 (eqb (length args) (params t (functions t))) 0 λ _. stage 26 true m λ _. accepted (functions t) (nodes t)
