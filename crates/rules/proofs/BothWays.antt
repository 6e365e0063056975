-- two steps of the circuit on lists, not both entering one resource: either order is taken, and the ends are equal
use Prim.Native.Nat.{ℕ}
use mathlib.Core.Bool.{Bool}
use mathlib.Core.Path.{◌≡◌, refl, subst, sym, ap, ◌∙◌}
use mathlib.Core.Logic.{⊎_elim}
use borrow.Author.Tests.{ne_eqb}
use Rattle.table.specs.Syntax.{Expr, id}
use Rattle.table.specs.Pick.{pick, Range}
use Rattle.table.specs.Well.{Laid}
use Rattle.table.proofs.SyntaxLaws.{every_node}
use Rattle.rules.specs.Arithmetic.{Arithmetic}
use Rattle.rules.specs.State.{State512, view}
use Rattle.rules.specs.Step.{Move, taken, answered, Stepped, outcome, perform}
use Rattle.rules.proofs.LaidFacts.{fn_main, own_node}
use Rattle.rules.proofs.Shape.{Still}
use Rattle.rules.proofs.Frame.{Same}
use Rattle.rules.proofs.Moves.{still_same}
use Rattle.rules.proofs.Performed.{Fair, Does}
use Rattle.rules.proofs.Answers.{all_still}
use Rattle.rules.proofs.StepFacts.{Good, step, moved_does, moved_good, step_outcome}
use Rattle.rules.proofs.Touches.{Writes, writes?, keeps_node}
use Rattle.rules.proofs.Commute.{outside, moves_commute}
use Rattle.rules.proofs.Mover.{Mover, mover, node_at_lem, moving}
use Rattle.rules.proofs.MoversApart.{Movers, swap, expression_kept, Calm, calm_swap, keeps_move, writes_apart, alters_apart}

-- a step that is taken, and no answer
abbrev pub went : State512 → Stepped
went s = record { answer = taken; state = s }

-- main's root isn't done ..
abbrev Unfinished : ℕ → (ℕ → Expr) → State512 → Type 0
Unfinished F body s = (view s).status (id (body F)) ≡ 3 → ⊥

-- .. which holds while a node is under way
unfinished : {F N : ℕ} {body at : ℕ → Expr} {home : ℕ → ℕ} (laid : Laid F N body at home) (s : State512) → Good F body s
    → (n : ℕ) → Range N n → (Still (view s) n → ⊥) → Unfinished F body s
unfinished {body = body} {home = home} laid s good n r m e = m (every_node (Still (view s)) n (body (home n))
    (all_still (view s) good.sound (fn_main laid) e (home n) (laid.home_there n r)) (own_node laid (home n) n r refl))

-- both orders: the state after a, after b, and after both
pub record BothWays (units : Arithmetic) {F N : ℕ} {body at : ℕ → Expr} {home : ℕ → ℕ} (laid : Laid F N body at home) (tags : ℕ → Bool)
    (s : State512) (a b : ℕ) : Type 0 where
  pub after_a : State512
  pub after_b : State512
  pub after_both : State512
  pub a_first : step units laid tags s a ≡ went after_a
  pub b_second : step units laid tags after_a b ≡ went after_both
  pub b_first : step units laid tags s b ≡ went after_b
  pub a_second : step units laid tags after_b a ≡ went after_both

module _ {units : Arithmetic} {F N : ℕ} {body at : ℕ → Expr} {home : ℕ → ℕ} {laid : Laid F N body at home} where
  -- a move after which main's root isn't done is taken, and is all that changes
  pub moved : (tags : ℕ → Bool) (s : State512) → Good F body s → {n : ℕ} {x : Move} → Mover units laid (view s) n x
      → Unfinished F body (perform N home body s n x) → step units laid tags s n ≡ went (perform N home body s n x)
  moved tags s good {n} {x} p e =
      let next = perform N home body s n x in
      let d = ne_eqb ((view next).status (id (body F))) 3 e in
      step_outcome units laid tags s good n p.there (unfinished laid s good n p.there (moving p))
      ∙ ap (outcome units F N body at home tags s n) p.moves
      ∙ (λ i. record { answer = pick (d i) (answered ((view next).value (id (body F)))) taken; state = next })

  module _ (s : State512) (good : Good F body s) where
    -- after the move of a ..
    module _ {a b : ℕ} {x y : Move} (h : Movers units laid (view s) a b x y) where
      abbrev sa : State512
      sa = perform N home body s a x

      pub does_a : Fair F N home body a x × Does N home body (view s) (view sa) a x
      does_a = moved_does units laid s good.sized a h.one.there x h.one.moves

      pub good_a : Good F body sa
      good_a = moved_good units laid s good a h.one.there x h.one.moves

      -- .. b is under way still
      pub unfinished_a : Unfinished F body sa
      unfinished_a = unfinished laid sa good_a b h.other.there
          (λ z. moving h.other (still_same (view sa) (view s) b (sym kept.0, sym kept.1, sym kept.2) z))
        where
          kept : Same (view s) (view sa) b
          kept = expression_kept h (view sa) does_a.1 b (node_at_lem h.other)

      -- and where the two don't both enter one resource, b has the move that it had
      module _ (calm : Calm x y) where
        b_moves : Mover units laid (view sa) b y
        b_moves = mover good_a.sound h.other.there (keeps_move h calm (view sa) does_a.1)

        -- nor is the root done after both, where b doesn't write it
        unfinished_both : (Writes N home b y (id (body F)) → ⊥) → Unfinished F body (perform N home body sa b y)
        unfinished_both k e =
            let d = (moved_does units laid sa good_a.sized b h.other.there y b_moves.moves).1 in
            unfinished_a (sym (keeps_node N home body (view sa) (view (perform N home body sa b y)) b y d (id (body F)) k).0 ∙ e)

    pub both_ways : (tags : ℕ → Bool) {a b : ℕ} {x y : Move} → Movers units laid (view s) a b x y → Calm x y
        → BothWays units laid tags s a b
    both_ways tags {a} {b} {x} {y} h calm = record {
      after_a = sa h;
      after_b = sa (swap h);
      after_both = sab;
      a_first = moved tags s good h.one (unfinished_a h);
      b_second = moved tags (sa h) (good_a h) (b_moves h calm) unfinished_end;
      b_first = moved tags s good h.other (unfinished_a (swap h));
      a_second = moved tags (sa (swap h)) (good_a (swap h)) (b_moves (swap h) turned) (subst (Unfinished F body) same unfinished_end)
          ∙ ap went (sym same);
    }
      where
        turned : Calm y x
        turned = calm_swap x y calm

        sab : State512
        sab = perform N home body (sa h) b y

        same : sab ≡ perform N home body (sa (swap h)) a x
        same = moves_commute F N home body laid.functions laid.nodes a b x y h.one.there h.other.there
            (does_a h).0 (does_a (swap h)).0 (writes_apart h calm) (alters_apart h calm) s good.sized

        -- one of the two doesn't write main's root
        unfinished_end : Unfinished F body sab
        unfinished_end = ⊎_elim (λ k. subst (Unfinished F body) (sym same) (unfinished_both (swap h) turned k)) (unfinished_both h calm)
            (outside (writes? N home a x (id (body F))) (writes_apart h calm (id (body F))))
