-- `sweep::node` meets its contract: it fails, or all is read, and is handed down.
use native.Mathlib.Omega.{arith}
use Prim.Native.Nat.{◌+◌, ◌-◌, ◌*◌, ◌/◌, ◌%◌, ◌≤◌, ◌<◌}
use mathlib.Core.Path.{◌≡◌, sym, subst, ap, ap₂, ◌∙◌}
use lib.Dec.{eqb, leb}
use lib.ListN.{get_or}
use Rattle.table.specs.Find.{one}
use Rattle.table.specs.Bytes.{next}
use Rattle.table.specs.Naming.{owner, parent, tail}
use Rattle.table.specs.Working.{IsNode, IsFunction}
use Rattle.table.specs.declared.kinds.Rule.{Rule}
use Rattle.table.specs.Sweep.{rule_of, rank, around, down_of, KindFits, Whole, Siftable}
use Rattle.table.proofs.Family.{owner_few, parent_lower}
use Rattle.table.proofs.HandEnd.{params_few}
use Rattle.table.proofs.RuleLaws.{one_yes, one_most, flag_times, rule_small}
use Rattle.table.proofs.SiftLaws.{scope_told, down_told, down_around, down_let, down_from, tail_told, wants_here, fits_here}
use Rattle.table.proofs.HandLaws.{kin_owner, kin_parent, kin_rank, rank_small}
use Rattle.table.proofs.sweep.node.Goals as goal
use Rattle.table.proofs.sweep.node.Lts as lts
use Rattle.table.proofs.sweep.node.Reads as reads
use Rattle.table.proofs.sweep.node.Tie as tie

abbrev AfterInnermost : Type 0
AfterInnermost = lts.After-innermost tie.the-claims reads.Pre reads.Post

-- what a place past the end holds
abbrev none : Rule
none = record { extras = 0; parameter = 0; call = 0; reach = 0; bound = 0; primitive = 0; words = 0; counts = 0 }

-- what was read of the node, and that it is a last child
abbrev Read : Type 0
Read = lts.After-ending tie.the-claims reads.Pre reads.Post

module _ (c : Read) where
  abbrev node : Siftable c.args.table.now c.args.base c.args.n.0 c.args.own
  node = c.requires.0

  is : IsNode c.args.table.now c.args.n.0
  is = (node.place.low, node.place.high)

  small : c.args.n.0 ≤ 512
  small = omega (arith, is.1, node.place.framed.n_high)

  kinds : c.kind-kind.result < 8
  kinds = omega (arith, c.if-kind-gt7.false)

  -- its kind's rule
  abbrev rule : Rule
  rule = get_or c.args.rules.now c.kind-kind.result none

  ruled : rule ≡ rule_of c.kind-kind.result
  ruled = c.requires.1 _ _ kinds

  owns : c.owner-owner.result.0 ≡ owner c.args.table.now c.args.n.0
  owns = c.owner-owner.ensures ∙ kin_owner _ node.place.framed _ is _ node.kin

  ranks : c.args.own / 65536 ≡ rank c.args.table.now c.args.n.0
  ranks = kin_rank _ node.place.framed _ is _ node.kin

  ranked : rank c.args.table.now c.args.n.0 ≤ 512
  ranked = omega (arith, rank_small c.args.table.now c.args.n.0 c.args.n.0 (omega arith) is.0, small)

  function : IsFunction c.args.table.now c.owner-owner.result.0
  function = subst (IsFunction _) (sym owns) (node.owned, owner_few _ _)

  end_told : c.ending-end.result ≡ one (eqb (next c.args.table.now c.args.n.0) 0)
  end_told = c.ending-end.ensures ∙ ap (λ m. one (eqb m 0)) c.next.ensures

  end_most : c.ending-end.result ≤ 1
  end_most = omega (arith, end_told, one_most (eqb (next c.args.table.now c.args.n.0) 0))

  -- what its parent handed down
  up : c.args.own / 64 % 1024 ≡ parent c.args.table.now c.args.n.0
  up = kin_parent _ node.place.framed _ is _ node.kin

  up_small : parent c.args.table.now c.args.n.0 ≤ 512
  up_small = omega (arith, parent_lower c.args.table.now c.args.n.0 is.0, small)

  abbrev Inherits : Type 0
  Inherits = c.args.inherited ≡ down_of c.args.table.now (parent c.args.table.now c.args.n.0)

  ends_let : c.ending-end.result * (c.args.inherited / 1024 % 2) ≤ 1
  ends_let = omega (arith, flag_times c.ending-end.result (c.args.inherited / 1024 % 2) (omega arith), end_most)

-- and of its function, with its tail position
abbrev Fitting : Type 0
Fitting = lts.After-highest tie.the-claims reads.Pre reads.Post

tail_known : (p : Fitting) → Whole p.args.table.now → Inherits (search)
    → p.tail_at-tail.result ≡ one (tail p.args.table.now p.args.n.0)
tail_known p w e =
    p.tail_at-tail.ensures
    ∙ ap₂ (λ x y. one (leb x y)) (down_from _ _ (up_small (search)) _ e) (ap₂ (λ x y. x + 1024 * y) (ranks (search)) (end_told (search)))
    ∙ tail_told _ (node (search)).place.framed w.links _ (is (search)) w.counts

tail_most : (p : Fitting) → p.tail_at-tail.result ≤ 1
tail_most p = omega (
  arith,
  p.tail_at-tail.ensures,
  one_most (leb (p.args.inherited / 2048) (p.args.own / 65536 + 1024 * p.ending-end.result)),
)

params_told : (p : Fitting) → p.params-params.result ≤ 8
params_told p = omega (arith, p.params-params.ensures, params_few _ (node (search)).roots _ (function (search)))

-- and that it is a call or none
abbrev Called : Type 0
Called = lts.Else2 tie.the-claims reads.Pre reads.Post

module _ (k : Called) where
  abbrev start : Read
  start = search

  fits : KindFits k.kind-kind.result k.extra-extra.result k.word-word.result k.owner-owner.result.0
      k.params-params.result (k.highest-most.result + 1) k.tail_at-tail.result
  fits = k.kind_fits.ensures (k.if-not-kind_fits.false)

  call : (rule start).call ≡ one (eqb k.kind-kind.result 4)
  call = ap (λ r. r.call) (ruled start)

  call_yes : k.kind-kind.result ≡ 4 → (rule start).call ≡ 1
  call_yes e = call ∙ ap (λ x. one (eqb x 4)) e

  callee : (rule start).call ≡ 1 → IsFunction k.args.table.now k.word-word.result
  callee e = let i = fits.callee (one_yes _ 4 (sym call ∙ e)) in (i.0, omega (arith, i.1, (function start).1))

-- what is around it
module _ (c : AfterInnermost) where
  abbrev r : Read
  r = search

  around_told : Inherits r → c.innermost-scope.result.0 ≡ around c.args.table.now c.args.n.0
  around_told e =
      c.innermost-scope.ensures
      ∙ scope_told _ _ _ _ _ _ (is r).0 (c.let_in.ensures ∙ down_around _ _ (up_small r) _ e) (c.parent.ensures ∙ up r)
      (end_told r) (down_let _ _ (up_small r) _ e)

  scope_small : c.innermost-scope.result.0 < 2048
  scope_small =
      let b = r.ending-end.result * (c.args.inherited / 1024 % 2) in
      omega (
        arith,
        c.innermost-scope.ensures,
        c.let_in.ensures,
        c.parent.ensures,
        flag_times c.let_in.result.0 (1 - b) (omega arith),
        flag_times c.parent.result.0 b (ends_let r),
      )

abbrev fitted_at : AfterInnermost → Fitting
fitted_at c = search

abbrev read_at : AfterInnermost → Read
read_at c = r (search)

pub overflow_mul-end : goal.overflow_mul-end
overflow_mul-end c = record { fits = omega (arith, end_most (search)) }

pub overflow_add-own : goal.overflow_add-own
overflow_add-own c = record { fits = omega (arith, end_most (search), ranks (search), ranked (search)) }

pub params-params-requires : goal.params-params-requires
params-params-requires c = ((node (search)).place.framed, function (search))

pub highest-most-requires : goal.highest-most-requires
highest-most-requires c = ((node (search)).place.framed, (node (search)).roots, function (search))

pub kind_fits-requires : goal.kind_fits-requires
kind_fits-requires c = let f = function (search) in
    (ruled (search), kinds (search), f.0, omega (arith, f.1, (node (search)).place.framed.f_high), params_told (search), tail_most (search))

pub arguments-args-requires : goal.arguments-args-requires
arguments-args-requires c = let r = start (search) in
    ((node r).place.framed, callee (search))

pub overflow_mul-body : goal.overflow_mul-body
overflow_mul-body c = record { fits = omega (arith, ends_let (search)) }

pub innermost-scope-requires : goal.innermost-scope-requires
innermost-scope-requires c = (omega (arith, c.let_in.ensures), omega (arith, c.parent.ensures), ends_let (search))

pub overflow_add-down : goal.overflow_add-down
overflow_add-down c = let r = read_at (search) in
    record { fits = omega (arith, (rule_small _ _ (ruled r)).reach) }

pub overflow_mul-down : goal.overflow_mul-down
overflow_mul-down c = record { fits = omega (arith, tail_most (fitted_at (search))) }

pub overflow_sub-down : goal.overflow_sub-down
overflow_sub-down c = omega (arith, tail_most (fitted_at (search)))

pub overflow_mul-down-2 : goal.overflow_mul-down-2
overflow_mul-down-2 c = let r = read_at (search) in
    record { fits = omega (arith, (rule_small _ _ (ruled r)).reach) }

pub overflow_add-down-2 : goal.overflow_add-down-2
overflow_add-down-2 c = let r = read_at (search) in
    record { fits = omega (arith, scope_small (search), (rule_small _ _ (ruled r)).reach) }

pub wants-requires : goal.wants-requires
wants-requires c = let r = start (search) in (
  ruled r,
  (fits (search)).small,
  λ e. omega (
    arith,
    c.arguments-args.ensures.0 (call_yes (search) e),
    params_few _ (node r).roots _ (callee (search) (call_yes (search) e)),
  ),
  λ e. c.arguments-args.ensures.1 (λ z. e (one_yes _ 4 (sym (call (search)) ∙ z))),
)

pub returns : goal.returns
returns c = let p = fitted_at (search) in
    let tail = c.tail_at-tail.result in
    let scope = c.innermost-scope.result.0 in
    record {
      ending = tail;
      fits = fits_here _ _ _ _ _ _ _ _ _ c.kind-kind.ensures c.extra-extra.ensures c.word-word.ensures (owns (search))
          c.params-params.ensures p.highest-most.ensures (fits (search));
      heir = λ w e. (
        tail_known p w e,
        ap (λ x. scope + 1024 * (x + 4096 - 4096 * tail)) (ap (λ r. r.reach) (ruled (search)))
            ∙ down_told _ _ scope c.kind-kind.result tail (is (search)).0 (around_told (search) e) c.kind-kind.ensures (tail_known p w e),
      );
      bound = ap (λ r. r.bound) (ruled (search)) ∙ ap (λ x. one (eqb x 7)) c.kind-kind.ensures;
      counts = wants_here _ _ _ _ _ _ _ c.kind-kind.ensures c.extra-extra.ensures c.word-word.ensures
          (λ e. c.arguments-args.ensures.0 (call_yes (search) e)) c.wants.ensures;
    }
