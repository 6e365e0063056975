-- `faults::in_scope` meets its contract, by whether d is a node, a let's child, and not its last.
use native.Mathlib.Omega.{arith}
use mathlib.Core.Path.{◌≡◌, refl, sym, ap, ◌∙◌}
use Rattle.table.specs.Bytes.{nodes, kind, next}
use Rattle.table.specs.Naming.{parent}
use Rattle.table.specs.Working.{IsNode}
use Rattle.table.proofs.ChainLoop.{parent_past, scope_root, scope_kind, scope_last, scope_let}
use Rattle.table.proofs.Family.{parent_lower, parent_zero}
use Rattle.table.proofs.faults.in_scope.Goals as goal
use Rattle.table.proofs.faults.in_scope.Lts as lts
use Rattle.table.proofs.faults.in_scope.Reads as reads
use Rattle.table.proofs.faults.in_scope.Tie as tie

abbrev AfterLast : Type 0
AfterLast = lts.After-last tie.the-claims reads.Pre reads.Post

abbrev AfterKind : Type 0
AfterKind = lts.After-kind tie.the-claims reads.Pre reads.Post

abbrev AfterNext : Type 0
AfterNext = lts.After-next tie.the-claims reads.Pre reads.Post

last : (c : AfterLast) → c.last-last.result.0 ≡ nodes c.args.table.now
last c = c.last-last.ensures ∙ c.requires.read.own 1 (omega arith)

-- d is a node; what was read of it and of its parent
abbrev Up : Type 0
Up = lts.After-parent tie.the-claims reads.Pre reads.Post

node : (c : Up) → IsNode c.args.table.now c.args.d
node c =
    (omega arith, omega (arith, last (search)))

read : (c : Up) → c.parent-p.result.0 ≡ parent c.args.table.now c.args.d
read c = c.parent-p.ensures ∙ c.requires.read.node _ 7 (node c) (omega arith)

kinded : (c : AfterKind) → c.kind.result ≡ kind c.args.table.now c.parent-p.result.0
kinded c =
    c.kind.ensures ∙ c.requires.read.node _ 0 (
      omega arith,
      omega (
        arith,
        read (search),
        (node (search)).1,
        (node (search)).0,
        parent_lower c.args.table.now c.args.d (node (search)).0,
      ),
    ) (omega arith)

nexts : (c : AfterNext) → c.next.result.0 ≡ next c.args.table.now c.args.d
nexts c = c.next.ensures ∙ c.requires.read.node _ 5 (node (search)) (omega arith)

pub returns-then-d-eq0 : goal.returns-then-d-eq0
returns-then-d-eq0 c = sym (scope_root _ _ _ _ refl (ap (parent c.args.table.now) c.if-d-eq0.true ∙ parent_zero _))

pub returns-then-last-d : goal.returns-then-last-d
returns-then-last-d c = sym (scope_root _ _ _ _ refl (parent_past _ c.requires.links _ (omega (arith, last (search)))))

pub overflow_cast-low : goal.overflow_cast-low
overflow_cast-low c = omega (arith, last (search), c.requires.framed.n_high)

pub returns-then-p-eq0 : goal.returns-then-p-eq0
returns-then-p-eq0 c = sym (scope_root _ _ _ _ (read (search)) c.if-p-eq0.true)

pub returns-then-kind-ne6 : goal.returns-then-kind-ne6
returns-then-kind-ne6 c = sym (scope_kind _ _ _ _ (read (search)) c.if-p-eq0.false (λ e. c.if-kind-ne6.true (kinded (search) ∙ e)))

pub returns-then-next-eq0 : goal.returns-then-next-eq0
returns-then-next-eq0 c = sym (scope_last _ _ _ _ (read (search)) c.if-p-eq0.false (sym (kinded (search)) ∙ c.if-kind-ne6.false)
    (sym (nexts (search)) ∙ c.if-next-eq0.true))

pub under_last-requires : goal.under_last-requires
under_last-requires c = (c.requires, omega arith)

pub returns : goal.returns
returns c = c.under_last.ensures ∙ sym (scope_let _ _ _ _ (read (search)) c.if-p-eq0.false (sym (kinded (search)) ∙ c.if-kind-ne6.false)
    (λ e. c.if-next-eq0.false (nexts (search) ∙ e)))
