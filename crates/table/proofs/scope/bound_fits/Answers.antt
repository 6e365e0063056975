-- `scope::bound_fits` meets its contract: each test fails, or the let of the definiens is found.
use native.Mathlib.Omega.{arith}
use Prim.Native.Nat.{ℕ, ◌≤◌, ◌<◌}
use mathlib.Core.Path.{◌≡◌, subst, ◌∙◌}
use lib.Dec.{T}
use Rattle.table.specs.Naming.{parent, in_scope}
use Rattle.table.specs.Working.{IsNode}
use Rattle.table.proofs.Tests.{never}
use Rattle.table.proofs.Family.{parent_lower}
use Rattle.table.proofs.HandLaws.{kin_parent}
use Rattle.table.proofs.ScopeLaws.{is_let_lem, in_scope_lem}
use Rattle.table.proofs.SiftLaws.{down_let}
use Rattle.table.proofs.scope.bound_fits.Goals as goal
use Rattle.table.proofs.scope.bound_fits.Lts as lts
use Rattle.table.proofs.scope.bound_fits.Reads as reads
use Rattle.table.proofs.scope.bound_fits.Tie as tie

abbrev AfterParent : Type 0
AfterParent = lts.After-parent tie.the-claims reads.Pre reads.Post

-- the word is a node's number
abbrev Inside : Type 0
Inside = lts.Else2 tie.the-claims reads.Pre reads.Post

module _ (c : Inside) where
  abbrev d : ℕ
  d = c.word-word.result

  node : IsNode c.args.table.now d
  node = (c.if-word-lt1.false, omega (arith, c.if-last-word.false, c.requires.1))

-- and its parent is read
module _ (c : AfterParent) where
  up : c.parent-p.result.0 ≡ parent c.args.table.now (d (search))
  up = c.parent-p.ensures ∙ kin_parent _ c.requires.0.framed _ (node (search)) _ (c.requires.3.each (d (search)) (node (search)))

  above : c.parent-p.result.0 < d (search)
  above = omega (arith, up, parent_lower c.args.table.now (d (search)) (node (search)).0)

  inside : c.parent-p.result.0 ≤ 512
  inside = omega (arith, above, (node (search)).1, c.requires.0.framed.n_high)

pub returns-then-word-lt1 : goal.returns-then-word-lt1
returns-then-word-lt1 c = never

pub returns-then-last-word : goal.returns-then-last-word
returns-then-last-word c = never

pub returns-then-p-eq0 : goal.returns-then-p-eq0
returns-then-p-eq0 c = never

pub bounds-offspring-p : goal.bounds-offspring-p
bounds-offspring-p c = omega (arith, inside (search))

pub returns-then-offspring-p-eq0 : goal.returns-then-offspring-p-eq0
returns-then-offspring-p-eq0 c = never

pub returns-then-next-eq0 : goal.returns-then-next-eq0
returns-then-next-eq0 c = never

pub returns : goal.returns
returns c e = let t = c.args.table.now in
    let p = c.parent-p.result.0 in
    let told = down_let t p (inside (search)) _ (c.requires.4.told p (omega (arith, above (search), (node (search)).1))) in
    subst (λ m. T (in_scope t m c.args.n.0)) c.word-word.ensures
    (in_scope_lem t (d (search)) c.args.n.0 p (up (search)) c.if-p-eq0.false (is_let_lem t p (λ z. c.if-offspring-p-eq0.false (told ∙ z)))
    (λ z. c.if-next-eq0.false (c.next.ensures ∙ z)) (c.reaches.ensures e c.if-p-eq0.false))
