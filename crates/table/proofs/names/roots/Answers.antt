use native.Mathlib.Omega.{arith}
use mathlib.Core.Path.{◌≡◌, refl, sym, ◌∙◌}
use Prim.Native.Nat.{◌<◌}
use Rattle.table.specs.Bytes.{functions, function_at, params, root}
use Rattle.table.specs.Working.{IsFunction, Filled}
use Rattle.table.proofs.FilledLaws.{function_filled}
use Rattle.table.proofs.NameLoops.{roots_none, roots_all}
use Rattle.table.proofs.Turns.{back, function_turn, roots_turn}
use Rattle.table.proofs.names.roots.Goals as goal
use Rattle.table.proofs.names.roots.Lts as lts
use Rattle.table.proofs.names.roots.Reads as reads
use Rattle.table.proofs.names.roots.Tie as tie

abbrev AfterFunction : Type 0
AfterFunction = lts.After-function tie.the-claims reads.Pre reads.Post goal.the-invariant-loop-f goal.the-decreases-loop-f

abbrev AfterRoot : Type 0
AfterRoot = lts.After-root tie.the-claims reads.Pre reads.Post goal.the-invariant-loop-f goal.the-decreases-loop-f

abbrev Turn : Type 0
Turn = lts.In-loop tie.the-claims reads.Pre reads.Post goal.the-invariant-loop-f goal.the-decreases-loop-f

-- a turn: f is a function, and its slot is filled
module _ (c : Turn) where
  function : IsFunction c.args.table.now c.loop-f.f
  function = (omega arith, omega arith)

-- a parameter count is a byte
small : (c : Turn) → params c.args.table.now c.loop-f.f < 256
unfolding params
small c = omega (arith, c.shared_slice_known-1.given (function_at c.loop-f.f))

filled : (c : AfterFunction)
    → Filled c.args.table.now c.loop-f.f 0 0 c.function.new.cells
filled c =
    function_turn _ _ _ _ (omega arith) refl (omega (arith, (function (search)).1, c.requires.0.f_high)) c.loop-f.invariant.1
    (small (search)) _ c.function.ensures

root_read : (c : AfterRoot) →
    c.root-root.result.0 ≡ root c.args.table.now c.loop-f.f
root_read c =
    c.root-root.ensures ∙ function_filled _ _ _ _ _ (filled (search)) _ 2 (omega arith) (omega arith)
    (omega (arith, (function (search)).1, c.requires.0.f_high)) (omega arith)

pub loop-f-init : goal.loop-f-init
loop-f-init c = (roots_none _ _ _ c.requires.2 c.requires.3, c.requires.1)

pub function-requires : goal.function-requires
function-requires c = (c.requires.0, function (search))

pub overflow_add-mentions : goal.overflow_add-mentions
overflow_add-mentions c = omega (arith, c.loop-f.invariant.0.few c.slot-at.result, (function (search)).1, c.requires.0.f_high)

pub loop-f-preserved : goal.loop-f-preserved
loop-f-preserved c = (
  roots_turn _ _ (omega arith) (omega arith) _ _ _ _ _ c.loop-f.invariant.0 (root_read (search)) c.slot-at.ensures.0,
  rw back (filled (search)),
)

pub returns-2 : goal.returns-2
returns-2 c = let e : c.loop-f.f ≡ functions c.args.table.now = omega arith in
    let turned = roots_turn _ _ (omega arith) (sym e) _ _ _ _ _ c.loop-f.invariant.0 (root_read (search)) c.slot-at.ensures.0 in
    (roots_all _ _ _ c.requires.0 turned, rw e at (filled (search)))
