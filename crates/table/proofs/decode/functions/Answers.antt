use native.Mathlib.Omega.{arith}
use Prim.Native.Nat.{ℕ}
use mathlib.Core.Path.{◌≡◌, refl, sym, ap, ◌∙◌}
use Rattle.table.specs.Decoded.{put_numbers, function_slot, function_number, functions_put}
use Rattle.table.proofs.Turns.{functions_turn}
use Rattle.table.proofs.decode.functions.Goals as goal
use Rattle.table.proofs.decode.functions.Lts as lts
use Rattle.table.proofs.decode.functions.Reads as reads
use Rattle.table.proofs.decode.functions.Tie as tie

abbrev Turned : Type 0
Turned = lts.After-function tie.the-claims reads.Pre reads.Post goal.the-invariant-loop-f goal.the-decreases-loop-f

-- function f is put after those below it
turned : (c : Turned) (m : ℕ) → m ≡ c.loop-f.f → c.function.new.cells ≡ functions_put c.args.table.now m c.args.cells.now
turned c m e =
    let t = c.args.table.now in
    let f = c.loop-f.f in
    c.function.ensures ∙ ap (put_numbers 2 (function_slot f) (function_number t f)) c.loop-f.invariant
    ∙ sym (functions_turn t c.args.cells.now f m (omega arith) e)

pub loop-f-init : goal.loop-f-init
unfolding functions_put
loop-f-init c = refl

pub function-requires : goal.function-requires
function-requires c = (c.requires.0, (omega arith, omega arith))

pub loop-f-preserved : goal.loop-f-preserved
loop-f-preserved c = turned (search) _ (omega arith)

pub returns-2 : goal.returns-2
returns-2 c = turned (search) _ (omega arith)
