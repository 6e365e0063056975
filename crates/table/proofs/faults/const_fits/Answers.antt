-- `faults::const_fits` meets its contract: below 32 bits `1 << width` is the power, from there on no word reaches it.
use Prim.Native.Nat.{◌^◌, ◌<◌}
use native.Mathlib.Omega.{arith}
use borrow.Author.Rules.{rules}
use Rattle.std.proofs.lemmas.Grind.{common_steps}
use Rattle.std.proofs.lemmas.Bool.Decides.{nat_tests}
use Rattle.table.proofs.WidthLaws.{any_word}
use Rattle.table.proofs.faults.const_fits.Goals as goal
use Rattle.table.proofs.faults.const_fits.Goals.{then-kind-ne1, else-kind-ne1}

pub returns-then-width-ge32 : goal.returns-then-width-ge32
returns-then-width-ge32 c = let small : c.args.word < 2 ^ 32 = search rules in
    elim c.if-kind-ne1.branch [
      | then-kind-ne1 w ↦ grind (arith, nat_tests, common_steps)
      | else-kind-ne1 w ↦ grind (arith, nat_tests, common_steps, any_word c.args.width c.args.word)
    ]
