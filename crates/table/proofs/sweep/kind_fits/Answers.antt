-- `sweep::kind_fits` meets its contract: each test fails, or all are those of the kind.
use native.Mathlib.Omega.{arith}
use borrow.Author.Tests.{leb-true}
use Rattle.table.proofs.RuleLaws.{fits_told}
use Rattle.table.proofs.sweep.kind_fits.Goals as goal

pub returns : goal.returns
returns c e = let p = c.requires in
    fits_told _ _ _ _ _ _ _ _ p.1 p.0 p.2 p.4 p.5 c.if-below-extra.false c.if-word-call.false
    (omega (arith, c.most_word.ensures, leb-true c.args.word c.most_word.result e))
