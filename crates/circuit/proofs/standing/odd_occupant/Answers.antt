-- `standing::odd_occupant` meets its contract: some occupant up to F is over N.
use Rattle.std.proofs.Common.{◌≡◌, ◌≤◌, ltb, take, length, ◌∙◌, ap₂, arith, rules}
use Rattle.std.specs.List.{list_any}
use Rattle.std.proofs.lemmas.Iterator.{YieldsList-from_slice}
use Rattle.std.proofs.lemmas.Iterator.Search.{any_from_yields_List}
use borrow.Author.Tests.{tests}
use Rattle.table.proofs.Reading.{told_main, told_last}
use Rattle.rules.specs.Step.{over}
use Rattle.circuit.proofs.ChainLaws.{ok}
use Rattle.circuit.proofs.StandsLaws.{over_any}
use Rattle.circuit.proofs.standing.odd_occupant.Goals as goal

pub shared_ref_as_front-iter : goal.shared_ref_as_front-iter
shared_ref_as_front-iter c = omega (
  arith,
  told_main _ _ c.args.design.now.read _ c.main-main.ensures,
  (ok _ c.args.design.now.read.taken).f_high,
)

pub returns : goal.returns
returns c = let n = c.last-last.result.0 in
    let f = c.main-main.result.0 in
    let l = c.args.occupant.now in
    let some : c.any.result ≡ list_any (ltb n) (take f l) =
    any_from_yields_List (ltb n) _ _ c.any.result c.any.ensures.ran (YieldsList-from_slice (take f l) cc)
    (λ x b q k. search (rules, tests)) in
    let few : f ≤ length l = omega (
      arith,
      told_main _ _ c.args.design.now.read _ c.main-main.ensures,
      (ok _ c.args.design.now.read.taken).f_high,
    ) in
    some ∙ over_any n f l few ∙ ap₂ (λ x y. over x y l) (told_last _ _ c.args.design.now.read _ c.last-last.ensures)
    (told_main _ _ c.args.design.now.read _
    c.main-main.ensures)
