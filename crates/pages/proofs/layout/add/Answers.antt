-- `layout::add` meets its contract, by whether the call has room on the page.
use Prim.Native.Nat.{◌+◌, ◌<◌}
use mathlib.Core.Path.{ap}
use native.Mathlib.Omega.{arith}
use Rattle.pages.specs.Working.{number_of}
use Rattle.pages.proofs.RowLaws.{due_few}
use Rattle.pages.proofs.StandsLaws.{stands_on, stands_new}
use Rattle.pages.proofs.layout.add.Goals as goal
use Rattle.pages.proofs.layout.add.Lts as lts
use Rattle.pages.proofs.layout.add.Reads as reads
use Rattle.pages.proofs.layout.add.Tie as tie

abbrev Else1 : Type 0
Else1 = lts.Else1 tie.the-claims reads.Pre reads.Post

-- where the call has no room, there is a page more
new_page : (c : Else1) → c.args.w.pages < 24
new_page c =
    c.requires.more (omega (arith, c.if-row-end.false, c.due.ensures))

pub overflow_mul-end : goal.overflow_mul-end
overflow_mul-end c = omega (arith, c.requires.paged)

pub overflow_add-row : goal.overflow_add-row
overflow_add-row c = omega (arith, c.requires.within, c.requires.paged, c.due.ensures, due_few (number_of c.args.w.last) c.args.r.callee.0)

pub call-requires : goal.call-requires
call-requires c = omega (arith, c.if-row-end.true, c.requires.paged)

pub overflow_add-rows : goal.overflow_add-rows
overflow_add-rows c = omega (arith, c.if-row-end.true, c.requires.paged)

pub returns-then-row-end : goal.returns-then-row-end
returns-then-row-end c = λ all rest text₀ s.
    stands_on all rest text₀ _ _ _ s _ (ap (λ k. c.args.w.rows + k) c.due.ensures) c.if-row-end.true _ c.call.ensures

pub begin-requires : goal.begin-requires
begin-requires c = new_page (search)

pub overflow_add-end : goal.overflow_add-end
overflow_add-end c = omega (arith, c.requires.paged)

pub call-requires-2 : goal.call-requires-2
call-requires-2 c = omega (arith, new_page (search))

pub overflow_add-pages : goal.overflow_add-pages
overflow_add-pages c = omega (arith, c.requires.paged)

pub overflow_add-rows-2 : goal.overflow_add-rows-2
overflow_add-rows-2 c = omega (arith, c.requires.paged)

pub returns : goal.returns
returns c = λ all rest text₀ s.
    stands_new all rest text₀ _ _ _ s (omega (arith, c.if-row-end.false, c.due.ensures)) _ _ c.begin.ensures c.call-2.ensures
