-- `inspect` meets its contract: what each part of the check says, put together in the order of the refusals.
use native.Mathlib.Omega.{arith}
use mathlib.Core.Bool.{true}
use mathlib.Core.Path.{◌≡◌, refl, sym, ◌∙◌}
use Rattle.table.specs.Bytes.{functions, nodes}
use Rattle.table.specs.Find.{all, lowest}
use Rattle.table.specs.Check.{root_fits, linked, check_of}
use Rattle.table.specs.Working.{check_nodes}
use Rattle.table.proofs.FilledLaws.{filled_none, raw, all_read, sizes_filled}
use Rattle.table.proofs.SurveyLaws.{roots_refused, unlinked_refused, records_refused, nodes_checked, links_pass, refuses_at}
use Rattle.table.proofs.SurveyLaws.{refuses, accepts}
use Rattle.std.proofs.lemmas.Result.{err_from_is_err_and}
use Rattle.table.proofs.inspect.Goals as goal
use Rattle.table.proofs.inspect.Lts as lts
use Rattle.table.proofs.inspect.Reads as reads
use Rattle.table.proofs.inspect.Tie as tie

abbrev Else1 : Type 0
Else1 = lts.Else1 tie.the-claims reads.Pre reads.Post tie.handed_clauses

abbrev AfterRecords : Type 0
AfterRecords = lts.After-records_fit tie.the-claims reads.Pre reads.Post tie.handed_clauses

abbrev Else2 : Type 0
Else2 = lts.Else2 tie.the-claims reads.Pre reads.Post tie.handed_clauses

rooted : (c : Else1) → all (root_fits c.args.table.now) (functions c.args.table.now) ≡ true
rooted c =
    sym c.roots_fit.ensures ∙ c.if-not-roots_fit.false

linked_all : (c : AfterRecords) → lowest (linked c.args.table.now) (nodes c.args.table.now) ≡ 0
linked_all c =
    c.in_default.ensures

-- past the records, the check is that of the nodes
rest : (c : Else2) →
    check_of c.args.table.now ≡ check_nodes c.args.table.now
rest c =
    nodes_checked _ c.requires (rooted (search)) (linked_all (search)) (sym c.records_fit.ensures ∙ c.if-not-records_fit.false)

pub sizes-requires : goal.sizes-requires
sizes-requires c = c.requires

pub roots-requires : goal.roots-requires
roots-requires c = (c.requires, filled_none _ _ c.requires refl _ c.sizes.ensures, refl, refl)

pub roots_fit-requires : goal.roots_fit-requires
roots_fit-requires c = (c.requires, c.roots.ensures.1)

pub returns-then-not-roots_fit : goal.returns-then-not-roots_fit
returns-then-not-roots_fit c = refuses_at _ _ _ _ c.into.ensures
    (roots_refused _ c.requires (sym c.roots_fit.ensures ∙ c.if-not-roots_fit.true))

pub links-requires : goal.links-requires
links-requires c = (c.requires, c.roots.ensures.0.mentioned, refl, c.roots.ensures.1)

pub lowest_unlinked-requires : goal.lowest_unlinked-requires
lowest_unlinked-requires c = (c.requires, raw _ _ c.requires _ c.links.ensures.1, c.links.ensures.0.counts, c.roots.ensures.0.tops)

pub returns-in-Some : goal.returns-in-Some
returns-in-Some c = let found = c.in-Some.ensures in
    refuses _ _ _ (unlinked_refused _ c.requires _ (rooted (search)) (sym found.0) (λ z. omega (arith, found.1)))

pub records_fit-requires : goal.records_fit-requires
records_fit-requires c = (c.requires, raw _ _ c.requires _ c.links.ensures.1)

pub returns-then-not-records_fit : goal.returns-then-not-records_fit
returns-then-not-records_fit c = refuses_at _ _ _ _ c.into-then-not-records_fit.ensures
    (records_refused _ c.requires (rooted (search)) (linked_all (search))
    (sym c.records_fit.ensures ∙ c.if-not-records_fit.true))

pub collect-tails-requires : goal.collect-tails-requires
collect-tails-requires c = (c.requires, c.roots.ensures.0.tops, c.links.ensures.0.holders, c.links.ensures.1)

pub lowest-requires : goal.lowest-requires
lowest-requires c = (
  c.requires,
  links_pass _ c.requires (rooted (search)) (linked_all (search)),
  all_read _ _ c.requires c.collect-tails.ensures.1,
  c.collect-tails.ensures.0,
)

pub returns-in_err-lowest : goal.returns-in_err-lowest
returns-in_err-lowest c = let p = err_from_is_err_and c.from_residual.result c.from_residual.ensures.1 in
    rw (p.1, p.2) (refuses _ _ _ (rest (search) ∙ sym c.in_err-lowest.ensures))

pub recall-requires : goal.recall-requires
recall-requires c = (
  c.requires,
  all_read _ _ c.requires c.collect-tails.ensures.1,
  links_pass _ c.requires (rooted (search)) (linked_all (search)),
)

pub returns : goal.returns
returns c = let size = sizes_filled _ _ c.requires _ _ _ c.collect-tails.ensures.1 in
    accepts _ _ _ (rest (search) ∙ sym c.in_ok-lowest.ensures)
    (c.main.ensures ∙ size 0 (omega arith))
    (c.last.ensures ∙ size 1 (omega arith)) c.recall.ensures
