-- `begin::open_main` meets its contract.
use Rattle.std.proofs.Common.{◌≡◌, replicate, sym, ap, ◌∙◌, subst, arith}
use Rattle.table.specs.Bytes.{functions, root}
use Rattle.table.specs.Working.{IsFunction}
use Rattle.rules.specs.Arithmetic.{keep_all, arithmetic}
use Rattle.rules.specs.State.{fill}
use Rattle.circuit.proofs.ChainLaws.{ok}
use Rattle.circuit.proofs.BeginLaws.{start_is}
use Rattle.circuit.proofs.begin.open_main.Goals as goal
use Rattle.circuit.proofs.begin.open_main.Lts as lts
use Rattle.circuit.proofs.begin.open_main.Reads as reads
use Rattle.circuit.proofs.begin.open_main.Tie as tie

abbrev AfterFunctions : Type 0
AfterFunctions = lts.After-functions tie.the-claims reads.Pre reads.Post

abbrev AfterRoot : Type 0
AfterRoot = lts.After-root tie.the-claims reads.Pre reads.Post

main_in : (c : AfterFunctions) → IsFunction c.args.table.now (functions c.args.table.now)
main_in c = ((ok _ c.requires).f_low, omega arith)

top : (c : AfterRoot) → let t = c.args.table.now in c.root-root.result.0 ≡ root t (functions t)
top c =
    c.root-root.ensures ∙ ap (root c.args.table.now) c.functions-main.ensures

pub set_status-requires : goal.set_status-requires
set_status-requires c = let p = ok _ c.requires in
    omega (arith, top (search), (p.linking.roots _ (main_in (search))).1, p.n_high)

pub fill_main-requires : goal.fill_main-requires
fill_main-requires c = (c.requires, subst (IsFunction _) (sym c.functions-main.ensures) (main_in (search)))

pub returns : goal.returns
returns c = start_is _ c.args.args.now c.requires _ _ _ (top (search)) c.set_status.ensures
    (c.fill_main.ensures ∙ ap (λ f. fill f (keep_all (arithmetic c.args.table.now) f c.args.args.now) (replicate 256 0))
    c.functions-main.ensures)
