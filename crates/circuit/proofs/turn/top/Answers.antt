-- `turn::top` meets its contract: main's root is a node.
use Rattle.std.proofs.Common.{sym, ap, ◌∙◌, subst, arith}
use Rattle.table.specs.Bytes.{functions, root}
use Rattle.table.specs.Working.{IsFunction}
use Rattle.table.proofs.Reading.{told_main, told_root}
use Rattle.circuit.proofs.ChainLaws.{ok}
use Rattle.circuit.proofs.turn.top.Goals as goal

pub returns : goal.returns
returns c = let p = ok _ c.args.design.now.read.taken in
    let f = told_main _ _ c.args.design.now.read _ c.main-main.ensures in
    let t = c.args.design.now.table.now in
    let i : IsFunction t (functions t) = (p.f_low, omega arith) in
    let e = told_root _ _ c.args.design.now.read _ (subst (IsFunction t) (sym f) i) _ c.root.ensures ∙ ap (root t) f in
    let r = p.linking.roots _ i in
    (e, omega (arith, e, r.1, p.n_high), omega (arith, e, r.0))
