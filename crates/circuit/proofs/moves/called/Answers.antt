-- `moves::called` meets its contract, by whether the root is below the call.
use Rattle.std.proofs.Common.{◌≡◌, refl, arith}
use Rattle.table.specs.Bytes.{root}
use Rattle.table.proofs.Reading.{told_root}
use Rattle.circuit.proofs.ChainLaws.{ok}
use Rattle.circuit.proofs.FollowLaws.{enters_so, follows_none}
use Rattle.circuit.proofs.NextLaws.{renewed_first}
use Rattle.circuit.proofs.moves.called.Goals as goal
use Rattle.circuit.proofs.moves.called.Lts as lts
use Rattle.circuit.proofs.moves.called.Reads as reads
use Rattle.circuit.proofs.moves.called.Tie as tie

abbrev AfterRoot : Type 0
AfterRoot = lts.After-root tie.the-claims reads.Pre reads.Post

roots : (c : AfterRoot) → c.root-r.result.0 ≡ root c.args.design.now.table.now c.args.g.0
roots c = told_root _ _ c.args.design.now.read _ c.requires.1 _ c.root-r.ensures

pub returns-then-r-n : goal.returns-then-r-n
returns-then-r-n c = let fair = c.args.design.now.read.taken in
    λ d e s₀ sized q eq tr. (
      follows_none _ fair _ c.requires.0 _ s₀ sized q _ eq _ _ tr _ (enters_so _ fair _ _ _ c.args.g c.args.anew c.renew.ensures) refl,
      (
        renewed_first _ fair _ c.requires.0 _ c.requires.1 _ _ _ c.requires.3 c.renew.ensures _ (roots (search))
            (omega (arith, c.if-r-n.true)),
        omega (arith, roots (search), ((ok _ fair).linking.roots _ c.requires.1).0),
      ),
    )

pub returns : goal.returns
returns c = let fair = c.args.design.now.read.taken in
    λ d e s₀ sized q eq tr. (
      follows_none _ fair _ c.requires.0 _ s₀ sized q _ eq _ _ tr _ (enters_so _ fair _ _ _ c.args.g c.args.anew c.renew.ensures) refl,
      tt,
    )
