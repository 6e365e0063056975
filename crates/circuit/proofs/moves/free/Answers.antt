-- `moves::free` meets its contract, by whether the plan leaves a callee.
use Rattle.std.proofs.Common.{◌≡◌, ℕ, not, ◌&&◌, sym, refl, ap, ◌∙◌, subst, arith}
use Rattle.table.specs.Expressions.{expr_at}
use Rattle.table.specs.Working.{IsFunction}
use Rattle.list.specs.Working.{packed}
use Rattle.rules.specs.Sets.{holds}
use Rattle.table.specs.declared.Function.{Function}
use Rattle.circuit.specs.declared.plan.Plan.{Plan}
use Rattle.circuit.specs.Working.{planned, Sound}
use Rattle.circuit.specs.Packed.{unpacked}
use Rattle.circuit.specs.Following.{frees}
use Rattle.circuit.proofs.ChainLaws.{ok}
use Rattle.circuit.proofs.NextLaws.{none_left, held_kept}
use Rattle.circuit.proofs.UpdateLaws.{node_bit, site_is}
use Rattle.circuit.proofs.moves.free.Goals as goal
use Rattle.circuit.proofs.moves.free.Lts as lts
use Rattle.circuit.proofs.moves.free.Reads as reads
use Rattle.circuit.proofs.moves.free.Tie as tie

abbrev Start : Type 0
Start = lts.Start tie.the-claims reads.Pre reads.Post

-- a callee that is left is a function
callee : (s : Start) (g : Function) (v : ℕ) → s.args.plan ≡ Plan.Leaves g v → IsFunction s.args.table.now g.0
callee s g v e = subst (Sound s.args.table.now s.args.n.0) e s.requires.1

pub row-sites-requires : goal.row-sites-requires
row-sites-requires c = omega (arith, (callee (search) _ _ c.in-Leaves.is).1, (ok _ c.requires.0).f_high)

pub returns-in-Leaves : goal.returns-in-Leaves
returns-in-Leaves c = let e = c.in-Leaves.is in
    let f = callee (search) _ _ e in
    let fair = c.requires.0 in (
      sym (ap frees e),
      λ m. (refl, refl, refl),
      λ v m h r. let b = node_bit _ fair m r in
          c.lose.ensures.bits m b ∙ ap (λ z. packed c.args.sets.now.held m && not z) (c.row-sites.ensures.bits m b
          ∙ c.requires.2.sites _ m f.0 (omega (arith, f.1, (ok _ fair).f_high)) b ∙ site_is _ fair m r _)
          ∙ sym (ap (λ p. holds (expr_at c.args.table.now) (unpacked c.args.sets.now) (planned c.args.table.now v c.args.n.0 p) m) e),
    )

pub returns : goal.returns
returns c = let none = none_left _ c.in_default.not-Leaves in
    (none, λ m. (refl, refl, refl), λ v m e r. sym (held_kept _ _ (unpacked c.args.sets.now) v m _ e (sym none)))
