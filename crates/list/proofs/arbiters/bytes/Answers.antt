use Rattle.std.proofs.Common.{get_or, ap, ◌∙◌, arith, rules}
use Rattle.std.proofs.lemmas.List.{places}
use Rattle.list.proofs.WordLaws.{bytes_more, bytes_of}
use Rattle.list.proofs.arbiters.bytes.Goals as goal

pub loop-i-preserved : goal.loop-i-preserved
loop-i-preserved c = let size = c.loop-i.invariant.0 in
    let word = c.copy_from_slice.ensures.after ∙ c.to_le_bytes.ensures in (
      search (rules, places, size),
      bytes_more _ _ _ _ c.loop-i.invariant.1 (λ j h. search (rules, places) ∙ ap (λ l. get_or l j 0) word)
          (λ j h. search (rules, places)),
    )

pub returns : goal.returns
returns c = let inv = c.loop-i.invariant in
    (inv.0, λ j h. omega (arith, inv.1 j (omega arith)), bytes_of _ _ (λ j h. inv.1 j (omega arith)))
