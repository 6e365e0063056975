use Prim.Native.Nat.{ℕ, ◌+◌, ◌<◌}
use mathlib.Core.Path.{subst}
use mathlib.Core.List.{List, ◌∷◌}
use native.Mathlib.Omega.{arith}
use lib.ListN.{length, get_or, drop}
use Rattle.std.proofs.lemmas.List.{drop_more, drop_all}
use Rattle.list.specs.declared.Record.{Record}
use Rattle.list.specs.Records.{no_record}
use Rattle.pages.specs.Working.{Stands}
use Rattle.pages.specs.declared.layout.Reached.{Reached}
use Rattle.pages.proofs.StandsLaws.{stands_first, stands_roomy, stands_all, all_size, begun_fit}
use Rattle.pages.proofs.layout.print.Goals as goal

-- record i is the first of those left, and past the last none is left
next_left : (all : List Record) (i : ℕ) (before text : List ℕ) (w : Reached) → i < length all → Stands all (drop i all) before text w
    → Stands all (get_or all i no_record ∷ drop (i + 1) all) before text w
next_left all i before text w h s = subst (λ l. Stands all l before text w) (drop_more all i no_record h) s

pub loop-r-init : goal.loop-r-init
loop-r-init c = λ before e. stands_first _ c.requires.1 before _ e

pub add-w-requires : goal.add-w-requires
add-w-requires c = let l = c.loop-r in
    stands_roomy _ _ c.args.text.now l.text l.w _
    (next_left _ l.r-index _ _ _ c.loop-r-test.true (l.invariant _ c.begin.ensures)) c.requires.0

pub loop-r-preserved : goal.loop-r-preserved
loop-r-preserved c = let l = c.loop-r in
    λ before e. c.add-w.ensures _ _ before (next_left _ l.r-index before _ _ c.loop-r-test.true (l.invariant before e))

pub overflow_mul-result : goal.overflow_mul-result
overflow_mul-result c = omega (arith, begun_fit _ _ _ _ _ (c.loop-r.invariant _ c.begin.ensures), c.requires.0)

pub returns : goal.returns
returns c = let l = c.loop-r in
    let all = c.args.records.now in
    let whole = subst (λ r. Stands all r c.args.text.now l.text l.w) (drop_all l.r-index all (omega arith))
    (l.invariant _ c.begin.ensures) in
    (all_size _ _ _ _ whole, stands_all _ _ _ _ whole)
