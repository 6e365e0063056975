-- `passes` meets its contract: each loop fails, or all that it asks holds.
use Prim.Native.Nat.{ℕ}
use mathlib.Core.Path.{refl}
use lib.ListN.{length-replicate}
use Rattle.table.specs.Bytes.{functions}
use Rattle.table.specs.Sweep.{Handed, RootsFit, Whole, Sifted}
use Rattle.table.proofs.SweepEnd.{swept_taken}
use Rattle.table.proofs.passes.Goals as goal
use Rattle.table.proofs.passes.Lts as lts
use Rattle.table.proofs.passes.Reads as reads
use Rattle.table.proofs.passes.Tie as tie

-- the roots are handed
abbrev Rooted : Type 0
Rooted = lts.Else1 tie.the-claims reads.Pre reads.Post

rooted : (c : Rooted) → let t = c.args.table.now in
    Handed t (functions t) 0 c.roots.new.kin × RootsFit t (functions t)
rooted c = c.roots.ensures (c.if-not-roots.false)

-- and all nodes sifted
abbrev Told : Type 0
Told = lts.After-wanted2 tie.the-claims reads.Pre reads.Post

module _ (c : Told) where
  sifted : let left = c.sift.new in
      Sifted c.args.table.now left.kin left.kids left.wanted left.offspring left.bounds
      c.in-Some.count
  sifted = c.in-Some.ensures

-- and counted
abbrev Counted : Type 0
Counted = lts.Then2 tie.the-claims reads.Pre reads.Post

module _ (c : Counted) where
  whole : Whole c.args.table.now
  whole = record { links = (sifted (search)).links; counts = c.all_counted.ensures c.if-all_counted.true }

pub sift-requires : goal.sift-requires
sift-requires c = let h = rooted (search) in
    (c.requires.0, h.0, h.1, refl, length-replicate {A = ℕ} 513 0, refl, refl)

pub all_counted-requires : goal.all_counted-requires
all_counted-requires c = let d = sifted (search) in
    (c.requires.0, d.children, d.counts)

pub all_fit-requires : goal.all_fit-requires
all_fit-requires c = let d = sifted (search) in
    (c.requires.0, d.links, d.kindred, d.handed (whole (search)), d.bounded)

pub returns-then-all_counted : goal.returns-then-all_counted
returns-then-all_counted c e = let d = sifted (search) in
    (swept_taken _ c.requires.0 (whole (search)) (rooted ((search))).1 d.fits (c.all_fit.ensures e), d.kindred)
