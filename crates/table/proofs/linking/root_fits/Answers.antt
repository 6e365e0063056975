-- `linking::root_fits` meets its contract: each test fails, or all is read.
use native.Mathlib.Omega.{arith}
use borrow.Author.Tests.{eqb-true}
use Rattle.table.proofs.Tests.{never}
use Rattle.table.proofs.HandEnd.{root_told}
use Rattle.table.proofs.linking.root_fits.Goals as goal

pub returns-then-root-lt1 : goal.returns-then-root-lt1
returns-then-root-lt1 c = never

pub returns-then-last-root : goal.returns-then-last-root
returns-then-last-root c = never

pub returns-then-params-gt8 : goal.returns-then-params-gt8
returns-then-params-gt8 c = never

pub returns-then-width_byte-gt32 : goal.returns-then-width_byte-gt32
returns-then-width_byte-gt32 c = never

pub next-requires : goal.next-requires
next-requires c = record {
  framed = c.requires.0;
  start = c.requires.2;
  low = c.if-root-lt1.false;
  high = omega (arith, c.if-last-root.false, c.requires.3);
}

pub returns : goal.returns
returns c e = root_told _ _ _ _ _ _ c.root-root.ensures c.params.ensures c.width_byte.ensures c.next.ensures
    c.if-root-lt1.false (omega (arith, c.if-last-root.false, c.requires.3)) c.if-params-gt8.false
    c.if-width_byte-gt32.false (eqb-true _ _ e)
