-- `linking::hand_on` meets its contract: each test fails, or all is handed.
use native.Mathlib.Omega.{arith}
use Rattle.table.proofs.Tests.{never}
use Rattle.table.proofs.HandEnd.{links_told}
use Rattle.table.proofs.linking.hand_on.Goals as goal

pub returns-then-own-eq0 : goal.returns-then-own-eq0
returns-then-own-eq0 c = never

pub returns-then-last-first : goal.returns-then-last-first
returns-then-last-first c = never

pub returns-then-last-next : goal.returns-then-last-next
returns-then-last-next c = never

pub returns-then-kin-next-ne0 : goal.returns-then-kin-next-ne0
returns-then-kin-next-ne0 c = never

pub returns-then-kin-first-ne0 : goal.returns-then-kin-first-ne0
returns-then-kin-first-ne0 c = never

pub returns : goal.returns
returns c e = links_told _ _ _ _ _ c.first-first.ensures c.next-next.ensures c.if-own-eq0.false
    (omega (arith, c.if-last-first.false, c.requires.1)) (omega (arith, c.if-last-next.false, c.requires.1)) c.if-kin-next-ne0.false
    c.if-kin-first-ne0.false
