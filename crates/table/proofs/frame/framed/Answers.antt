-- `frame::framed` meets its contract: each return is a case of `frame_number`, by the tests before it.
use borrow.Author.Tests.{eq-eqb, ne_eqb, le-leb, lt-leb}
use mathlib.Core.Path.{sym}
use Rattle.table.specs.Working.{frame_number}
use Rattle.table.specs.Check.{sizes, whole}
use Rattle.table.specs.Bytes.{functions, nodes}
use Rattle.table.proofs.frame.framed.Goals as goal

pub returns-then-len-lt4 : goal.returns-then-len-lt4
unfolding frame_number sizes whole functions nodes
returns-then-len-lt4 c = simp (lt-leb 4 _ c.if-len-lt4.true)

pub returns-then-f-lt1 : goal.returns-then-f-lt1
unfolding frame_number sizes whole functions nodes
returns-then-f-lt1 c = simp (le-leb 4 _ c.if-len-lt4.false, sym c.two_at-f.ensures, lt-leb 1 _ c.if-f-lt1.true)

pub returns-then-f-gt32 : goal.returns-then-f-gt32
unfolding frame_number sizes whole functions nodes
returns-then-f-gt32 c = simp (
  le-leb 4 _ c.if-len-lt4.false,
  sym c.two_at-f.ensures,
  le-leb 1 _ c.if-f-lt1.false,
  lt-leb _ 32 c.if-f-gt32.true,
)

pub returns-then-n-lt1 : goal.returns-then-n-lt1
unfolding frame_number sizes whole functions nodes
returns-then-n-lt1 c = simp (
  le-leb 4 _ c.if-len-lt4.false,
  sym c.two_at-f.ensures,
  sym c.two_at-n.ensures,
  le-leb 1 _
      c.if-f-lt1.false,
  le-leb _ 32 c.if-f-gt32.false,
  lt-leb 1 _ c.if-n-lt1.true,
)

pub returns-then-n-gt512 : goal.returns-then-n-gt512
unfolding frame_number sizes whole functions nodes
returns-then-n-gt512 c = simp (
  le-leb 4 _ c.if-len-lt4.false,
  sym c.two_at-f.ensures,
  sym c.two_at-n.ensures,
  le-leb 1 _
      c.if-f-lt1.false,
  le-leb _ 32 c.if-f-gt32.false,
  le-leb 1 _ c.if-n-lt1.false,
  lt-leb _ 512 c.if-n-gt512.true,
)

pub returns-then-len-f : goal.returns-then-len-f
unfolding frame_number sizes whole functions nodes
returns-then-len-f c = simp (
  le-leb 4 _ c.if-len-lt4.false,
  sym c.two_at-f.ensures,
  sym c.two_at-n.ensures,
  le-leb 1 _
      c.if-f-lt1.false,
  le-leb _ 32 c.if-f-gt32.false,
  le-leb 1 _ c.if-n-lt1.false,
  le-leb _ 512 c.if-n-gt512.false,
  ne_eqb _ _
      c.if-len-f.true,
)

pub returns : goal.returns
unfolding frame_number sizes whole functions nodes
returns c = simp (
  le-leb 4 _ c.if-len-lt4.false,
  sym c.two_at-f.ensures,
  sym c.two_at-n.ensures,
  le-leb 1 _
      c.if-f-lt1.false,
  le-leb _ 32 c.if-f-gt32.false,
  le-leb 1 _ c.if-n-lt1.false,
  le-leb _ 512 c.if-n-gt512.false,
  eq-eqb _ _
      c.if-len-f.false,
)
