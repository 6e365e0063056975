-- the widths of an accepted table: 1 to 32 bits, which hold every constant of the function
use Prim.Native.Nat.{ℕ}
use mathlib.Core.Path.{◌≡◌, subst}
use mathlib.Core.List.{List}
use native.Mathlib.Omega.{arith}
use lib.Dec.{leb, leb→le, ltb→lt}
use Rattle.table.specs.Pick.{Range}
use Rattle.table.specs.Bytes.{functions, nodes, params, width_byte, width, kind, word}
use Rattle.table.specs.Naming.{owner}
use Rattle.table.specs.Syntax.{const, Sub}
use Rattle.table.specs.Expressions.{expr_at, body_of}
use Rattle.table.specs.Well.{Below, WidthsHold}
use Rattle.table.specs.Check.{accepted, check_of, record_fits, const_fits}
use Rattle.table.specs.Working.{IsNode, IsFunction, Taken}
use Rattle.table.proofs.FindLaws.{both}
use Rattle.table.proofs.WidthLaws.{bits_range}
use Rattle.table.proofs.Passed.{Passed, passed}
use Rattle.table.proofs.NodeCases.{NodeCase, node_case}
use Rattle.table.proofs.NodeCases.{is_const, is_param, is_prim, is_call_lem, is_self, is_cond, is_bind, is_bound}
use Rattle.table.proofs.Bodies.{part_is}

module _ (t : List ℕ) (ok : Passed t) where
  width_in : (f : ℕ) → IsFunction t f → Range 32 (width t f)
  unfolding record_fits width
  width_in f i =
      bits_range (width_byte t f) (leb→le (width_byte t f) 32 (both (leb (params t f) 8) (leb (width_byte t f) 32) (ok.records f i)).1)

  const_below : (n : ℕ) → IsNode t n → kind t n ≡ 1 → Below (width t (owner t n)) (word t n)
  unfolding const_fits
  const_below n i e = let h = ok.constants n i in ltb→lt (word t n) _ (rw e at h)

  -- a constant of a body is the word of its node
  const_in : (m v : ℕ) → IsNode t m → const m v ≡ expr_at t m → Below (width t (owner t m)) v
  const_in m v i p = go (node_case t ok m i)
    where
      go : NodeCase t m → Below (width t (owner t m)) v
      go (is_const k z e) = let w : word t m ≡ v = cc in subst (Below (width t (owner t m))) w (const_below m i k)
      go (is_param k z l e) = absurd (let z : ◌≡◌ {A = ℕ} 0 1 = cc in omega arith)
      go (is_prim k q e) = absurd (let z : ◌≡◌ {A = ℕ} 0 1 = cc in omega arith)
      go (is_call_lem k l h q e) = absurd (let z : ◌≡◌ {A = ℕ} 0 1 = cc in omega arith)
      go (is_self k w l q e) = absurd (let z : ◌≡◌ {A = ℕ} 0 1 = cc in omega arith)
      go (is_cond k a b d z e) = absurd (let z : ◌≡◌ {A = ℕ} 0 1 = cc in omega arith)
      go (is_bind k a b d e) = absurd (let z : ◌≡◌ {A = ℕ} 0 1 = cc in omega arith)
      go (is_bound k z l e) = absurd (let z : ◌≡◌ {A = ℕ} 0 1 = cc in omega arith)

  consts_in : (f m v : ℕ) → IsFunction t f → Sub (const m v) (body_of t f) → Below (width t f) v
  consts_in f m v i s =
      let p = part_is t ok f i (const m v) s in
      subst (λ g. Below (width t g) v) p.2 (const_in m v p.1 p.0)

pub widths_hold : (t : List ℕ) (F N : ℕ) → check_of t ≡ accepted F N → WidthsHold (functions t) (body_of t) (width t)
widths_hold t F N e = let ok = (passed t F N e).0 in record { bits = width_in t ok; consts = consts_in t ok }

-- the same of a function of a table that was taken
pub width_range : (t : List ℕ) → Taken t → (f : ℕ) → IsFunction t f → Range 32 (width t f)
width_range t e = width_in t (passed t (functions t) (nodes t) e).0
