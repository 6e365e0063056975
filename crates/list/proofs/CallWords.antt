-- the word of a call: a function's number, so its low half is all of it
use Rattle.std.proofs.Common.{◌≡◌, ℕ, ◌+◌, ◌*◌, ◌≤◌, List, refl, arith}
use Rattle.table.specs.Bytes.{four_at, functions, nodes, kind, word}
use Rattle.table.specs.Decoded.{low, high}
use Rattle.table.specs.Naming.{owner}
use Rattle.table.specs.Working.{IsNode, Taken}
use Rattle.table.proofs.Passed.{passed}
use Rattle.table.proofs.Family.{owner_in}
use Rattle.table.proofs.NodeCases.{NodeCase, node_case}
use Rattle.table.proofs.NodeCases.{is_const, is_param, is_prim, is_call_lem, is_self, is_cond, is_bind, is_bound}

-- a call's word is a function
pub word_few : (t : List ℕ) → Taken t → (n : ℕ) → IsNode t n → kind t n ≡ 4 → word t n ≤ 32
word_few t ok n i e =
    let p = (passed t (functions t) (nodes t) ok).0 in
    let o = owner_in t p.linking n i in
    go (node_case t p n i) (omega (arith, o.1, p.f_high))
  where
    go : NodeCase t n → owner t n ≤ 32 → word t n ≤ 32
    go (is_const k z q) l = absurd (omega (arith, k, e))
    go (is_param k z x q) l = absurd (omega (arith, k, e))
    go (is_prim k x q) l = absurd (omega (arith, k, e))
    go (is_call_lem k x h c q) l = omega (arith, h, l)
    go (is_self k w x c q) l = omega (arith, w, l)
    go (is_cond k a b c z q) l = absurd (omega (arith, k, e))
    go (is_bind k a b c q) l = absurd (omega (arith, k, e))
    go (is_bound k z s q) l = absurd (omega (arith, k, e))

-- so its low half is all of it
pub call_low : (t : List ℕ) → Taken t → (n : ℕ) → IsNode t n → kind t n ≡ 4 → low t n ≡ word t n
call_low t ok n i k = omega (arith, word_few t ok n i k, halves)
  where
    halves : word t n ≡ low t n + 65536 * high t n
    halves = unfold word four_at low high in refl
