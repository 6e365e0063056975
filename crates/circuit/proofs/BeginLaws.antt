-- the state that a start makes
use Rattle.std.proofs.Common.{◌≡◌, ℕ, zero, suc, ◌≤◌, false, Option, Some, List, length, get_or, replicate, sym, refl, ap, ◌∙◌, arith}
use Rattle.table.specs.Syntax.{id}
use Rattle.table.specs.Bytes.{functions, width, root, params}
use Rattle.table.specs.Expressions.{body_of}
use Rattle.table.specs.declared.Node.{Node}
use Rattle.list.specs.Tags.{missing, found}
use Rattle.rules.specs.State.{write, fill, blank, circuit_start}
use Rattle.rules.specs.Arithmetic.{keep_all, arithmetic}
use Rattle.rules.specs.Circuit.{started, opening, turned, start_of}
use Rattle.rules.proofs.Narrow.{narrow_at}
use Rattle.rules.proofs.Starts.{start_second, start_taken, start_lacks}
use Rattle.circuit.specs.Meaning.{state_as}
use Rattle.table.specs.Working.{Taken}
use Rattle.circuit.specs.Working.{Agreed}
use Rattle.circuit.proofs.TurnLaws.{main_root}

-- an argument, as a function keeps it; past the last it is 0
pub kept_at : (t : List ℕ) (f : ℕ) (vs : List ℕ) (i : ℕ) → get_or (keep_all (arithmetic t) f vs) i 0 ≡ (arithmetic t).keep f (get_or vs i 0)
kept_at t f vs i = narrow_at (width t f) vs i

pub start_is : (t args : List ℕ) → Taken t → (a d : List ℕ) (r : ℕ) → r ≡ root t (functions t) → a ≡ write (replicate 512 0) r 1
    → d ≡ fill (functions t) (keep_all (arithmetic t) (functions t) args) (replicate 256 0)
    → state_as a (replicate 512 false) (replicate 512 0) d (replicate 32 0) ≡ opening t args
unfolding circuit_start blank
start_is t args fair a d r er ea ed =
    let q : a ≡ write (replicate 512 0) (id (body_of t (functions t))) 1 = ea ∙ ap (λ m. write (replicate 512 0) m 1)
    (er ∙ sym (main_root t fair)) in
    λ i. state_as (q i) (replicate 512 false) (replicate 512 0) (ed i) (replicate 32 0)

-- what a search for a node found, and whether it found one
found_some : (k : ℕ) (n : Node) → Some n ≡ found k → (1 ≤ n.0) × (n.0 ≡ k)
found_some zero n e = cc
found_some (suc k) n e = let q : n.0 ≡ suc k = cc in (omega arith, q)

pub none_found : (o : Option Node) (k : ℕ) → o ≡ found k → ((n : Node) → o ≡ Some n → ⊥) → k ≡ 0
none_found o zero e d = refl
none_found o (suc k) e d = absurd (d _ e)

-- 11, 26, and the rest, by what was read of the table and told of the tags
module _ (t tags args : List ℕ) (ag : Agreed t tags) (p : ℕ) (ep : p ≡ params t (functions t)) where
  pub start_count : (length args ≡ p → ⊥) → turned 11 0 ≡ start_of t tags args
  start_count d = sym (start_second t tags args _ _ ag.tagging (λ z. d (z ∙ sym ep)))

  module _ (e : length args ≡ p) where
    pub start_short : (n : Node) → Some n ≡ found (missing t tags) → turned 26 n.0 ≡ start_of t tags args
    start_short n q = let x = found_some (missing t tags) n q in
        sym (start_lacks t tags args _ _ ag.tagging (e ∙ ep) n.0 x.0 (sym x.1))

    pub start_goes : missing t tags ≡ 0 → started (opening t args) ≡ start_of t tags args
    start_goes z = sym (start_taken t tags args _ _ ag.tagging (e ∙ ep) z)
