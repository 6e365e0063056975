-- The laws that go from k to k + 1, as a turn of `for n in 1..=last` has them: what held up to n - 1 holds up to n.
use Prim.Native.Nat.{ℕ, ◌+◌, ◌-◌, ◌*◌, ◌≤◌, ◌<◌}
use mathlib.Core.Bool.{Bool, true, false, ◌&&◌}
use mathlib.Core.Path.{◌≡◌, refl, subst}
use mathlib.Core.List.{List}
use native.Mathlib.Omega.{arith}
use lib.Dec.{eqb}
use lib.ListN.{get_or, set}
use Rattle.table.specs.declared.sweep.Sifting.{Sifting}
use Rattle.table.specs.Pick.{pick}
use Rattle.table.specs.Bytes.{functions, params, root, kind, first, next}
use Rattle.table.specs.Find.{lowest, all}
use Rattle.table.specs.Naming.{owner, parent, tail_child}
use Rattle.table.specs.Decoded.{put_numbers, function_slot, function_number, functions_put, node_slot, node_number, nodes_put}
use Rattle.table.specs.Working.{IsNode, Framed, Filled, slot_of, ahead_of}
use Rattle.table.specs.Sweep.{rank, kin_of, Handed, Links, Sifts}
use Rattle.table.proofs.Loops.{all_more, lowest_more, lowest_found}
use Rattle.table.proofs.DecodedLaws.{functions_more, nodes_more}
use Rattle.table.proofs.FilledLaws.{filled_function, filled_node}
use Rattle.table.proofs.KinLoops.{TailsTo, tails_more, RecalledTo, recalled_more}
use Rattle.table.proofs.NameLoops.{RootsTo, roots_more, LinksTo, links_more}
use Rattle.table.proofs.HandSteps.{handed_root, own_kin, own_small}
use Rattle.table.proofs.HandEnd.{LinkedTo, linked_more, own_owned}
use Rattle.table.proofs.SiftLoop.{SiftedTo, sifted_more}

-- k is n - 1; m is n, as the next turn or the end of the loop says it
turn : (P : (k n m : ℕ) → Type 0) → ((k : ℕ) → P k (k + 1) (k + 1)) → (n m : ℕ) → 1 ≤ n → m ≡ n → P (n - 1) n m
turn P step n m low e =
    let here : n - 1 + 1 ≡ n = omega arith in
    rw e (subst (λ x. P (n - 1) x x) here (step (n - 1)))

-- as the next turn names what the last one had
pub back : {n : ℕ} → n + 1 - 1 ≡ n
back = omega arith

module _ (p : ℕ → Bool) where
  pub all_turn : (n m : ℕ) → 1 ≤ n → m ≡ n → all p (n - 1) ≡ true → p n ≡ true → all p m ≡ true
  all_turn = turn (λ k n m. all p k ≡ true → p n ≡ true → all p m ≡ true) (all_more p)

  pub lowest_turn : (n m : ℕ) → 1 ≤ n → m ≡ n → lowest p (n - 1) ≡ 0 → p n ≡ true → lowest p m ≡ 0
  lowest_turn = turn (λ k n m. lowest p k ≡ 0 → p n ≡ true → lowest p m ≡ 0) (lowest_more p)

  pub lowest_here : (n : ℕ) → 1 ≤ n → lowest p (n - 1) ≡ 0 → p n ≡ false → (last : ℕ) → n ≤ last → lowest p last ≡ n
  lowest_here n low = turn (λ k n m. lowest p k ≡ 0 → p n ≡ false → (last : ℕ) → n ≤ last → lowest p last ≡ n)
      (λ k z e last. lowest_found p k last z e) n n low refl

module _ (t cells : List ℕ) where
  pub functions_turn : (n m : ℕ) → 1 ≤ n → m ≡ n
      → functions_put t m cells ≡ put_numbers 2 (function_slot n) (function_number t n) (functions_put t (n - 1) cells)
  functions_turn = turn (λ k n m. functions_put t m cells ≡ put_numbers 2 (function_slot n) (function_number t n) (functions_put t k cells))
      (λ k. functions_more t k cells)

  pub nodes_turn : (n m : ℕ) → 1 ≤ n → m ≡ n
      → nodes_put t m cells ≡ put_numbers 6 (node_slot n) (node_number t n) (nodes_put t (n - 1) cells)
  nodes_turn = turn (λ k n m. nodes_put t m cells ≡ put_numbers 6 (node_slot n) (node_number t n) (nodes_put t k cells))
      (λ k. nodes_more t k cells)

  pub function_turn : (n m : ℕ) → 1 ≤ n → m ≡ n → n ≤ 32 → Filled t (n - 1) 0 0 cells → params t n < 256 → (made : List ℕ)
      → made ≡ put_numbers 2 (function_slot n) (function_number t n) cells → Filled t m 0 0 made
  function_turn = turn (λ k n m. n ≤ 32 → Filled t k 0 0 cells → params t n < 256 → (made : List ℕ)
      → made ≡ put_numbers 2 (function_slot n) (function_number t n) cells → Filled t m 0 0 made)
      (λ k b. filled_function t cells k (omega arith))

  pub node_turn : (n m : ℕ) → 1 ≤ n → m ≡ n → n ≤ 512 → (F : ℕ) → Filled t F (n - 1) 0 cells → kind t n < 256 → (made : List ℕ)
      → made ≡ put_numbers 5 (node_slot n) (node_number t n) cells → Filled t F m 0 made
  node_turn = turn (λ k n m. n ≤ 512 → (F : ℕ) → Filled t F k 0 cells → kind t n < 256 → (made : List ℕ)
      → made ≡ put_numbers 5 (node_slot n) (node_number t n) cells → Filled t F m 0 made)
      (λ k b F. filled_node t cells F k (omega arith))

abbrev TailsOn : (k n m : ℕ) → Type 0
TailsOn k n m = (t : List ℕ) (l : List Bool) → TailsTo t l k → n ≤ 512 → (p : ℕ) → p ≡ parent t n → (z : Bool)
    → z ≡ pick (eqb p 0) true (tail_child t p n && get_or l p false) → TailsTo t (set l n z) m

pub tails_turn : (n m : ℕ) → 1 ≤ n → m ≡ n → TailsOn (n - 1) n m
tails_turn = turn TailsOn (λ k t l h room. tails_more t l k h (omega arith))

abbrev RecalledOn : (k n m : ℕ) → Type 0
RecalledOn k n m = (t kin : List ℕ) → RecalledTo t k kin → n ≤ 512 → (x y : ℕ) → x ≡ owner t n → y ≡ parent t n
    → RecalledTo t m (set kin n (x + 64 * y))

pub recalled_turn : (n m : ℕ) → 1 ≤ n → m ≡ n → RecalledOn (n - 1) n m
recalled_turn = turn RecalledOn (λ k t kin h room. recalled_more t k kin h (omega arith))

abbrev RootsOn : (k n m : ℕ) → Type 0
RootsOn k n m = (t m₀ r : List ℕ) (v at : ℕ) → RootsTo t m₀ r k → v ≡ root t n → at ≡ slot_of v
    → RootsTo t (set m₀ at (get_or m₀ at 0 + 1)) (set r at n) m

pub roots_turn : (n m : ℕ) → 1 ≤ n → m ≡ n → RootsOn (n - 1) n m
roots_turn = turn RootsOn (λ k t m₀ r v at. roots_more t m₀ r k v at)

abbrev LinksOn : (k n m : ℕ) → Type 0
LinksOn k n m = (t tops m₀ l : List ℕ) → LinksTo t tops m₀ l k → (u v a b c d : ℕ) → u ≡ first t n → v ≡ next t n
    → a ≡ slot_of u → b ≡ slot_of v → c ≡ ahead_of n u → d ≡ ahead_of n v
    → (let m₁ = set m₀ a (get_or m₀ a 0 + 1) in LinksTo t tops (set m₁ b (get_or m₁ b 0 + 1)) (set (set l c n) d n) m)

pub links_turn : (n m : ℕ) → 1 ≤ n → m ≡ n → LinksOn (n - 1) n m
links_turn = turn LinksOn (λ k t tops m₀ l. links_more t tops m₀ l k)

abbrev RootHanded : (k n m : ℕ) → Type 0
RootHanded k n m = (t kin : List ℕ) → Framed t → Handed t k 0 kin → (r : ℕ) → r ≡ root t n → IsNode t r → get_or kin r 0 ≡ 0
    → Handed t m 0 (set kin r (n + 65536))

pub root_turn : (n m : ℕ) → 1 ≤ n → m ≡ n → RootHanded (n - 1) n m
root_turn = turn RootHanded (λ k t kin fr. handed_root t kin fr k)

abbrev SmallOn : (k n m : ℕ) → Type 0
SmallOn k n m = (t kin : List ℕ) → Framed t → IsNode t n → Handed t (functions t) k kin → get_or kin n 0 < 67108864

pub small_turn : (n m : ℕ) → 1 ≤ n → m ≡ n → SmallOn (n - 1) n m
small_turn = turn SmallOn (λ k t kin fr. own_small t kin fr k)

-- a node that hands its kin on
abbrev HandsOn : (k n m : ℕ) → Type 0
HandsOn k n m = (t kin kin' kids : List ℕ) → Framed t → IsNode t n → LinkedTo t k kin kids → Links t n kin kin'
    → (get_or kin n 0 ≡ kin_of t n) × (1 ≤ owner t n)
    × ((u r : ℕ) → u ≡ parent t n → r ≡ rank t n → LinkedTo t m kin' (set kids u r))

pub hands_turn : (n m : ℕ) → 1 ≤ n → m ≡ n → HandsOn (n - 1) n m
hands_turn = turn HandsOn (λ k t kin kin' kids fr i h l. (
  own_kin t kin kin' fr k i h.handed h.named l,
  own_owned t kin kin' kids fr k i h l,
  linked_more t kin kin' kids fr k i h l,
))

abbrev SiftedOn : (k n m : ℕ) → Type 0
SiftedOn k n m = (t wanted offspring bounds : List ℕ) (count : ℕ) → SiftedTo t k wanted offspring bounds count → n ≤ 512
    → (x : ℕ) → x ≡ get_or offspring (parent t n) 0 → (r : Sifting) → Sifts t n x r
    → SiftedTo t m (set wanted n r.wants) (set offspring n r.down) (set bounds count n) (count + r.bound)

pub sifted_turn : (n m : ℕ) → 1 ≤ n → m ≡ n → SiftedOn (n - 1) n m
sifted_turn = turn SiftedOn (λ k t wanted offspring bounds count h room. sifted_more t k wanted offspring bounds count h (omega arith))
