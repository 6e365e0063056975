-- what the parts of the sweep ask of each other, no part of what a reader must believe: in four loops the sweep tells that a table is
-- accepted, and leaves what it does not pass to the check
use Rattle.std.specs.Prelude.{ℕ, ◌+◌, ◌*◌, ◌/◌, ◌%◌, ◌^◌, ◌≤◌, ◌<◌, Bool, true, ◌&&◌, ◌||◌, not, ◌≡◌, List, T, eqb, length}
use Rattle.std.specs.Prelude.{get_or, set}
use Rattle.table.specs.declared.Counts.{Counts}
use Rattle.table.specs.declared.kinds.Rule.{Rule}
use Rattle.table.specs.declared.sweep.Sifting.{Sifting}
use Rattle.table.specs.Pick.{pick, Range}
use Rattle.table.specs.Bytes.{functions, nodes, params, width, root, kind, extra, word, first, next}
use Rattle.table.specs.Find.{one, total, highest, back}
use Rattle.table.specs.Naming.{names, namer, owner, parent, tail, under_last, in_scope, children}
use Rattle.table.specs.Check.{among, root_fits, record_fits, fields, counts_of, counted}
use Rattle.table.specs.Working.{IsNode, At, Linked}

-- a node's place among its siblings, from 1; a root's is 1
unfoldable pub rank : List ℕ → ℕ → ℕ
rank t n = back (namer t) (λ n r. pick (eqb (namer t n) 0) 1 (pick (eqb (first t (namer t n)) n) 1 (r + 1))) 0 n

-- function, parent and rank in one number: a node's kin
unfoldable pub kin_of : List ℕ → ℕ → ℕ
kin_of t n = owner t n + 64 * parent t n + 65536 * rank t n

-- what node m hands to v, its first child or next sibling
unfoldable pub handed : List ℕ → ℕ → ℕ → ℕ
handed t m v = pick (eqb (first t m) v) (owner t m + 64 * m + 65536) (kin_of t m + 65536)

-- the kin of a root of function f; 0 for no function
unfoldable pub root_kin : ℕ → ℕ
root_kin f = pick (eqb f 0) 0 (f + 65536)

-- what the roots up to f and the links of the nodes up to k handed to v, and how often they name it
unfoldable pub kin_to : List ℕ → (f k v : ℕ) → ℕ
kin_to t f k v =
    let m = highest (λ m. names t m v) k in pick (eqb m 0) (root_kin (highest (λ f. eqb (root t f) v) f)) (handed t m v)

unfoldable pub mentions_to : List ℕ → (f k v : ℕ) → ℕ
mentions_to t f k v = total (λ f. one (eqb (root t f) v)) f + total (λ m. one (eqb (first t m) v) + one (eqb (next t m) v)) k

-- an array of kin by node number, after the roots up to f and the nodes up to k: nothing was handed twice
pub record Handed (t : List ℕ) (f k : ℕ) (kin : List ℕ) : Type 0 where
  pub size : length kin ≡ 513
  pub none : get_or kin 0 0 ≡ 0
  pub told : (v : ℕ) → IsNode t v → get_or kin v 0 ≡ kin_to t f k v
  pub unnamed : (v : ℕ) → IsNode t v → get_or kin v 0 ≡ 0 → mentions_to t f k v ≡ 0
  pub once : (v : ℕ) → IsNode t v → (get_or kin v 0 ≡ 0 → ⊥) → mentions_to t f k v ≡ 1

-- function f's record fits, and its root has no next
pub record RootFits (t : List ℕ) (f : ℕ) : Type 0 where
  pub inside : T (root_fits t f)
  pub fits : T (record_fits t f)
  pub ends : next t (root t f) ≡ 0

abbrev pub RootsFit : List ℕ → ℕ → Type 0
RootsFit t f = (g : ℕ) → 1 ≤ g → g ≤ f → RootFits t g

-- x handed to v; place 0 stands for no link, and stays 0
abbrev pub hand : List ℕ → ℕ → ℕ → List ℕ
hand kin v x = set (set kin v x) 0 0

-- node n, which has its kin, names what nothing named before
pub record Links (t : List ℕ) (n : ℕ) (kin kin' : List ℕ) : Type 0 where
  pub named : get_or kin n 0 ≡ 0 → ⊥
  pub next_in : next t n ≤ nodes t
  pub first_in_lem : first t n ≤ nodes t
  pub next_free : get_or kin (next t n) 0 ≡ 0
  pub first_free : get_or (hand kin (next t n) (get_or kin n 0 + 65536)) (first t n) 0 ≡ 0
  pub made : kin' ≡ hand (hand kin (next t n) (get_or kin n 0 + 65536)) (first t n) (get_or kin n 0 % 64 + 64 * n + 65536)

-- all nodes' kin, and the numbers of their children
pub record Kin (t kin : List ℕ) : Type 0 where
  pub size : length kin ≡ 513
  pub each : (n : ℕ) → IsNode t n → get_or kin n 0 ≡ kin_of t n

pub record Kids (t kids : List ℕ) : Type 0 where
  pub size : length kids ≡ 513
  pub each : (n : ℕ) → IsNode t n → get_or kids n 0 ≡ length (children t n)

-- the innermost let whose body is or contains n, 0 if none
unfoldable pub around : List ℕ → ℕ → ℕ
around t n = back (parent t) (λ n r. pick (eqb (kind t (parent t n)) 6 && eqb (next t n) 0) (parent t n) r) 0 n

-- a child of p is in tail position if its rank, with 1024 more for a last child, reaches this; an if has three children, so that no
-- first child of it is the last
abbrev pub tail_reach : (kind : ℕ) → ℕ
tail_reach k = pick (eqb k 5) 2 (pick (eqb k 6) 1025 2048)

unfoldable pub tail_from : List ℕ → ℕ → ℕ
tail_from t p = pick (eqb p 0) 0 (tail_reach (kind t p) + pick (tail t p) 0 2048)

-- n is a let; 0 is no node
abbrev pub is_let : List ℕ → ℕ → Bool
is_let t n = not (eqb n 0) && eqb (kind t n) 6

-- what n hands down to its children, in one number: the innermost let around it, whether it is a let, and tail_from
unfoldable pub down_of : List ℕ → ℕ → ℕ
down_of t n = around t n + 1024 * one (is_let t n) + 2048 * tail_from t n

-- what a node's kind asks of extra and word, with 6, 8 and 9 for calls and parameters and 25 for constants: the function's number and
-- parameters, what its constants are below, and whether the node is in tail position, as a number
pub record KindFits (kind extra word owner params top tail : ℕ) : Type 0 where
  pub shaped : fields kind extra word 0 ≡ true
  pub callee : kind ≡ 4 → (1 ≤ word) × (word ≤ owner)
  pub ends : kind ≡ 4 → word ≡ owner → tail ≡ 1
  pub param : kind ≡ 2 → extra < params
  pub constant : kind ≡ 1 → word < top
  pub small : extra < 16

-- 4 and 7 at all nodes; only of such a table is told what a node hands down
pub record Whole (t : List ℕ) : Type 0 where
  pub links : Linked t
  pub counts : (n : ℕ) → IsNode t n → T (counted t n)

-- 5, 6, 8, 9 and 25 at a node, but for bounds; `ending` is whether it was taken to be in tail position
pub record NodeFits (t : List ℕ) (n : ℕ) : Type 0 where
  pub ending : ℕ
  pub fits : KindFits (kind t n) (extra t n) (word t n) (owner t n) (params t (owner t n)) (2 ^ width t (owner t n)) ending
  pub tails : Whole t → ending ≡ one (tail t n)

unfoldable pub bound_fits : List ℕ → ℕ → Bool
bound_fits t n = not (eqb (kind t n) 7) || in_scope t (word t n) n

-- what each node hands down, at hand for the bounds
pub record HandedDown (t offspring : List ℕ) : Type 0 where
  pub told : (n : ℕ) → n ≤ nodes t → get_or offspring n 0 ≡ down_of t n

-- n is in the body of let a; of no let nothing is said
abbrev pub Encloses : (t : List ℕ) (a n : ℕ) → Type 0
Encloses t a n = (a ≡ 0 → ⊥) → T (under_last t a n)

-- what is in the body of a is in that of b
abbrev pub Outward : (t : List ℕ) (a b : ℕ) → Type 0
Outward t a b = (n : ℕ) → Encloses t a n → Encloses t b n

abbrev pub BoundsFit : List ℕ → Type 0
BoundsFit t = (n : ℕ) → IsNode t n → T (bound_fits t n)

-- the bounds of the nodes up to k are among the first `count` of an array
pub record BoundsTo (t : List ℕ) (k : ℕ) (bounds : List ℕ) (count : ℕ) : Type 0 where
  pub size : length bounds ≡ 513
  pub few : count ≤ k
  pub nodes : (i : ℕ) → i < count → Range k (get_or bounds i 0)
  pub all : ((i : ℕ) → i < count → T (bound_fits t (get_or bounds i 0))) → (n : ℕ) → 1 ≤ n → n ≤ k → T (bound_fits t n)

-- node n, with its kin
pub record Siftable (t : List ℕ) (base n own : ℕ) : Type 0 where
  pub place : At t base n
  pub roots : RootsFit t (functions t)
  pub kin : own ≡ kin_of t n
  pub owned : 1 ≤ owner t n

-- how many children a node may have, in one number: the fewest, and 256 times the most
pub record Wants (t : List ℕ) (n w : ℕ) : Type 0 where
  pub low : w % 256 ≡ (counts_of (kind t n) (extra t n) (params t (word t n))).low
  pub high : w / 256 ≡ (counts_of (kind t n) (extra t n) (params t (word t n))).high

-- and an array of these up to node k
pub record Wanted (t : List ℕ) (k : ℕ) (wanted : List ℕ) : Type 0 where
  pub size : length wanted ≡ 513
  pub each : (n : ℕ) → 1 ≤ n → n ≤ k → Wants t n (get_or wanted n 0)

-- what sifting a node tells: where it passed, whether it is a bound, and what it hands down if what its parent handed down is right
pub record Sifts (t : List ℕ) (n inherited : ℕ) (r : Sifting) : Type 0 where
  pub ending : ℕ
  pub fits : KindFits (kind t n) (extra t n) (word t n) (owner t n) (params t (owner t n)) (2 ^ width t (owner t n)) ending
  pub heir : Whole t → inherited ≡ down_of t (parent t n) → (ending ≡ one (tail t n)) × (r.down ≡ down_of t n)
  pub bound : r.bound ≡ one (eqb (kind t n) 7)
  pub counts : Wants t n r.wants

-- all nodes sifted, their kin handed on and their bounds put aside
pub record Sifted (t kin kids wanted offspring bounds : List ℕ) (count : ℕ) : Type 0 where
  pub links : Linked t
  pub kindred : Kin t kin
  pub children : Kids t kids
  pub counts : Wanted t (nodes t) wanted
  pub fits : (n : ℕ) → IsNode t n → NodeFits t n
  pub handed : Whole t → HandedDown t offspring
  pub bounded : BoundsTo t (nodes t) bounds count

-- the fewest children, and 256 times the most
abbrev pub packed : Counts → ℕ
packed c = c.low + 256 * c.high

-- what a kind asks, as `fields` and 25 have it, and tells its children: 1 is yes; a parameter's extra and a call's word are asked for
-- elsewhere; a bound's word is at most 512, so that no width stands in its way; its numbers of children are none of a primitive, whose
-- operation tells, or a call, whose callee does
abbrev pub rule_of : (kind : ℕ) → Rule
rule_of k = record {
  extras = pick (eqb k 3) 11 (one (eqb k 1 || among 4 7 k));
  parameter = one (eqb k 2);
  call = one (eqb k 4);
  reach = 2 * tail_reach k + one (eqb k 6);
  bound = one (eqb k 7);
  primitive = one (eqb k 3);
  words = pick (eqb k 7) 512 (one (eqb k 1));
  counts = packed (counts_of k 11 0);
}

-- the rules of the kinds below k, by kind
abbrev pub RulesOf : ℕ → List Rule → Type 0
RulesOf k l = (j : ℕ) (none : Rule) → j < k → get_or l j none ≡ rule_of j
