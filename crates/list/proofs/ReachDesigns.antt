-- the arbiter lists of eight designs that tell apart what main reaches, as tag bytes; their tables are accepted, and refused with a fault
-- out of reach
use Rattle.std.proofs.Common.{◌≡◌, ℕ, List, [], ◌∷◌, refl}
use Rattle.table.specs.Check.{accepted, refused, check_of}
use Rattle.table.specs.Designs.{function, node}
use Rattle.table.proofs.CheckedDesigns.{check_open}
use Rattle.list.specs.ReachDesigns.{uncalled, two_levels, spare_caller, spare_rival, spare_twin, self_alone}
use Rattle.list.specs.ReachDesigns.{self_spare, self_argument, uncalled_but}
use Rattle.list.specs.Tags.{tags_of}
use Rattle.list.proofs.Designs.{list_open}

-- g(x) = beside(f(x), f(x)), which nobody calls: empty, since only the bodies count that main reaches
pub uncalled_list : tags_of uncalled ≡ 0b0000_0000 ∷ []
unfolding list_open
uncalled_list = refl

pub uncalled_accepted : check_of uncalled ≡ accepted 3 7
unfolding check_open
uncalled_accepted = refl

-- main calls h, which calls g(x) = beside(f(x), f(x)): {3, 5}, since g is reached, though not called in main's body
pub two_levels_list : tags_of two_levels ≡ 0b0001_0100 ∷ 0b0000_0000 ∷ []
unfolding list_open
two_levels_list = refl

pub two_levels_accepted : check_of two_levels ≡ accepted 4 10
unfolding check_open
two_levels_accepted = refl

-- the same g is called by h, which nobody calls, and main(x) = f(x): empty, since a call from a body out of reach reaches nothing
pub spare_caller_list : tags_of spare_caller ≡ 0b0000_0000 ∷ 0b0000_0000 ∷ []
unfolding list_open
spare_caller_list = refl

pub spare_caller_accepted : check_of spare_caller ≡ accepted 4 10
unfolding check_open
spare_caller_accepted = refl

-- h(x) = beside(g(x), g(x)), which nobody calls, and main(x) = g(x) with g(x) = f(x): empty; 2, the call of f, stands in a body that is
-- reached, and is in conflict in that of h alone
pub spare_rival_list : tags_of spare_rival ≡ 0b0000_0000 ∷ 0b0000_0000 ∷ []
unfolding list_open
spare_rival_list = refl

pub spare_rival_accepted : check_of spare_rival ≡ accepted 4 10
unfolding check_open
spare_rival_accepted = refl

-- beside(f(x), f(x)) in main and in g, which nobody calls: {8, 10}, main's own, and neither 3 nor 5
pub spare_twin_list : tags_of spare_twin ≡ 0b1000_0000 ∷ 0b0000_0010 ∷ []
unfolding list_open
spare_twin_list = refl

pub spare_twin_accepted : check_of spare_twin ≡ accepted 3 11
unfolding check_open
spare_twin_accepted = refl

-- main's only call is of itself: empty, since it reaches no other function
pub self_alone_list : tags_of self_alone ≡ 0b0000_0000 ∷ 0b0000_0000 ∷ []
unfolding list_open
self_alone_list = refl

pub self_alone_accepted : check_of self_alone ≡ accepted 3 12
unfolding check_open
self_alone_accepted = refl

-- the only call of g is its own, and main(x) = f(x): empty, since a self call makes nothing reached
pub self_spare_list : tags_of self_spare ≡ 0b0000_0000 ∷ 0b0000_0000 ∷ []
unfolding list_open
self_spare_list = refl

pub self_spare_accepted : check_of self_spare ≡ accepted 3 12
unfolding check_open
self_spare_accepted = refl

-- main(g(x)) in main: {3, 5}, since a call in an argument of a self call, in a branch of an if, is a call
pub self_argument_list : tags_of self_argument ≡ 0b0001_0100 ∷ 0b0000_0000 ∷ []
unfolding list_open
self_argument_list = refl

pub self_argument_accepted : check_of self_argument ≡ accepted 3 12
unfolding check_open
self_argument_accepted = refl

-- a body out of reach is checked like any other: g of `uncalled` with a fault for each number of a record or a node
abbrev Faulty : (record₂ node₂ node₅ node₆ : List ℕ) (number place : ℕ) → Type 0
Faulty r a b c number place = check_of (uncalled_but r a b c) ≡ refused number place

abbrev record₂ : List ℕ
record₂ = function 1 2

abbrev node₂ : List ℕ
node₂ = node 3 10 0 3 0

abbrev node₅ : List ℕ
node₅ = node 4 0 1 6 0

abbrev node₆ : List ℕ
node₆ = node 2 0 0 0 0

-- 4 a child that is the node itself, 5 a ninth parameter and an unknown kind, 6 a callee above, 7 two children where one is due
links_checked : Faulty record₂ node₂ (node 4 0 1 5 0) node₆ 4 5
unfolding check_open
links_checked = refl

record_checked : Faulty (function 9 2) node₂ node₅ node₆ 5 0
unfolding check_open
record_checked = refl

kind_checked : Faulty record₂ node₂ (node 9 0 1 6 0) node₆ 5 5
unfolding check_open
kind_checked = refl

callee_checked : Faulty record₂ node₂ (node 4 0 3 6 0) node₆ 6 5
unfolding check_open
callee_checked = refl

count_checked : Faulty record₂ (node 3 5 0 3 0) node₅ node₆ 7 2
unfolding check_open
count_checked = refl

-- 8 a parameter that g doesn't have, 9 a self call that is no tail, 25 a constant wider than g
parameter_checked : Faulty (function 0 2) node₂ node₅ node₆ 8 4
unfolding check_open
parameter_checked = refl

tail_checked : Faulty record₂ node₂ (node 4 0 2 6 0) node₆ 9 5
unfolding check_open
tail_checked = refl

constant_checked : Faulty (1 ∷ 4 ∷ 2 ∷ 0 ∷ []) node₂ node₅ (node 1 0 16 0 0) 25 6
unfolding check_open
constant_checked = refl
