-- the arbiter lists of six small designs, as tag bytes: each tells wrong readings of section 4.2 apart, and its table is accepted
use Rattle.std.proofs.Common.{◌≡◌, [], ◌∷◌, refl}
use Rattle.table.specs.Check.{accepted, check_of}
use Rattle.table.proofs.CheckedDesigns.{check_open}
use Rattle.list.specs.SmallDesigns.{branches, condition, self_arguments, definientia, self_call, call_arguments}
use Rattle.list.specs.Tags.{tags_of}
use Rattle.list.proofs.Designs.{list_open}

-- if x then f(x) else f(x): empty, since branches are never held against each other
pub branches_list : tags_of branches ≡ 0b0000_0000 ∷ []
unfolding list_open
branches_list = refl

pub branches_accepted : check_of branches ≡ accepted 2 7
unfolding check_open
branches_accepted = refl

-- if f(x) then f(x) else 0: empty, since the condition is not held against the branches
pub condition_list : tags_of condition ≡ 0b0000_0000 ∷ []
unfolding list_open
condition_list = refl

pub condition_accepted : check_of condition ≡ accepted 2 7
unfolding check_open
condition_accepted = refl

-- main(f(x), f(y)) in main: {5, 7}, since the arguments of a self call are held against each other; 4, the self call, is not listed
pub self_arguments_list : tags_of self_arguments ≡ 0b0101_0000 ∷ 0b0000_0000 ∷ []
unfolding list_open
self_arguments_list = refl

pub self_arguments_accepted : check_of self_arguments ≡ accepted 2 9
unfolding check_open
self_arguments_accepted = refl

-- let a = f(x), b = f(x) in f(a): {3, 5}, since definientia are held against each other and the body is not held against them;
-- 7 calls f too and is not listed, since an arbiter is not one per resource
pub definientia_list : tags_of definientia ≡ 0b0001_0100 ∷ []
unfolding list_open
definientia_list = refl

pub definientia_accepted : check_of definientia ≡ accepted 2 8
unfolding check_open
definientia_accepted = refl

-- beside(g(x), g(x)) with a self call in g: {8, 10}; 3, the self call, is in neither set, since a self call is not counted as a call
pub self_call_list : tags_of self_call ≡ 0b1000_0000 ∷ 0b0000_0010 ∷ []
unfolding list_open
self_call_list = refl

pub self_call_accepted : check_of self_call ≡ accepted 2 11
unfolding check_open
self_call_accepted = refl

-- h(f(x), f(x)): {4, 6}, since the arguments of a call are held against each other; 3, the call of h, is not listed
pub call_arguments_list : tags_of call_arguments ≡ 0b0010_1000 ∷ []
unfolding list_open
call_arguments_list = refl

pub call_arguments_accepted : check_of call_arguments ≡ accepted 3 7
unfolding check_open
call_arguments_accepted = refl
