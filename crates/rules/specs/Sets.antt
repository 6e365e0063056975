-- four sets of nodes from which the first possible step is read off in a state that passes 24, main's root not done, and what each move
-- makes of them: for the code, which keeps them from step to step; no promise of an entry speaks of them
use Rattle.std.specs.Prelude.{ℕ, Bool, true, false, ◌&&◌, ◌||◌, not, ◌≡◌, List, eqb}
use Rattle.table.specs.Pick.{Range}
use Rattle.table.specs.Find.{lowest}
use Rattle.table.specs.Syntax.{Expr, const, param, prim, call, self, cond, bind, bound, id}
use Rattle.table.specs.Bytes.{nodes}
use Rattle.table.specs.Naming.{owner, parent}
use Rattle.table.specs.Expressions.{expr_at, body_of}
use Rattle.rules.specs.State.{State512, View, view, In}
use Rattle.rules.specs.Step.{Act, stuck, blocked, does, Move, begins, turns, finishes, enters, leaves, restarts, act}
use Rattle.rules.specs.Play.{calls}
use Rattle.rules.specs.Arithmetic.{Arithmetic, arithmetic}

-- a node has a move
abbrev pub goes : Act → Bool
goes stuck = false
goes blocked = false
goes (does m) = true

-- the sort of a step: 0 none, 1 a call that would enter if its callee is free, 2 any other move
abbrev pub sort : Act → ℕ
sort stuck = 0
sort blocked = 1
sort (does (begins ns)) = 2
sort (does (turns m)) = 2
sort (does (finishes v)) = 2
sort (does (enters g vs)) = 1
sort (does (leaves g v)) = 2
sort (does (restarts f vs)) = 2

-- a test of calls that are no self calls, by node and callee; nothing else passes
abbrev pub of_call : (ℕ → ℕ → Bool) → Expr → Bool
of_call f (const n v) = false
of_call f (param n i) = false
of_call f (prim n op es) = false
of_call f (call n g es) = f n g
of_call f (self n es) = false
of_call f (cond n a b c) = false
of_call f (bind n ds b) = false
of_call f (bound n d) = false

-- busy, in second phase
abbrev pub entered : View → Expr → Bool
entered s u = of_call (λ n g. eqb (s.status n) 2 && s.second n) u

-- its callee is occupied
abbrev pub barred_by : View → Expr → Bool
barred_by s u = of_call (λ n g. not (eqb (s.occupant g) 0)) u

pub record Sets : Type 0 where
  -- its step is a move other than entering
  pub armed : ℕ → Bool
  -- a call in first phase, its arguments done
  pub waiting : ℕ → Bool
  -- a busy call in second phase
  pub inside : ℕ → Bool
  -- a call whose callee is occupied
  pub held : ℕ → Bool

abbrev pub sets_in : (units : Arithmetic) (body at : ℕ → Expr) (home : ℕ → ℕ) → View → Sets
sets_in units body at home s = record {
  armed = λ m. eqb (sort (act units body (home m) s (at m))) 2;
  waiting = λ m. eqb (sort (act units body (home m) s (at m))) 1;
  inside = λ m. entered s (at m);
  held = λ m. barred_by s (at m);
}

-- those of a state, nodes 1 to N
abbrev pub sets_of : (t : List ℕ) → State512 → Sets
sets_of t s = sets_in (arithmetic t) (body_of t) (expr_at t) (owner t) (view s)

-- what the sets call possible, and the lowest such node up to N, 0 if there is none
abbrev pub ready : Sets → ℕ → Bool
ready x m = x.armed m || (x.waiting m && not (x.held m))

unfoldable pub first_in : Sets → ℕ → ℕ
first_in x N = lowest (λ m. not (ready x m)) N

-- armed, waiting and inside are in y as in x, at node m
abbrev pub Stays : (x y : Sets) → ℕ → Type 0
Stays x y m = (y.armed m ≡ x.armed m) × (y.waiting m ≡ x.waiting m) × (y.inside m ≡ x.inside m)

-- the sets x are those of the state s
pub record Exact (t : List ℕ) (s : State512) (x : Sets) : Type 0 where
  pub placed : (m : ℕ) → Range (nodes t) m → Stays (sets_of t s) x m
  pub held : (m : ℕ) → Range (nodes t) m → x.held m ≡ (sets_of t s).held m

-- What a move at node n makes of the sets x. The three are armed, waiting and inside: y is fixed but for one node, to be read anew

-- nodes open: these are armed and nothing else; node n is to be read anew
pub record Opening (N : ℕ) (x y : Sets) (n : ℕ) (opens : ℕ → Type 0) : Type 0 where
  pub opened : (m : ℕ) → Range N m → opens m → (y.armed m ≡ true) × (y.waiting m ≡ false) × (y.inside m ≡ false)
  pub others : (m : ℕ) → Range N m → (m ≡ n → ⊥) → (opens m → ⊥) → Stays x y m

-- node n is done: it is in none of the three; its parent is to be read anew, or, where n is a root, the calls inside its function are armed
pub record Ending (N : ℕ) (at : ℕ → Expr) (home up : ℕ → ℕ) (x y : Sets) (n : ℕ) : Type 0 where
  pub own : (y.armed n ≡ false) × (y.waiting n ≡ false) × (y.inside n ≡ false)
  pub armed : (m : ℕ) → Range N m → (m ≡ n → ⊥) → (m ≡ up n → ⊥)
      → y.armed m ≡ (x.armed m || (eqb (up n) 0 && (x.inside m && calls (at m) (home n))))
  pub others : (m : ℕ) → Range N m → (m ≡ n → ⊥) → (m ≡ up n → ⊥) → (y.waiting m ≡ x.waiting m) × (y.inside m ≡ x.inside m)

-- the body of g is as new: its root is armed, its other nodes are in none of the three, the calls inside g aren't armed;
-- those that enter it wait no longer and are inside
pub record Renewing (N : ℕ) (body at : ℕ → Expr) (home : ℕ → ℕ) (x y : Sets) (g : ℕ) (enter : ℕ → Bool) : Type 0 where
  pub armed : (m : ℕ) → Range N m
      → y.armed m ≡ (eqb m (id (body g)) || (x.armed m && not (eqb (home m) g || (x.inside m && calls (at m) g))))
  pub waiting : (m : ℕ) → Range N m → y.waiting m ≡ (x.waiting m && not (enter m || eqb (home m) g))
  pub inside : (m : ℕ) → Range N m → y.inside m ≡ (enter m || (x.inside m && not (eqb (home m) g)))

-- held: by the move
abbrev pub holds : (at : ℕ → Expr) → Sets → Move → ℕ → Bool
holds at x (begins ns) m = x.held m
holds at x (turns k) m = x.held m
holds at x (finishes v) m = x.held m
holds at x (enters g vs) m = x.held m || calls (at m) g
holds at x (leaves g v) m = x.held m && not (calls (at m) g)
holds at x (restarts f vs) m = x.held m

module _ (N : ℕ) (body at : ℕ → Expr) (home up : ℕ → ℕ) (x y : Sets) (n : ℕ) where
  -- the other three
  abbrev pub Placed : Move → Type 0
  Placed (begins ns) = Opening N x y n (λ m. In m ns)
  Placed (turns k) = Opening N x y n (λ m. m ≡ k)
  Placed (finishes v) = Ending N at home up x y n
  Placed (enters g vs) = Renewing N body at home x y g (λ m. eqb m n)
  Placed (leaves g v) = Ending N at home up x y n
  Placed (restarts f vs) = Renewing N body at home x y f (λ m. false)

  pub record Updated (a : Move) : Type 0 where
    pub placed : Placed a
    pub held : (m : ℕ) → Range N m → y.held m ≡ holds at x a m

-- the node to be read anew, 0 if none is
abbrev pub rereads : (up : ℕ → ℕ) → ℕ → Move → ℕ
rereads up n (begins ns) = n
rereads up n (turns k) = n
rereads up n (finishes v) = up n
rereads up n (enters g vs) = 0
rereads up n (leaves g v) = up n
rereads up n (restarts f vs) = 0

-- over the bytes of a table
abbrev pub UpdatedOf : (t : List ℕ) → (x y : Sets) → ℕ → Move → Type 0
UpdatedOf t x y n a = Updated (nodes t) (body_of t) (expr_at t) (owner t) (parent t) x y n a
