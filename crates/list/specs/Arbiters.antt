-- the arbiter list decided (Sharp and Mycroft, section 4.2): C, PC and A as tests of node numbers, what main reaches as one of functions
use Rattle.std.specs.Prelude.{ℕ, zero, suc, Bool, false, ◌&&◌, ◌||◌, ◌==◌, nat_eq}
use Rattle.table.specs.Syntax.{Expr, Exprs, const, param, prim, call, self, cond, bind, bound, none, some}
use Rattle.table.specs.Pick.{pick}

abbrev pub Test : Type 0
Test = ℕ → Bool

unfoldable pub no_calls : Test
no_calls n = false

-- in one of the two
unfoldable pub joined : Test → Test → Test
joined s t n = s n || t n

-- one of the numbers 1 to k passes
unfoldable pub any_up_to : ℕ → Test → Bool
any_up_to zero p = false
any_up_to (suc k) p = p (suc k) || any_up_to k p

module _ (N : ℕ) (callee : ℕ → ℕ) (B : ℕ → Test) where
  -- C: `B g` is that of the body of g
  unfoldable mutual
    unfolding no_calls joined

    pub calls_in : Expr → Test
    calls_in (const n v) = no_calls
    calls_in (param n i) = no_calls
    calls_in (prim n op es) = calls_in* es
    calls_in (call n g es) = joined (calls_in* es) (joined (nat_eq n) (B g))
    calls_in (self n es) = calls_in* es
    calls_in (cond n a b c) = joined (calls_in a) (joined (calls_in b) (calls_in c))
    calls_in (bind n ds b) = joined (calls_in* ds) (calls_in b)
    calls_in (bound n d) = no_calls

    pub calls_in* : Exprs → Test
    calls_in* none = no_calls
    calls_in* (some e es) = joined (calls_in e) (calls_in* es)

  -- the calls of s whose function is called in t too
  unfoldable pub meeting : Test → Test → Test
  unfolding any_up_to
  meeting s t α = s α && any_up_to N (λ β. t β && callee α == callee β)

  -- PC of the sets of es, where t joins the sets before them
  unfoldable pub parallel : Test → Exprs → Test
  unfolding no_calls joined meeting calls_in
  parallel t none = no_calls
  parallel t (some e es) = joined (meeting (calls_in e) (joined t (calls_in* es))) (parallel (joined t (calls_in e)) es)

  -- A, the calls in conflict
  unfoldable mutual
    unfolding no_calls joined parallel

    pub conflicts : Expr → Test
    conflicts (const n v) = no_calls
    conflicts (param n i) = no_calls
    conflicts (prim n op es) = joined (parallel no_calls es) (conflicts* es)
    conflicts (call n g es) = joined (parallel no_calls es) (conflicts* es)
    conflicts (self n es) = joined (parallel no_calls es) (conflicts* es)
    conflicts (cond n a b c) = joined (conflicts a) (joined (conflicts b) (conflicts c))
    conflicts (bind n ds b) = joined (joined (parallel no_calls ds) (conflicts* ds)) (conflicts b)
    conflicts (bound n d) = no_calls

    pub conflicts* : Exprs → Test
    conflicts* none = no_calls
    conflicts* (some e es) = joined (conflicts e) (conflicts* es)

module _ (N : ℕ) (callee : ℕ → ℕ) (body : ℕ → Expr) where
  -- the calls that may happen in the bodies of the functions 1 to t
  unfoldable pub calls_of : ℕ → ℕ → Test
  unfolding calls_in
  calls_of zero g m = false
  calls_of (suc t) g m = pick (g == suc t) (calls_in N callee (calls_of t) (body g) m) (calls_of t g m)

  -- the functions reached: main, which is F, and those called in C of its body
  unfoldable pub reached_in : ℕ → Test
  unfolding any_up_to calls_of
  reached_in F g = g == F || any_up_to N (λ c. calls_of F F c && g == callee c)

  -- the list: in conflict in the body of a function reached
  unfoldable pub listed_in : ℕ → Test
  unfolding any_up_to conflicts calls_of reached_in
  listed_in F α = any_up_to F (λ f. reached_in F f && conflicts N callee (calls_of F) (body f) α)
