-- the circuit's step (document 01, "The circuit"; what is kept of a value: document 02, Q-2): which step a node has, what it changes, and
-- what is answered
use Rattle.std.specs.Prelude.{ℕ, zero, suc, Bool, true, false, ◌&&◌, List, [], ◌∷◌, eqb, ltb}
use Rattle.table.specs.Syntax.{Expr, Exprs, const, param, prim, call, self, cond, bind, bound, none, some, id, roots}
use Rattle.table.specs.Environment.{values}
use Rattle.table.specs.Pick.{pick}
use Rattle.rules.specs.Arithmetic.{Arithmetic, keep_all}
use Rattle.rules.specs.State.{State512, View, entry, write, view, fill, clear, opened}

-- what a step answers: taken, taken with main's value, or refused by number and place
pub data Reply : Type 0 where
  taken : Reply
  answered : (v : ℕ) → Reply
  denied : (number place : ℕ) → Reply

-- what a step does at its node
pub data Move : Type 0 where
  -- busy, and these nodes open
  begins : List ℕ → Move
  -- second phase, and this node opens
  turns : ℕ → Move
  -- done with a value
  finishes : ℕ → Move
  -- a call enters function g with these arguments, or leaves it with this value
  enters : (g : ℕ) → List ℕ → Move
  leaves : (g v : ℕ) → Move
  -- a self call starts its function f again with these arguments
  restarts : (f : ℕ) → List ℕ → Move

-- the step of a node: none (21), none while the resource is occupied (22 or 23), or a move
pub data Act : Type 0 where
  stuck : Act
  blocked : Act
  does : Move → Act

abbrev pub done : View → ℕ → Bool
done s n = eqb (s.status n) 3

abbrev pub all_done : View → Exprs → Bool
all_done s none = true
all_done s (some e es) = done s (id e) && all_done s es

-- the branch that a condition of this value takes
abbrev pub branch : ℕ → Expr → Expr → Expr
branch zero b c = c
branch (suc v) b c = b

-- what is done at an open node, at a busy one; "Anything else has no step"
abbrev pub by_status : (status : ℕ) → (opened busy : Act) → Act
by_status t o b = pick (eqb t 1) o (pick (eqb t 2) b stuck)

module _ (units : Arithmetic) (body : ℕ → Expr) where
  -- the step of an expression's node, in the body of function h
  abbrev pub act : ℕ → View → Expr → Act
  -- an open constant, parameter or bound has its value at once and is done
  act h s (const n v) = by_status (s.status n) (does (finishes v)) stuck
  act h s (param n i) = by_status (s.status n) (does (finishes (s.register h i))) stuck
  act h s (bound n d) = by_status (s.status n) (does (finishes (s.value d))) stuck
  -- any other open node becomes busy and opens what it needs first
  -- a busy primitive, its children done: done with the operation's result in its function
  act h s (prim n op es) =
      by_status (s.status n) (does (begins (roots es)))
      (pick (all_done s es) (does (finishes (units.result h op (values s.value es)))) stuck)
  -- a busy call, its arguments done: it enters with them as the callee keeps them, or waits (22, 23) while the callee has an occupant
  -- in second phase, the callee's root done: it leaves with that value as its own function keeps it
  act h s (call n g es) =
      by_status (s.status n) (does (begins (roots es))) (pick (s.second n)
      (pick (done s (id (body g))) (does (leaves g (units.keep h (s.value (id (body g)))))) stuck)
      (pick (all_done s es) (pick (eqb (s.occupant g) 0) (does (enters g (keep_all units g (values s.value es)))) blocked) stuck))
  -- a busy self call, its arguments done: its own function starts again with them as it keeps them
  act h s (self n es) =
      by_status (s.status n) (does (begins (roots es)))
      (pick (all_done s es) (does (restarts h (keep_all units h (values s.value es)))) stuck)
  -- a busy if or let: its condition or definientia done, the branch or body opens; that done, its value goes on
  act h s (cond n a b c) =
      let r : Expr = branch (s.value (id a)) b c in
      by_status (s.status n) (does (begins (id a ∷ []))) (pick (s.second n)
      (pick (done s (id r)) (does (finishes (s.value (id r)))) stuck)
      (pick (done s (id a)) (does (turns (id r))) stuck))
  act h s (bind n ds b) =
      by_status (s.status n) (does (begins (roots ds))) (pick (s.second n)
      (pick (done s (id b)) (does (finishes (s.value (id b)))) stuck)
      (pick (all_done s ds) (does (turns (id b))) stuck))

abbrev pub with_status : State512 → List ℕ → State512
with_status s l = record { status = l; second = s.second; value = s.value; registers = s.registers; occupant = s.occupant }

abbrev pub with_second : State512 → List Bool → State512
with_second s l = record { status = s.status; second = l; value = s.value; registers = s.registers; occupant = s.occupant }

abbrev pub with_occupant : State512 → List ℕ → State512
with_occupant s l = record { status = s.status; second = s.second; value = s.value; registers = s.registers; occupant = l }

-- done with a value; "done .. clear it", the second phase
abbrev pub finish : State512 → ℕ → ℕ → State512
finish s n v = record {
  status = write s.status n 3;
  second = write s.second n false;
  value = write s.value n v;
  registers = s.registers;
  occupant = s.occupant;
}

module _ (N : ℕ) (home : ℕ → ℕ) where
  -- node n belongs to function g; past N none does, so that a reset keeps those entries
  abbrev pub mine : ℕ → ℕ → Bool
  mine g n = ltb n (suc N) && eqb (home n) g

  -- function g made ready: its nodes idle, without value and second phase, its registers with the arguments vs, its root r open
  abbrev pub reset : State512 → (g r : ℕ) → List ℕ → State512
  reset s g r vs = record {
    status = write (clear (mine g) 0 s.status) r 1;
    second = clear (mine g) false s.second;
    value = clear (mine g) 0 s.value;
    registers = fill g vs s.registers;
    occupant = s.occupant;
  }

module _ (N : ℕ) (home : ℕ → ℕ) (body : ℕ → Expr) where
  -- what a move at node n changes
  abbrev pub perform : State512 → ℕ → Move → State512
  perform s n (begins ns) = with_status s (opened (write s.status n 2) ns)
  perform s n (turns m) = with_second (with_status s (write s.status m 1)) (write s.second n true)
  perform s n (finishes v) = finish s n v
  -- the callee is made ready, this call becomes its occupant and is in its second phase
  perform s n (enters g vs) =
      let t : State512 = reset N home s g (id (body g)) vs in
      with_occupant (with_second t (write t.second n true)) (write s.occupant g n)
  -- "done with its value, occupant 0"
  perform s n (leaves g v) = with_occupant (finish s n v) (write s.occupant g 0)
  -- "the same reset ..; the occupant stays"
  perform s n (restarts f vs) = reset N home s f (id (body f)) vs

-- one of the entries 1 to k is above the limit
unfoldable pub over : (limit k : ℕ) → List ℕ → Bool
over limit zero l = false
over limit (suc k) l = pick (ltb limit (entry l 0 (suc k))) true (over limit k l)

-- the answer of a step taken: main's value, if its root is done after it
abbrev pub told : ℕ → View → Reply
told root s = pick (done s root) (answered (s.value root)) taken

pub record Stepped : Type 0 where
  pub answer : Reply
  pub state : State512

-- a refusal keeps the state
abbrev pub refusal : State512 → (number place : ℕ) → Stepped
refusal s k p = record { answer = denied k p; state = s }

module _ (units : Arithmetic) (F N : ℕ) (body at : ℕ → Expr) (home : ℕ → ℕ) where
  -- 21 for a node without a step, 22 or 23 for a call that waits, by its tag; the place is the node asked for
  abbrev pub outcome : (ℕ → Bool) → State512 → ℕ → Act → Stepped
  outcome tags s n stuck = refusal s 21 n
  outcome tags s n blocked = refusal s (pick (tags n) 22 23) n
  outcome tags s n (does m) =
      let t : State512 = perform N home body s n m in
      record { answer = told (id (body F)) (view t); state = t }

  -- in order: 12 for no node, 24 for a status or an occupant out of range, up to N and F, 20 once main is done, then what the node has
  unfoldable pub circuit_step : (ℕ → Bool) → State512 → ℕ → Stepped
  circuit_step tags s n =
      pick (eqb n 0) (refusal s 12 0)
      (pick (ltb N n) (refusal s 12 0)
      (pick (over 3 N s.status) (refusal s 24 0)
      (pick (over N F s.occupant) (refusal s 24 0)
      (pick (done (view s) (id (body F))) (refusal s 20 n)
      (outcome tags s n (act units body (home n) (view s) (at n)))))))
