-- Parallel Conflict Analysis as the paper writes it (section 4.2), equation by equation, read as document 01 reads it ("The arbiter list"),
-- and of a program as document 02, Q-5, has it
use Rattle.std.specs.Prelude.{ℕ, zero, suc, List, ◌≢◌}
use Rattle.table.specs.Syntax.{Expr, Exprs, const, param, prim, call, self, cond, bind, bound, none, some}
use Rattle.table.specs.Pick.{Range}
use Rattle.table.specs.Reach.{Reached}
use Rattle.table.specs.Bytes.{functions}
use Rattle.table.specs.Expressions.{expr_at, body_of}
use Rattle.list.specs.Sets.{Calls, ∅, ◌∪◌, shared}
use Rattle.list.specs.Conflict.{C}
use Rattle.list.specs.CallSets.{callee_at, sets}

-- the same calls
infix 20 ◌≐◌
abbrev pub ◌≐◌ : Calls → Calls → Type 0
◌≐◌ s t = (α : ℕ) → (s α → t α) × (t α → s α)

module _ (callee : ℕ → ℕ) (B : ℕ → Calls) where
  -- S_i, the set of the i-th expression, from 0; empty past the last
  abbrev pub set_of : Exprs → ℕ → Calls
  set_of none i = ∅
  set_of (some e es) zero = C callee B e
  set_of (some e es) (suc i) = set_of es i

  -- PC(S_1, .., S_n) is the union, over i ≠ j, of { f^α ∈ S_i | ∃ β. f^β ∈ S_j }
  abbrev pub paper_pc : Exprs → Calls
  paper_pc es α = (i : ℕ) × (j : ℕ) × (i ≢ j) × shared callee (set_of es i) (set_of es j) α

  -- A⟦c⟧ and A⟦x⟧ are empty, x being a parameter or a bound
  -- A⟦a(e_1, .., e_k)⟧ and A⟦f(e_1, .., e_k)⟧, at a self call too, are PC(C⟦e_1⟧, .., C⟦e_k⟧) and the union of the A⟦e_i⟧
  -- A⟦if e_1 then e_2 else e_3⟧ is the union of the three
  -- A⟦let x_1 = e_1, .., x_k = e_k in e_0⟧ is PC(C⟦e_1⟧, .., C⟦e_k⟧) and the union of the A⟦e_i⟧, that of e_0 included
  abbrev mutual
    pub paper_a : Expr → Calls
    paper_a (const n v) = ∅
    paper_a (param n i) = ∅
    paper_a (prim n op es) = paper_pc es ∪ paper_a* es
    paper_a (call n g es) = paper_pc es ∪ paper_a* es
    paper_a (self n es) = paper_pc es ∪ paper_a* es
    paper_a (cond n a b c) = paper_a a ∪ paper_a b ∪ paper_a c
    paper_a (bind n ds b) = (paper_pc ds ∪ paper_a* ds) ∪ paper_a b
    paper_a (bound n d) = ∅

    -- the union of the A⟦e_i⟧
    pub paper_a* : Exprs → Calls
    paper_a* none = ∅
    paper_a* (some e es) = paper_a e ∪ paper_a* es

module _ (body at : ℕ → Expr) (F : ℕ) (B : ℕ → Calls) where
  -- the equations for C, function by function: B f is C⟦e_f⟧, e_f being the body of f. They are those of C in specs/Conflict, form by form;
  -- at a call C⟦g^α(e_1, .., e_k)⟧ is the union of the C⟦e_i⟧, {g^α} and B g, for C⟦e_g⟧; at a self call the union of the C⟦e_i⟧ alone
  abbrev pub PaperC : Type 0
  PaperC = (f : ℕ) → Range F f → B f ≐ C (callee_at at) B (body f)

  -- A⟦p⟧ is the union of the A⟦e_f⟧, p being the functions f that main reaches by calls, main among them; the paper takes all of a program
  abbrev pub program_a : Calls
  program_a α = (f : ℕ) × Reached F body f × paper_a (callee_at at) B (body f) α

-- of a table: C of its bodies, and the paper's A of its program
abbrev pub body_sets : List ℕ → ℕ → Calls
body_sets t = sets (body_of t) (expr_at t) (functions t)

abbrev pub PaperListed : List ℕ → Calls
PaperListed t = program_a (body_of t) (expr_at t) (functions t) (body_sets t)
