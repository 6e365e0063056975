-- Parallel Conflict Analysis (Sharp and Mycroft, section 4.2)
use Rattle.std.specs.Prelude.{ℕ}
use Rattle.table.specs.Syntax.{Expr, Exprs, const, param, prim, call, self, cond, bind, bound, none, some}
use Rattle.list.specs.Sets.{Calls, ∅, only, ◌∪◌, shared}

module _ (callee : ℕ → ℕ) (B : ℕ → Calls) where
  -- C, the calls that may happen in e: `B g` is that of the body of g
  abbrev mutual
    pub C : Expr → Calls
    C (const n v) = ∅
    C (param n i) = ∅
    C (prim n op es) = C* es
    C (call n g es) = C* es ∪ only n ∪ B g
    C (self n es) = C* es
    C (cond n a b c) = C a ∪ C b ∪ C c
    C (bind n ds b) = C* ds ∪ C b
    C (bound n d) = ∅

    pub C* : Exprs → Calls
    C* none = ∅
    C* (some e es) = C e ∪ C* es

  -- PC of the sets of es, where `t` joins the sets before them
  abbrev pub PC : Calls → Exprs → Calls
  PC t none = ∅
  PC t (some e es) = shared callee (C e) (t ∪ C* es) ∪ PC (t ∪ C e) es

  -- A, the calls in conflict in e
  abbrev mutual
    pub A : Expr → Calls
    A (const n v) = ∅
    A (param n i) = ∅
    A (prim n op es) = PC ∅ es ∪ A* es
    A (call n g es) = PC ∅ es ∪ A* es
    A (self n es) = PC ∅ es ∪ A* es
    A (cond n a b c) = A a ∪ A b ∪ A c
    A (bind n ds b) = (PC ∅ ds ∪ A* ds) ∪ A b
    A (bound n d) = ∅

    pub A* : Exprs → Calls
    A* none = ∅
    A* (some e es) = A e ∪ A* es
