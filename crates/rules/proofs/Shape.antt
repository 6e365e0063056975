-- the shape of a body under way
use Prim.Native.Nat.{ℕ}
use mathlib.Core.Bool.{Bool, true, false}
use mathlib.Core.Path.{◌≡◌}
use mathlib.Core.Logic.{◌⊎◌, ⊎_elim}
use native.Mathlib.Omega.{arith}
use Rattle.table.specs.Syntax.{Expr, Exprs, const, param, prim, call, self, cond, bind, bound, none, some, id, Every, Every*}
use Rattle.rules.specs.State.{View}
use Rattle.rules.specs.Reading.{Chosen}

-- done, or never opened
abbrev pub Still : View → ℕ → Type 0
Still s n = ((s.status n ≡ 0) ⊎ (s.status n ≡ 3)) × (s.second n ≡ false)

-- never opened
abbrev pub Idle : View → ℕ → Type 0
Idle s n = (s.status n ≡ 0) × (s.second n ≡ false)

-- opened, and not yet at its first step
abbrev pub Open : View → ℕ → Type 0
Open s n = (s.status n ≡ 1) × (s.second n ≡ false)

abbrev pub Busy : View → ℕ → Bool → Type 0
Busy s n p = (s.status n ≡ 2) × (s.second n ≡ p)

abbrev pub Done : View → Expr → Type 0
Done s e = (s.status (id e) ≡ 3) × Every (Still s) e

abbrev pub Done* : View → Exprs → Type 0
Done* s none = Unit {0}
Done* s (some e es) = Done s e × Done* s es

module _ (s : View) where
  -- an expression that was opened and isn't done
  abbrev mutual
    pub Live : Expr → Type 0
    Live (const n v) = Open s n
    Live (param n i) = Open s n
    Live (prim n op es) = (Open s n × Every* (Idle s) es) ⊎ (Busy s n false × Opened* es)
    Live (call n g es) = (Open s n × Every* (Idle s) es) ⊎ (Busy s n false × Opened* es)
        ⊎ (Busy s n true × Done* s es × (s.occupant g ≡ n) × (n ≡ 0 → ⊥))
    Live (self n es) = (Open s n × Every* (Idle s) es) ⊎ (Busy s n false × Opened* es)
    Live (cond n a b c) =
        (Open s n × Every (Idle s) a × Every (Idle s) b × Every (Idle s) c)
        ⊎ (Busy s n false × (Live a ⊎ Done s a) × Every (Idle s) b × Every (Idle s) c)
        ⊎ (Busy s n true × Done s a × Chosen ((Live b ⊎ Done s b) × Every (Idle s) c) ((Live c ⊎ Done s c) × Every (Idle s) b)
        (s.value (id a)))
    Live (bind n ds b) =
        (Open s n × Every* (Idle s) ds × Every (Idle s) b)
        ⊎ (Busy s n false × Opened* ds × Every (Idle s) b)
        ⊎ (Busy s n true × Done* s ds × (Live b ⊎ Done s b))
    Live (bound n d) = Open s n

    pub Opened* : Exprs → Type 0
    Opened* none = Unit {0}
    Opened* (some e es) = (Live e ⊎ Done s e) × Opened* es

abbrev pub Opened : View → Expr → Type 0
Opened s e = Live s e ⊎ Done s e

-- a node that is open or busy isn't still
pub open_moves : (s : View) (n : ℕ) → s.status n ≡ 1 → Still s n → ⊥
open_moves s n e h = ⊎_elim (λ z. omega (arith, e, z)) (λ z. omega (arith, e, z)) h.0

pub busy_moves : (s : View) (n : ℕ) → s.status n ≡ 2 → Still s n → ⊥
busy_moves s n e h = ⊎_elim (λ z. omega (arith, e, z)) (λ z. omega (arith, e, z)) h.0
