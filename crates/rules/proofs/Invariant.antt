-- the whole circuit: its steps, and what holds of every state that they reach
use Prim.Native.Nat.{ℕ, ◌<◌}
use mathlib.Core.Bool.{true, false}
use mathlib.Core.Path.{◌≡◌, sym, ◌∙◌}
use mathlib.Core.Logic.{◌⊎◌, inl, inr, ⊎_elim}
use native.Mathlib.Decide.{ℕ_discrete}
use lib.ListN.{get_or}
use Rattle.table.specs.Syntax.{Expr, Exprs, const, param, prim, call, self, cond, bind, bound, id, Every, Node, Sub}
use Rattle.rules.specs.State.{View}
use Rattle.rules.proofs.Shape.{Still, Idle, Open, Busy, Live, Opened}
use Rattle.rules.proofs.Frame.{Same, SameFunction}
use Rattle.table.specs.Environment.{values}
use Rattle.rules.proofs.Moves.{Under, Finished*, Becomes, Inner}
use Rattle.table.specs.Well.{CallIn, Fn}
use Rattle.rules.specs.Arithmetic.{Arithmetic, keep_all}

-- main, or occupied by a call
abbrev pub Active : ℕ → View → ℕ → Type 0
Active F s f = (f ≡ F) ⊎ (s.occupant f ≡ 0 → ⊥)

-- it goes by the occupant alone
pub active_over : {F f o o' : ℕ} → o' ≡ o → (f ≡ F) ⊎ (o ≡ 0 → ⊥) → (f ≡ F) ⊎ (o' ≡ 0 → ⊥)
active_over k (inl e) = inl e
active_over k (inr z) = inr (λ e. z (sym k ∙ e))

pub active? : (F : ℕ) (s : View) (f : ℕ) → Active F s f ⊎ (Active F s f → ⊥)
active? F s f = go (ℕ_discrete f F) (ℕ_discrete (s.occupant f) 0)
  where
    go : Dec (f ≡ F) → Dec (s.occupant f ≡ 0) → Active F s f ⊎ (Active F s f → ⊥)
    go (yes e) d = inl (inl e)
    go (no e) (no z) = inl (inr z)
    go (no e) (yes z) = inr (⊎_elim e (λ k. k z))

-- a body newly opened
abbrev pub New : (body : ℕ → Expr) → View → ℕ → Type 0
New body s f = Open s (id (body f)) × Under (Idle s) (body f)

-- a step inside a body
pub record InnerStep (units : Arithmetic) (body : ℕ → Expr) (s s' : View) (h : ℕ) (u : Expr) : Type 0 where
  pub place : Sub u (body h)
  pub rule : Inner (units.result h) (s.register h) s s' u
  pub keeps : (m : ℕ) → (Node m u → ⊥) → Same s s' m
  pub keeps_fn : (f : ℕ) → SameFunction s s' f

module _ (units : Arithmetic) (body : ℕ → Expr) where
  pub record EnterStep (s s' : View) (h n g : ℕ) (es : Exprs) : Type 0 where
    pub place : Sub (call n g es) (body h)
    pub waits : Busy s n false
    pub ready : Finished* s es
    pub free : s.occupant g ≡ 0
    pub enters : Busy s' n true
    pub new : New body s' g
    pub keeps : (m : ℕ) → (m ≡ n → ⊥) → (Node m (body g) → ⊥) → Same s s' m
    pub occupies : s'.occupant g ≡ n
    pub arguments : (i : ℕ) → s'.register g i ≡ get_or (keep_all units g (values s.value es)) i 0
    pub keeps_fn : (f : ℕ) → (f ≡ g → ⊥) → SameFunction s s' f

  pub record LeaveStep (s s' : View) (h n g : ℕ) (es : Exprs) : Type 0 where
    pub place : Sub (call n g es) (body h)
    pub holds : Busy s n true
    pub over : s.status (id (body g)) ≡ 3
    pub becomes : Becomes s s' n (units.keep h (s.value (id (body g))))
    pub keeps : (m : ℕ) → (m ≡ n → ⊥) → Same s s' m
    pub frees : s'.occupant g ≡ 0
    pub registers : (i : ℕ) → s'.register g i ≡ s.register g i
    pub keeps_fn : (f : ℕ) → (f ≡ g → ⊥) → SameFunction s s' f

  pub record AgainStep (s s' : View) (h n : ℕ) (es : Exprs) : Type 0 where
    pub place : Sub (self n es) (body h)
    pub waits : s.status n ≡ 2
    pub ready : Finished* s es
    pub new : New body s' h
    pub keeps : (m : ℕ) → (Node m (body h) → ⊥) → Same s s' m
    pub arguments : (i : ℕ) → s'.register h i ≡ get_or (keep_all units h (values s.value es)) i 0
    pub occupants : (f : ℕ) → s'.occupant f ≡ s.occupant f
    pub keeps_fn : (f : ℕ) → (f ≡ h → ⊥) → SameFunction s s' f

pub data Step (units : Arithmetic) (F : ℕ) (body : ℕ → Expr) (s s' : View) : Type 0 where
  inner : (h : ℕ) → Fn F body h → (u : Expr) → InnerStep units body s s' h u → Step units F body s s'
  enter : (h : ℕ) → Fn F body h → (n g : ℕ) (es : Exprs) → EnterStep units body s s' h n g es → Step units F body s s'
  leave : (h : ℕ) → Fn F body h → (n g : ℕ) (es : Exprs) → LeaveStep units body s s' h n g es → Step units F body s s'
  again : (h : ℕ) → Fn F body h → (n : ℕ) (es : Exprs) → AgainStep units body s s' h n es → Step units F body s s'

-- c is a call of f, in its second phase, in the body of a function above f
abbrev pub Holder : (F : ℕ) (body : ℕ → Expr) → View → (f c : ℕ) → Type 0
Holder F body s f c = (g : ℕ) × Fn F body g × (f < g) × CallIn c f (body g) × Busy s c true

-- holds of every state that is reached
pub record Sound (F : ℕ) (body : ℕ → Expr) (s : View) : Type 0 where
  pub opened : (f : ℕ) → Fn F body f → Active F s f → Opened s (body f)
  pub rest : (f : ℕ) → Fn F body f → (Active F s f → ⊥) → Every (Still s) (body f)
  pub held : (f c : ℕ) → Fn F body f → s.occupant f ≡ c → (c ≡ 0 → ⊥) → Holder F body s f c
  pub top : s.occupant F ≡ 0

pub new_live : (s : View) (e : Expr) → Open s (id e) → Under (Idle s) e → Live s e
new_live s (const n v) o h = o
new_live s (param n i) o h = o
new_live s (prim n op es) o h = inl (o, h)
new_live s (call n g es) o h = inl (o, h)
new_live s (self n es) o h = inl (o, h)
new_live s (cond n a b c) o h = inl (o, h.0, h.1, h.2)
new_live s (bind n ds b) o h = inl (o, h.0, h.1)
new_live s (bound n d) o h = o
