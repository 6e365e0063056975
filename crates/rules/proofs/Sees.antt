-- where its bounds are in scope, an expression reads what the state holds at their definientia
use Prim.Native.Nat.{ℕ}
use mathlib.Core.Path.{◌≡◌, ap, ◌∙◌}
use mathlib.Core.Logic.{◌⊎◌, inl, inr, ⊎_elim}
use native.Mathlib.Decide.{ℕ_discrete}
use lib.Dec.{eqb}
use borrow.Author.Tests.{eq-eqb, ne_eqb}
use Rattle.table.specs.Syntax.{Expr, Exprs, const, param, prim, call, self, cond, bind, bound, none, some, id}
use Rattle.table.specs.Pick.{pick}
use Rattle.table.specs.Environment.{extend, values}
use Rattle.table.specs.Well.{Defines, Scoped, Scoped*}
use Rattle.table.proofs.Family.{pick_true, pick_false}

-- the state holds what the environment says of each definiens in scope
module _ (value : ℕ → ℕ) where
  abbrev mutual
    pub Sees : Expr → (ℕ → ℕ) → Type 0
    Sees (const n v) ρ = Unit {0}
    Sees (param n i) ρ = Unit {0}
    Sees (prim n op es) ρ = Sees* es ρ
    Sees (call n g es) ρ = Sees* es ρ
    Sees (self n es) ρ = Sees* es ρ
    Sees (cond n a b c) ρ = Sees a ρ × Sees b ρ × Sees c ρ
    Sees (bind n ds b) ρ = Sees* ds ρ × Sees b (extend ds (values value ds) ρ)
    Sees (bound n d) ρ = ρ d ≡ value d

    pub Sees* : Exprs → (ℕ → ℕ) → Type 0
    Sees* none ρ = Unit {0}
    Sees* (some e es) ρ = Sees e ρ × Sees* es ρ

-- what the environment of a let's body holds: the state's values of the definientia
module _ (value : ℕ → ℕ) (ρ : ℕ → ℕ) (d : ℕ) where
  put_one : (e : Expr) (x : ℕ) → (id e ≡ d → ⊥) ⊎ (id e ≡ d) → ((id e ≡ d → ⊥) → x ≡ value d)
      → pick (eqb (id e) d) (value (id e)) x ≡ value d
  put_one e x (inl n) f = pick_false (eqb (id e) d) (value (id e)) x (ne_eqb (id e) d n) ∙ f n
  put_one e x (inr p) f = pick_true (eqb (id e) d) (value (id e)) x (eq-eqb (id e) d p) ∙ ap value p

  decide : (e : Expr) → (id e ≡ d → ⊥) ⊎ (id e ≡ d)
  decide e = go (ℕ_discrete (id e) d)
    where
      go : Dec (id e ≡ d) → (id e ≡ d → ⊥) ⊎ (id e ≡ d)
      go (yes p) = inr p
      go (no n) = inl n

  pub extend_new : (ds : Exprs) → Defines d ds → extend ds (values value ds) ρ d ≡ value d
  extend_new none p = absurd p
  extend_new (some e es) p = put_one e (extend es (values value es) ρ d) (decide e) (λ n. other p n (λ q. extend_new es q))
    where
      other : (id e ≡ d) ⊎ Defines d es → (id e ≡ d → ⊥) → (Defines d es → extend es (values value es) ρ d ≡ value d)
          → extend es (values value es) ρ d ≡ value d
      other (inl q) n f = absurd (n q)
      other (inr q) n f = f q

  pub extend_old : (ds : Exprs) → ρ d ≡ value d → extend ds (values value ds) ρ d ≡ value d
  extend_old none p = p
  extend_old (some e es) p = let r = extend_old es p in put_one e (extend es (values value es) ρ d) (decide e) (λ n. r)

-- so scope is enough, whatever the state holds
module _ (value : ℕ → ℕ) where
  abbrev Holds : (ℕ → Type 0) → (ℕ → ℕ) → Type 0
  Holds S ρ = (d : ℕ) → S d → ρ d ≡ value d

  mutual
    sees_scoped : (e : Expr) (S : ℕ → Type 0) (ρ : ℕ → ℕ) → Holds S ρ → Scoped e S → Sees value e ρ
    sees_scoped (const n v) S ρ h x = tt
    sees_scoped (param n i) S ρ h x = tt
    sees_scoped (prim n op es) S ρ h x = sees_scoped* es S ρ h x
    sees_scoped (call n g es) S ρ h x = sees_scoped* es S ρ h x
    sees_scoped (self n es) S ρ h x = sees_scoped* es S ρ h x
    sees_scoped (cond n a b c) S ρ h x =
        (sees_scoped a S ρ h x.0, sees_scoped b S ρ h x.1, sees_scoped c S ρ h x.2)
    sees_scoped (bind n ds b) S ρ h x = (
      sees_scoped* ds S ρ h x.0,
      sees_scoped b (λ d. Defines d ds ⊎ S d) (extend ds (values value ds) ρ)
          (λ d. ⊎_elim (extend_new value ρ d ds) (λ y. extend_old value ρ d ds (h d y))) x.1,
    )
    sees_scoped (bound n d) S ρ h x = h d x

    sees_scoped* : (es : Exprs) (S : ℕ → Type 0) (ρ : ℕ → ℕ) → Holds S ρ → Scoped* es S → Sees* value es ρ
    sees_scoped* none S ρ h x = tt
    sees_scoped* (some e es) S ρ h x = (sees_scoped e S ρ h x.0, sees_scoped* es S ρ h x.1)

  -- nothing is bound around a body
  pub sees_body : (e : Expr) → Scoped e (λ d. ⊥) → Sees value e (λ d. 0)
  sees_body e x = sees_scoped e (λ d. ⊥) (λ d. 0) (λ d y. absurd y) x
