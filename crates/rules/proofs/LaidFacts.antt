-- from single nodes to expressions and back; which functions have a body
use Prim.Native.Nat.{ℕ, suc}
use mathlib.Core.Bool.{Bool, true, false, ◌&&◌}
use mathlib.Core.Path.{◌≡◌, refl, subst, sym, ap, ◌∙◌}
use mathlib.Core.Logic.{inl, inr, ⊎_elim}
use native.Mathlib.Omega.{arith}
use lib.ListN.{length, length-map}
use lib.Dec.{eqb}
use borrow.Author.Tests.{eqb-true, eq-eqb}
use Rattle.table.specs.Syntax.{Expr, Exprs, const, param, prim, call, self, cond, bind, bound, none, some, id, Every, Every*, Node, Node*}
use Rattle.table.specs.Syntax.{size, roots}
use Rattle.rules.specs.Arithmetic.{Arithmetic, keep_all}
use Rattle.rules.specs.State.{View, In}
use Rattle.table.specs.Environment.{values}
use Rattle.table.specs.Pick.{Range}
use Rattle.table.specs.Well.{Apart, Apart*, CallIn, Fn, Well, Laid}
use Rattle.rules.proofs.Frame.{Same}
use Rattle.table.proofs.SyntaxLaws.{node_id, sub_node}
use Rattle.rules.proofs.Moves.{Under, Finished*, Opens, Opens*}
use Rattle.rules.specs.Step.{all_done}

length_values : (s : View) (es : Exprs) → length (values s.value es) ≡ size es
length_values s none = refl
length_values s (some e es) = ap suc (length_values s es)

pub length_kept : (units : Arithmetic) (f : ℕ) (s : View) (es : Exprs) → length (keep_all units f (values s.value es)) ≡ size es
length_kept units f s es = length-map (values s.value es) (units.keep f) ∙ length_values s es

-- what holds of each node holds of every node
module _ (P : ℕ → Type 0) where
  mutual
    pub every_all : (e : Expr) → ((m : ℕ) → Node m e → P m) → Every P e
    every_all (const n v) f = f n refl
    every_all (param n i) f = f n refl
    every_all (prim n op es) f = (f n (inl refl), every_all* es (λ m k. f m (inr k)))
    every_all (call n g es) f = (f n (inl refl), every_all* es (λ m k. f m (inr k)))
    every_all (self n es) f = (f n (inl refl), every_all* es (λ m k. f m (inr k)))
    every_all (cond n a b c) f = (
      f n (inl refl),
      every_all a (λ m k. f m (inr (inl k))),
      every_all b (λ m k. f m (inr (inr (inl k)))),
      every_all c (λ m k. f m (inr (inr (inr k)))),
    )
    every_all (bind n ds b) f = (f n (inl refl), every_all* ds (λ m k. f m (inr (inl k))), every_all b (λ m k. f m (inr (inr k))))
    every_all (bound n d) f = f n refl

    pub every_all* : (es : Exprs) → ((m : ℕ) → Node* m es → P m) → Every* P es
    every_all* none f = tt
    every_all* (some e es) f = (every_all e (λ m k. f m (inl k)), every_all* es (λ m k. f m (inr k)))

  -- below e, by the nodes of e that are not its own
  pub under_all : (e : Expr) → Apart e → ((m : ℕ) → Node m e → (m ≡ id e → ⊥) → P m) → Under P e
  under_all (const n v) a f = tt
  under_all (param n i) a f = tt
  under_all (prim n op es) a f = every_all* es (λ m k. f m (inr k) (λ e. a.0 (subst (λ x. Node* x es) e k)))
  under_all (call n g es) a f = every_all* es (λ m k. f m (inr k) (λ e. a.0 (subst (λ x. Node* x es) e k)))
  under_all (self n es) a f = every_all* es (λ m k. f m (inr k) (λ e. a.0 (subst (λ x. Node* x es) e k)))
  under_all (cond n x y z) a f = (
    every_all x (λ m k. f m (inr (inl k)) (λ e. a.0 (subst (λ i. Node i x) e k))),
    every_all y (λ m k. f m (inr (inr (inl k))) (λ e. a.1 (subst (λ i. Node i y) e k))),
    every_all z (λ m k. f m (inr (inr (inr k))) (λ e. a.2 (subst (λ i. Node i z) e k))),
  )
  under_all (bind n ds b) a f = (
    every_all* ds (λ m k. f m (inr (inl k)) (λ e. a.0 (subst (λ i. Node* i ds) e k))),
    every_all b (λ m k. f m (inr (inr k)) (λ e. a.1 (subst (λ i. Node i b) e k))),
  )
  under_all (bound n d) a f = tt

pub root_node : (m : ℕ) (es : Exprs) → In m (roots es) → Node* m es
root_node m none i = i
root_node m (some e es) (inl p) = inl (subst (λ x. Node x e) (sym p) (node_id e))
root_node m (some e es) (inr i) = inr (root_node m es i)

-- a chain whose roots are opened, and nothing else of it changed
module _ (s s' : View) where
  pub opens_all : (e : Expr) → Apart e → (s'.status (id e) ≡ 1) × (s'.second (id e) ≡ s.second (id e))
      → ((m : ℕ) → Node m e → (m ≡ id e → ⊥) → Same s s' m) → Opens s s' e
  opens_all e a o f = (o, under_all (Same s s') e a f)

  pub opens_all* : (es : Exprs) → Apart* es → ((m : ℕ) → In m (roots es) → (s'.status m ≡ 1) × (s'.second m ≡ s.second m))
      → ((m : ℕ) → Node* m es → (In m (roots es) → ⊥) → Same s s' m) → Opens* s s' es
  opens_all* none a o f = tt
  opens_all* (some e es) a o f = (
    opens_all e a.0 (o (id e) (inl refl)) (λ m k d. f m (inl k) (⊎_elim d (λ i. a.2 m k (root_node m es i)))),
    opens_all* es a.1 (λ m i. o m (inr i)) (λ m k d. f m (inr k) (⊎_elim (λ p. a.2 m (subst (λ x. Node x e) (sym p) (node_id e)) k) d)),
  )

-- the tests of a chain
module _ (s : View) where
  pub all_done_finished : (es : Exprs) → all_done s es ≡ true → Finished* s es
  all_done_finished none t = tt
  all_done_finished (some e es) t = go (eqb (s.status (id e)) 3) refl t (λ x. all_done_finished es x)
    where
      go : (b : Bool) → eqb (s.status (id e)) 3 ≡ b → (b && all_done s es) ≡ true → (all_done s es ≡ true → Finished* s es)
          → (s.status (id e) ≡ 3) × Finished* s es
      go true p q ih = (eqb-true (s.status (id e)) 3 p, ih q)
      go false p q ih = let z : ◌≡◌ {A = ℕ} 0 1 = cc in absurd (omega arith)

  pub finished_all_done : (es : Exprs) → Finished* s es → all_done s es ≡ true
  finished_all_done none t = refl
  finished_all_done (some e es) t = ap (λ b. b && all_done s es) (eq-eqb (s.status (id e)) 3 t.0) ∙ finished_all_done es t.1

-- what a body calls is a function with a body
pub callee_fn : {F : ℕ} {body : ℕ → Expr} → Well F body → (h c g : ℕ) → Fn F body h → CallIn c g (body h) → Fn F body g
callee_fn well h c g r i = let b = well.below h c g r i in (b.0, omega (arith, b.1, r.1))

module _ {F N : ℕ} {body at : ℕ → Expr} {home : ℕ → ℕ} (laid : Laid F N body at home) where
  pub fn_main : Fn F body F
  fn_main = (laid.some_function, omega arith)

  pub own_node : (g m : ℕ) → Range N m → home m ≡ g → Node m (body g)
  own_node g m r e =
      subst (λ f. Node m (body f)) e (subst (λ x. Node x (body (home m))) (laid.number m r)
      (sub_node (at m) (id (at m)) (body (home m)) (laid.placed m r) (node_id (at m))))
