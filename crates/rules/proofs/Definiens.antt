-- where a bound is under way, its definiens is at rest: a let opens its body once its definientia are done
use Prim.Native.Nat.{ℕ}
use mathlib.Core.Path.{◌≡◌, subst}
use mathlib.Core.Logic.{◌⊎◌, inl, inr, ⊎_elim}
use native.Mathlib.Omega.{arith}
use Rattle.table.specs.Syntax.{Expr, Exprs, const, param, prim, call, self, cond, bind, bound, none, some, id, Node, Node*, Sub, Sub*}
use Rattle.table.specs.Well.{Defines, Scoped, Scoped*}
use Rattle.table.proofs.SyntaxLaws.{node_id, every_node}
use Rattle.rules.specs.State.{View}
use Rattle.rules.proofs.Shape.{Still, Done*, Live, Opened*}
use Rattle.rules.proofs.Branches.{chosen_case}
use Rattle.rules.proofs.Within.{idle_not, idle_not*, done_not, under_way, done_not*}
use Rattle.rules.proofs.Acting.{Acting, live}

module _ (s : View) (top : Expr) (n d : ℕ) (moving : Still s n → ⊥) where
  -- at rest, and a node of the body
  abbrev Known : ℕ → Type 0
  Known m = Still s m × Node m top

  abbrev U : Expr
  U = bound n d

  -- definientia that are done
  defined : (ds : Exprs) → Done* s ds → ((m : ℕ) → Node* m ds → Node m top) → (m : ℕ) → Defines m ds → Known m
  defined (some e ds) x i m (inl q) =
      subst Known q (every_node (Still s) (id e) e x.0.1 (node_id e), i (id e) (inl (node_id e)))
  defined (some e ds) x i m (inr q) = defined ds x.1 (λ y z. i y (inr z)) m q
  defined none x i m q = absurd q

  other : {X : Type 0} → ◌≡◌ {A = ℕ} 0 1 → X
  other z = absurd (omega arith)

  -- S is what is known around e
  mutual
    known : (e : Expr) (S : ℕ → Type 0) → ((m : ℕ) → S m → Known m) → ((m : ℕ) → Node m e → Node m top) → Scoped e S → Sub U e → Live s e
        → Known d
    known (const m v) S k i f p l = other (cc)
    known (param m j) S k i f p l = other (cc)
    known (prim m op es) S k i f (inl p) l = other (cc)
    known (prim m op es) S k i f (inr p) (inl l) = absurd (idle_not* s U moving es l.1 p)
    known (prim m op es) S k i f (inr p) (inr l) = known* es S k (λ x y. i x (inr y)) f p l.1
    known (call m g es) S k i f (inl p) l = other (cc)
    known (call m g es) S k i f (inr p) (inl l) = absurd (idle_not* s U moving es l.1 p)
    known (call m g es) S k i f (inr p) (inr (inl l)) = known* es S k (λ x y. i x (inr y)) f p l.1
    known (call m g es) S k i f (inr p) (inr (inr l)) = absurd (done_not* s U moving es l.1 p)
    known (self m es) S k i f (inl p) l = other (cc)
    known (self m es) S k i f (inr p) (inl l) = absurd (idle_not* s U moving es l.1 p)
    known (self m es) S k i f (inr p) (inr l) = known* es S k (λ x y. i x (inr y)) f p l.1
    known (cond m a b c) S k i f (inl p) l = other (cc)
    known (cond m a b c) S k i f (inr (inl p)) (inl l) = absurd (idle_not s U moving a l.1 p)
    known (cond m a b c) S k i f (inr (inl p)) (inr (inl l)) =
        known a S k (λ y z. i y (inr (inl z))) f.0 p (under_way s U moving a p l.1)
    known (cond m a b c) S k i f (inr (inl p)) (inr (inr l)) = absurd (done_not s U moving a l.1 p)
    known (cond m a b c) S k i f (inr (inr (inl p))) (inl l) = absurd (idle_not s U moving b l.2 p)
    known (cond m a b c) S k i f (inr (inr (inl p))) (inr (inl l)) = absurd (idle_not s U moving b l.2 p)
    known (cond m a b c) S k i f (inr (inr (inl p))) (inr (inr l)) =
        chosen_case (λ x. known b S k (λ y z. i y (inr (inr (inl z)))) f.1 p (under_way s U moving b p x.0))
        (λ x. absurd (idle_not s U moving b x.1 p)) (s.value (id a)) l.2
    known (cond m a b c) S k i f (inr (inr (inr p))) (inl l) = absurd (idle_not s U moving c l.3 p)
    known (cond m a b c) S k i f (inr (inr (inr p))) (inr (inl l)) = absurd (idle_not s U moving c l.3 p)
    known (cond m a b c) S k i f (inr (inr (inr p))) (inr (inr l)) =
        chosen_case (λ x. absurd (idle_not s U moving c x.1 p))
        (λ x. known c S k (λ y z. i y (inr (inr (inr z)))) f.2 p (under_way s U moving c p x.0)) (s.value (id a)) l.2
    known (bind m ds b) S k i f (inl p) l = other (cc)
    known (bind m ds b) S k i f (inr (inl p)) (inl l) = absurd (idle_not* s U moving ds l.1 p)
    known (bind m ds b) S k i f (inr (inl p)) (inr (inl l)) = known* ds S k (λ y z. i y (inr (inl z))) f.0 p l.1
    known (bind m ds b) S k i f (inr (inl p)) (inr (inr l)) = absurd (done_not* s U moving ds l.1 p)
    known (bind m ds b) S k i f (inr (inr p)) (inl l) = absurd (idle_not s U moving b l.2 p)
    known (bind m ds b) S k i f (inr (inr p)) (inr (inl l)) = absurd (idle_not s U moving b l.2 p)
    known (bind m ds b) S k i f (inr (inr p)) (inr (inr l)) =
        known b (λ y. Defines y ds ⊎ S y) (λ y. ⊎_elim (defined ds l.1 (λ y z. i y (inr (inl z))) y) (k y))
        (λ y z. i y (inr (inr z))) f.1 p (under_way s U moving b p l.2)
    known (bound m q) S k i f p l = let e : q ≡ d = cc in subst Known e (k q f)

    known* : (es : Exprs) (S : ℕ → Type 0) → ((m : ℕ) → S m → Known m) → ((m : ℕ) → Node* m es → Node m top) → Scoped* es S → Sub* U es
        → Opened* s es → Known d
    known* none S k i f p o = absurd p
    known* (some e es) S k i f (inl p) o = known e S k (λ y z. i y (inl z)) f.0 p (under_way s U moving e p o.0)
    known* (some e es) S k i f (inr p) o = known* es S k (λ y z. i y (inr z)) f.1 p o.1

pub definiens_still : {F : ℕ} {body : ℕ → Expr} {s : View} {h n d : ℕ} → Acting F body s h (bound n d) → Still s d × Node d (body h)
definiens_still {body = body} {s = s} {h = h} {n = n} {d = d} x =
    known s (body h) n d x.moving (body h) (λ m. ⊥) (λ m z. absurd z) (λ m k. k) (x.well.scoped h x.fn) x.place (live x)
