-- a body is made new: its root is armed, its other nodes are in no set; a call inside it isn't armed, and who enters it is inside
use Prim.Native.Nat.{ℕ}
use mathlib.Core.Bool.{Bool, true, false, ◌&&◌, ◌||◌, not, true≢false}
use mathlib.Core.Path.{◌≡◌, refl, subst, sym, ap, ◌∙◌}
use native.Mathlib.Omega.{arith}
use native.Mathlib.Decide.{ℕ_discrete}
use lib.Dec.{eqb}
use borrow.Author.Tests.{eq-eqb, ne_eqb}
use Rattle.table.specs.Pick.{pick, Range}
use Rattle.table.specs.Syntax.{Expr, id}
use Rattle.table.specs.Well.{Laid}
use Rattle.rules.specs.Arithmetic.{Arithmetic}
use Rattle.rules.specs.State.{View}
use Rattle.rules.specs.Play.{calls}
use Rattle.rules.specs.Sets.{entered, Sets, sets_in, Stays, Renewing}
use Rattle.table.proofs.Tests.{and_yes, and_no}
use Rattle.rules.proofs.Performed.{Owns}
use Rattle.rules.proofs.Sorts.{inside_sort}
use Rattle.rules.proofs.SortSame.{Alike, entered_same}
use Rattle.rules.proofs.SetsSteady.{child_home, callee_below, root_home, steady_stays, armed_as, waiting_as, inside_waits}
use Rattle.rules.proofs.SetsSteady.{own_status, own_second, at_open, at_rest_lem}

-- what happens to the body of g; `enter` is who enters it
pub record MadeNew (N : ℕ) (home : ℕ → ℕ) (s s' : View) (g r : ℕ) (enter : ℕ → Bool) : Type 0 where
  pub root : s'.status r ≡ 1
  pub idle : (m : ℕ) → Owns N home g m → (m ≡ r → ⊥) → s'.status m ≡ 0
  pub kept : (m : ℕ) → (Owns N home g m → ⊥) → enter m ≡ false → (s'.status m ≡ s.status m) × (s'.second m ≡ s.second m)
  pub alike : (c : ℕ) → (Owns N home g c → ⊥) → Alike s s' c
  pub outside : (m : ℕ) → enter m ≡ true → Owns N home g m → ⊥

module _ (units : Arithmetic) {F N : ℕ} {body at : ℕ → Expr} {home : ℕ → ℕ} (laid : Laid F N body at home) (s s' : View) (g : ℕ)
    (fn : Range F g) (enter : ℕ → Bool) (new : MadeNew N home s s' g (id (body g)) enter) where
  abbrev x : Sets
  x = sets_in units body at home s

  abbrev y : Sets
  y = sets_in units body at home s'

  -- who enters: before, not armed; after, inside and nothing else
  pub record Goes (m : ℕ) : Type 0 where
    pub before : x.armed m ≡ false
    pub after : (y.armed m ≡ false) × (y.waiting m ≡ false) × (y.inside m ≡ true)

  -- the three sets at m, where `mine` says whether it is a node of g
  pub record At (m : ℕ) (root mine goes : Bool) : Type 0 where
    pub armed : y.armed m ≡ (root || (x.armed m && not (mine || (x.inside m && calls (at m) g))))
    pub waiting : y.waiting m ≡ (x.waiting m && not (goes || mine))
    pub inside : y.inside m ≡ (goes || (x.inside m && not mine))

  module _ (m : ℕ) (q : Range N m) where
    -- the root, the other nodes of g
    at_root : m ≡ id (body g) → At m true true false
    at_root e =
        let k = at_open units laid s s' m q (ap s'.status e ∙ new.root) in
        record { armed = k.0; waiting = k.1 ∙ sym (and_no (x.waiting m)); inside = k.2 ∙ sym (and_no (x.inside m)) }

    at_idle : Owns N home g m → (m ≡ id (body g) → ⊥) → At m false true false
    at_idle o e =
        let z = new.idle m o e in
        let k = at_rest_lem units laid s s' m q (λ i. omega (arith, i, z)) (λ i. omega (arith, i, z)) in
        record {
          armed = k.0 ∙ sym (and_no (x.armed m));
          waiting = k.1 ∙ sym (and_no (x.waiting m));
          inside = k.2 ∙ sym (and_no (x.inside m));
        }

    -- who enters
    at_entry : Goes m → At m false false true
    at_entry k = record {
      armed = k.after.0 ∙ ap (λ b. b && not (x.inside m && calls (at m) g)) (sym k.before);
      waiting = k.after.1 ∙ sym (and_no (x.waiting m));
      inside = k.after.2;
    }

    -- any other node: a call inside g, or as it was
    module _ (o : Owns N home g m → ⊥) (i : enter m ≡ false) where
      stays_inside : y.inside m ≡ (x.inside m && true)
      stays_inside = entered_same body s s' (at m) (own_status units laid s s' m q (new.kept m o i).0)
          (own_second units laid s s' m q (new.kept m o i).1) ∙ sym (and_yes (x.inside m))

      stays : ((f : ℕ) → calls (at m) f ≡ true → entered s (at m) ≡ true → f ≡ g → ⊥) → Stays x y m
      stays z = steady_stays units laid s s' m (record {
        status = own_status units laid s s' m q (new.kept m o i).0;
        second = own_second units laid s s' m q (new.kept m o i).1;
        children = λ c k. new.alike c (λ w. o (q.0, q.1, sym (child_home units laid m c q k) ∙ w.2));
        callee = λ f c j. (new.alike (id (body f))
            (λ w. z f c j (sym (root_home units laid f (callee_below units laid m f q c).0).0 ∙ w.2))).0;
      })

      at_steady : (x.inside m && calls (at m) g) ≡ false → Stays x y m → At m false false false
      at_steady z k = record {
        armed = k.0 ∙ sym (ap (λ b. x.armed m && not b) z ∙ and_yes (x.armed m));
        waiting = k.1 ∙ sym (and_yes (x.waiting m));
        inside = stays_inside;
      }

      -- its callee's root isn't done any more
      at_inside : entered s (at m) ≡ true → calls (at m) g ≡ true → At m false false false
      at_inside j c =
          let k = inside_sort s' body (at m) g c (stays_inside ∙ and_yes (x.inside m) ∙ j)
          ∙ ap (λ b. pick b 2 0) (ne_eqb (s'.status (id (body g))) 3 (λ e. omega (arith, new.root, e))) in
          record {
            armed = armed_as units laid s s' m 0 k ∙ sym ((λ a. x.armed m && not (j a && c a)) ∙ and_no (x.armed m));
            waiting = waiting_as units laid s s' m 0 k ∙ sym (inside_waits units laid s s' s m g c j) ∙ sym (and_yes (x.waiting m));
            inside = stays_inside;
          }

      at_other : At m false false false
      at_other = go (entered s (at m)) (calls (at m) g) refl refl
        where
          go : (a b : Bool) → entered s (at m) ≡ a → calls (at m) g ≡ b → At m false false false
          go true true j c = at_inside j c
          go true false j c = at_steady (ap (λ b. x.inside m && b) c ∙ and_no (x.inside m))
              (stays (λ f k l w. true≢false (sym k ∙ ap (calls (at m)) w ∙ c)))
          go false b j c = at_steady (ap (λ a. a && calls (at m) g) j) (stays (λ f k l w. true≢false (sym l ∙ j)))

    -- by its function and by who enters
    each : (enter m ≡ true → Goes m) → At m (eqb m (id (body g))) (eqb (home m) g) (enter m)
    each f = go (ℕ_discrete (home m) g) (ℕ_discrete m (id (body g))) (enter m) refl
      where
        here : (a b c : Bool) → eqb m (id (body g)) ≡ a → eqb (home m) g ≡ b → enter m ≡ c → At m a b c
            → At m (eqb m (id (body g))) (eqb (home m) g) (enter m)
        here a b c p q r k = subst (λ z. At m z (eqb (home m) g) (enter m)) (sym p) (subst (λ z. At m a z (enter m)) (sym q)
            (subst (λ z. At m a b z) (sym r) k))

        not_entering : Owns N home g m → (b : Bool) → enter m ≡ b → enter m ≡ false
        not_entering o true e = absurd (new.outside m e o)
        not_entering o false e = e

        go : Dec (home m ≡ g) → Dec (m ≡ id (body g)) → (b : Bool) → enter m ≡ b
            → At m (eqb m (id (body g))) (eqb (home m) g) (enter m)
        go (yes h) (yes e) b i = here true true false (eq-eqb m (id (body g)) e) (eq-eqb (home m) g h)
            (not_entering (q.0, q.1, h) b i) (at_root e)
        go (yes h) (no e) b i = here false true false (ne_eqb m (id (body g)) e) (eq-eqb (home m) g h)
            (not_entering (q.0, q.1, h) b i) (at_idle (q.0, q.1, h) e)
        go (no h) (yes e) b i = absurd (h (ap home e ∙ (root_home units laid g fn).0))
        go (no h) (no e) true i = here false false true (ne_eqb m (id (body g)) e) (ne_eqb (home m) g h) i (at_entry (f i))
        go (no h) (no e) false i = here false false false (ne_eqb m (id (body g)) e) (ne_eqb (home m) g h) i (at_other (λ o. h o.2) i)

  pub renewing : ((m : ℕ) → Range N m → enter m ≡ true → Goes m) → Renewing N body at home x y g enter
  renewing f = record {
    armed = λ m q. (each m q (f m q)).armed;
    waiting = λ m q. (each m q (f m q)).waiting;
    inside = λ m q. (each m q (f m q)).inside;
  }
