-- over steps from a start, whatever the tags: entries exceed leavings by one where a resource is occupied, and by none elsewhere
use Prim.Native.Nat.{ℕ, suc, ◌+◌, ◌/◌, ◌%◌, ◌≤◌}
use mathlib.Core.Bool.{Bool, true, false, true≢false}
use mathlib.Core.Path.{◌≡◌, refl, subst, sym, ap, ◌∙◌}
use mathlib.Core.Logic.{◌⊎◌, inl, inr}
use mathlib.Core.List.{List, ◌∷◌}
use native.Mathlib.Omega.{arith}
use native.Mathlib.Decide.{ℕ_discrete}
use lib.Dec.{eqb}
use borrow.Author.Tests.{eqb-true, eq-eqb, ne_eqb}
use Rattle.table.proofs.LaidOut.{call_here}
use Rattle.table.specs.Syntax.{Expr, Exprs, const, param, prim, call, self, cond, bind, bound, id, Sub}
use Rattle.rules.specs.State.{View, State512, view}
use Rattle.rules.proofs.Shape.{Busy, busy_moves}
use Rattle.table.specs.Well.{Fn, CallIn, Laid}
use Rattle.table.proofs.CallPlaces.{call_node, sub_call}
use Rattle.table.specs.Pick.{pick, Range}
use Rattle.table.specs.Environment.{put}
use Rattle.table.specs.Find.{total}
use Rattle.rules.specs.Arithmetic.{Arithmetic}
use Rattle.rules.proofs.SumLaws.{sum_ext, sum_add, sum_put, sum_zero, put_same, put_other}
use Rattle.rules.proofs.Invariant.{Holder, Sound}
use Rattle.rules.proofs.Acting.{stepping_live, second_phase}
use Rattle.rules.specs.Step.{does, Move, act, perform}
use Rattle.rules.proofs.Performed.{Does, Acted}
use Rattle.rules.proofs.StepFacts.{Good, moved_does, moved_step}
use Rattle.rules.proofs.Thirds.{third, third_busy, third_other, third_own}
use Rattle.rules.specs.Play.{count, calls, enterings, exits, entries, leavings}

pub count_same : (c n : ℕ) (ns : List ℕ) → c ≡ n → count c (n ∷ ns) ≡ suc (count c ns)
unfolding count
count_same c n ns e = ap (λ b. pick b (suc (count c ns)) (count c ns)) (eq-eqb c n e)

pub count_other : (c n : ℕ) (ns : List ℕ) → (c ≡ n → ⊥) → count c (n ∷ ns) ≡ count c ns
unfolding count
count_other c n ns e = ap (λ b. pick b (suc (count c ns)) (count c ns)) (ne_eqb c n e)

next_third : (k : ℕ) → suc k % 3 ≡ (k % 3 + 1) % 3
next_third k = omega arith

thirds_split : (k t : ℕ) → k % 3 ≡ t → enterings k ≡ exits k + t / 2
thirds_split k t e = omega arith

-- of the steps taken at a call, the remainder by three is its phase
abbrev pub Phased : ℕ → (ℕ → Expr) → View → List ℕ → Type 0
Phased F body s ns = (f c g : ℕ) → Fn F body f → CallIn c g (body f) → count c ns % 3 ≡ third s c

-- an expression that calls f is a call of it
pub calls_call : (u : Expr) (f : ℕ) → calls u f ≡ true → (n : ℕ) × (es : Exprs) × (u ≡ call n f es)
calls_call (const n v) f e = absurd (true≢false (sym e))
calls_call (param n i) f e = absurd (true≢false (sym e))
calls_call (prim n op es) f e = absurd (true≢false (sym e))
calls_call (call n g es) f e = (n, es, ap (λ x. call n x es) (eqb-true g f e))
calls_call (self n es) f e = absurd (true≢false (sym e))
calls_call (cond n a b c) f e = absurd (true≢false (sym e))
calls_call (bind n ds b) f e = absurd (true≢false (sym e))
calls_call (bound n d) f e = absurd (true≢false (sym e))

module _ (units : Arithmetic) {F N : ℕ} {body at : ℕ → Expr} {home : ℕ → ℕ} (laid : Laid F N body at home) where
  module _ (s : State512) (good : Good F body s) (n : ℕ) (r : Range N n) (m : Move)
      (here : act units body (home n) (view s) (at n) ≡ does m) where
    pub moved_phased : (ns : List ℕ) → Phased F body (view s) ns → Phased F body (view (perform N home body s n m)) (n ∷ ns)
    moved_phased ns ph f c g q i = go (ℕ_discrete c n)
      where
        x : Does N home body (view s) (view (perform N home body s n m)) n m
        x = (moved_does units laid s good.sized n r m here).1

        own : c ≡ n → third (view (perform N home body s n m)) c ≡ (third (view s) c + 1) % 3
        own e =
            let k = call_here laid f c g q i in
            let o = laid.inside f c q (call_node c g (body f) i) in
            let p : Sub (call c g k.0) (body f) = subst (λ u. Sub u (body f)) k.1
            (subst (λ y. Sub (at c) (body y)) o.0 (laid.placed c (o.1, o.2))) in
            let a : act units body (home c) (view s) (at c) ≡ act units body f (view s) (call c g k.0) =
            (λ j. act units body (o.0 j) (view s) (k.1 j)) in
            let b : act units body (home c) (view s) (at c) ≡ does m = ap (λ y. act units body (home y) (view s) (at y)) e ∙ here in
            third_own units laid (view s) (view (perform N home body s n m)) good.sound f c g k.0 q p
            (subst (Acted N home body (view s) (view (perform N home body s n m)) c) (sym b ∙ a)
            (subst (λ y. Does N home body (view s) (view (perform N home body s n m)) y m) (sym e) x))

        go : Dec (c ≡ n) → count c (n ∷ ns) % 3 ≡ third (view (perform N home body s n m)) c
        go (yes e) = ap (λ k. k % 3) (count_same c n ns e) ∙ next_third (count c ns) ∙ ap (λ k. (k + 1) % 3) (ph f c g q i) ∙ sym (own e)
        go (no e) = ap (λ k. k % 3) (count_other c n ns e) ∙ ph f c g q i
            ∙ sym (third_other units laid (view s) (view (perform N home body s n m)) good.sound f c g n q i m x
            (moved_step units laid s good n r m here).0 (moved_step units laid s good n r m here).1 e)

module _ {F N : ℕ} {body at : ℕ → Expr} {home : ℕ → ℕ} (laid : Laid F N body at home) where
  -- a node that calls f, as a call of its function's body
  pub called : (c f : ℕ) → Range N c → calls (at c) f ≡ true → (es : Exprs) × Sub (call c f es) (body (home c))
  called c f r e =
      let k = calls_call (at c) f e in
      let i : k.0 ≡ c = sym (ap id k.2) ∙ laid.number c r in
      (k.1, subst (λ x. Sub (call x f k.1) (body (home c))) i (subst (λ u. Sub u (body (home c))) k.2 (laid.placed c r)))

  -- the phase of a call, by the number of its steps
  pub call_phase : (s : View) (c f : ℕ) → Range N c → calls (at c) f ≡ true → (ns : List ℕ) → Phased F body s ns
      → count c ns % 3 ≡ third s c
  call_phase s c f r e ns ph =
      let k = called c f r e in
      ph (home c) c f (laid.home_there c r) (sub_call c f k.0 (body (home c)) k.1)

  module _ (s : View) (sound : Sound F body s) where
    third_two : (c : ℕ) → third s c ≡ 2 → Busy s c true
    third_two c e = go (eqb (s.status c) 2) (s.second c) refl refl e
      where
        go : (a b : Bool) → eqb (s.status c) 2 ≡ a → s.second c ≡ b → ◌≡◌ {A = ℕ} (pick a (pick b 2 1) 0) 2 → Busy s c true
        go true true p q e = (eqb-true (s.status c) 2 p, q)
        go true false p q e = absurd (omega arith)
        go false b p q e = absurd (omega arith)

    third_half : (c : ℕ) → (third s c ≡ 2) ⊎ (third s c / 2 ≡ 0)
    third_half c = go (eqb (s.status c) 2) (s.second c)
      where
        go : (a b : Bool) → ◌≡◌ {A = ℕ} (pick a (pick b 2 1) 0) 2 ⊎ (pick a (pick b 2 1) 0 / 2 ≡ 0)
        go true true = inl refl
        go true false = inr refl
        go false b = inr refl

    -- a call in its second phase occupies its callee
    occupies : (c f : ℕ) → Range N c → calls (at c) f ≡ true → third s c ≡ 2 → s.occupant f ≡ c
    occupies c f r e t =
        let k = called c f r e in
        let b = third_two c t in
        (second_phase s c f k.0 b
        (stepping_live sound (home c) (laid.home_there c r) (call c f k.0) k.1 (busy_moves s c b.0))).1

    module _ (f : ℕ) (r : Fn F body f) where
      -- 1 for a call of f in its second phase
      abbrev inside : ℕ → ℕ
      inside c = pick (calls (at c) f) (third s c / 2) 0

      inside_not : (c : ℕ) → Range N c → (s.occupant f ≡ c → ⊥) → inside c ≡ 0
      inside_not c i d = go (calls (at c) f) refl (third_half c)
        where
          go : (b : Bool) → calls (at c) f ≡ b → (third s c ≡ 2) ⊎ (third s c / 2 ≡ 0) → pick b (third s c / 2) 0 ≡ 0
          go true e (inl t) = absurd (d (occupies c f i e t))
          go true e (inr z) = z
          go false e h = refl

      insides : Dec (s.occupant f ≡ 0) → total inside N ≡ pick (eqb (s.occupant f) 0) 0 1
      insides (yes z) = sum_ext N inside (λ c. 0) (λ c p q. inside_not c (p, q) (λ e. omega (arith, e, z, p))) ∙ sum_zero N
          ∙ sym (ap (λ b. pick b 0 1) (eq-eqb (s.occupant f) 0 z))
      insides (no z) =
          sum_ext N inside (put (λ c. 0) o 1) entry ∙ omega (arith, sum_put N (λ c. 0) o 1 i.1 i.2, sum_zero N)
          ∙ sym (ap (λ b. pick b 0 1) (ne_eqb (s.occupant f) 0 z))
        where
          o : ℕ
          o = s.occupant f

          held : Holder F body s f o
          held = sound.held f o r refl z

          i : (home o ≡ held.0) × (1 ≤ o) × (o ≤ N)
          i = laid.inside held.0 o held.1 (call_node o f (body held.0) held.3)

          one : inside o ≡ 1
          one =
              let k = call_here laid held.0 o f held.1 held.3 in
              ap (λ b. pick b (third s o / 2) 0) (ap (λ u. calls u f) k.1 ∙ eq-eqb f f refl)
              ∙ ap (λ t. t / 2) (third_busy s o true held.4)

          entry : (c : ℕ) → 1 ≤ c → c ≤ N → inside c ≡ put (λ x. 0) o 1 c
          entry c p q = go (ℕ_discrete c o)
            where
              go : Dec (c ≡ o) → inside c ≡ put (λ x. 0) o 1 c
              go (yes e) = ap inside e ∙ one ∙ sym (put_same (λ x. 0) o 1) ∙ ap (put (λ x. 0) o 1) (sym e)
              go (no e) = inside_not c (p, q) (λ x. e (sym x)) ∙ sym (put_other (λ x. 0) o 1 c e)

      -- document 01's sentence on entries and leavings
      pub entries_leavings : (ns : List ℕ) → Phased F body s ns
          → entries N at f ns ≡ leavings N at f ns + pick (eqb (s.occupant f) 0) 0 1
      entries_leavings ns ph =
          sum_add N (λ c. pick (calls (at c) f) (enterings (count c ns)) 0) (λ c. pick (calls (at c) f) (exits (count c ns)) 0) inside split
          ∙ ap (λ x. leavings N at f ns + x) (insides (ℕ_discrete (s.occupant f) 0))
        where
          split : (c : ℕ) → 1 ≤ c → c ≤ N → pick (calls (at c) f) (enterings (count c ns)) 0 ≡ pick (calls (at c) f)
              (exits (count c ns)) 0 + inside c
          split c p q = go (calls (at c) f) refl
            where
              go : (b : Bool) → calls (at c) f ≡ b
                  → pick b (enterings (count c ns)) 0 ≡ pick b (exits (count c ns)) 0 + pick b (third s c / 2) 0
              go true e = thirds_split (count c ns) (third s c) (call_phase s c f (p, q) e ns ph)
              go false e = refl

      pub entries_one : (ns : List ℕ) → Phased F body s ns → entries N at f ns ≤ leavings N at f ns + 1
      entries_one ns ph = go (eqb (s.occupant f) 0) (entries_leavings ns ph)
        where
          go : (b : Bool) → entries N at f ns ≡ leavings N at f ns + pick b 0 1 → entries N at f ns ≤ leavings N at f ns + 1
          go true e = omega (arith, e)
          go false e = omega (arith, e)
