-- the decided list is the arbiter list
use Rattle.std.proofs.Common.{◌≡◌, ℕ, zero, suc, ◌≤◌, Bool, true, false, ◌&&◌, ◌||◌, eqb, ◌⊎◌, sym, refl, ap, ◌∙◌, inl, inr, ⊎_elim}
use Rattle.std.proofs.Common.{true≢false, arith, eq-eqb, ne_eqb, eqb-true}
use native.Mathlib.Decide.{ℕ_discrete}
use Rattle.table.specs.Syntax.{Expr, Exprs, const, param, prim, call, self, cond, bind, bound, none, some}
use Rattle.list.specs.Sets.{Calls, ∅, ◌∪◌, shared}
use Rattle.list.specs.Conflict.{C, C*, PC, A, A*}
use Rattle.table.specs.Pick.{mixed, pick, Range}
use Rattle.table.specs.Reach.{Reached}
use Rattle.list.specs.CallSets.{callee_at, sets, Listed}
use Rattle.list.proofs.ListedCalls.{Calling, Calling*, c_all, c_all*, sets_all}
use Rattle.list.specs.PaperList.{Decides}
use Rattle.list.specs.Arbiters.{Test, no_calls, joined, any_up_to, calls_in, calls_in*, meeting, parallel, conflicts, conflicts*}
use Rattle.list.specs.Arbiters.{calls_of, reached_in, listed_in}

no_decides : Decides false ⊥
no_decides = (λ e. true≢false (sym e), λ x. absurd x)

pub or_decides : (a b : Bool) {P Q : Type 0} → Decides a P → Decides b Q → Decides (a || b) (P ⊎ Q)
or_decides true b x y = (λ e. inl (x.0 refl), λ h. refl)
or_decides false b x y = (λ e. inr (y.0 e), λ h. ⊎_elim (λ p. absurd (true≢false (sym (x.1 p)))) (λ q. y.1 q) h)

pub and_both : (a b : Bool) → a && b ≡ true → (a ≡ true) × (b ≡ true)
and_both true b e = (refl, e)
and_both false b e = absurd (true≢false (sym e))

pub both_and : (a b : Bool) → a ≡ true → b ≡ true → a && b ≡ true
both_and true b p q = q
both_and false b p q = p

pub eqb_decides : (m n : ℕ) → Decides (eqb m n) (m ≡ n)
eqb_decides m n = (eqb-true m n, eq-eqb m n)

pub any_out : (k : ℕ) (p : Test) → any_up_to k p ≡ true → (i : ℕ) × (1 ≤ i) × (i ≤ k) × (p i ≡ true)
unfolding any_up_to
any_out zero p e = absurd (true≢false (sym e))
any_out (suc k) p e = go (p (suc k)) refl (λ f. any_out k p f) e
  where
    go : (b : Bool) → p (suc k) ≡ b → (any_up_to k p ≡ true → (i : ℕ) × (1 ≤ i) × (i ≤ k) × (p i ≡ true)) → b || any_up_to k p ≡ true
        → (i : ℕ) × (1 ≤ i) × (i ≤ suc k) × (p i ≡ true)
    go true q f e = (suc k, omega arith, omega arith, q)
    go false q f e = let r = f e in (r.0, r.1, omega (arith, r.2), r.3)

pub any_in : (k : ℕ) (p : Test) (i : ℕ) → 1 ≤ i → i ≤ k → p i ≡ true → any_up_to k p ≡ true
unfolding any_up_to
any_in zero p i a b e = absurd (omega arith)
any_in (suc k) p i a b e = go (ℕ_discrete i (suc k)) (p (suc k)) refl (λ h. any_in k p i a h e)
  where
    go : Dec (i ≡ suc k) → (x : Bool) → p (suc k) ≡ x → (i ≤ k → any_up_to k p ≡ true) → x || any_up_to k p ≡ true
    go d true q f = refl
    go (yes z) false q f = absurd (true≢false (sym e ∙ ap p z ∙ q))
    go (no z) false q f = f (omega arith)

module _ (N : ℕ) (calleeᵇ callee : ℕ → ℕ) (same : (n : ℕ) → calleeᵇ n ≡ callee n) (Bᵇ : ℕ → Test) (B : ℕ → Calls)
    (decided : (g m : ℕ) → Decides (Bᵇ g m) (B g m)) (ranged : (g m : ℕ) → B g m → Range N m) where
  mutual
    unfolding calls_in no_calls joined

    pub c_decides : (e : Expr) (m : ℕ) → Decides (calls_in N calleeᵇ Bᵇ e m) (C callee B e m)
    c_decides (const n v) m = no_decides
    c_decides (param n i) m = no_decides
    c_decides (prim n op es) m = c_decides* es m
    c_decides (call n g es) m = or_decides (calls_in* N calleeᵇ Bᵇ es m) (eqb n m || Bᵇ g m) (c_decides* es m)
        (or_decides (eqb n m) (Bᵇ g m) (eqb_decides n m) (decided g m))
    c_decides (self n es) m = c_decides* es m
    c_decides (cond n a b c) m = or_decides (calls_in N calleeᵇ Bᵇ a m) (calls_in N calleeᵇ Bᵇ b m || calls_in N calleeᵇ Bᵇ c m)
        (c_decides a m)
        (or_decides (calls_in N calleeᵇ Bᵇ b m) (calls_in N calleeᵇ Bᵇ c m) (c_decides b m) (c_decides c m))
    c_decides (bind n ds b) m = or_decides (calls_in* N calleeᵇ Bᵇ ds m) (calls_in N calleeᵇ Bᵇ b m) (c_decides* ds m) (c_decides b m)
    c_decides (bound n d) m = no_decides

    pub c_decides* : (es : Exprs) (m : ℕ) → Decides (calls_in* N calleeᵇ Bᵇ es m) (C* callee B es m)
    c_decides* none m = no_decides
    c_decides* (some e es) m = or_decides (calls_in N calleeᵇ Bᵇ e m) (calls_in* N calleeᵇ Bᵇ es m) (c_decides e m) (c_decides* es m)

  shared_decides : (sᵇ tᵇ : Test) (s t : Calls) → ((m : ℕ) → Decides (sᵇ m) (s m)) → ((m : ℕ) → Decides (tᵇ m) (t m))
      → ((m : ℕ) → t m → Range N m) → (m : ℕ) → Decides (meeting N calleeᵇ Bᵇ sᵇ tᵇ m) (shared callee s t m)
  unfolding meeting
  shared_decides sᵇ tᵇ s t x y r m = (to, from)
    where
      each : Test
      each i = tᵇ i && eqb (calleeᵇ m) (calleeᵇ i)

      to : sᵇ m && any_up_to N each ≡ true → shared callee s t m
      to e =
          let p = and_both (sᵇ m) (any_up_to N each) e in
          let q = any_out N each p.1 in
          let u = and_both (tᵇ q.0) (eqb (calleeᵇ m) (calleeᵇ q.0)) q.3 in
          ((x m).0 p.0, (q.0, (y q.0).0 u.0, sym (same m) ∙ eqb-true (calleeᵇ m) (calleeᵇ q.0) u.1 ∙ same q.0))

      from : shared callee s t m → sᵇ m && any_up_to N each ≡ true
      from h =
          let i = h.1.0 in
          let z = r i h.1.1 in
          both_and (sᵇ m) (any_up_to N each) ((x m).1 h.0) (any_in N each i z.0 z.1
          (both_and (tᵇ i) (eqb (calleeᵇ m) (calleeᵇ i)) ((y i).1 h.1.1)
          (eq-eqb (calleeᵇ m) (calleeᵇ i) (same m ∙ h.1.2 ∙ sym (same i)))))

  pc_decides : (tᵇ : Test) (t : Calls) (es : Exprs) → ((m : ℕ) → Decides (tᵇ m) (t m)) → ((m : ℕ) → t m → Range N m)
      → Calling* (Range N) es → (m : ℕ) → Decides (parallel N calleeᵇ Bᵇ tᵇ es m) (PC callee B t es m)
  unfolding parallel no_calls joined
  pc_decides tᵇ t none y r k m = no_decides
  pc_decides tᵇ t (some e es) y r k m =
      or_decides (meeting N calleeᵇ Bᵇ (calls_in N calleeᵇ Bᵇ e) (joined tᵇ (calls_in* N calleeᵇ Bᵇ es)) m)
      (parallel N calleeᵇ Bᵇ (joined tᵇ (calls_in N calleeᵇ Bᵇ e)) es m)
      (shared_decides (calls_in N calleeᵇ Bᵇ e) (joined tᵇ (calls_in* N calleeᵇ Bᵇ es)) (C callee B e) (t ∪ C* callee B es) (c_decides e)
      (λ i. or_decides (tᵇ i) (calls_in* N calleeᵇ Bᵇ es i) (y i) (c_decides* es i))
      (λ i h. ⊎_elim (λ u. r i u) (λ u. c_all* (Range N) callee B es (λ c g j. (k c g (inr j), ranged g)) i u) h) m)
      (pc_decides (joined tᵇ (calls_in N calleeᵇ Bᵇ e)) (t ∪ C callee B e) es
      (λ i. or_decides (tᵇ i) (calls_in N calleeᵇ Bᵇ e i) (y i) (c_decides e i))
      (λ i h. ⊎_elim (λ u. r i u) (λ u. c_all (Range N) callee B e (λ c g j. (k c g (inl j), ranged g)) i u) h) (λ c g j. k c g (inr j)) m)

  pub first_decides : (es : Exprs) → Calling* (Range N) es → (m : ℕ) → Decides (parallel N calleeᵇ Bᵇ no_calls es m) (PC callee B ∅ es m)
  unfolding no_calls
  first_decides es k m = pc_decides no_calls ∅ es (λ i. no_decides) (λ i h. absurd h) k m

  kids : (es : Exprs) → Calling* (Range N) es → (m : ℕ) → Decides (conflicts* N calleeᵇ Bᵇ es m) (A* callee B es m)
      → Decides (parallel N calleeᵇ Bᵇ no_calls es m || conflicts* N calleeᵇ Bᵇ es m) ((PC callee B ∅ es ∪ A* callee B es) m)
  kids es r m x = or_decides (parallel N calleeᵇ Bᵇ no_calls es m) (conflicts* N calleeᵇ Bᵇ es m) (first_decides es r m) x

  mutual
    unfolding conflicts no_calls joined

    pub a_decides : (e : Expr) → Calling (Range N) e → (m : ℕ) → Decides (conflicts N calleeᵇ Bᵇ e m) (A callee B e m)
    a_decides (const n v) r m = no_decides
    a_decides (param n i) r m = no_decides
    a_decides (prim n op es) r m = kids es r m (a_decides* es r m)
    a_decides (call n g es) r m = kids es (λ x f i. r x f (inr i)) m (a_decides* es (λ x f i. r x f (inr i)) m)
    a_decides (self n es) r m = kids es r m (a_decides* es r m)
    a_decides (cond n a b c) r m = or_decides (conflicts N calleeᵇ Bᵇ a m) (conflicts N calleeᵇ Bᵇ b m || conflicts N calleeᵇ Bᵇ c m)
        (a_decides a (λ x f i. r x f (inl i)) m)
        (or_decides (conflicts N calleeᵇ Bᵇ b m) (conflicts N calleeᵇ Bᵇ c m) (a_decides b (λ x f i. r x f (inr (inl i))) m)
        (a_decides c (λ x f i. r x f (inr (inr i))) m))
    a_decides (bind n ds b) r m =
        or_decides (parallel N calleeᵇ Bᵇ no_calls ds m || conflicts* N calleeᵇ Bᵇ ds m) (conflicts N calleeᵇ Bᵇ b m)
        (kids ds (λ x f i. r x f (inl i)) m (a_decides* ds (λ x f i. r x f (inl i)) m)) (a_decides b (λ x f i. r x f (inr i)) m)
    a_decides (bound n d) r m = no_decides

    a_decides* : (es : Exprs) → Calling* (Range N) es → (m : ℕ) → Decides (conflicts* N calleeᵇ Bᵇ es m) (A* callee B es m)
    a_decides* none r m = no_decides
    a_decides* (some e es) r m = or_decides (conflicts N calleeᵇ Bᵇ e m) (conflicts* N calleeᵇ Bᵇ es m)
        (a_decides e (λ x f i. r x f (inl i)) m)
        (a_decides* es (λ x f i. r x f (inr i)) m)

module _ (F N : ℕ) (body at : ℕ → Expr) (calleeᵇ : ℕ → ℕ) (same : (n : ℕ) → calleeᵇ n ≡ callee_at at n)
    (calls : (f : ℕ) → Range F f → Calling (Range N) (body f)) where
  pub sets_decides : (t : ℕ) → t ≤ F → (g m : ℕ) → Decides (calls_of N calleeᵇ body t g m) (sets body at t g m)
  unfolding calls_of
  sets_decides zero l g m = no_decides
  sets_decides (suc t) l g m = go (ℕ_discrete g (suc t)) (sets_decides t (omega arith))
    where
      go : (d : Dec (g ≡ suc t)) → ((g m : ℕ) → Decides (calls_of N calleeᵇ body t g m) (sets body at t g m))
          → Decides (pick (eqb g (suc t)) (calls_in N calleeᵇ (calls_of N calleeᵇ body t) (body g) m) (calls_of N calleeᵇ body t g m))
          (mixed d (C (callee_at at) (sets body at t) (body g) m) (sets body at t g m))
      go (yes e) f = rw (eq-eqb g (suc t) e)
          (c_decides N calleeᵇ (callee_at at) same (calls_of N calleeᵇ body t) (sets body at t) f
          (sets_all (Range N) F body at calls t (omega arith)) (body g) m)
      go (no e) f = rw (ne_eqb g (suc t) e) (f g m)

  -- the decided list holds exactly the arbiter list, where it is decided which functions are reached
  pub listed_decides : ((f : ℕ) → Reached F body f → Range F f) → ((f : ℕ) → Decides (reached_in N calleeᵇ body F f) (Reached F body f))
      → (m : ℕ) → Decides (listed_in N calleeᵇ body F m) (Listed body at F m)
  unfolding listed_in
  listed_decides there reaches m = (to, from)
    where
      each : ℕ → Bool
      each f = conflicts N calleeᵇ (calls_of N calleeᵇ body F) (body f) m

      both : ℕ → Bool
      both f = reached_in N calleeᵇ body F f && each f

      at_body : (f : ℕ) → Range F f → Decides (each f) (A (callee_at at) (sets body at F) (body f) m)
      at_body f o = a_decides N calleeᵇ (callee_at at) same (calls_of N calleeᵇ body F) (sets body at F) (sets_decides F (omega arith))
          (sets_all (Range N) F body at calls F (omega arith)) (body f) (calls f o) m

      to : any_up_to F both ≡ true → Listed body at F m
      to e =
          let r = any_out F both e in
          let p = and_both (reached_in N calleeᵇ body F r.0) (each r.0) r.3 in
          (r.0, (reaches r.0).0 p.0, (at_body r.0 (r.1, r.2)).0 p.1)

      from : Listed body at F m → any_up_to F both ≡ true
      from h =
          let o = there h.0 h.1 in
          any_in F both h.0 o.0 o.1
          (both_and (reached_in N calleeᵇ body F h.0) (each h.0) ((reaches h.0).1 h.1) ((at_body h.0 o).1 h.2))
