-- PC from two masks: a call of the children's sets is in conflict exactly if its function is called in two of them
use Rattle.std.proofs.Common.{◌≡◌, ℕ, zero, suc, ◌≤◌, Bool, true, false, not, ◌&&◌, ◌||◌, eqb, List, sym, refl, ap, ◌∙◌, ap₂, true≢false}
use Rattle.std.proofs.Common.{arith, eq-eqb, eqb-true}
use native.Mathlib.Decide.{ℕ_discrete}
use Rattle.table.specs.Pick.{pick, Range}
use Rattle.table.specs.Syntax.{Exprs, none, some}
use Rattle.table.specs.Bytes.{nodes, kind, word}
use Rattle.table.specs.Naming.{owner}
use Rattle.table.specs.Working.{IsNode}
use Rattle.list.specs.declared.kept.Kept.{Kept}
use Rattle.list.specs.Arbiters.{Test, no_calls, joined, any_up_to, calls_in, meeting, parallel}
use Rattle.list.specs.Tags.{is_call, callee_of}
use Rattle.list.specs.Working.{bit_at, Bit, Callee, calls_by, calls_at, calls_at*, parallel_at, called_in, twice_in}
use Rattle.list.specs.Working.{packed, row, union_of, shared_of, Met}
use Rattle.list.proofs.Meets.{or_no, none_of, shared_all, shared_some}
use Rattle.list.proofs.CallLaws.{or_left, or_right}
use Rattle.list.proofs.ArbiterFacts.{any_out, any_in, and_both, both_and}

-- a Bool known by when it is true
pub by_true : (a b : Bool) → (a ≡ true → b ≡ true) → (b ≡ true → a ≡ true) → a ≡ b
by_true true b f g = sym (f refl)
by_true false true f g = g refl
by_true false false f g = refl

any_same : (k : ℕ) (p q : Test) → ((i : ℕ) → 1 ≤ i → i ≤ k → p i ≡ q i) → any_up_to k p ≡ any_up_to k q
unfolding any_up_to
any_same zero p q f = refl
any_same (suc k) p q f = ap₂ (λ a b. a || b) (f (suc k) (omega arith) (omega arith)) (any_same k p q (λ i a b. f i a (omega arith)))

any_or : (k : ℕ) (p q : Test) → any_up_to k (λ i. p i || q i) ≡ any_up_to k p || any_up_to k q
unfolding any_up_to
any_or zero p q = refl
any_or (suc k) p q = ap (λ a. (p (suc k) || q (suc k)) || a) (any_or k p q) ∙ swap (p (suc k)) (q (suc k)) (any_up_to k p) (any_up_to k q)
  where
    swap : (a b c d : Bool) → (a || b) || (c || d) ≡ (a || c) || (b || d)
    swap true b c d = refl
    swap false true true d = refl
    swap false true false d = refl
    swap false false c d = refl

-- a node that has a callee is a call of it
pub call_there : (t : List ℕ) (m : ℕ) → 1 ≤ callee_of t m → (eqb (kind t m) 4 ≡ true) × (callee_of t m ≡ word t m)
unfolding callee_of is_call
call_there t m h = go (eqb (kind t m) 4) (eqb (word t m) (owner t m)) h
  where
    go : (a b : Bool) → 1 ≤ pick (a && not b) (word t m) 0 → (a ≡ true) × (pick (a && not b) (word t m) 0 ≡ word t m)
    go true false h = (refl, refl)
    go true true h = absurd (omega arith)
    go false b h = absurd (omega arith)

module _ (t : List ℕ) where
  -- the functions called in a set
  pub called_same : (s s' : Test) (h : ℕ) → ((m : ℕ) → 1 ≤ m → m ≤ nodes t → s m ≡ s' m) → called_in t s h ≡ called_in t s' h
  unfolding called_in
  called_same s s' h f =
      any_same (nodes t) (λ β. s β && eqb h (callee_of t β)) (λ β. s' β && eqb h (callee_of t β))
      (λ i a b. ap (λ x. x && eqb h (callee_of t i)) (f i a b))

  pub called_none : (s : Test) (h : ℕ) → ((m : ℕ) → s m ≡ false) → called_in t s h ≡ false
  unfolding called_in
  called_none s h f = none_of (nodes t) (λ β. s β && eqb h (callee_of t β)) (λ i l. ap (λ x. x && eqb h (callee_of t i)) (f i))

  pub called_two : (s s' : Test) (h : ℕ) → called_in t (joined s s') h ≡ called_in t s h || called_in t s' h
  unfolding called_in joined
  called_two s s' h =
      any_same (nodes t) (λ β. (s β || s' β) && eqb h (callee_of t β)) (λ β. (s β && eqb h (callee_of t β)) || (s' β && eqb h
      (callee_of t β)))
      (λ i a b. split (s i) (s' i) (eqb h (callee_of t i)))
      ∙ any_or (nodes t) (λ β. s β && eqb h (callee_of t β)) (λ β. s' β && eqb h (callee_of t β))
    where
      split : (a b c : Bool) → (a || b) && c ≡ (a && c) || (b && c)
      split true true true = refl
      split true true false = refl
      split true false true = refl
      split true false false = refl
      split false b c = refl

  pub called_one : (n h : ℕ) → IsNode t n → called_in t (eqb n) h ≡ eqb h (callee_of t n)
  unfolding called_in
  called_one n h i = by_true (any_up_to (nodes t) each) (eqb h (callee_of t n)) to from
    where
      each : Test
      each β = eqb n β && eqb h (callee_of t β)

      to : any_up_to (nodes t) each ≡ true → eqb h (callee_of t n) ≡ true
      to e =
          let r = any_out (nodes t) each e in
          let q = and_both (eqb n r.0) (eqb h (callee_of t r.0)) r.3 in
          ap (λ x. eqb h (callee_of t x)) (eqb-true n r.0 q.0) ∙ q.1

      from : eqb h (callee_of t n) ≡ true → any_up_to (nodes t) each ≡ true
      from e = any_in (nodes t) each n i.0 i.1 (both_and (eqb n n) (eqb h (callee_of t n)) (eq-eqb n n refl) e)

  -- a member's function is called
  pub member : (s : Test) (m : ℕ) → Range (nodes t) m → s m ≡ true → called_in t s (callee_of t m) ≡ true
  unfolding called_in
  member s m r e =
      any_in (nodes t) (λ β. s β && eqb (callee_of t m) (callee_of t β)) m r.0 r.1
      (both_and (s m) (eqb (callee_of t m) (callee_of t m)) e (eq-eqb (callee_of t m) (callee_of t m) refl))

  twice_called : (es : Exprs) (h : ℕ) → twice_in t es h ≡ true → called_in t (calls_at* t es) h ≡ true
  unfolding twice_in calls_at* calls_in
  twice_called none h e = absurd (true≢false (sym e))
  twice_called (some e es) h q =
      called_two (calls_at t e) (calls_at* t es) h
      ∙ go (twice_in t es h) (called_in t (calls_at t e) h) (called_in t (calls_at* t es) h) (twice_called es h) q
    where
      go : (a b c : Bool) → (a ≡ true → c ≡ true) → a || (b && c) ≡ true → b || c ≡ true
      go a true c f q = refl
      go true false c f q = f refl
      go false false c f q = absurd (true≢false (sym q))

  -- PC where s joins the sets before the expressions
  module _ (m : ℕ) where
    abbrev h : ℕ
    h = callee_of t m

    one_more_lem : (a s ce cs tw ct : Bool) → (a ≡ true → ce ≡ true) → (s ≡ true → cs ≡ true) → (tw ≡ true → cs ≡ true)
        → (a && (ct || cs)) || (s && (tw || (ct || ce))) ≡ (a || s) && ((tw || (ce && cs)) || ct)
    one_more_lem true true ce cs tw ct f g k = rw (f refl, g refl) (last tw ct)
      where
        last : (tw ct : Bool) → (ct || true) || (tw || (ct || true)) ≡ (tw || true) || ct
        last true true = refl
        last true false = refl
        last false true = refl
        last false false = refl
    one_more_lem true false ce cs tw ct f g k = rw (f refl) (last cs tw ct k)
      where
        last : (cs tw ct : Bool) → (tw ≡ true → cs ≡ true) → (ct || cs) || false ≡ (tw || cs) || ct
        last true true true k = refl
        last true true false k = refl
        last true false true k = refl
        last true false false k = refl
        last false true ct k = absurd (true≢false (sym (k refl)))
        last false false true k = refl
        last false false false k = refl
    one_more_lem false true ce cs tw ct f g k = rw (g refl) (last ce tw ct)
      where
        last : (ce tw ct : Bool) → tw || (ct || ce) ≡ (tw || (ce && true)) || ct
        last true true true = refl
        last true true false = refl
        last true false true = refl
        last true false false = refl
        last false true true = refl
        last false true false = refl
        last false false true = refl
        last false false false = refl
    one_more_lem false false ce cs tw ct f g k = refl

    after_set : (s : Test) (es : Exprs) → (calls_at* t es m ≡ true → Range (nodes t) m)
        → parallel (nodes t) (callee_of t) (calls_by t) s es m ≡ calls_at* t es m && (twice_in t es h || called_in t s h)
    unfolding parallel meeting twice_in calls_at calls_at* calls_in called_in joined no_calls
    after_set s none r = refl
    after_set s (some e es) r =
        ap₂ (λ p q. (calls_at t e m && p) || q) (called_two s (calls_at* t es) h)
        (after_set (joined s (calls_at t e)) es (λ q. r (or_right (calls_at t e m) (calls_at* t es m) q))
        ∙ ap (λ p. calls_at* t es m && (twice_in t es h || p)) (called_two s (calls_at t e) h))
        ∙ one_more_lem (calls_at t e m) (calls_at* t es m) (called_in t (calls_at t e) h) (called_in t (calls_at* t es) h) (twice_in t es h)
        (called_in t s h)
        (λ q. member (calls_at t e) m (r (or_left (calls_at t e m) (calls_at* t es m) q)) q)
        (λ q. member (calls_at* t es) m (r (or_right (calls_at t e m) (calls_at* t es m) q)) q) (twice_called es h)

    -- PC of the expressions' sets
    pub parallel_is : (es : Exprs) → (calls_at* t es m ≡ true → Range (nodes t) m)
        → parallel_at t es m ≡ calls_at* t es m && twice_in t es h
    unfolding parallel_at
    parallel_is es r =
        after_set no_calls es r ∙ ap (λ p. calls_at* t es m && (twice_in t es h || p)) (called_none no_calls h none_there)
        ∙ ap (λ p. calls_at* t es m && p) (or_no (twice_in t es h))
      where
        none_there : (m : ℕ) → no_calls m ≡ false
        none_there = unfold no_calls in (λ m. refl)

    -- what the code computes: the set against the sites of the functions called twice, or all of it where each function called is
    pub meet_parallel : (es : Exprs) (own : List ℕ) (kept : Kept) (once twice : ℕ) → Bit m
        → ((k : ℕ) → Callee k → row kept.sites k m ≡ true → h ≡ k)
        → (calls_at* t es m ≡ true → Range (nodes t) m) → (calls_at* t es m ≡ true → Met t kept m) → packed own m ≡ calls_at* t es m
        → ((k : ℕ) → Callee k → bit_at once k ≡ called_in t (calls_at* t es) k) → ((k : ℕ) → Callee k → bit_at twice k ≡ twice_in t es k)
        → packed own m && shared_of own kept.sites once twice m ≡ parallel_at t es m
    unfolding union_of
    meet_parallel es own kept once twice b sited r met e v w =
        go (calls_at* t es m) refl (ℕ_discrete once twice) ∙ sym (parallel_is es r)
      where
        sites : List (List ℕ)
        sites = kept.sites

        each : Test
        each k = bit_at twice k && row sites k m

        found : Met t kept m → any_up_to 31 each ≡ twice_in t es h
        found c = by_true (any_up_to 31 each) (twice_in t es h)
            (λ x. let y = any_out 31 each x in
            let z = and_both (bit_at twice y.0) (row sites y.0 m) y.3 in
            ap (twice_in t es) (sited y.0 (y.1, y.2) z.1) ∙ sym (w y.0 (y.1, y.2)) ∙ z.0)
            (λ x. any_in 31 each h c.0.0 c.0.1 (both_and (bit_at twice h) (row sites h m) (w h c.0 ∙ x) c.1))

        all_twice : once ≡ twice → calls_at* t es m ≡ true → twice_in t es h ≡ true
        all_twice d q =
            let c = (met q).0 in
            sym (w h c) ∙ ap (λ x. bit_at x h) (sym d) ∙ v h c ∙ member (calls_at* t es) m (r q) q

        go : (a : Bool) → calls_at* t es m ≡ a → Dec (once ≡ twice)
            → packed own m && shared_of own sites once twice m ≡ calls_at* t es m && twice_in t es h
        go true q (yes d) =
            ap₂ (λ x y. x && y) e (sym (shared_all own sites once twice m d) ∙ e ∙ q ∙ sym (all_twice d q))
        go true q (no d) = ap₂ (λ x y. x && y) e (sym (shared_some own sites once twice m d) ∙ found (met q))
        go false q d = ap (λ x. x && shared_of own sites once twice m) (e ∙ q) ∙ sym (ap (λ x. x && twice_in t es h) q)
