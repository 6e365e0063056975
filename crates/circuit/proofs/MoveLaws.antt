-- where a busy node has a move, what it waits for is done; so the move is what the code reads off
use Rattle.std.proofs.Common.{◌≡◌, ℕ, Bool, true, false, eqb, List, sym, refl, ap, ◌∙◌, true≢false, eqb-true}
use native.Mathlib.Decide.{ℕ_discrete}
use Rattle.table.specs.Pick.{pick}
use Rattle.table.specs.Bytes.{root, kind, word, first}
use Rattle.table.specs.Naming.{owner, chain, children, initial}
use Rattle.table.specs.Working.{Taken, IsNode}
use Rattle.rules.specs.State.{entry}
use Rattle.rules.specs.Step.{Act, stuck, blocked, does, Move}
use Rattle.rules.specs.Circuit.{act_of}
use Rattle.rules.specs.Sets.{goes}
use Rattle.circuit.specs.Meaning.{state_as}
use Rattle.circuit.specs.declared.plan.Plan.{Plan}
use Rattle.circuit.specs.Working.{each_done, leading, last_from, Planned, Plans}
use Rattle.circuit.proofs.ActBy.{rest_is, prim_by, self_by, call_by, branch_by, cond_by, bind_by}
use Rattle.circuit.proofs.PlanLaws.{acts_prim, acts_self, acts_call, acts_cond, acts_bind, acts_leaf}

-- a move that waits for b
went : (b : Bool) (m : Move) → goes (pick b (does m) stuck) ≡ true → b ≡ true
went true m h = refl
went false m h = absurd (true≢false (sym h))

-- .. and for a callee that is free
door : (x y : Bool) (m : Move) → goes (pick x (pick y (does m) blocked) stuck) ≡ true → (x ≡ true) × (y ≡ true)
door true true m h = (refl, refl)
door true false m h = absurd (true≢false (sym h))
door false y m h = absurd (true≢false (sym h))

-- the children from the first on
module _ (t status : List ℕ) (n c : ℕ) (ec : c ≡ first t n) where
  pub kids_done : each_done (entry status 0) (children t n) ≡ true → each_done (entry status 0) (leading false (chain t c)) ≡ true
  unfolding children
  kids_done h = ap (λ m. each_done (entry status 0) (chain t m)) ec ∙ h

  pub defs_done : each_done (entry status 0) (initial (children t n)) ≡ true → each_done (entry status 0) (leading true (chain t c)) ≡ true
  unfolding children
  defs_done h = ap (λ m. each_done (entry status 0) (initial (chain t m))) ec ∙ h

-- of a node, by its kind
module _ (t : List ℕ) (fair : Taken t) (n : ℕ) (i : IsNode t n) (a : List ℕ) (b : List Bool) (c d e : List ℕ)
    (h : goes (act_of t (state_as a b c d e) n) ≡ true) where
  goes_as : (x : Act) → x ≡ act_of t (state_as a b c d e) n → goes x ≡ true
  goes_as x q = ap goes q ∙ h

  never : {X : Type 0} → stuck ≡ act_of t (state_as a b c d e) n → X
  never q = absurd (true≢false (sym (goes_as stuck q)))

  -- it is open or busy
  pub rest_none : {X : Type 0} → (entry a 0 n ≡ 1 → ⊥) → (entry a 0 n ≡ 2 → ⊥) → X
  rest_none p q = never (rest_is t fair n i (state_as a b c d e) p q)

  module _ (busy : entry a 0 n ≡ 2) where
    pub leaf_none : {X : Type 0} → (kind t n ≡ 3 → ⊥) → (kind t n ≡ 4 → ⊥) → (kind t n ≡ 5 → ⊥) → (kind t n ≡ 6 → ⊥) → X
    leaf_none p q r u = never (acts_leaf t fair n i a b c d e stuck busy p q r u refl)

    pub prim_done : kind t n ≡ 3 → each_done (entry a 0) (children t n) ≡ true
    prim_done k = of (goes_as (prim_by t a c n) (acts_prim t fair n i a b c d e _ busy k refl))
      where
        of : goes (prim_by t a c n) ≡ true → each_done (entry a 0) (children t n) ≡ true
        of = unfold prim_by in went (each_done (entry a 0) (children t n)) _

    pub self_done : kind t n ≡ 4 → word t n ≡ owner t n → each_done (entry a 0) (children t n) ≡ true
    self_done k w = of (goes_as (self_by t a c n) (acts_self t fair n i a b c d e _ busy k w refl))
      where
        of : goes (self_by t a c n) ≡ true → each_done (entry a 0) (children t n) ≡ true
        of = unfold self_by in went (each_done (entry a 0) (children t n)) _

    module _ (k : kind t n ≡ 4) (w : word t n ≡ owner t n → ⊥) where
      call_goes : goes (call_by t a b c e n) ≡ true
      call_goes = goes_as (call_by t a b c e n) (acts_call t fair n i a b c d e _ busy k w refl)

      pub leave_done : entry b false n ≡ true → entry a 0 (root t (word t n)) ≡ 3
      leave_done z = eqb-true (entry a 0 (root t (word t n))) 3 (of call_goes)
        where
          of : goes (call_by t a b c e n) ≡ true → eqb (entry a 0 (root t (word t n))) 3 ≡ true
          of = unfold call_by in rw z (went (eqb (entry a 0 (root t (word t n))) 3) _)

      pub enter_free : entry b false n ≡ false
          → (each_done (entry a 0) (children t n) ≡ true) × (entry e 0 (word t n) ≡ 0)
      enter_free z = let r = of call_goes in (r.0, eqb-true (entry e 0 (word t n)) 0 r.1)
        where
          of : goes (call_by t a b c e n) ≡ true → (each_done (entry a 0) (children t n) ≡ true) × (eqb (entry e 0 (word t n)) 0 ≡ true)
          of = unfold call_by in rw z (door (each_done (entry a 0) (children t n)) (eqb (entry e 0 (word t n)) 0) _)

    pub cond_pass_done : kind t n ≡ 5 → entry b false n ≡ true → entry a 0 (branch_by t c n) ≡ 3
    cond_pass_done k z =
        eqb-true (entry a 0 (branch_by t c n)) 3 (of (goes_as (cond_by t a b c n) (acts_cond t fair n i a b c d e _ busy k refl)))
      where
        of : goes (cond_by t a b c n) ≡ true → eqb (entry a 0 (branch_by t c n)) 3 ≡ true
        of = unfold cond_by in rw z (went (eqb (entry a 0 (branch_by t c n)) 3) _)

    pub cond_turn_done : kind t n ≡ 5 → entry b false n ≡ false → entry a 0 (first t n) ≡ 3
    cond_turn_done k z = eqb-true (entry a 0 (first t n)) 3 (of (goes_as (cond_by t a b c n)
        (acts_cond t fair n i a b c d e _ busy k refl)))
      where
        of : goes (cond_by t a b c n) ≡ true → eqb (entry a 0 (first t n)) 3 ≡ true
        of = unfold cond_by in rw z (went (eqb (entry a 0 (first t n)) 3) _)

    pub bind_pass_done : kind t n ≡ 6 → entry b false n ≡ true → entry a 0 (last_from 0 (children t n)) ≡ 3
    bind_pass_done k z = eqb-true (entry a 0 (last_from 0 (children t n))) 3
        (of (goes_as (bind_by t a b c n) (acts_bind t fair n i a b c d e _ busy k refl)))
      where
        of : goes (bind_by t a b c n) ≡ true → eqb (entry a 0 (last_from 0 (children t n))) 3 ≡ true
        of = unfold bind_by in rw z (went (eqb (entry a 0 (last_from 0 (children t n))) 3) _)

    pub bind_turn_done : kind t n ≡ 6 → entry b false n ≡ false → each_done (entry a 0) (initial (children t n)) ≡ true
    bind_turn_done k z = of (goes_as (bind_by t a b c n) (acts_bind t fair n i a b c d e _ busy k refl))
      where
        of : goes (bind_by t a b c n) ≡ true → each_done (entry a 0) (initial (children t n)) ≡ true
        of = unfold bind_by in rw z (went (each_done (entry a 0) (initial (children t n))) _)

-- a node that isn't open is busy where it has a move
pub busy_plans : (t : List ℕ) → Taken t → (n : ℕ) → IsNode t n → (a : List ℕ) (b : List Bool) (c d e : List ℕ) (p : Plan)
    → (entry a 0 n ≡ 1 → ⊥) → (entry a 0 n ≡ 2 → Plans t (state_as a b c d e) n p) → Plans t (state_as a b c d e) n p
busy_plans t fair n i a b c d e p z f h = go (ℕ_discrete (entry a 0 n) 2)
  where
    go : Dec (entry a 0 n ≡ 2) → Planned t (state_as a b c d e) n p
    go (yes q) = f q h
    go (no q) = rest_none t fair n i a b c d e h z q
