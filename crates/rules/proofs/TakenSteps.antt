-- the steps taken, played alone, lead to the same state; the next step after a play is a step of a longer one
use Prim.Native.Nat.{ℕ, zero, suc, ◌≤◌}
use mathlib.Core.Path.{◌≡◌, refl, subst, sym, ap, ◌∙◌}
use mathlib.Core.Logic.{inl, inr}
use mathlib.Core.List.{List, [], ◌∷◌, ◌++◌}
use native.Mathlib.Omega.{arith}
use lib.ListN.{length, take}
use Rattle.rules.specs.State.{State512, In}
use Rattle.rules.specs.Step.{Reply, taken, answered, denied}
use Rattle.rules.specs.Play.{noted}
use Rattle.rules.specs.Circuit.{started, start_of, step_of, play_of}
use Rattle.rules.proofs.AnyState.{refused_unchanged}
use Rattle.rules.proofs.Demands.{demand}
use Rattle.rules.proofs.RunFacts.{play_more, play_on, from_nothing, play_nodes, play_state}

module _ (t tags : List ℕ) where
  -- a list of asked steps of which none is refused leads to where ns leads, by the same steps
  pub record Same (s : State512) (ns ms : List ℕ) : Type 0 where
    pub nodes : (play_of t tags s ms).nodes ≡ ms
    pub state : (play_of t tags s ms).state ≡ (play_of t tags s ns).state

  -- the steps taken are such a list
  pub taken_alone : (s : State512) (ns : List ℕ) → Same s ns (play_of t tags s ns).nodes
  taken_alone s [] =
      let e = from_nothing t tags s [] in
      record {
        nodes = ap (λ l. (play_of t tags s l).nodes) e.0 ∙ e.0 ∙ sym e.0;
        state = ap (λ l. (play_of t tags s l).state) e.0;
      }
  taken_alone s (n ∷ ns) = subst (Same s (n ∷ ns)) (sym (play_more t tags s n ns))
      (go (step_of t tags s n).answer refl (taken_alone (step_of t tags s n).state ns))
    where
      s₁ : State512
      s₁ = (step_of t tags s n).state

      on : ((l : List ℕ) → noted (step_of t tags s n).answer n l ≡ n ∷ l) → Same s₁ ns (play_of t tags s₁ ns).nodes
          → Same s (n ∷ ns) (n ∷ (play_of t tags s₁ ns).nodes)
      on f r = record {
        nodes = play_more t tags s n (play_of t tags s₁ ns).nodes ∙ f _ ∙ ap (λ l. n ∷ l) r.nodes;
        state = play_on t tags s n (play_of t tags s₁ ns).nodes ∙ r.state ∙ sym (play_on t tags s n ns);
      }

      go : (a : Reply) → (step_of t tags s n).answer ≡ a → Same s₁ ns (play_of t tags s₁ ns).nodes
          → Same s (n ∷ ns) (noted a n (play_of t tags s₁ ns).nodes)
      go taken e r = on (λ l. ap (λ x. noted x n l) e) r
      go (answered v) e r = on (λ l. ap (λ x. noted x n l) e) r
      go (denied k p) e r =
          let u : s₁ ≡ s = ap (λ x. x.state) (refused_unchanged t tags s n k p e) in
          record {
            nodes = ap (λ x. (play_of t tags x (play_of t tags s₁ ns).nodes).nodes) (sym u) ∙ r.nodes;
            state = ap (λ x. (play_of t tags x (play_of t tags s₁ ns).nodes).state) (sym u) ∙ r.state ∙ sym (play_on t tags s n ns);
          }

  -- a play takes at most the steps asked, so where all are taken those of every prefix are
  few : (s : State512) (ns : List ℕ) → length (play_of t tags s ns).nodes ≤ length ns
  few s [] = let e = ap length (from_nothing t tags s []).0 in omega arith
  few s (n ∷ ns) = subst (λ l. length l ≤ suc (length ns)) (sym (play_more t tags s n ns))
      (go (step_of t tags s n).answer _ (few (step_of t tags s n).state ns))
    where
      go : (a : Reply) (l : List ℕ) → length l ≤ length ns → length (noted a n l) ≤ suc (length ns)
      go taken l h = omega arith
      go (answered v) l h = omega arith
      go (denied k p) l h = omega arith

  pub taken_prefix : (s : State512) (ns : List ℕ) → (play_of t tags s ns).nodes ≡ ns → (k : ℕ)
      → (play_of t tags s (take k ns)).nodes ≡ take k ns
  taken_prefix s ns e zero = (from_nothing t tags s []).0
  taken_prefix s [] e (suc k) = (from_nothing t tags s []).0
  taken_prefix s (n ∷ ns) e (suc k) = play_more t tags s n (take k ns)
      ∙ go (step_of t tags s n).answer (sym (play_more t tags s n ns) ∙ e) (λ f. taken_prefix s₁ ns f k)
    where
      s₁ : State512
      s₁ = (step_of t tags s n).state

      go : (a : Reply) → noted a n (play_of t tags s₁ ns).nodes ≡ n ∷ ns
          → ((play_of t tags s₁ ns).nodes ≡ ns → (play_of t tags s₁ (take k ns)).nodes ≡ take k ns)
          → noted a n (play_of t tags s₁ (take k ns)).nodes ≡ n ∷ take k ns
      go taken f ih = ap (λ l. n ∷ l) (ih (cc))
      go (answered v) f ih = ap (λ l. n ∷ l) (ih (cc))
      go (denied k p) f ih = absurd (omega (arith, few s₁ ns, ap length f))

  -- one step more
  pub next_nodes : (s : State512) (ns : List ℕ) (n : ℕ) → (play_of t tags s (ns ++ n ∷ [])).nodes
      ≡ (play_of t tags s ns).nodes ++ noted (step_of t tags (play_of t tags s ns).state n).answer n []
  next_nodes s ns n =
      let s₁ = (play_of t tags s ns).state in
      play_nodes t tags s ns (n ∷ []) ∙ ap (λ l. (play_of t tags s ns).nodes ++ l)
      (play_more t tags s₁ n [] ∙ ap (noted (step_of t tags s₁ n).answer n) (from_nothing t tags (step_of t tags s₁ n).state []).0)

  pub next_state : (s : State512) (ns : List ℕ) (n : ℕ)
      → (play_of t tags s (ns ++ n ∷ [])).state ≡ (step_of t tags (play_of t tags s ns).state n).state
  next_state s ns n =
      let s₁ = (play_of t tags s ns).state in
      play_state t tags s ns (n ∷ []) ∙ play_on t tags s₁ n [] ∙ (from_nothing t tags (step_of t tags s₁ n).state []).1

  pub next_answer : (s : State512) (ns : List ℕ) (n : ℕ)
      → In (step_of t tags (play_of t tags s ns).state n).answer (play_of t tags s (ns ++ n ∷ [])).answers
  unfolding play_of
  next_answer s [] n = inl refl
  next_answer s (m ∷ ns) n = inr (next_answer (step_of t tags s m).state ns n)

-- after any steps from a start, a step under its tags is not refused 23
pub never_held : (t tags args : List ℕ) (s : State512) → start_of t tags args ≡ started s → (ns : List ℕ) (n place : ℕ)
    → (step_of t tags (play_of t tags s ns).state n).answer ≡ denied 23 place → ⊥
never_held t tags args s start ns n place e =
    (demand t tags args s start (ns ++ n ∷ [])).arbitrated place
    (subst (λ x. In x (play_of t tags s (ns ++ n ∷ [])).answers) e (next_answer t tags s ns n))
