-- the functions that main reaches are main and those called in C of its body
use Rattle.std.proofs.Common.{◌≡◌, ℕ, ◌<◌, ◌≤◌, true, ◌&&◌, eqb, ◌⊎◌, sym, refl, ◌∙◌, subst, inl, inr, ⊎_elim, arith, eq-eqb, eqb-true}
use Rattle.table.specs.Syntax.{Expr}
use Rattle.table.specs.Well.{Fn, CallIn}
use Rattle.table.specs.Reach.{Reached, main, called}
use Rattle.table.specs.Pick.{Range}
use Rattle.list.specs.CallSets.{callee_at, sets}
use Rattle.list.specs.Arbiters.{Test, any_up_to, calls_of, reached_in}
use Rattle.list.proofs.ListedCalls.{Calling, sets_all, sets_reached}
use Rattle.list.proofs.CallSetFacts.{calls_in_lem, body_calls}
use Rattle.list.specs.PaperList.{Decides}
use Rattle.list.proofs.ArbiterFacts.{or_decides, and_both, both_and, any_out, any_in, eqb_decides, sets_decides}

module _ (F : ℕ) (body at : ℕ → Expr) (there : (f : ℕ) → Reached F body f → Fn F body f)
    (below : (f c g : ℕ) → Fn F body f → CallIn c g (body f) → (1 ≤ g) × (g < f))
    (callees : (f c g : ℕ) → Fn F body f → CallIn c g (body f) → callee_at at c ≡ g) where
  -- main, or the callee of a call in C of main's body
  abbrev Called : ℕ → Type 0
  Called f = (f ≡ F) ⊎ ((c : ℕ) × sets body at F F c × (callee_at at c ≡ f))

  -- every call in C of main's body is of a function that main reaches
  in_set : (m : ℕ) → sets body at F F m → Reached F body (callee_at at m)
  in_set = sets_reached (λ m. Reached F body (callee_at at m)) F body at
      (λ f r c g i. subst (Reached F body) (sym (callees f c g (there f r) i)) (called f c g r i)) F (omega arith) F main

  -- C of main's body holds that of each body that is reached
  in_main : (f : ℕ) → Reached F body f → ((m : ℕ) → sets body at F f m → sets body at F F m) × Called f
  in_main f main = (λ m h. h, inl refl)
  in_main f (called h c g r i) =
      let o = there h r in
      let up = (in_main h r).0 in (
        λ m y. up m (body_calls F body at m below h o (calls_in_lem (callee_at at) (sets body at F) c g m (inr y) (body h) i)),
        inr (
          c,
          up c (body_calls F body at c below h o (calls_in_lem (callee_at at) (sets body at F) c g c (inl refl) (body h) i)),
          callees h c g o i,
        ),
      )

  reached_called : (f : ℕ) → (Called f → Reached F body f) × (Reached F body f → Called f)
  reached_called f = (
    λ h. ⊎_elim (λ e. subst (Reached F body) (sym e) main)
        (λ x. subst (Reached F body) x.2 (in_set x.0 x.1)) h,
    λ r. (in_main f r).1,
  )

  -- the decided functions are exactly those reached
  module _ (N : ℕ) (calleeᵇ : ℕ → ℕ) (same : (n : ℕ) → calleeᵇ n ≡ callee_at at n)
      (calls : (f : ℕ) → Range F f → Calling (Range N) (body f)) where
    pub reached_decides : (f : ℕ) → Decides (reached_in N calleeᵇ body F f) (Reached F body f)
    unfolding reached_in
    reached_decides f =
        let d = or_decides (eqb f F) (any_up_to N each) (eqb_decides f F) (to, from) in
        (λ e. (reached_called f).0 (d.0 e), λ r. d.1 ((reached_called f).1 r))
      where
        each : Test
        each c = calls_of N calleeᵇ body F F c && eqb f (calleeᵇ c)

        decided : (m : ℕ) → Decides (calls_of N calleeᵇ body F F m) (sets body at F F m)
        decided = sets_decides F N body at calleeᵇ same calls F (omega arith) F

        to : any_up_to N each ≡ true → (c : ℕ) × sets body at F F c × (callee_at at c ≡ f)
        to e =
            let r = any_out N each e in
            let p = and_both (calls_of N calleeᵇ body F F r.0) (eqb f (calleeᵇ r.0)) r.3 in
            (r.0, (decided r.0).0 p.0, sym (eqb-true f (calleeᵇ r.0) p.1 ∙ same r.0))

        from : (c : ℕ) × sets body at F F c × (callee_at at c ≡ f) → any_up_to N each ≡ true
        from x =
            let r = sets_all (Range N) F body at calls F (omega arith) F x.0 x.1 in
            any_in N each x.0 r.0 r.1
            (both_and (calls_of N calleeᵇ body F F x.0) (eqb f (calleeᵇ x.0)) ((decided x.0).1 x.1)
            (eq-eqb f (calleeᵇ x.0) (sym (same x.0 ∙ x.2))))
