-- from a start: whatever the order of the steps, main's answer and the number of steps are the reading's
use Prim.Native.Nat.{ℕ, zero, suc, ◌+◌, ◌<◌}
use mathlib.Core.Path.{◌≡◌, refl, subst, sym, ap, ◌∙◌, fun_ext}
use mathlib.Core.Logic.{inl, inr, ⊎_elim}
use mathlib.Core.List.{List}
use native.Mathlib.Omega.{arith}
use native.Mathlib.Decide.{ℕ_discrete}
use lib.ListN.{get_or}
use Rattle.table.specs.Syntax.{Expr, id, Every, Node}
use Rattle.rules.specs.State.{View}
use Rattle.rules.proofs.Shape.{Still, Done, Opened}
use Rattle.rules.proofs.Moves.{finished}
use Rattle.table.specs.Well.{Fn, Well}
use Rattle.table.proofs.CallPlaces.{call_node}
use Rattle.rules.proofs.Places.{still_busy}
use Rattle.rules.proofs.Invariant.{Step, inner, enter, leave, again, Active, New, Holder, Sound, new_live}
use Rattle.rules.specs.Reading.{val, Readings, Reads, kept_answers}
use Rattle.rules.proofs.Counts.{left_reads, over_left}
use Rattle.rules.proofs.Total.{step_before}
use Rattle.table.specs.Find.{total}
use Rattle.rules.specs.Arithmetic.{Arithmetic, keep_all}
use Rattle.rules.proofs.SumLaws.{sum_zero, sum_last}
use Rattle.rules.proofs.Remaining.{gets, Closes, nowhere, Rest, Expects}
use Rattle.rules.proofs.Acting.{inner_acts, enter_acts, leave_acts, again_acts}
use Rattle.rules.proofs.Inner.{inner_sound}
use Rattle.rules.proofs.Enter.{enter_sound}
use Rattle.rules.proofs.Leave.{leave_sound}
use Rattle.rules.proofs.Again.{again_sound}

-- n steps lead from s to s'
pub data Steps (units : Arithmetic) (F : ℕ) (body : ℕ → Expr) (s : View) : View → ℕ → Type 0 where
  rest : Steps units F body s s 0
  then : {t u : View} {n : ℕ} → Steps units F body s t n → Step units F body t u → Steps units F body s u (suc n)

-- a started circuit: main's body new, every other body idle, every resource free
pub record AtStart (F : ℕ) (body : ℕ → Expr) (s : View) (args : List ℕ) : Type 0 where
  pub main : New body s F
  pub others : (f : ℕ) → Fn F body f → (f ≡ F → ⊥) → Every (Still s) (body f)
  pub free : (f : ℕ) → s.occupant f ≡ 0
  pub arguments : (i : ℕ) → s.register F i ≡ get_or args i 0

pub started_sound : {F : ℕ} {body : ℕ → Expr} (s : View) (args : List ℕ) → AtStart F body s args → Sound F body s
started_sound {F} {body} s args st = record {
  opened = λ f q a. opened_f f a;
  rest = λ f q a. st.others f q (λ e. a (inl e));
  held = λ f c q e z. absurd (z (sym e ∙ st.free f));
  top = st.free F;
}
  where
    opened_f : (f : ℕ) → Active F s f → Opened s (body f)
    opened_f f (inl e) = subst (λ x. Opened s (body x)) (sym e) (inl (new_live s (body F) st.main.0 st.main.1))
    opened_f f (inr z) = absurd (z (st.free f))

-- main's root is done: nothing else is under way
module _ {F : ℕ} {body : ℕ → Expr} (s : View) (sound : Sound F body s) (r : Fn F body F) (over : s.status (id (body F)) ≡ 3) where
  main_done : Done s (body F)
  main_done = finished s (body F) (sound.opened F r (inl refl)) over

  asleep : (k f : ℕ) → F < k + f → Fn F body f → (f ≡ F → ⊥) → s.occupant f ≡ 0
  asleep zero f h q d = absurd (omega (arith, h, q.1))
  asleep (suc k) f h q d = go (ℕ_discrete (s.occupant f) 0) (λ g x y z. asleep k g x y z)
    where
      go : Dec (s.occupant f ≡ 0) → ((g : ℕ) → F < k + g → Fn F body g → (g ≡ F → ⊥) → s.occupant g ≡ 0) → s.occupant f ≡ 0
      go (yes z) ih = z
      go (no z) ih = absurd (up (ℕ_discrete o.0 F))
        where
          o : Holder F body s f (s.occupant f)
          o = sound.held f (s.occupant f) q refl z

          up : Dec (o.0 ≡ F) → ⊥
          up (yes e) = still_busy s (s.occupant f) o.4.0 (body F) main_done.1 (subst (λ x. Node (s.occupant f) (body x)) e
              (call_node (s.occupant f) f (body o.0) o.3))
          up (no e) =
              let z₀ = ih o.0 (omega (arith, h, o.2)) o.1 e in
              still_busy s (s.occupant f) o.4.0 (body o.0) (sound.rest o.0 o.1 (⊎_elim e (λ y. y z₀)))
              (call_node (s.occupant f) f (body o.0) o.3)

  pub all_still : (f : ℕ) → Fn F body f → Every (Still s) (body f)
  all_still f q = go (ℕ_discrete f F)
    where
      go : Dec (f ≡ F) → Every (Still s) (body f)
      go (yes e) = subst (λ g. Every (Still s) (body g)) (sym e) main_done.1
      go (no e) = sound.rest f q (⊎_elim e (λ z. z (asleep (suc F) f (omega arith) q e)))

module _ {units : Arithmetic} {F : ℕ} {body : ℕ → Expr} (well : Well F body) where
  pub step_sound : (s s' : View) → Sound F body s → Step units F body s s' → Sound F body s'
  step_sound s s' d (inner h r u st) = inner_sound (inner_acts well d r st) st
  step_sound s s' d (enter h r n g es st) = enter_sound (enter_acts well d r st) st
  step_sound s s' d (leave h r n g es st) = leave_sound (leave_acts well d r st) st
  step_sound s s' d (again h r n es st) = again_sound (again_acts well d r st) st

  pub steps_sound : (s s' : View) (n : ℕ) → Sound F body s → Steps units F body s s' n → Sound F body s'
  steps_sound s s' n d rest = d
  steps_sound s s' n d (then {t = t} p st) = step_sound t s' (steps_sound s t _ d p) st

  module _ {K : Readings} (reads : Closes units F body K) where
    pub steps_before : (s s' : View) (n : ℕ) (W' R' : ℕ → ℕ) → Sound F body s → Steps units F body s s' n → Expects units F body K s' W' R'
        → (W R : ℕ → ℕ) × Expects units F body K s W R × (total R F ≡ n + total R' F) × (W 0 ≡ W' 0)
    steps_before s s' n W' R' d rest e = (W', R', e, omega arith, refl)
    steps_before s s' n W' R' d (then {t = t} {n = k} p st) e =
        let b = step_before units K t s' e reads well (steps_sound s t k d p) st in
        let c = steps_before s t k b.0 b.1 d p b.2 in
        (c.0, c.1, c.2, omega (arith, c.3, b.3), c.4 ∙ b.4)

    end : (s : View) → Sound F body s → Fn F body F → s.status (id (body F)) ≡ 3
        → Expects units F body K s (λ m. s.value (id (body F))) (λ f. 0)
    end s d r h = record { active = λ f q a. act f q a (ℕ_discrete f F); rest = λ f q a. refl }
      where
        main : Rest units body K s (λ m. s.value (id (body F))) F (s.value (id (body F))) 0
        main = (
          val (s.value (id (body F))),
          0,
          0,
          over_left (units.result F) (kept_answers (units.keep F) K) s (λ m. units.keep F (s.value (id (body F)))) (s.register F)
              (body F) nowhere
              (val (s.value (id (body F)))) 0 (h, refl, refl),
          (refl, refl),
          refl,
        )

        act : (f : ℕ) → Fn F body f → Active F s f → Dec (f ≡ F)
            → Rest units body K s (λ m. s.value (id (body F))) f (s.value (id (body F))) 0
        act f q a (yes e) = subst (λ y. Rest units body K s (λ m. s.value (id (body F))) y (s.value (id (body F))) 0) (sym e) main
        act f q (inl a) (no e) = absurd (e a)
        act f q (inr a) (no e) = absurd (a (asleep s d r h (suc F) f (omega arith) q e))

    -- the third demand's last sentence
    pub answer : (s s' : View) (args : List ℕ) (n : ℕ) → Fn F body F → AtStart F body s (keep_all units F args) → Steps units F body s s' n
        → s'.status (id (body F)) ≡ 3 → K F args (s'.value (id (body F))) n
    answer s s' args n r st p h =
        let d = started_sound s (keep_all units F args) st in
        let d' = steps_sound s s' n d p in
        let c = steps_before s s' n (λ m. s'.value (id (body F))) (λ f. 0) d p (end s' d' r h) in
        let x = c.2.active F r (inl refl) in
        let q = left_reads (units.result F) (kept_answers (units.keep F) K) s (gets units F c.0) (s.register F) (body F)
        (inr st.main.0.0) nowhere x.0 x.1 x.3 in
        let k = reads F (c.0 (s.occupant F)) args x.0 x.1 x.2 r
        (subst (λ y. Reads (units.result F) (kept_answers (units.keep F) K) y (body F) nowhere x.0 x.1) (fun_ext st.arguments) q)
        x.4 in
        let total : x.1 + x.2 ≡ n = omega (
          arith,
          x.5,
          sum_last F c.1 r.0 (λ f a b. c.2.rest f (a, omega (arith, b))
              (⊎_elim (λ e. omega (arith, e, b)) (λ z. z (st.free f)))),
          c.3,
          sum_zero F,
        ) in
        subst (K F args (s'.value (id (body F)))) total (subst (λ v. K F args v (x.1 + x.2)) (ap c.0 (st.free F) ∙ c.4) k)
