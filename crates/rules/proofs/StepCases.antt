-- a step has a cause to be refused, with its number and place, or it makes its node's move: the one argument over all cases
use Prim.Native.Nat.{ℕ}
use mathlib.Core.Bool.{Bool, true, false}
use mathlib.Core.Path.{◌≡◌, refl}
use mathlib.Core.Logic.{◌⊎◌, ⊎_elim}
use native.Mathlib.Omega.{arith}
use lib.Dec.{eqb, ltb}
use borrow.Author.Tests.{eqb-true, eqb-false, ltb-true, ltb-false}
use Rattle.table.specs.Syntax.{Expr, id}
use Rattle.table.specs.Pick.{pick, Range}
use Rattle.rules.specs.Arithmetic.{Arithmetic}
use Rattle.rules.specs.State.{State512, view}
use Rattle.rules.specs.Step.{Act, stuck, blocked, does, Move, done, act, over, refusal, Stepped, told, outcome, perform, circuit_step}

-- what each test of a step finds, in the order of document 01
pub data Cause (units : Arithmetic) (F N : ℕ) (body at : ℕ → Expr) (home : ℕ → ℕ) (tags : ℕ → Bool) (s : State512) (n : ℕ)
    : Type 0 where
  no_node : (Range N n → ⊥) → Cause units F N body at home tags s n
  bad_status : Range N n → over 3 N s.status ≡ true → Cause units F N body at home tags s n
  bad_occupant : Range N n → over N F s.occupant ≡ true → Cause units F N body at home tags s n
  main_done : Range N n → done (view s) (id (body F)) ≡ true → Cause units F N body at home tags s n
  no_move : Range N n → done (view s) (id (body F)) ≡ false → act units body (home n) (view s) (at n) ≡ stuck
      → Cause units F N body at home tags s n
  occupied : Range N n → done (view s) (id (body F)) ≡ false → act units body (home n) (view s) (at n) ≡ blocked
      → Cause units F N body at home tags s n

module _ {units : Arithmetic} {F N : ℕ} {body at : ℕ → Expr} {home : ℕ → ℕ} {tags : ℕ → Bool} {s : State512} {n : ℕ} where
  abbrev pub number : Cause units F N body at home tags s n → ℕ
  number (no_node e) = 12
  number (bad_status r e) = 24
  number (bad_occupant r e) = 24
  number (main_done r e) = 20
  number (no_move r e h) = 21
  number (occupied r e h) = pick (tags n) 22 23

  abbrev pub place : Cause units F N body at home tags s n → ℕ
  place (no_node e) = 0
  place (bad_status r e) = 0
  place (bad_occupant r e) = 0
  place (main_done r e) = n
  place (no_move r e h) = n
  place (occupied r e h) = n

  -- 22 and 23 only for a node that is blocked
  pub held_only : (c : Cause units F N body at home tags s n) → (number c ≡ 22) ⊎ (number c ≡ 23)
      → Range N n × (act units body (home n) (view s) (at n) ≡ blocked) × (number c ≡ pick (tags n) 22 23) × (place c ≡ n)
  held_only (no_node e) k = absurd (⊎_elim (λ z. omega (arith, z)) (λ z. omega (arith, z)) k)
  held_only (bad_status r e) k = absurd (⊎_elim (λ z. omega (arith, z)) (λ z. omega (arith, z)) k)
  held_only (bad_occupant r e) k = absurd (⊎_elim (λ z. omega (arith, z)) (λ z. omega (arith, z)) k)
  held_only (main_done r e) k = absurd (⊎_elim (λ z. omega (arith, z)) (λ z. omega (arith, z)) k)
  held_only (no_move r e h) k = absurd (⊎_elim (λ z. omega (arith, z)) (λ z. omega (arith, z)) k)
  held_only (occupied r e h) k = (r, h, refl, refl)

module _ (units : Arithmetic) (F N : ℕ) (body at : ℕ → Expr) (home : ℕ → ℕ) (tags : ℕ → Bool) (s : State512) (n : ℕ)
    (P : Stepped → Type 0) where
  abbrev Main : Bool
  Main = done (view s) (id (body F))

  abbrev Here : Act
  Here = act units body (home n) (view s) (at n)

  by_test : (b : Bool) (x y : Stepped) → (b ≡ true → P x) → (b ≡ false → P y) → P (pick b x y)
  by_test true x y f g = f refl
  by_test false x y f g = g refl

  -- the tests in the order of document 01
  pub step_cases : ((c : Cause units F N body at home tags s n) → P (refusal s (number c) (place c)))
      → (Range N n → Main ≡ false → (m : Move) → Here ≡ does m
      → P (record { answer = told (id (body F)) (view (perform N home body s n m)); state = perform N home body s n m }))
      → P (circuit_step units F N body at home tags s n)
  unfolding circuit_step
  step_cases f g =
      by_test (eqb n 0) _ _ (λ e. f (no_node (λ r. omega (arith, r.0, eqb-true n 0 e))))
      (λ e0. by_test (ltb N n) _ _ (λ e. f (no_node (λ r. omega (arith, r.1, ltb-true N n e))))
      (λ e1. let r : Range N n = (omega (arith, eqb-false n 0 e0), ltb-false N n e1) in
      by_test (over 3 N s.status) _ _ (λ e. f (bad_status r e))
      (λ e2. by_test (over N F s.occupant) _ _ (λ e. f (bad_occupant r e))
      (λ e3. by_test Main _ _ (λ e. f (main_done r e)) (λ e4. by_act Here (λ e. f (no_move r e4 e)) (λ e. f (occupied r e4 e)) (g r e4))))))
    where
      by_act : (a : Act) → (a ≡ stuck → P (refusal s 21 n)) → (a ≡ blocked → P (refusal s (pick (tags n) 22 23) n))
          → ((m : Move) → a ≡ does m → P (record {
            answer = told (id (body F)) (view (perform N home body s n m));
            state = perform N home body s n m;
          }))
          → P (outcome units F N body at home tags s n a)
      by_act stuck f g h = f refl
      by_act blocked f g h = g refl
      by_act (does m) f g h = h m refl
