-- a choice by a test or by a decision; the numbers 1 to N
use Rattle.std.specs.Prelude.{ℕ, ◌≤◌, Bool, true, false}

abbrev pub pick {ℓ} : {A : Type ℓ} → Bool → A → A → A
pick true x y = x
pick false x y = y

-- the first if the statement is decided to hold, else the second
abbrev pub mixed {ℓ} : {A : Type ℓ} {P : Type 0} → Dec P → A → A → A
mixed (yes p) x y = x
mixed (no p) x y = y

abbrev pub Range : ℕ → ℕ → Type 0
Range N m = (1 ≤ m) × (m ≤ N)
