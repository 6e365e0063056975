-- the sort of a node's step, by each way that the code takes to it
use Rattle.std.proofs.Common.{◌≡◌, ℕ, Bool, true, false, eqb, List, sym, refl, ap, ◌∙◌}
use native.Mathlib.Decide.{ℕ_discrete}
use denote.Enum.Bare.{sameb}
use Rattle.table.specs.Pick.{pick}
use Rattle.table.specs.Bytes.{root, kind, word, first, next}
use Rattle.table.specs.Naming.{owner, chain, children}
use Rattle.table.specs.Working.{Taken, IsNode}
use Rattle.rules.specs.State.{entry}
use Rattle.rules.specs.Step.{Act}
use Rattle.rules.specs.Circuit.{act_of}
use Rattle.rules.specs.Sets.{sort}
use Rattle.rules.proofs.Sorts.{sort_pick}
use Rattle.circuit.specs.Meaning.{state_as}
use Rattle.circuit.specs.declared.sorts.Ready.{Ready}
use Rattle.circuit.specs.contracts.sorts.Ready.{the_type}
use Rattle.circuit.specs.Working.{each_done, leading, last_from, passed, sort_of}
use Rattle.circuit.proofs.ActBy.{rest_is, open_by, prim_by, self_by, call_by, cond_by, bind_by}
use Rattle.circuit.proofs.PlanLaws.{acts_open, acts_prim, acts_self, acts_call, acts_cond, acts_bind, acts_leaf}
use Rattle.circuit.proofs.PlanLaws.{enter_held, enter_yes, cond_pass, bind_pass}

-- an open node moves, whatever it is
either : (b : Bool) (x y : Act) (k : ℕ) → sort x ≡ k → sort y ≡ k → sort (pick b x y) ≡ k
either true x y k p q = p
either false x y k p q = q

open_sort : (t value registers : List ℕ) (n : ℕ) → sort (open_by t value registers n) ≡ 2
unfolding open_by
open_sort t value registers n =
    either (eqb (kind t n) 1) _ _ 2 refl (either (eqb (kind t n) 2) _ _ 2 refl (either (eqb (kind t n) 7) _ _ 2 refl refl))

-- a node by its status and kind
module _ (t : List ℕ) (fair : Taken t) (n : ℕ) (i : IsNode t n) (a : List ℕ) (b : List Bool) (c d e : List ℕ) where
  abbrev Is : ℕ → Type 0
  Is k = k ≡ sort (act_of t (state_as a b c d e) n)

  pub sort_open : entry a 0 n ≡ 1 → Is 2
  sort_open h = sym (open_sort t c d n) ∙ ap sort (acts_open t fair n i a b c d e (open_by t c d n) h refl)

  pub sort_rest : (entry a 0 n ≡ 1 → ⊥) → (entry a 0 n ≡ 2 → ⊥) → Is 0
  sort_rest p q = ap sort (rest_is t fair n i (state_as a b c d e) p q)

  module _ (busy : entry a 0 n ≡ 2) (k : ℕ) where
    pub sort_prim : kind t n ≡ 3 → k ≡ sort (prim_by t a c n) → Is k
    sort_prim h q = q ∙ ap sort (acts_prim t fair n i a b c d e _ busy h refl)

    pub sort_self : kind t n ≡ 4 → word t n ≡ owner t n → k ≡ sort (self_by t a c n) → Is k
    sort_self h w q = q ∙ ap sort (acts_self t fair n i a b c d e _ busy h w refl)

    pub sort_call : kind t n ≡ 4 → (word t n ≡ owner t n → ⊥) → k ≡ sort (call_by t a b c e n) → Is k
    sort_call h w q = q ∙ ap sort (acts_call t fair n i a b c d e _ busy h w refl)

    pub sort_cond : kind t n ≡ 5 → k ≡ sort (cond_by t a b c n) → Is k
    sort_cond h q = q ∙ ap sort (acts_cond t fair n i a b c d e _ busy h refl)

    pub sort_bind : kind t n ≡ 6 → k ≡ sort (bind_by t a b c n) → Is k
    sort_bind h q = q ∙ ap sort (acts_bind t fair n i a b c d e _ busy h refl)

  pub sort_leaf : entry a 0 n ≡ 2 → (kind t n ≡ 3 → ⊥) → (kind t n ≡ 4 → ⊥) → (kind t n ≡ 5 → ⊥) → (kind t n ≡ 6 → ⊥) → Is 0
  sort_leaf busy p q r u = ap sort (acts_leaf t fair n i a b c d e _ busy p q r u refl)

passed_sort : (status value : List ℕ) (r k : ℕ) → k ≡ pick (eqb (entry status 0 r) 3) 2 0 → k ≡ sort (passed status value r)
passed_sort status value r k e = e ∙ sym (sort_pick (eqb (entry status 0 r) 3) _ _ 2 0 refl refl)

-- a primitive and a self call, which wait for all children alone
module _ (t status value : List ℕ) (n k : ℕ) (e : k ≡ pick (each_done (entry status 0) (children t n)) 2 0) where
  pub gathered_prim : k ≡ sort (prim_by t status value n)
  unfolding prim_by
  gathered_prim = e ∙ sym (sort_pick (each_done (entry status 0) (children t n)) _ _ 2 0 refl refl)

  pub gathered_self : k ≡ sort (self_by t status value n)
  unfolding self_by
  gathered_self = e ∙ sym (sort_pick (each_done (entry status 0) (children t n)) _ _ 2 0 refl refl)

-- a call of another function
module _ (t status : List ℕ) (second : List Bool) (value occupant : List ℕ) (n g : ℕ) (eg : g ≡ word t n) (b : Bool)
    (eb : b ≡ entry second false n) where
  pub inside_sort : b ≡ true → (r : ℕ) → r ≡ root t g → (k : ℕ) → k ≡ pick (eqb (entry status 0 r) 3) 2 0
      → k ≡ sort (call_by t status second value occupant n)
  unfolding call_by
  inside_sort h r er k ek =
      ek ∙ ap (λ m. pick (eqb (entry status 0 m) 3) 2 0) (er ∙ ap (root t) eg)
      ∙ sym (rw (sym eb ∙ h) (sort_pick (eqb (entry status 0 (root t (word t n))) 3) _ _ 2 0 refl refl))

  -- whether the callee is free or not
  pub waits_sort : b ≡ false → (c : ℕ) → c ≡ first t n → (a : Bool) → a ≡ each_done (entry status 0) (leading false (chain t c)) → a ≡ true
      → 1 ≡ sort (call_by t status second value occupant n)
  waits_sort h c ec a ea d = go (ℕ_discrete (entry occupant 0 g) 0)
    where
      go : Dec (entry occupant 0 g ≡ 0) → 1 ≡ sort (call_by t status second value occupant n)
      go (yes z) = ap sort (enter_yes t status second value occupant n g eg b eb h c ec a ea d (entry occupant 0 g) refl z)
      go (no z) = ap sort (enter_held t status second value occupant n g eg b eb h c ec a ea d (entry occupant 0 g) refl z)

-- an if, in its second phase and in its first
module _ (t status : List ℕ) (second : List Bool) (value : List ℕ) (n a : ℕ) (ea : a ≡ first t n) (b : Bool) (eb : b ≡ entry second false n)
    (k : ℕ) where
  pub cond_second : b ≡ true → (r : ℕ) → r ≡ pick (eqb (entry value 0 a) 0) (next t (next t a)) (next t a)
      → k ≡ pick (eqb (entry status 0 r) 3) 2 0 → k ≡ sort (cond_by t status second value n)
  cond_second h r er ek = passed_sort status value r k ek ∙ ap sort (cond_pass t status second value n a ea r er b eb _ h refl)

  pub cond_first : b ≡ false → k ≡ pick (eqb (entry status 0 a) 3) 2 0 → k ≡ sort (cond_by t status second value n)
  unfolding cond_by
  cond_first h ek =
      ek ∙ ap (λ m. pick (eqb (entry status 0 m) 3) 2 0) ea
      ∙ sym (rw (sym eb ∙ h) (sort_pick (eqb (entry status 0 (first t n)) 3) _ _ 2 0 refl refl))

-- a let in its second phase
module _ (t status : List ℕ) (second : List Bool) (value : List ℕ) (n c : ℕ) (ec : c ≡ first t n) (r : ℕ) (er : r ≡ last_from 0 (chain t c))
    (b : Bool) (eb : b ≡ entry second false n) where
  pub bind_second : b ≡ true → (k : ℕ) → k ≡ pick (eqb (entry status 0 r) 3) 2 0 → k ≡ sort (bind_by t status second value n)
  bind_second h k ek = passed_sort status value r k ek ∙ ap sort (bind_pass t status second value n c ec r er b eb _ h refl)

-- the tests of whether a node has a step, as those of its sort
pub is_yes : (k : Ready) → sameb the_type k Ready.Yes ≡ eqb (sort_of k) 2
is_yes Ready.No = refl
is_yes Ready.IfFree = refl
is_yes Ready.Yes = refl

pub is_free : (k : Ready) → sameb the_type k Ready.IfFree ≡ eqb (sort_of k) 1
is_free Ready.No = refl
is_free Ready.IfFree = refl
is_free Ready.Yes = refl

pub is_no : (k : Ready) → sameb the_type k Ready.No ≡ eqb (sort_of k) 0
is_no Ready.No = refl
is_no Ready.IfFree = refl
is_no Ready.Yes = refl
