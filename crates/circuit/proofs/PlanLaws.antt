-- each way that the code takes to a plan, with what it read on the way
use Rattle.std.proofs.Common.{◌≡◌, ℕ, zero, suc, ◌<◌, ◌≤◌, Bool, true, false, T, eqb, ◌⊎◌, List, [], ◌∷◌, map, get_or, sym, refl, ap, ◌∙◌}
use Rattle.std.proofs.Common.{subst, ap₂, inl, inr, arith, eqb→eq, eq-eqb, ne_eqb}
use native.Mathlib.Decide.{ℕ_discrete}
use Rattle.table.specs.Pick.{pick}
use Rattle.table.specs.Bytes.{nodes, root, kind, extra, word, first, next}
use Rattle.table.specs.Naming.{owner, chain, children, initial}
use Rattle.rules.specs.State.{entry, register}
use Rattle.rules.specs.Step.{Act, stuck, blocked, does, begins, turns, finishes, enters, leaves, restarts}
use Rattle.rules.specs.Operations.{last_value, operate}
use Rattle.rules.specs.Arithmetic.{arithmetic}
use Rattle.table.specs.Check.{formed}
use Rattle.table.specs.Working.{Taken, IsNode}
use Rattle.table.proofs.FindLaws.{both}
use Rattle.table.proofs.KindLaws.{leaf, parameter}
use Rattle.rules.specs.Sets.{goes}
use Rattle.rules.specs.Circuit.{act_of}
use Rattle.circuit.specs.Meaning.{state_as}
use Rattle.circuit.proofs.OperationLaws.{operate_by}
use Rattle.circuit.specs.Working.{each_done, leading, last_from, kept_by, opens, passed}
use Rattle.circuit.proofs.ActBy.{open_is, busy_is, open_by, prim_by, self_by, call_by, branch_by, cond_by, bind_by, busy_by}
use Rattle.circuit.proofs.ChainLaws.{ok, chain_end, chain_here, next_in, operate_by_lem}

module _ (status value : List ℕ) (r x : ℕ) (ex : x ≡ entry status 0 r) where
  pub pass_yes : (v : ℕ) → v ≡ entry value 0 r → x ≡ 3 → does (finishes v) ≡ passed status value r
  pass_yes v ev h = ap (λ a. does (finishes a)) ev ∙ sym (rw (eq-eqb (entry status 0 r) 3 (sym ex ∙ h)) refl)

  pub pass_no : (x ≡ 3 → ⊥) → stuck ≡ passed status value r
  pass_no h = sym (rw (ne_eqb (entry status 0 r) 3 (λ z. h (ex ∙ z))) refl)

-- a self call, and a primitive
module _ (t status : List ℕ) (n c : ℕ) (ec : c ≡ first t n) (a : Bool)
    (ea : a ≡ each_done (entry status 0) (leading false (chain t c))) where
  kids : chain t c ≡ children t n
  unfolding children
  kids = ap (chain t) ec

  all_kids : a ≡ each_done (entry status 0) (children t n)
  all_kids = ea ∙ ap (each_done (entry status 0)) kids

  pub self_yes : (value : List ℕ) → a ≡ true → does (restarts (owner t n) (kept_by t value (owner t n) n)) ≡ self_by t status value n
  unfolding self_by
  self_yes value h = sym (rw (sym all_kids ∙ h) refl)

  pub self_no : (value : List ℕ) → a ≡ false → stuck ≡ self_by t status value n
  unfolding self_by
  self_no value h = sym (rw (sym all_kids ∙ h) refl)

  pub prim_no : (value : List ℕ) → a ≡ false → stuck ≡ prim_by t status value n
  unfolding prim_by
  prim_no value h = sym (rw (sym all_kids ∙ h) refl)

  pub prim_yes : (value : List ℕ) (e x f v : ℕ) → a ≡ true → e ≡ extra t n → x ≡ operate e (map (entry value 0) (chain t c))
      → f ≡ owner t n → v ≡ (arithmetic t).keep f x → does (finishes v) ≡ prim_by t status value n
  unfolding prim_by
  prim_yes value e x f v h ee ex ef ev =
      ap (λ y. does (finishes y)) (ev ∙ ap₂ (arithmetic t).keep ef (ex ∙ ap₂ (λ o l. operate o (map (entry value 0) l)) ee kids))
      ∙ sym (rw (sym all_kids ∙ h) refl)

-- a call of another function
module _ (t status : List ℕ) (second : List Bool) (value occupant : List ℕ) (n g : ℕ) (eg : g ≡ word t n) (b : Bool)
    (eb : b ≡ entry second false n) where
  module _ (h : b ≡ true) (r : ℕ) (er : r ≡ root t g) (x : ℕ) (ex : x ≡ entry status 0 r) where
    there : r ≡ root t (word t n)
    there = er ∙ ap (root t) eg

    pub leave_no : (x ≡ 3 → ⊥) → stuck ≡ call_by t status second value occupant n
    unfolding call_by
    leave_no d = sym (rw (sym eb ∙ h, ne_eqb (entry status 0 (root t (word t n))) 3 (λ z. d (ex ∙ ap (entry status 0) there ∙ z))) refl)

    pub leave_yes : x ≡ 3 → (y f v : ℕ) → y ≡ entry value 0 r → f ≡ owner t n → v ≡ (arithmetic t).keep f y
        → does (leaves g v) ≡ call_by t status second value occupant n
    unfolding call_by
    leave_yes d y f v ey ef ev = ap₂ (λ g v. does (leaves g v)) eg (ev ∙ ap₂ (arithmetic t).keep ef (ey ∙ ap (entry value 0) there))
        ∙ sym (rw (sym eb ∙ h, eq-eqb (entry status 0 (root t (word t n))) 3 (sym (ap (entry status 0) there) ∙ sym ex ∙ d)) refl)

  module _ (h : b ≡ false) (c : ℕ) (ec : c ≡ first t n) (a : Bool) (ea : a ≡ each_done (entry status 0) (leading false (chain t c))) where
    pub enter_not : a ≡ false → stuck ≡ call_by t status second value occupant n
    unfolding call_by
    enter_not d = sym (rw (sym eb ∙ h, sym (all_kids t status n c ec a ea) ∙ d) refl)

    module _ (d : a ≡ true) (o : ℕ) (eo : o ≡ entry occupant 0 g) where
      pub enter_held : (o ≡ 0 → ⊥) → blocked ≡ call_by t status second value occupant n
      unfolding call_by
      enter_held z = sym (rw (
        sym eb ∙ h,
        sym (all_kids t status n c ec a ea) ∙ d,
        ne_eqb (entry occupant 0 (word t n)) 0 (λ q. z (eo ∙ ap (entry occupant 0) eg ∙ q)),
      ) refl)

      pub enter_yes : o ≡ 0 → does (enters g (kept_by t value g n)) ≡ call_by t status second value occupant n
      unfolding call_by
      enter_yes z = ap (λ f. does (enters f (kept_by t value f n))) eg ∙ sym (rw (
        sym eb ∙ h,
        sym (all_kids t status n c ec a ea) ∙ d,
        eq-eqb (entry occupant 0 (word t n)) 0 (sym (ap (entry occupant 0) eg) ∙ sym eo ∙ z),
      ) refl)

-- the branch of an if, whose condition is a
module _ (t value : List ℕ) (a x b : ℕ) (ex : x ≡ entry value 0 a) (eb : b ≡ next t a) where
  pub branch_else : x ≡ 0 → (c : ℕ) → c ≡ next t b → c ≡ pick (eqb (entry value 0 a) 0) (next t (next t a)) (next t a)
  branch_else h c ec = ec ∙ ap (next t) eb ∙ sym (rw (eq-eqb (entry value 0 a) 0 (sym ex ∙ h)) refl)

  pub branch_then : (x ≡ 0 → ⊥) → b ≡ pick (eqb (entry value 0 a) 0) (next t (next t a)) (next t a)
  branch_then h = eb ∙ sym (rw (ne_eqb (entry value 0 a) 0 (λ z. h (ex ∙ z))) refl)

pub branch_small : (b : Bool) (r x y k : ℕ) → r ≡ pick b x y → x ≤ k → y ≤ k → r ≤ k
branch_small true r x y k e p q = omega arith
branch_small false r x y k e p q = omega arith

-- an if
module _ (t status : List ℕ) (second : List Bool) (value : List ℕ) (n a : ℕ) (ea : a ≡ first t n) (r : ℕ)
    (er : r ≡ pick (eqb (entry value 0 a) 0) (next t (next t a)) (next t a)) (b : Bool) (eb : b ≡ entry second false n) where
  pub taken_branch : r ≡ branch_by t value n
  unfolding branch_by
  taken_branch = er ∙ ap (λ m. pick (eqb (entry value 0 m) 0) (next t (next t m)) (next t m)) ea

  pub cond_pass : (d : Act) → b ≡ true → d ≡ passed status value r → d ≡ cond_by t status second value n
  unfolding cond_by
  cond_pass d h ed = ed ∙ ap (passed status value) taken_branch ∙ sym (rw (sym eb ∙ h) refl)

  module _ (h : b ≡ false) (x : ℕ) (ex : x ≡ entry status 0 a) where
    pub cond_turn : x ≡ 3 → does (turns r) ≡ cond_by t status second value n
    unfolding cond_by
    cond_turn d = ap (λ m. does (turns m)) taken_branch
        ∙ sym (rw (sym eb ∙ h, eq-eqb (entry status 0 (first t n)) 3 (sym (ap (entry status 0) ea) ∙ sym ex ∙ d)) refl)

    pub cond_wait : (x ≡ 3 → ⊥) → stuck ≡ cond_by t status second value n
    unfolding cond_by
    cond_wait d = sym (rw (sym eb ∙ h, ne_eqb (entry status 0 (first t n)) 3 (λ z. d (ex ∙ ap (entry status 0) ea ∙ z))) refl)

-- a let
module _ (t status : List ℕ) (second : List Bool) (value : List ℕ) (n c : ℕ) (ec : c ≡ first t n) (r : ℕ) (er : r ≡ last_from 0 (chain t c))
    (b : Bool) (eb : b ≡ entry second false n) where
  pub body_is : r ≡ last_from 0 (children t n)
  unfolding children
  body_is = er ∙ ap (λ m. last_from 0 (chain t m)) ec

  defs_are : initial (chain t c) ≡ initial (children t n)
  unfolding children
  defs_are = ap (λ m. initial (chain t m)) ec

  pub bind_pass : (d : Act) → b ≡ true → d ≡ passed status value r → d ≡ bind_by t status second value n
  unfolding bind_by
  bind_pass d h ed = ed ∙ ap (passed status value) body_is ∙ sym (rw (sym eb ∙ h) refl)

  module _ (h : b ≡ false) (a : Bool) (ea : a ≡ each_done (entry status 0) (leading true (chain t c))) where
    pub bind_turn : a ≡ true → does (turns r) ≡ bind_by t status second value n
    unfolding bind_by
    bind_turn d = ap (λ m. does (turns m)) body_is
        ∙ sym (rw (sym eb ∙ h, sym (ea ∙ ap (each_done (entry status 0)) defs_are) ∙ d) refl)

    pub bind_wait : a ≡ false → stuck ≡ bind_by t status second value n
    unfolding bind_by
    bind_wait d = sym (rw (sym eb ∙ h, sym (ea ∙ ap (each_done (entry status 0)) defs_are) ∙ d) refl)

-- an open node
module _ (t value registers : List ℕ) (n k : ℕ) (ek : k ≡ kind t n) where
  pub open_const : k ≡ 1 → (w : ℕ) → w ≡ word t n → does (finishes w) ≡ open_by t value registers n
  unfolding open_by
  open_const h w ew = ap (λ x. does (finishes x)) ew ∙ sym (rw (sym ek ∙ h) refl)

  pub open_param : k ≡ 2 → (e f v : ℕ) → e ≡ extra t n → f ≡ owner t n → v ≡ register registers f e
      → does (finishes v) ≡ open_by t value registers n
  unfolding open_by
  open_param h e f v ee ef ev = ap (λ x. does (finishes x)) (ev ∙ ap₂ (register registers) ef ee) ∙ sym (rw (sym ek ∙ h) refl)

  pub open_bound : k ≡ 7 → (w v : ℕ) → w ≡ word t n → v ≡ entry value 0 w → does (finishes v) ≡ open_by t value registers n
  unfolding open_by
  open_bound h w v ew ev = ap (λ x. does (finishes x)) (ev ∙ ap (entry value 0) ew) ∙ sym (rw (sym ek ∙ h) refl)

  pub open_other : (k ≡ 1 → ⊥) → (k ≡ 2 → ⊥) → (k ≡ 7 → ⊥) → does (begins (opens t n)) ≡ open_by t value registers n
  unfolding open_by
  open_other a b c = sym (rw (
    ne_eqb (kind t n) 1 (λ z. a (ek ∙ z)),
    ne_eqb (kind t n) 2 (λ z. b (ek ∙ z)),
    ne_eqb (kind t n) 7 (λ z. c (ek ∙ z)),
  ) refl)

-- a constant, a parameter and a bound have no children
childless : (t : List ℕ) → Taken t → (n : ℕ) → IsNode t n → (kind t n ≡ 1) ⊎ ((kind t n ≡ 2) ⊎ (kind t n ≡ 7)) → first t n ≡ 0
unfolding formed
childless t fair n i c = go c ((ok t fair).forms n i)
  where
    go : (kind t n ≡ 1) ⊎ ((kind t n ≡ 2) ⊎ (kind t n ≡ 7)) → T (formed t n) → first t n ≡ 0
    go (inl p) h = eqb→eq _ 0 (both (eqb (extra t n) 0) _ (subst T (leaf _ (extra t n) (word t n) (first t n) (inl p)) h)).1
    go (inr (inl p)) h = eqb→eq _ 0 (both (eqb (word t n) 0) _ (subst T (parameter _ (extra t n) (word t n) (first t n) p) h)).1
    go (inr (inr p)) h = eqb→eq _ 0 (both (eqb (extra t n) 0) _ (subst T (leaf _ (extra t n) (word t n) (first t n) (inr p)) h)).1

pub open_parent : (t value registers : List ℕ) → Taken t → (n : ℕ) → IsNode t n → (first t n ≡ 0 → ⊥)
    → does (begins (opens t n)) ≡ open_by t value registers n
open_parent t value registers fair n i z = open_other t value registers n (kind t n) refl
    (λ e. z (childless t fair n i (inl e))) (λ e. z (childless t fair n i (inr (inl e)))) (λ e. z (childless t fair n i (inr (inr e))))

-- so a node acts, by its status and kind
module _ (t : List ℕ) (fair : Taken t) (n : ℕ) (i : IsNode t n) (a : List ℕ) (b : List Bool) (c d e : List ℕ) (x : Act) where
  pub acts_open : entry a 0 n ≡ 1 → x ≡ open_by t c d n → x ≡ act_of t (state_as a b c d e) n
  acts_open h q = open_is t fair n i (state_as a b c d e) h x q

  module _ (busy : entry a 0 n ≡ 2) where
    by : x ≡ busy_by t a b c e n → x ≡ act_of t (state_as a b c d e) n
    by q = busy_is t fair n i (state_as a b c d e) busy x q

    pub acts_prim : kind t n ≡ 3 → x ≡ prim_by t a c n → x ≡ act_of t (state_as a b c d e) n
    unfolding busy_by
    acts_prim k q = by (q ∙ sym (rw k refl))

    pub acts_self : kind t n ≡ 4 → word t n ≡ owner t n → x ≡ self_by t a c n → x ≡ act_of t (state_as a b c d e) n
    unfolding busy_by
    acts_self k w q = by (q ∙ sym (rw (k, eq-eqb (word t n) (owner t n) w) refl))

    pub acts_call : kind t n ≡ 4 → (word t n ≡ owner t n → ⊥) → x ≡ call_by t a b c e n → x ≡ act_of t (state_as a b c d e) n
    unfolding busy_by
    acts_call k w q = by (q ∙ sym (rw (k, ne_eqb (word t n) (owner t n) w) refl))

    pub acts_cond : kind t n ≡ 5 → x ≡ cond_by t a b c n → x ≡ act_of t (state_as a b c d e) n
    unfolding busy_by
    acts_cond k q = by (q ∙ sym (rw k refl))

    pub acts_bind : kind t n ≡ 6 → x ≡ bind_by t a b c n → x ≡ act_of t (state_as a b c d e) n
    unfolding busy_by
    acts_bind k q = by (q ∙ sym (rw k refl))

    pub acts_leaf : (kind t n ≡ 3 → ⊥) → (kind t n ≡ 4 → ⊥) → (kind t n ≡ 5 → ⊥) → (kind t n ≡ 6 → ⊥) → x ≡ stuck
        → x ≡ act_of t (state_as a b c d e) n
    unfolding busy_by
    acts_leaf p q r u z = by (z ∙ sym (rw (ne_eqb (kind t n) 3 p, ne_eqb (kind t n) 4 q, ne_eqb (kind t n) 5 r, ne_eqb (kind t n) 6 u)
        refl))

-- an open node always has a move
goes_pick : (b : Bool) (x y : Act) → goes x ≡ true → goes y ≡ true → goes (pick b x y) ≡ true
goes_pick true x y p q = p
goes_pick false x y p q = q

open_goes : (t value registers : List ℕ) (n : ℕ) → goes (open_by t value registers n) ≡ true
unfolding open_by
open_goes t value registers n =
    goes_pick (eqb (kind t n) 1) _ _ refl (goes_pick (eqb (kind t n) 2) _ _ refl (goes_pick (eqb (kind t n) 7) _ _ refl refl))

pub open_moves : (t : List ℕ) → Taken t → (n : ℕ) → IsNode t n → (a : List ℕ) (b : List Bool) (c d e : List ℕ) → entry a 0 n ≡ 1
    → true ≡ goes (act_of t (state_as a b c d e) n)
open_moves t fair n i a b c d e h = sym (ap goes (sym (acts_open t fair n i a b c d e (open_by t c d n) h refl)) ∙ open_goes t c d n)

-- beside gives the last value, and no other operation looks at it
pub op_last : (op x y z : ℕ) → 9 < op → operate_by op x y z ≡ z
unfolding operate last_value
op_last op x y z h = rw (
  ne_eqb op 0 (λ e. omega arith),
  ne_eqb op 1 (λ e. omega arith),
  ne_eqb op 2 (λ e. omega arith),
  ne_eqb op 3 (λ e. omega arith),
  ne_eqb op 4 (λ e. omega arith),
  ne_eqb op 5 (λ e. omega arith),
  ne_eqb op 6 (λ e. omega arith),
  ne_eqb op 7 (λ e. omega arith),
  ne_eqb op 8 (λ e. omega arith),
  ne_eqb op 9 (λ e. omega arith),
) refl

op_two : (op x y z : ℕ) → op ≤ 9 → operate_by op x y z ≡ operate_by op x y 0
unfolding operate last_value
op_two zero x y z h = refl
op_two (suc zero) x y z h = refl
op_two (suc (suc zero)) x y z h = refl
op_two (suc (suc (suc zero))) x y z h = refl
op_two (suc (suc (suc (suc zero)))) x y z h = refl
op_two (suc (suc (suc (suc (suc zero))))) x y z h = refl
op_two (suc (suc (suc (suc (suc (suc zero)))))) x y z h = refl
op_two (suc (suc (suc (suc (suc (suc (suc zero))))))) x y z h = refl
op_two (suc (suc (suc (suc (suc (suc (suc (suc zero)))))))) x y z h = refl
op_two (suc (suc (suc (suc (suc (suc (suc (suc (suc zero))))))))) x y z h = refl
op_two (suc (suc (suc (suc (suc (suc (suc (suc (suc (suc op)))))))))) x y z h = absurd (omega arith)

last_map : (f : ℕ → ℕ) (x : ℕ) (l : List ℕ) → last_value (f x ∷ map f l) ≡ f (last_from x l)
unfolding last_value last_from
last_map f x [] = refl
last_map f x (y ∷ l) = last_map f y l

-- an operation on a chain's values
module _ (t : List ℕ) (fair : Taken t) (value : List ℕ) (op c : ℕ) where
  abbrev vs : List ℕ
  vs = map (entry value 0) (chain t c)

  pub of_none : c ≡ 0 → (r : ℕ) → r ≡ operate_by op 0 0 0 → r ≡ operate op vs
  unfolding last_value
  of_none z r er = er ∙ sym (operate_by_lem t fair op vs ∙ ap (λ l. operate_by op (get_or l 0 0) (get_or l 1 0) (last_value l))
      (ap (map (entry value 0)) (chain_end t fair c z)))

  module _ (some : c ≡ 0 → ⊥) (inside : c ≤ nodes t) where
    vs_are : (d : ℕ) → d ≡ next t c → vs ≡ entry value 0 c ∷ map (entry value 0) (chain t d)
    vs_are d ed = ap (map (entry value 0)) (chain_here t fair c some inside d ed)

    pub of_last : 9 < op → (l : ℕ) → l ≡ last_from 0 (chain t c) → (v : ℕ) → v ≡ entry value 0 l → (r : ℕ) → r ≡ operate_by op 0 0 v
        → r ≡ operate op vs
    unfolding last_from
    of_last h l el v ev r er =
        let q = vs_are (next t c) refl in
        let m : l ≡ last_from c (chain t (next t c)) = el ∙ ap (last_from 0) (chain_here t fair c some inside (next t c) refl) in
        er ∙ op_last op 0 0 v h ∙ ev ∙ ap (entry value 0) m ∙ sym (last_map (entry value 0) c (chain t (next t c)))
        ∙ ap last_value (sym q) ∙ sym (operate_by_lem t fair op vs ∙ op_last op (get_or vs 0 0) (get_or vs 1 0) (last_value vs) h)

    head_is : (d : ℕ) → d ≤ nodes t → get_or (map (entry value 0) (chain t d)) 0 0 ≡ entry value 0 d
    unfolding entry
    head_is d i = go (ℕ_discrete d 0)
      where
        go : Dec (d ≡ 0) → get_or (map (entry value 0) (chain t d)) 0 0 ≡ entry value 0 d
        go (yes z) = ap (λ l. get_or (map (entry value 0) l) 0 0) (chain_end t fair d z) ∙ sym (ap (entry value 0) z)
        go (no z) = ap (λ l. get_or (map (entry value 0) l) 0 0) (chain_here t fair d z i (next t d) refl)

    pub of_two : op ≤ 9 → (d : ℕ) → d ≡ next t c → (x y : ℕ) → x ≡ entry value 0 c → y ≡ entry value 0 d → (r : ℕ) → r ≡ operate_by op x y 0
        → r ≡ operate op vs
    of_two h d ed x y ex ey r er =
        let q = vs_are d ed in
        er ∙ ap₂ (λ a b. operate_by op a b 0) (ex ∙ ap (λ l. get_or l 0 0) (sym q))
        (ey ∙ sym (head_is d (next_in t fair c some inside d ed)) ∙ ap (λ l. get_or l 1 0) (sym q))
        ∙ sym (operate_by_lem t fair op vs ∙ op_two op (get_or vs 0 0) (get_or vs 1 0) (last_value vs) h)
