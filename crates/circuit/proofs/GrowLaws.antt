-- a parent after its child is done: how its place in the sets grows, and that it is then the place of the state after the move
use Rattle.std.proofs.Common.{◌≡◌, ℕ, Bool, true, false, ◌||◌, eqb, List, sym, refl, ap, ◌∙◌, subst, true≢false, arith}
use Rattle.table.specs.Pick.{pick}
use Rattle.table.specs.Naming.{parent}
use Rattle.table.specs.Working.{Taken, IsNode}
use Rattle.table.proofs.Family.{parent_node, parent_lower}
use Rattle.list.specs.Working.{packed, Bit}
use Rattle.rules.specs.State.{State512, In, entry}
use Rattle.rules.specs.Step.{Act, stuck, blocked, does, begins, turns, finishes, enters, leaves, restarts}
use Rattle.rules.specs.Circuit.{act_of}
use Rattle.rules.specs.Sets.{Sets, sets_of, sort, goes}
use Rattle.rules.proofs.StateLaws.{entry_other}
use Rattle.rules.proofs.SetsBytes.{inside_bytes}
use Rattle.circuit.specs.declared.plan.Plan.{Plan}
use Rattle.circuit.specs.Working.{gathers_at, Planned, performed}
use Rattle.circuit.specs.Packed.{Packs, sets_as, Tracks, Places}
use Rattle.circuit.specs.Following.{ends, Grows}
use Rattle.circuit.proofs.ChainLaws.{ok}
use Rattle.circuit.proofs.MoveLaws.{rest_none}
use Rattle.circuit.proofs.OpensLaws.{child_in, opens_all}
use Rattle.circuit.proofs.TrackLaws.{marked_here, marked_other}
use Rattle.circuit.proofs.UpdateLaws.{node_bit}
use Rattle.circuit.proofs.WaitLaws.{busy_waits, waits_not, gathering, not_if}

-- 0, 1 or 2
pub sort_two : (x : Act) → (sort x ≡ 0 → ⊥) → (sort x ≡ 1 → ⊥) → sort x ≡ 2
sort_two stuck p q = absurd (p refl)
sort_two blocked p q = absurd (q refl)
sort_two (does (begins ns)) p q = refl
sort_two (does (turns m)) p q = refl
sort_two (does (finishes v)) p q = refl
sort_two (does (enters g vs)) p q = absurd (q refl)
sort_two (does (leaves g v)) p q = refl
sort_two (does (restarts f vs)) p q = refl

-- as the code marks it
module _ (p : ℕ) (b : Bit p) (k : ℕ) (g : Bool) (a w i h : List ℕ) where
  pub grows_armed : g ≡ false → (a' : List ℕ) → Packs (λ m. pick (eqb p m) (eqb k 2) (packed a m)) a'
      → Grows p k g (sets_as a w i h) (sets_as a' w i h)
  grows_armed e a' x = record {
    armed = marked_here p b (eqb k 2) a a' x ∙ sym (rw e refl);
    waiting = sym (rw e refl);
    inside = refl;
    others = λ m c d. (marked_other p (eqb k 2) a a' x m c d, refl, refl);
  }

  pub grows_none : g ≡ true → k ≡ 0 → Grows p k g (sets_as a w i h) (sets_as a w i h)
  grows_none e z = record {
    armed = sym (rw (e, z) refl);
    waiting = sym (rw (e, z) refl);
    inside = refl;
    others = λ m c d. (refl, refl, refl);
  }

  pub grows_waits : g ≡ true → k ≡ 1 → (w' : List ℕ) → Packs (λ m. pick (eqb p m) true (packed w m)) w'
      → Grows p k g (sets_as a w i h) (sets_as a w' i h)
  grows_waits e z w' x = record {
    armed = sym (rw (e, z) refl);
    waiting = marked_here p b true w w' x ∙ sym (rw (e, z) refl);
    inside = refl;
    others = λ m c d. (refl, marked_other p true w w' x m c d, refl);
  }

  pub grows_arms : g ≡ true → k ≡ 2 → (a' : List ℕ) → Packs (λ m. pick (eqb p m) true (packed a m)) a'
      → Grows p k g (sets_as a w i h) (sets_as a' w i h)
  grows_arms e z a' x = record {
    armed = marked_here p b true a a' x ∙ sym (rw (e, z) refl);
    waiting = sym (rw (e, z) refl);
    inside = refl;
    others = λ m c d. (marked_other p true a a' x m c d, refl, refl);
  }

-- a move by which node n is done changes no other node's status and phase
module _ (t : List ℕ) (n : ℕ) (s : State512) (m : ℕ) (d : m ≡ n → ⊥) where
  pub same_status : (p : Plan) → ends p ≡ true → entry (performed t s n p).status 0 m ≡ entry s.status 0 m
  same_status Plan.Begins e = absurd (true≢false (sym e))
  same_status (Plan.Turns k) e = absurd (true≢false (sym e))
  same_status (Plan.Finishes v) e = entry_other s.status n m 3 0 d
  same_status (Plan.Enters g) e = absurd (true≢false (sym e))
  same_status (Plan.Restarts g) e = absurd (true≢false (sym e))
  same_status (Plan.Leaves g v) e = entry_other s.status n m 3 0 d

  pub same_second : (p : Plan) → ends p ≡ true → entry (performed t s n p).second false m ≡ entry s.second false m
  same_second Plan.Begins e = absurd (true≢false (sym e))
  same_second (Plan.Turns k) e = absurd (true≢false (sym e))
  same_second (Plan.Finishes v) e = entry_other s.second n m false false d
  same_second (Plan.Enters g) e = absurd (true≢false (sym e))
  same_second (Plan.Restarts g) e = absurd (true≢false (sym e))
  same_second (Plan.Leaves g v) e = entry_other s.second n m false false d

-- the parent of n: x are the sets of s, y without n, z with the parent grown; s' is the state after the move
module _ (t : List ℕ) (fair : Taken t) (n : ℕ) (i : IsNode t n) (up : parent t n ≡ 0 → ⊥) (p : Plan) (e : ends p ≡ true)
    (s : State512) (q : Planned t s n p) (s' : State512) (eq : s' ≡ performed t s n p) (x : Sets) (tr : Tracks t s x) where
  abbrev above : ℕ
  above = parent t n

  node : IsNode t above
  node = parent_node t (ok t fair).linking n i up

  apart : above ≡ n → ⊥
  apart z = omega (arith, z, parent_lower t n i.0)

  kept_status : entry s'.status 0 above ≡ entry s.status 0 above
  kept_status = ap (λ u. entry u.status 0 above) eq ∙ same_status t n s above apart p e

  kept_second : entry s'.second false above ≡ entry s.second false above
  kept_second = ap (λ u. entry u.second false above) eq ∙ same_second t n s above apart p e

  kept_gathers : gathers_at t s.status s.second above ≡ gathers_at t s'.status s'.second above
  kept_gathers = sym (rw (kept_status, kept_second) refl)

  moved : goes (act_of t s n) ≡ true
  moved = ap goes (sym q)

  undone : entry s.status 0 n ≡ 3 → ⊥
  undone z = rest_none t fair n i s.status s.second s.value s.registers s.occupant moved
      (λ y. omega (arith, z, y)) (λ y. omega (arith, z, y))

  -- while it gathered, n was not done, and so it had no step
  had_none : gathers_at t s'.status s'.second above ≡ true → 0 ≡ sort (act_of t s above)
  had_none g =
      let h = gathering t s.status s.second above (kept_gathers ∙ g) in
      let f = not_if t s.status s.second above h in
      busy_waits t fair above node s.status s.second s.value s.registers s.occupant h.busy h.phase n
      (subst (In n) (sym (opens_all t fair above node f.0 f.1)) (child_in t fair n i up)) undone

  module _ (y z : Sets) (pl : Places n false false false x y) (k : ℕ) (ek : k ≡ sort (act_of t s' above))
      (gr : Grows above k (gathers_at t s'.status s'.second above) y z) where
    before : (y.armed above ≡ eqb (sort (act_of t s above)) 2) × (y.waiting above ≡ eqb (sort (act_of t s above)) 1)
        × (y.inside above ≡ (sets_of t s).inside above)
    before =
        let a = pl.others above (node_bit t fair above node) apart in
        let b = tr.exact.placed above node in
        (a.0 ∙ b.0, a.1 ∙ b.1, a.2 ∙ b.2)

    grown_armed : z.armed above ≡ (sets_of t s').armed above
    grown_armed = go (gathers_at t s'.status s'.second above) refl gr.armed
      where
        or_none : (b c : Bool) → c ≡ false → (b || c) ≡ b
        or_none true c e = refl
        or_none false c e = e

        go : (g : Bool) → gathers_at t s'.status s'.second above ≡ g → z.armed above ≡ pick g (eqb k 2 || y.armed above) (eqb k 2)
            → z.armed above ≡ (sets_of t s').armed above
        go true g h = h ∙ or_none (eqb k 2) (y.armed above) (before.0 ∙ ap (λ j. eqb j 2) (sym (had_none g))) ∙ ap (λ j. eqb j 2) ek
        go false g h = h ∙ ap (λ j. eqb j 2) ek

    grown_waiting : z.waiting above ≡ (sets_of t s').waiting above
    grown_waiting = go (gathers_at t s'.status s'.second above) refl gr.waiting
      where
        or_none : (b c : Bool) → c ≡ false → (b || c) ≡ b
        or_none true c e = refl
        or_none false c e = e

        go : (g : Bool) → gathers_at t s'.status s'.second above ≡ g → z.waiting above ≡ (pick g (eqb k 1) false || y.waiting above)
            → z.waiting above ≡ (sets_of t s').waiting above
        go true g h = h ∙ or_none (eqb k 1) (y.waiting above) (before.1 ∙ ap (λ j. eqb j 1) (sym (had_none g))) ∙ ap (λ j. eqb j 1) ek
        go false g h = h ∙ before.1 ∙ waits_not t fair above node s (kept_gathers ∙ g) ∙ sym (waits_not t fair above node s' g)

    grown_inside : z.inside above ≡ (sets_of t s').inside above
    grown_inside = gr.inside ∙ before.2 ∙ inside_bytes t _ _ fair above node s
        ∙ sym (inside_bytes t _ _ fair above node s' ∙ rw (kept_status, kept_second) refl)

    pub grown : Places above ((sets_of t s').armed above) ((sets_of t s').waiting above) ((sets_of t s').inside above) y z
    grown = record { here = (grown_armed, grown_waiting, grown_inside); others = gr.others }
