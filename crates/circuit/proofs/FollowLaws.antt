-- each plan makes of the sets what its move makes of them; and the sets, updated and read anew at one node, are those of the next state
use Rattle.std.proofs.Common.{◌≡◌, ℕ, Bool, true, false, List, sym, refl, ap, ◌∙◌, subst, true≢false, arith}
use native.Mathlib.Decide.{ℕ_discrete}
use Rattle.table.specs.Pick.{Range}
use Rattle.table.specs.Bytes.{functions, nodes}
use Rattle.table.specs.Naming.{parent}
use Rattle.table.specs.Expressions.{expr_at}
use Rattle.table.specs.Working.{Taken, IsNode}
use Rattle.table.proofs.Family.{parent_node}
use Rattle.table.specs.declared.Function.{Function}
use Rattle.table.specs.declared.Node.{Node}
use Rattle.rules.specs.State.{State512, Sized, In}
use Rattle.rules.specs.Circuit.{act_of}
use Rattle.rules.specs.Sets.{Sets, sets_of, Stays, holds, sort}
use Rattle.rules.proofs.SetsExact.{placed_next, held_next}
use Rattle.circuit.specs.declared.plan.Plan.{Plan}
use Rattle.circuit.specs.Working.{opens, gathers_at, planned, calling, Planned, performed}
use Rattle.circuit.specs.Packed.{Tracks, Places, Arms, Ends, Renews, Updates}
use Rattle.circuit.specs.Following.{ends, Grows}
use Rattle.circuit.proofs.ChainLaws.{ok}
use Rattle.circuit.proofs.UpdateLaws.{node_bit, ended_inner}
use Rattle.circuit.proofs.GrowLaws.{grown}

module _ (t : List ℕ) (fair : Taken t) (n : ℕ) (x y : Sets) where
  pub begins_so : ((m : ℕ) → In m (opens t n) → IsNode t m) → Arms (λ m. In m (opens t n)) x y → ((m : ℕ) → y.held m ≡ x.held m)
      → Updates t n Plan.Begins n x y
  begins_so there r kept = record {
    again = λ v. refl;
    updated = λ v. record {
      placed = record {
        opened = λ m q k. r.opened m (node_bit t fair m q) k;
        others = λ m q d k. r.others m (node_bit t fair m q) k;
      };
      held = λ m q. kept m;
    };
    past = λ q m d l. let s = r.others m (omega arith, l) (λ k. omega (arith, (there m k).1)) in
        let z = q m d l in (s.0 ∙ z.0, s.1 ∙ z.1);
  }

  pub turns_so : (k : Node) → IsNode t k.0 → Places k.0 true false false x y → ((m : ℕ) → y.held m ≡ x.held m)
      → Updates t n (Plan.Turns k) n x y
  turns_so k there r kept = record {
    again = λ v. refl;
    updated = λ v. record {
      placed = record {
        opened = λ m q e. subst (λ j. (y.armed j ≡ true) × (y.waiting j ≡ false) × (y.inside j ≡ false)) (sym e) r.here;
        others = λ m q d e. r.others m (node_bit t fair m q) e;
      };
      held = λ m q. kept m;
    };
    past = λ q m d l. let s = r.others m (omega arith, l) (λ e. omega (arith, e, there.1)) in
        let z = q m d l in (s.0 ∙ z.0, s.1 ∙ z.1);
  }

  -- a plan by which n is done
  pub ended_so : (up : ℕ) → up ≡ parent t n → (p : Plan) → ends p ≡ true → Ends t n x y
      → ((v : List ℕ) (m : ℕ) → Range (nodes t) m → y.held m ≡ holds (expr_at t) x (planned t v n p) m) → Updates t n p up x y
  ended_so up eu Plan.Begins e r f = absurd (true≢false (sym e))
  ended_so up eu (Plan.Turns k) e r f = absurd (true≢false (sym e))
  ended_so up eu (Plan.Enters g) e r f = absurd (true≢false (sym e))
  ended_so up eu (Plan.Restarts g) e r f = absurd (true≢false (sym e))
  ended_so up eu (Plan.Finishes v) e r f = record {
    again = λ u. eu;
    updated = λ u. record { placed = r.ending; held = f u };
    past = r.past;
  }
  ended_so up eu (Plan.Leaves g v) e r f = record {
    again = λ u. eu;
    updated = λ u. record { placed = r.ending; held = f u };
    past = r.past;
  }

  pub enters_so : (g : Function) (anew : Bool) → Renews t n g.0 anew x y → Updates t n (calling g anew) 0 x y
  enters_so g true r = record {
    again = λ v. refl;
    updated = λ v. record { placed = r.renewing; held = r.held };
    past = r.past;
  }
  enters_so g false r = record {
    again = λ v. refl;
    updated = λ v. record { placed = r.renewing; held = r.held };
    past = r.past;
  }

-- after the move the updated sets are those of the state, but for one node
module _ (t : List ℕ) (fair : Taken t) (n : ℕ) (i : IsNode t n) (p : Plan) (s : State512) (sized : Sized s) (q : Planned t s n p)
    (s' : State512) (e : s' ≡ performed t s n p) (x y : Sets) (tr : Tracks t s x) (again : ℕ) (u : Updates t n p again x y) where
  placed : (m : ℕ) → Range (nodes t) m → (m ≡ again → Stays (sets_of t s') y m) → Stays (sets_of t s') y m
  placed m r k = subst (λ v. Stays (sets_of t v) y m) (sym e)
      (placed_next t (functions t) (nodes t) fair s sized x tr.exact n i _ (sym q) y
      (u.updated s.value) m r (λ j. subst (λ v. Stays (sets_of t v) y m) e (k (j ∙ sym (u.again s.value)))))

  held : (m : ℕ) → Range (nodes t) m → y.held m ≡ (sets_of t s').held m
  held m r = subst (λ v. y.held m ≡ (sets_of t v).held m) (sym e) (held_next t (functions t) (nodes t) fair s sized x tr.exact n i _
      (sym q) y (u.updated s.value) m r)

  pub follows_none : again ≡ 0 → Tracks t s' y
  follows_none z = record {
    exact = record { placed = λ m r. placed m r (λ j. absurd (omega (arith, r.0, z, j))); held = held };
    past = u.past tr.past;
  }

  -- which was read anew
  pub follows_anew : IsNode t again → (z : Sets) → z.held ≡ y.held
      → Places again ((sets_of t s').armed again) ((sets_of t s').waiting again) ((sets_of t s').inside again) y z → Tracks t s' z
  follows_anew j z h pl = record {
    exact = record { placed = λ m r. at m r (ℕ_discrete m again); held = λ m r. ap (λ f. f m) h ∙ held m r };
    past = λ m d l. let w = pl.others m (omega arith, l) (λ k. omega (arith, k, j.1)) in
        let v = u.past tr.past m d l in (w.0 ∙ v.0, w.1 ∙ v.1);
  }
    where
      at : (m : ℕ) → Range (nodes t) m → Dec (m ≡ again) → Stays (sets_of t s') z m
      at m r (yes k) = subst (Stays (sets_of t s') z) (sym k) pl.here
      at m r (no k) =
          let a = placed m r (λ c. absurd (k c)) in
          let b = pl.others m (node_bit t fair m r) k in
          (b.0 ∙ a.0, b.1 ∙ a.1, b.2 ∙ a.2)

-- node n is done, y are the sets without it, and its parent is grown
module _ (t : List ℕ) (fair : Taken t) (n : ℕ) (i : IsNode t n) (up : parent t n ≡ 0 → ⊥) (p : Plan) (e : ends p ≡ true) (s : State512)
    (sized : Sized s) (q : Planned t s n p) (s' : State512) (eq : s' ≡ performed t s n p) (x y z : Sets) where
  grown_parent : Tracks t s x → Places n false false false x y
      → ((l : List ℕ) (m : ℕ) → Range (nodes t) m → y.held m ≡ holds (expr_at t) x (planned t l n p) m)
      → (k : ℕ) → k ≡ sort (act_of t s' (parent t n)) → Grows (parent t n) k (gathers_at t s'.status s'.second (parent t n)) y z
      → z.held ≡ y.held → Tracks t s' z
  grown_parent tr pl f k ek gr kept =
      follows_anew t fair n i p s sized q s' eq x y tr (parent t n)
      (ended_so t fair n x y (parent t n) refl p e (ended_inner t fair n i x y pl up) f)
      (parent_node t (ok t fair).linking n i up) z kept
      (grown t fair n i up p e s q s' eq x tr y z pl k ek gr)

  pub grown_so : Tracks t s x → Places n false false false x y → (u : ℕ) → u ≡ parent t n
      → ((l : List ℕ) (m : ℕ) → Range (nodes t) m → y.held m ≡ holds (expr_at t) x (planned t l n p) m)
      → (k : ℕ) → k ≡ sort (act_of t s' u) → Grows u k (gathers_at t s'.status s'.second u) y z → z.held ≡ y.held → Tracks t s' z
  grown_so tr pl u eu f k ek gr kept = grown_parent tr pl f k (ek ∙ ap (λ m. sort (act_of t s' m)) eu)
      (subst (λ m. Grows m k (gathers_at t s'.status s'.second m) y z) eu gr) kept
