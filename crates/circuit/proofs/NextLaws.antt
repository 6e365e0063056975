-- the first node after a move: a first child, a parent or a root that is ready, where none below the node that moved was
use Rattle.std.proofs.Common.{◌≡◌, ℕ, ◌+◌, ◌<◌, ◌≤◌, Bool, true, false, not, ◌&&◌, ◌||◌, eqb, List, sym, refl, ap, ◌∙◌, subst, true≢false}
use Rattle.std.proofs.Common.{arith, eq-eqb, ne_eqb, eqb-true}
use native.Mathlib.Decide.{ℕ_discrete}
use Rattle.table.specs.Pick.{pick, Range}
use Rattle.table.specs.Syntax.{id}
use Rattle.table.specs.Bytes.{nodes, root, first, next}
use Rattle.table.specs.Naming.{owner, parent, children}
use Rattle.table.specs.Expressions.{expr_at, body_of}
use Rattle.table.specs.Working.{Taken, IsNode, IsFunction}
use Rattle.table.proofs.Bodies.{id_body}
use Rattle.table.proofs.Family.{parent_node, parent_lower, parent_next, first_node, next_node}
use Rattle.list.specs.Working.{Bit}
use Rattle.rules.specs.State.{State512, Sized, In, entry, write, opened}
use Rattle.rules.specs.Play.{calls}
use Rattle.rules.specs.Circuit.{act_of}
use Rattle.rules.specs.Sets.{Sets, Stays, sets_of, sort, ready, first_in, holds}
use Rattle.rules.proofs.StateLaws.{entry_same, opened_other, opened_in, length_write}
use Rattle.table.specs.declared.Function.{Function}
use Rattle.circuit.specs.declared.plan.Plan.{Plan}
use Rattle.circuit.specs.Working.{opens, planned, Planned, performed}
use Rattle.circuit.specs.Packed.{Tracks, Places, Arms, Renews}
use Rattle.circuit.specs.Following.{ends, frees, Grows}
use Rattle.circuit.proofs.AheadLaws.{below_first, first_is, ready_stays, armed_ready, never_readier}
use Rattle.circuit.proofs.ChainLaws.{ok}
use Rattle.circuit.proofs.SortLaws.{sort_open}
use Rattle.circuit.proofs.OpensLaws.{opens_first, opens_above, child_in}
use Rattle.circuit.proofs.TrackLaws.{inside_first}
use Rattle.circuit.proofs.UpdateLaws.{node_bit}
use Rattle.circuit.proofs.WaitLaws.{busy_waits}

-- node n has begun: its children are armed in y, and z differs from y at n alone
module _ (t : List ℕ) (fair : Taken t) (n : ℕ) (i : IsNode t n) (x y z : Sets) (e : n ≡ first_in x 512)
    (arms : Arms (λ m. In m (opens t n)) x y) (others : (m : ℕ) → Bit m → (m ≡ n → ⊥) → Stays y z m)
    (held : (m : ℕ) → z.held m ≡ x.held m) where
  child_not : (m : ℕ) → m ≤ n → In m (opens t n) → ⊥
  child_not m h k = omega (arith, h, opens_above t fair n i m k)

  pub begun_below : (m : ℕ) → 1 ≤ m → m < n → ready z m ≡ false
  begun_below m p q =
      let b : Bit m = (p, omega (arith, q, i.1, (ok t fair).n_high)) in
      let u = others m b (λ k. omega (arith, k, q)) in
      let v = arms.others m b (child_not m (omega (arith, q))) in
      ready_stays x z m (u.0 ∙ v.0, u.1 ∙ v.1, u.2 ∙ v.2) (held m) ∙ below_first x n e i.0 m p q

  pub begun_self : z.armed n ≡ true → n ≡ first_in z 512
  begun_self a = first_is z n i.0 (omega (arith, i.1, (ok t fair).n_high)) (armed_ready z n a) begun_below

  -- the first child is the next number, and n has no step
  pub begun_child : (first t n ≡ 0 → ⊥) → z.armed n ≡ false → z.waiting n ≡ false → (c : ℕ) → c ≡ first t n → c ≡ n + 1
      → c ≡ first_in z 512
  begun_child some a w c ec ek =
      let f = first_node t (ok t fair).linking n i some in
      let b : Bit c = (omega (arith, ek), omega (arith, ec, f.1, (ok t fair).n_high)) in
      let k : In c (opens t n) = subst (λ m. In m (opens t n)) (sym ec) (opens_first t fair n i some) in
      first_is z c b.0 b.1 (armed_ready z c ((others c b (λ q. omega (arith, q, ek))).0 ∙ (arms.opened c b k).0))
      (λ m p q. go m p q (ℕ_discrete m n))
    where
      go : (m : ℕ) → 1 ≤ m → m < c → Dec (m ≡ n) → ready z m ≡ false
      go m p q (yes d) = subst (λ k. ready z k ≡ false) (sym d) (λ j. a j || (w j && not (z.held n)))
      go m p q (no d) = begun_below m p (omega (arith, q, d, ek))

-- in first phase, with children
pub fresh_so : (t : List ℕ) (second : List Bool) (n : ℕ) (b : Bool) → b ≡ (not (entry second false n) && not (eqb (first t n) 0)) → b ≡ true
    → (entry second false n ≡ false) × (first t n ≡ 0 → ⊥)
fresh_so t second n b e h = go (entry second false n) (ℕ_discrete (first t n) 0) (sym e ∙ h)
  where
    go : (w : Bool) → Dec (first t n ≡ 0) → (not w && not (eqb (first t n) 0)) ≡ true → (w ≡ false) × (first t n ≡ 0 → ⊥)
    go true d k = absurd (true≢false (sym k))
    go false (yes z) k = absurd (true≢false (sym (sym (ap not (eq-eqb (first t n) 0 z)) ∙ k)))
    go false (no z) k = (refl, z)

-- .. in first phase, with children: n is in none of the sets of the state after it
module _ (t : List ℕ) (fair : Taken t) (n : ℕ) (i : IsNode t n) (some : first t n ≡ 0 → ⊥) (s : State512) (sized : Sized s)
    (q : Planned t s n Plan.Begins) (s' : State512) (eq : s' ≡ performed t s n Plan.Begins) (phase : entry s'.second false n ≡ false)
    (x y : Sets) (tr : Tracks t s x) (arms : Arms (λ m. In m (opens t n)) x y) where
  open_status : (m k : ℕ) → entry (opened (write s.status n 2) (opens t n)) 0 m ≡ k → entry s'.status 0 m ≡ k
  open_status m k h = ap (λ u. entry u.status 0 m) eq ∙ h

  busy : entry s'.status 0 n ≡ 2
  busy = open_status n 2 (opened_other (write s.status n 2) (opens t n) n (λ k. omega (arith, opens_above t fair n i n k))
      ∙ entry_same s.status n 2 0 i.0 (omega (arith, i.1, (ok t fair).n_high, sized.statuses)))

  child_open : entry s'.status 0 (first t n) ≡ 1
  child_open =
      let f = first_node t (ok t fair).linking n i some in
      open_status (first t n) 1 (opened_in (write s.status n 2) (opens t n) (first t n) f.0
      (omega (arith, f.1, (ok t fair).n_high, sized.statuses, length_write s.status n 2)) (opens_first t fair n i some))

  no_step : 0 ≡ sort (act_of t s' n)
  no_step = busy_waits t fair n i s'.status s'.second s'.value s'.registers s'.occupant busy phase (first t n)
      (opens_first t fair n i some) (λ z. omega (arith, z, child_open))

  same : Stays x y n
  same = arms.others n (node_bit t fair n i) (λ k. omega (arith, opens_above t fair n i n k))

  phase_before : entry s.second false n ≡ false
  phase_before = sym (ap (λ u. entry u.second false n) eq) ∙ phase

  pub fresh_waiting : y.waiting n ≡ false
  fresh_waiting = same.1 ∙ (tr.exact.placed n i).1 ∙ ap (λ a. eqb (sort a) 1) (sym q)

  fresh_inside : y.inside n ≡ false
  fresh_inside = same.2 ∙ (tr.exact.placed n i).2 ∙ sym (inside_first t fair n i s _ refl phase_before)

  pub fresh_places : (z : Sets) → z.armed n ≡ false → z.waiting n ≡ y.waiting n → z.inside n ≡ y.inside n
      → ((m : ℕ) → Bit m → (m ≡ n → ⊥) → Stays y z m)
      → Places n ((sets_of t s').armed n) ((sets_of t s').waiting n) ((sets_of t s').inside n) y z
  fresh_places z a w v o = record {
    here = (
      a ∙ ap (λ k. eqb k 2) no_step,
      w ∙ fresh_waiting ∙ ap (λ k. eqb k 1) no_step,
      v ∙ fresh_inside ∙ inside_first t fair n i s' _ refl phase,
    );
    others = o;
  }

-- function g is as new: its root is ready; no other node is that was not
pub renewed_first : (t : List ℕ) → Taken t → (n : ℕ) → IsNode t n → (g : ℕ) → IsFunction t g → (anew : Bool) (x y : Sets)
    → n ≡ first_in x 512 → Renews t n g anew x y → (r : ℕ) → r ≡ root t g → r ≤ n → r ≡ first_in y 512
renewed_first t fair n i g f anew x y e rn r er h =
    first_is y r at.0 (omega (arith, at.1, (ok t fair).n_high)) (armed_ready y r here) below
  where
    is_root : r ≡ id (body_of t g)
    is_root = er ∙ sym (id_body t (ok t fair) g f)

    at : IsNode t r
    at = subst (IsNode t) (sym er) ((ok t fair).linking.roots g f)

    here : y.armed r ≡ true
    here = rn.renewing.armed r at ∙ ap (λ b. b || (x.armed r && not (eqb (owner t r) g || (x.inside r && calls (expr_at t r) g))))
        (eq-eqb r (id (body_of t g)) is_root)

    more : (b h : Bool) → pick anew (h || b) h ≡ (h || (anew && b))
    more b true = on anew
      where
        on : (c : Bool) → pick c true true ≡ true
        on true = refl
        on false = refl
    more b false = on anew
      where
        on : (c : Bool) → pick c b false ≡ (c && b)
        on true = refl
        on false = refl

    below : (m : ℕ) → 1 ≤ m → m < r → ready y m ≡ false
    below m p q =
        let k : Range (nodes t) m = (p, omega (arith, q, at.1)) in
        never_readier (x.armed m) (x.waiting m) (x.held m) (y.armed m) (y.waiting m) (y.held m) _ _ _
        (rn.renewing.armed m k ∙ ap (λ b. b || (x.armed m && not (eqb (owner t m) g || (x.inside m && calls (expr_at t m) g))))
        (ne_eqb m (id (body_of t g)) (λ z. omega (arith, z, is_root, q))))
        (rn.renewing.waiting m k) (rn.held m k ∙ more (calls (expr_at t m) g) (x.held m))
        (below_first x n e i.0 m p (omega (arith, q, h)))

-- a plan that leaves no callee frees none
pub none_left : (p : Plan) → ((g : Function) (v : ℕ) → p ≡ Plan.Leaves g v → ⊥) → false ≡ frees p
none_left Plan.Begins h = refl
none_left (Plan.Turns k) h = refl
none_left (Plan.Finishes w) h = refl
none_left (Plan.Enters g) h = refl
none_left (Plan.Restarts g) h = refl
none_left (Plan.Leaves g w) h = absurd (h g w refl)

-- a plan that ends a node and frees no callee holds the same calls
pub held_kept : (t : List ℕ) (n : ℕ) (x : Sets) (v : List ℕ) (m : ℕ) (p : Plan) → ends p ≡ true → frees p ≡ false
    → holds (expr_at t) x (planned t v n p) m ≡ x.held m
held_kept t n x v m Plan.Begins e f = absurd (true≢false (sym e))
held_kept t n x v m (Plan.Turns k) e f = absurd (true≢false (sym e))
held_kept t n x v m (Plan.Finishes w) e f = refl
held_kept t n x v m (Plan.Enters g) e f = absurd (true≢false (sym e))
held_kept t n x v m (Plan.Restarts g) e f = absurd (true≢false (sym e))
held_kept t n x v m (Plan.Leaves g w) e f = absurd (true≢false f)

-- the parent of a node that is done
pub lifted_first : (t : List ℕ) → Taken t → (n : ℕ) → IsNode t n → (parent t n ≡ 0 → ⊥) → (u : ℕ) → u ≡ parent t n → (x y z : Sets)
    → n ≡ first_in x 512 → Places n false false false x y → (k : ℕ) (g : Bool) → Grows u k g y z → k ≡ 2
    → ((m : ℕ) → Range (nodes t) m → z.held m ≡ x.held m) → u ≡ first_in z 512
lifted_first t fair n i up u eu x y z e pl k g gr two held =
    first_is z u at.0 (omega (arith, at.1, (ok t fair).n_high)) (armed_ready z u (gr.armed ∙ on g)) below
  where
    at : IsNode t u
    at = subst (IsNode t) (sym eu) (parent_node t (ok t fair).linking n i up)

    on : (b : Bool) → pick b (eqb k 2 || y.armed u) (eqb k 2) ≡ true
    on true = ap (λ c. c || y.armed u) (eq-eqb k 2 two)
    on false = eq-eqb k 2 two

    lower : u < n
    lower = omega (arith, eu, parent_lower t n i.0)

    below : (m : ℕ) → 1 ≤ m → m < u → ready z m ≡ false
    below m p q =
        let l = lower in
        let b : Bit m = (p, omega (arith, q, at.1, (ok t fair).n_high)) in
        let a = gr.others m b (λ c. omega (arith, c, q)) in
        let v = pl.others m b (λ c. omega (arith, c, q, l)) in
        ready_stays x z m (a.0 ∙ v.0, a.1 ∙ v.1, a.2 ∙ v.2) (held m (p, omega (arith, q, at.1)))
        ∙ below_first x n e i.0 m p (omega (arith, q, l))

-- the next sibling is a child of the same parent
pub sibling : (t : List ℕ) → Taken t → (n : ℕ) → IsNode t n → (parent t n ≡ 0 → ⊥) → (p : ℕ) → p ≡ parent t n → (d : ℕ) → d ≡ next t n
    → (d ≡ 0 → ⊥) → IsNode t d × In d (children t p)
sibling t fair n i up p ep d ed some =
    let lk = (ok t fair).linking in
    let z : next t n ≡ 0 → ⊥ = λ y. some (ed ∙ y) in
    let at = next_node t lk n i z in
    let same = parent_next t lk n i z in
    let k : In (next t n) (children t (parent t n)) =
    subst (λ q. In (next t n) (children t q)) same (child_in t fair (next t n) at (λ y. up (sym same ∙ y))) in
    (subst (IsNode t) (sym ed) at, subst (λ q. In d (children t q)) (sym ep) (subst (λ q. In q (children t (parent t n))) (sym ed) k))

-- the sibling of a node that is done: it is open and has the next number, and the parent has no step
module _ (t : List ℕ) (fair : Taken t) (n : ℕ) (i : IsNode t n) (up : parent t n ≡ 0 → ⊥) (u : ℕ) (eu : u ≡ parent t n) (x y z : Sets)
    (e : n ≡ first_in x 512) (pl : Places n false false false x y) (k : ℕ) (g : Bool) (gr : Grows u k g y z)
    (held : (m : ℕ) → Range (nodes t) m → z.held m ≡ x.held m) (s : State512) (tr : Tracks t s z) where
  above : IsNode t u
  above = subst (IsNode t) (sym eu) (parent_node t (ok t fair).linking n i up)

  under : u < n
  under = omega (arith, eu, parent_lower t n i.0)

  not_ready : (m : ℕ) → z.armed m ≡ false → z.waiting m ≡ false → ready z m ≡ false
  not_ready m a w = (λ j. a j || (w j && not (z.held m)))

  own_none : ready z n ≡ false
  own_none =
      let v = gr.others n (node_bit t fair n i) (λ c. omega (arith, c, under)) in
      not_ready n (v.0 ∙ pl.here.0) (v.1 ∙ pl.here.1)

  parent_none : 0 ≡ sort (act_of t s u) → ready z u ≡ false
  parent_none h =
      let v = tr.exact.placed u above in
      not_ready u (v.0 ∙ ap (λ j. eqb j 2) (sym h)) (v.1 ∙ ap (λ j. eqb j 1) (sym h))

  lower_none : (m : ℕ) → 1 ≤ m → m < n → (m ≡ u → ⊥) → ready z m ≡ false
  lower_none m p q d =
      let b : Bit m = (p, omega (arith, q, i.1, (ok t fair).n_high)) in
      let a = gr.others m b d in
      let v = pl.others m b (λ c. omega (arith, c, q)) in
      ready_stays x z m (a.0 ∙ v.0, a.1 ∙ v.1, a.2 ∙ v.2) (held m (p, omega (arith, q, i.1)))
      ∙ below_first x n e i.0 m p q

  pub beside_first : 0 ≡ sort (act_of t s u) → (d : ℕ) → IsNode t d → d ≡ n + 1 → entry s.status 0 d ≡ 1 → d ≡ first_in z 512
  beside_first h d j ed o =
      first_is z d j.0 (omega (arith, j.1, (ok t fair).n_high))
      (armed_ready z d ((tr.exact.placed d j).0
      ∙ ap (λ c. eqb c 2) (sym (sort_open t fair d j s.status s.second s.value s.registers s.occupant o))))
      (λ m p q. go m p q (ℕ_discrete m n) (ℕ_discrete m u))
    where
      go : (m : ℕ) → 1 ≤ m → m < d → Dec (m ≡ n) → Dec (m ≡ u) → ready z m ≡ false
      go m p q (yes a) b = subst (λ c. ready z c ≡ false) (sym a) own_none
      go m p q (no a) (yes b) = subst (λ c. ready z c ≡ false) (sym b) (parent_none h)
      go m p q (no a) (no b) = lower_none m p (omega (arith, q, a, ed)) b

-- open, and next in number
pub beside_so : (status : List ℕ) (n d : ℕ) (b : Bool) → b ≡ (eqb d (n + 1) && eqb (entry status 0 d) 1) → b ≡ true
    → (d ≡ n + 1) × (entry status 0 d ≡ 1)
beside_so status n d b e h = go (eqb d (n + 1)) (eqb (entry status 0 d) 1) refl refl (sym e ∙ h)
  where
    go : (p q : Bool) → eqb d (n + 1) ≡ p → eqb (entry status 0 d) 1 ≡ q → (p && q) ≡ true → (d ≡ n + 1) × (entry status 0 d ≡ 1)
    go true true a c k = (eqb-true d (n + 1) a, eqb-true (entry status 0 d) 1 c)
    go true false a c k = absurd (true≢false (sym k))
    go false q a c k = absurd (true≢false (sym k))
