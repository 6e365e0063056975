-- the sets of a run as the code keeps them: a node placed, a chain armed, a node enlisted
use Rattle.std.proofs.Common.{◌≡◌, ℕ, suc, ◌+◌, ◌-◌, ◌*◌, ◌<◌, ◌≤◌, Bool, true, false, not, ◌&&◌, ◌||◌, eqb, ltb, List, [], ◌∷◌}
use Rattle.std.proofs.Common.{replicate, sym, refl, ap, ◌∙◌, subst, inl, inr, arith, le-ltb, lt-ltb, eq-eqb, ne_eqb, eqb-true}
use native.Mathlib.Decide.{ℕ_discrete, dec_lt}
use lib.ListN.{length-replicate}
use Rattle.table.specs.Pick.{pick, Range}
use Rattle.table.specs.Bytes.{functions, nodes, kind, word, first}
use Rattle.table.specs.Naming.{owner, chain, children}
use Rattle.table.specs.Expressions.{expr_at}
use Rattle.table.specs.Working.{IsNode, Taken}
use Rattle.table.proofs.Tests.{and_no, and_yes}
use Rattle.list.specs.Tags.{is_call}
use Rattle.list.specs.Working.{packed, Bit, PutAt}
use Rattle.list.proofs.WordLaws.{none_packed}
use Rattle.rules.specs.State.{State512, In, entry}
use Rattle.rules.specs.Step.{mine}
use Rattle.rules.specs.Play.{calls}
use Rattle.rules.specs.Sets.{Sets, sets_of, Stays}
use Rattle.rules.proofs.StateLaws.{in?}
use Rattle.rules.proofs.SetsBytes.{calls_bytes, inside_bytes, held_bytes}
use Rattle.circuit.specs.Meaning.{state_as}
use Rattle.circuit.specs.Working.{leading, opens}
use Rattle.circuit.specs.Packed.{Packs, sets_as, site, RowedTo, Rowed, Past, Tracks, Places, Arms}

-- a node's bit is as marked, the others stay
pub marked_here : (n : ℕ) (b : Bit n) (v : Bool) (x y : List ℕ) → Packs (λ m. pick (eqb n m) v (packed x m)) y → packed y n ≡ v
marked_here n b v x y p = p.bits n b ∙ rw (eq-eqb n n refl) refl

pub marked_other : (n : ℕ) (v : Bool) (x y : List ℕ) → Packs (λ m. pick (eqb n m) v (packed x m)) y → (m : ℕ) → Bit m → (m ≡ n → ⊥)
    → packed y m ≡ packed x m
marked_other n v x y p m b d = p.bits m b ∙ rw (ne_eqb n m (λ e. d (sym e))) refl

-- a node marked in three sets
module _ (n : ℕ) (b : Bit n) (a w i : Bool) (xa xw xi ya yw yi : List ℕ) (pa : Packs (λ m. pick (eqb n m) a (packed xa m)) ya)
    (pw : Packs (λ m. pick (eqb n m) w (packed xw m)) yw) (pi : Packs (λ m. pick (eqb n m) i (packed xi m)) yi) where
  pub places_by : (h : List ℕ) → Places n a w i (sets_as xa xw xi h) (sets_as ya yw yi h)
  places_by h = record {
    here = (marked_here n b a xa ya pa, marked_here n b w xw yw pw, marked_here n b i xi yi pi);
    others = λ m c d. (marked_other n a xa ya pa m c d, marked_other n w xw yw pw m c d, marked_other n i xi yi pi m c d);
  }

-- .. after a change that keeps the three
pub places_after : (n : ℕ) (a w i : Bool) (x x' y : Sets) → ((m : ℕ) → Stays x x' m) → Places n a w i x' y → Places n a w i x y
places_after n a w i x x' y same p = record {
  here = p.here;
  others = λ m b d. let s = same m in let q = p.others m b d in (q.0 ∙ s.0, q.1 ∙ s.1, q.2 ∙ s.2);
}

-- these nodes are armed: none; one, then others
pub arms_none : (f : ℕ → Type 0) → ((m : ℕ) → f m → ⊥) → (x : Sets) → Arms f x x
arms_none f none x = record { opened = λ m b i. absurd (none m i); others = λ m b i. (refl, refl, refl) }

pub arms_one : (n : ℕ) (x y : Sets) → Places n true false false x y → Arms (λ m. In m (n ∷ [])) x y
arms_one n x y p = record { opened = opened; others = λ m b i. p.others m b (λ e. i (inl e)) }
  where
    opened : (m : ℕ) → Bit m → In m (n ∷ []) → (y.armed m ≡ true) × (y.waiting m ≡ false) × (y.inside m ≡ false)
    opened m b (inl e) = rw e p.here
    opened m b (inr z) = absurd z

pub arms_more : (n : ℕ) (l : List ℕ) (x y z : Sets) → Places n true false false x y → Arms (λ m. In m l) y z
    → Arms (λ m. In m (n ∷ l)) x z
arms_more n l x y z p r = record { opened = opened; others = others }
  where
    kept : (m : ℕ) → Bit m → (In m l → ⊥) → m ≡ n → (z.armed m ≡ true) × (z.waiting m ≡ false) × (z.inside m ≡ false)
    kept m b i e =
        let s = r.others m b i in
        let h : (y.armed m ≡ true) × (y.waiting m ≡ false) × (y.inside m ≡ false) = rw e p.here in
        (s.0 ∙ h.0, s.1 ∙ h.1, s.2 ∙ h.2)

    here : (m : ℕ) → Bit m → m ≡ n → Dec (In m l) → (z.armed m ≡ true) × (z.waiting m ≡ false) × (z.inside m ≡ false)
    here m b e (yes i) = r.opened m b i
    here m b e (no i) = kept m b i e

    opened : (m : ℕ) → Bit m → In m (n ∷ l) → (z.armed m ≡ true) × (z.waiting m ≡ false) × (z.inside m ≡ false)
    opened m b (inl e) = here m b e (in? m l)
    opened m b (inr i) = r.opened m b i

    others : (m : ℕ) → Bit m → (In m (n ∷ l) → ⊥) → Stays x z m
    others m b i =
        let s = r.others m b (λ q. i (inr q)) in
        let q = p.others m b (λ e. i (inl e)) in
        (s.0 ∙ q.0, s.1 ∙ q.1, s.2 ∙ q.2)

-- along a chain: what arms the rest from the sets now, arms the whole from the sets at the start
pub record Arming (all rest : List ℕ) (x₀ x : Sets) : Type 0 where
  pub on : (y : Sets) → Arms (λ m. In m rest) x y → Arms (λ m. In m all) x₀ y

pub arming_start : (l : List ℕ) (x : Sets) → Arming l l x x
arming_start l x = record { on = λ y r. r }

module _ (all l : List ℕ) (x₀ x : Sets) (r : Arming all l x₀ x) where
  pub arming_more : (n : ℕ) (l' : List ℕ) → l ≡ n ∷ l' → (x' : Sets) → Places n true false false x x' → Arming all l' x₀ x'
  arming_more n l' e x' p = record { on = λ y z. r.on y (rw e (arms_more n l' x x' y p z)) }

  pub arming_end : l ≡ [] → Arms (λ m. In m all) x₀ x
  arming_end e = r.on x (rw e (arms_none (λ m. ⊥) (λ m z. z) x))

-- the children that a node opens, by its kind
module _ (t : List ℕ) (n k : ℕ) (ek : k ≡ kind t n) (c : ℕ) (ec : c ≡ first t n) (x y : Sets) where
  pub arm_if : k ≡ 5 → Places c true false false x y → Arms (λ m. In m (opens t n)) x y
  unfolding opens
  arm_if h p = rw (sym ek ∙ h) (rw (sym ec) (arms_one c x y p))

  pub arm_other : (k ≡ 5 → ⊥) → Arms (λ m. In m (leading (eqb k 6) (chain t c))) x y → Arms (λ m. In m (opens t n)) x y
  unfolding opens children
  arm_other h r = rw (sym ek, ne_eqb k 5 h, sym ec) r

-- whether node n is a call, read off its record
module _ (t : List ℕ) (n k : ℕ) (ek : k ≡ kind t n) where
  pub call_is : k ≡ 4 → (w f : ℕ) → w ≡ word t n → f ≡ owner t n → not (eqb w f) ≡ is_call t n
  unfolding is_call
  call_is h w f ew ef = sym (rw (sym ek ∙ h, sym ew, sym ef) refl)

  pub call_not : (k ≡ 4 → ⊥) → false ≡ is_call t n
  unfolding is_call
  call_not h = sym (rw (ne_eqb (kind t n) 4 (λ z. h (ek ∙ z))) refl)

pub call_kind : (t : List ℕ) (n : ℕ) (b : Bool) → b ≡ is_call t n → b ≡ true → kind t n ≡ 4
unfolding is_call
call_kind t n b e h = eqb-true (kind t n) 4 (both (eqb (kind t n) 4) (not (eqb (word t n) (owner t n))) (sym e ∙ h))
  where
    both : (x y : Bool) → (x && y) ≡ true → x ≡ true
    both true y q = refl
    both false y q = q

-- whether it is held, and whether it is inside
module _ (t : List ℕ) (fair : Taken t) (n : ℕ) (i : IsNode t n) (b : Bool) (eb : b ≡ is_call t n) (s : State512) where
  pub held_is : b ≡ true → (g o : ℕ) → g ≡ word t n → o ≡ entry s.occupant 0 g → not (eqb o 0) ≡ (sets_of t s).held n
  held_is h g o eg eo = sym (held_bytes t _ _ fair n i s ∙ rw (sym eb ∙ h, sym eg, sym eo) refl)

  pub held_not : b ≡ false → false ≡ (sets_of t s).held n
  held_not h = sym (held_bytes t _ _ fair n i s ∙ rw (sym eb ∙ h) refl)

  pub inside_is : (x : ℕ) → x ≡ entry s.status 0 n → x ≡ 2 → (y : Bool) → y ≡ entry s.second false n → y ≡ true
      → b ≡ (sets_of t s).inside n
  inside_is x ex hx y ey hy = sym (inside_bytes t _ _ fair n i s ∙ rw (sym ex ∙ hx, sym ey ∙ hy, sym eb) (and_yes b))

module _ (t : List ℕ) (fair : Taken t) (n : ℕ) (i : IsNode t n) (s : State512) where
  -- not busy; in first phase
  pub inside_idle : (x : ℕ) → x ≡ entry s.status 0 n → (x ≡ 2 → ⊥) → false ≡ (sets_of t s).inside n
  inside_idle x ex h =
      sym (inside_bytes t _ _ fair n i s ∙ rw (ne_eqb (entry s.status 0 n) 2 (λ z. h (ex ∙ z))) (and_no (is_call t n)))

  pub inside_first : (y : Bool) → y ≡ entry s.second false n → y ≡ false → false ≡ (sets_of t s).inside n
  inside_first y ey h =
      sym (inside_bytes t _ _ fair n i s ∙ rw (sym ey ∙ h) (go (is_call t n) (eqb (entry s.status 0 n) 2)))
    where
      go : (x z : Bool) → (x && (z && false)) ≡ false
      go true true = refl
      go true false = refl
      go false z = refl

-- a node placed as it is read
pub placed_as : (n : ℕ) (a w i a' w' i' : Bool) (x y : Sets) → Places n a w i x y → a ≡ a' → w ≡ w' → i ≡ i' → Places n a' w' i' x y
placed_as n a w i a' w' i' x y p ea ew ei = record {
  here = (p.here.0 ∙ ea, p.here.1 ∙ ew, p.here.2 ∙ ei);
  others = p.others;
}

-- a set up to the node before n with node n's bit is the set up to n
next_bit : (q : ℕ → Bool) (n m : ℕ) → 1 ≤ n → ((ltb m (suc (n - 1)) && q m) || (q n && eqb n m)) ≡ ltb m (suc n) && q m
next_bit q n m low = go (ℕ_discrete n m)
  where
    or_no : (x : Bool) → (x || false) ≡ x
    or_no true = refl
    or_no false = refl

    earlier : (n m : ℕ) → 1 ≤ n → (n ≡ m → ⊥) → Dec (m < n) → ltb m (suc (n - 1)) ≡ ltb m (suc n)
    earlier n m l d (yes h) = lt-ltb m (suc (n - 1)) (omega arith) ∙ sym (lt-ltb m (suc n) (omega arith))
    earlier n m l d (no h) = le-ltb m (suc (n - 1)) (omega arith) ∙ sym (le-ltb m (suc n) (omega (arith, d)))

    go : Dec (n ≡ m) → ((ltb m (suc (n - 1)) && q m) || (q n && eqb n m)) ≡ ltb m (suc n) && q m
    go (yes e) =
        rw (le-ltb m (suc (n - 1)) (omega arith), lt-ltb m (suc n) (omega arith), eq-eqb n m e) (and_yes (q n) ∙ ap q e)
    go (no d) = rw (ne_eqb n m d, earlier n m low d (dec_lt m n), and_no (q n)) (or_no (ltb m (suc n) && q m))

-- node n enlisted
module _ (t : List ℕ) (fair : Taken t) (n : ℕ) (i : IsNode t n) (rows : List ℕ) (x : RowedTo t (n - 1) rows) (f : ℕ)
    (ef : f ≡ owner t n) (few : f ≤ 32) (rows' : List ℕ) (put : PutAt f n rows rows') (b : Bool) (eb : b ≡ is_call t n) where
  or_none : (p q r : Bool) → q ≡ false → (p || (q && r)) ≡ p
  or_none true q r e = refl
  or_none false q r e = rw e refl

  own : (g m : ℕ) → g ≤ 32 → Bit m → packed rows' (512 * g + m) ≡ mine n (owner t) g m
  own g m l c =
      put.bits g m c ∙ rw (x.members g m l c, ef) (next_bit (λ k. eqb (owner t k) g) n m i.0)

  -- the sites are as they were
  old : (g m : ℕ) → 1 ≤ g → g ≤ 32 → Bit m → packed rows' (512 * (32 + g) + m) ≡ site t (n - 1) g m
  old g m p l c =
      put.bits (32 + g) m c ∙ or_none _ _ (eqb n m) (ne_eqb f (32 + g) (λ z. omega arith)) ∙ x.sites g m p l c

  pub rowed_call : b ≡ true → (w : ℕ) → w ≡ word t n → 1 ≤ w → (rows'' : List ℕ) → PutAt (32 + w) n rows' rows'' → RowedTo t n rows''
  rowed_call h w ew low rows'' put' = record { size = put'.size; members = members; sites = sites }
    where
      members : (g m : ℕ) → g ≤ 32 → Bit m → packed rows'' (512 * g + m) ≡ mine n (owner t) g m
      members g m l c = put'.bits g m c ∙ or_none _ _ (eqb n m) (ne_eqb (32 + w) g (λ z. omega arith)) ∙ own g m l c

      same : (g : ℕ) → Dec (w ≡ g) → eqb (32 + w) (32 + g) ≡ eqb w g
      same g (yes e) = eq-eqb (32 + w) (32 + g) (omega arith) ∙ sym (eq-eqb w g e)
      same g (no d) = ne_eqb (32 + w) (32 + g) (λ z. d (omega arith)) ∙ sym (ne_eqb w g d)

      called : (g : ℕ) → eqb (32 + w) (32 + g) ≡ calls (expr_at t n) g
      called g = same g (ℕ_discrete w g) ∙ sym (calls_bytes t (functions t) (nodes t) fair n i g ∙ rw (sym eb ∙ h, sym ew) refl)

      sites : (g m : ℕ) → 1 ≤ g → g ≤ 32 → Bit m → packed rows'' (512 * (32 + g) + m) ≡ site t n g m
      sites g m p l c =
          put'.bits (32 + g) m c ∙ rw (old g m p l c, called g) (next_bit (λ k. calls (expr_at t k) g) n m i.0)

  pub rowed_other : b ≡ false → RowedTo t n rows'
  rowed_other h = record { size = put.size; members = own; sites = sites }
    where
      none : (g : ℕ) → calls (expr_at t n) g ≡ false
      none g = calls_bytes t (functions t) (nodes t) fair n i g ∙ rw (sym eb ∙ h) refl

      sites : (g m : ℕ) → 1 ≤ g → g ≤ 32 → Bit m → packed rows' (512 * (32 + g) + m) ≡ site t n g m
      sites g m p l c =
          old g m p l c ∙ sym (or_none _ _ (eqb n m) (none g)) ∙ next_bit (λ k. calls (expr_at t k) g) n m i.0

-- its bit in the set of those held
pub marked_as : (n : ℕ) (v v' : Bool) (x y : List ℕ) → v ≡ v' → Packs (λ m. pick (eqb n m) v (packed x m)) y
    → Packs (λ m. pick (eqb n m) v' (packed x m)) y
marked_as n v v' x y e p = rw (sym e) p

-- the rows and the sets of a state are filled for the nodes up to n; past them none is armed or waits
pub record FilledTo (t status : List ℕ) (second : List Bool) (value occupant rows : List ℕ) (x : Sets) (n : ℕ) : Type 0 where
  pub rowed : RowedTo t n rows
  pub placed : (d : List ℕ) (m : ℕ) → Range n m → Stays (sets_of t (state_as status second value d occupant)) x m
  pub holds : (d : List ℕ) (m : ℕ) → Range n m → x.held m ≡ (sets_of t (state_as status second value d occupant)).held m
  pub past : Past n x

module _ (t status : List ℕ) (second : List Bool) (value occupant : List ℕ) where
  abbrev sets : List ℕ → Sets
  sets d = sets_of t (state_as status second value d occupant)

  abbrev Filled : (rows : List ℕ) → Sets → ℕ → Type 0
  Filled = FilledTo t status second value occupant

  pub filled_start : Filled (replicate 520 0) (sets_as (replicate 8 0) (replicate 8 0) (replicate 8 0) (replicate 8 0)) 0
  filled_start = record {
    rowed = record {
      size = length-replicate {A = ℕ} 520 0;
      members = λ g m l b. none_packed 520 (512 * g + m) ∙ sym (rw (le-ltb m 1 b.0) refl);
      sites = λ g m p l b. none_packed 520 (512 * (32 + g) + m) ∙ sym (rw (le-ltb m 1 b.0) refl);
    };
    placed = λ d m r. absurd (omega (arith, r.0, r.1));
    holds = λ d m r. absurd (omega (arith, r.0, r.1));
    past = λ m p q. (none_packed 8 m, none_packed 8 m);
  }

  module _ (rows : List ℕ) (x : Sets) (n : ℕ) (f : Filled rows x n) where
    -- the rows of the nodes before the next one
    pub filled_rows : (k : ℕ) → k ≡ n + 1 → RowedTo t (k - 1) rows
    filled_rows k e = subst (λ j. RowedTo t j rows) (omega arith) f.rowed

    -- the next one is enlisted, to x', and then read anew, to y
    pub filled_next : (k : ℕ) → k ≡ n + 1 → k ≤ 512 → (rows' : List ℕ) → RowedTo t k rows' → (x' y : Sets) → ((m : ℕ) → Stays x x' m)
        → ((d : List ℕ) (m : ℕ) → Bit m → x'.held m ≡ pick (eqb k m) ((sets d).held k) (x.held m))
        → ((d : List ℕ) → Places k ((sets d).armed k) ((sets d).waiting k) ((sets d).inside k) x' y)
        → ((m : ℕ) → y.held m ≡ x'.held m) → Filled rows' y k
    filled_next k ek l rows' r x' y same held p kept = record {
      rowed = r;
      placed = λ d m q. placed d m q (ℕ_discrete m k);
      holds = λ d m q. kept m ∙ holds d m q (ℕ_discrete m k);
      past = λ m u v. past m u v (same m) ((p []).others m (omega arith, v) (λ e. omega arith));
    }
      where
        bit : (m : ℕ) → Range k m → Bit m
        bit m q = (q.0, omega (arith, q.1))

        placed : (d : List ℕ) (m : ℕ) → Range k m → Dec (m ≡ k) → Stays (sets d) y m
        placed d m q (yes e) = rw e (p d).here
        placed d m q (no e) =
            let s = (p d).others m (bit m q) e in
            let z = same m in
            let o = f.placed d m (q.0, omega (arith, q.1, ek, e)) in
            (s.0 ∙ z.0 ∙ o.0, s.1 ∙ z.1 ∙ o.1, s.2 ∙ z.2 ∙ o.2)

        holds : (d : List ℕ) (m : ℕ) → Range k m → Dec (m ≡ k) → x'.held m ≡ (sets d).held m
        holds d m q (yes e) = held d m (bit m q) ∙ rw (eq-eqb k m (sym e), e) refl
        holds d m q (no e) =
            held d m (bit m q) ∙ rw (ne_eqb k m (λ z. e (sym z))) (f.holds d m (q.0, omega (arith, q.1, ek, e)))

        past : (m : ℕ) → k < m → m ≤ 512 → Stays x x' m → Stays x' y m → (y.armed m ≡ false) × (y.waiting m ≡ false)
        past m u v z s = let o = f.past m (omega arith) v in (s.0 ∙ z.0 ∙ o.0, s.1 ∙ z.1 ∙ o.1)

    -- all of them
    module _ (e : n ≡ nodes t) where
      pub filled_rowed : Rowed t rows
      filled_rowed = subst (λ k. RowedTo t k rows) e f.rowed

      pub filled_tracks : (d : List ℕ) → Tracks t (state_as status second value d occupant) x
      filled_tracks d = record {
        exact = record {
          placed = λ m r. f.placed d m (r.0, omega (arith, r.1, e));
          held = λ m r. f.holds d m (r.0, omega (arith, r.1, e));
        };
        past = λ m p q. f.past m (omega (arith, e)) q;
      }
