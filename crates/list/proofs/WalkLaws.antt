-- the walk, put together: nothing, one walk after the other, siblings held against each other, a call, a body
use Rattle.std.proofs.Common.{◌≡◌, ℕ, ◌^◌, ◌<◌, ◌≤◌, Bool, true, false, ◌&&◌, ◌||◌, eqb, ◌⊎◌, List, [], length, get_or, set as set_at}
use Rattle.std.proofs.Common.{replicate, sym, refl, ap, ◌∙◌, subst, ap₂, inl, inr, ⊎_elim, true≢false, arith, length-set, get_or-set_other}
use Rattle.std.proofs.Common.{get_or-set_same, eq-eqb, ne_eqb, eqb-true}
use native.Mathlib.Decide.{ℕ_discrete}
use lib.Bits.{bit_or}
use Rattle.table.specs.Pick.{Range}
use Rattle.table.specs.Syntax.{Exprs}
use Rattle.table.specs.Bytes.{nodes}
use Rattle.table.specs.Expressions.{body_of}
use Rattle.table.specs.Working.{IsNode, IsFunction}
use Rattle.list.specs.declared.kept.Kept.{Kept}
use Rattle.list.specs.Arbiters.{Test, no_calls, joined}
use Rattle.list.specs.Tags.{callee_of, listed}
use Rattle.table.specs.Working.{Taken}
use Rattle.list.specs.Working.{bit_at, Bit, Callee, calls_by, calls_at, calls_at*, conflicts_at, conflicts_at*, parallel_at}
use Rattle.list.specs.Working.{called_in, twice_in, packed, row, shared_of, Seen, Adds, Met, Memo, Grown, Walk}
use Rattle.list.proofs.BitLaws.{or_bit, zero_bit, pow_bit}
use Rattle.list.proofs.WordLaws.{none_packed}
use Rattle.list.proofs.Meets.{or_no, or_swap, adds_none, adds_two, adds_same}
use Rattle.list.proofs.CallLaws.{or_left, or_right, body_set}
use Rattle.list.proofs.ParallelLaws.{called_same, called_none, called_two, called_one, member, parallel_is, meet_parallel}

or_out : (a b : Bool) → a || b ≡ true → (a ≡ true) ⊎ (b ≡ true)
or_out true b e = inl refl
or_out false b e = inr e

pub joined_is : (s s' : Test) (m : ℕ) → joined s s' m ≡ s m || s' m
unfolding joined
joined_is s s' m = refl

pub grown_none : (kept : Kept) → Grown kept kept
grown_none kept = record { seen = λ g h. h; stays = λ m b h. h; stands = λ h m c b e. e }

pub grown_two : (kept kept' kept'' : Kept) → Grown kept kept' → Grown kept' kept'' → Grown kept kept''
grown_two kept kept' kept'' p q = record {
  seen = λ g h. q.seen g (p.seen g h);
  stays = λ m b h. q.stays m b (p.stays m b h);
  stands = λ h m i b e. q.stands h m i b (p.stands h m i b e);
}

-- what is kept, with other conflicts found
abbrev pub found_at : Kept → (found : List ℕ) → Kept
found_at k found = record { conflicts = found; calls = k.calls; sites = k.sites; called = k.called }

-- with another set of sites of function g
abbrev pub met_at : Kept → (g : ℕ) (site : List ℕ) → Kept
met_at k g site = record { conflicts = k.conflicts; calls = k.calls; sites = set_at k.sites g site; called = k.called }

-- and with the calls of body g, and the functions called there
abbrev pub walked_at : Kept → (g : ℕ) (own : List ℕ) (mask : ℕ) → Kept
walked_at k g own mask = record { conflicts = k.conflicts; calls = set_at k.calls g own; sites = k.sites; called = set_at k.called g mask }

-- a set among others that was written
row_same : (sets : List (List ℕ)) (g : ℕ) (s : List ℕ) (m : ℕ) → g < length sets → row (set_at sets g s) g m ≡ packed s m
row_same sets g s m l = ap (λ (x : List ℕ). packed x m) (get_or-set_same sets g s [] l)

row_other : (sets : List (List ℕ)) (g h : ℕ) (s : List ℕ) (m : ℕ) → (h ≡ g → ⊥) → row (set_at sets g s) h m ≡ row sets h m
row_other sets g h s m d = ap (λ (x : List ℕ). packed x m) (get_or-set_other sets g h s [] d)

module _ (t : List ℕ) where
  -- a call that was met stays so
  met_stays : (kept kept' : Kept) → Grown kept kept' → (m : ℕ) → Bit m → Met t kept m → Met t kept' m
  met_stays kept kept' g m b i = (i.0, g.stands (callee_of t m) m i.0 b i.1)

  -- nothing is called
  pub walk_none : (s x : Test) (set : List ℕ) (kept : Kept) → ((m : ℕ) → s m ≡ false) → ((m : ℕ) → x m ≡ false) → length set ≡ 8
      → Memo t kept → Walk t s x 0 set set kept kept
  walk_none s x set kept p q l k = record {
    memo = k;
    grown = grown_none kept;
    added = adds_none s set l (λ m b. p m);
    functions = λ h c. zero_bit h ∙ sym (called_none t s h p);
    walked = λ h c e. absurd (true≢false (sym e ∙ called_none t s h p));
    finds = λ m b e. absurd (true≢false (sym e ∙ q m));
    met = λ m b e. absurd (true≢false (sym e ∙ p m));
  }

  -- the same calls and conflicts, said otherwise
  pub walk_same : (s s' x x' : Test) (mask : ℕ) (set set' : List ℕ) (kept kept' : Kept) → ((m : ℕ) → s' m ≡ s m) → ((m : ℕ) → x' m ≡ x m)
      → Walk t s x mask set set' kept kept' → Walk t s' x' mask set set' kept kept'
  walk_same s s' x x' mask set set' kept kept' p q w = record {
    memo = w.memo;
    grown = w.grown;
    added = adds_same s s' set set' w.added (λ m b. p m);
    functions = λ h k. w.functions h k ∙ called_same t s s' h (λ m a b. sym (p m));
    walked = λ h k e. w.walked h k (called_same t s s' h (λ m a b. sym (p m)) ∙ e);
    finds = λ m b e. w.finds m b (sym (q m) ∙ e);
    met = λ m b e. w.met m b (sym (p m) ∙ e);
  }

  -- one walk after the other
  pub walk_two : (s s' x x' : Test) (a b : ℕ) (set set' set'' : List ℕ) (kept kept' kept'' : Kept) → Walk t s x a set set' kept kept'
      → Walk t s' x' b set' set'' kept' kept'' → Walk t (joined s s') (joined x x') (bit_or a b) set set'' kept kept''
  walk_two s s' x x' a b set set' set'' kept kept' kept'' v w = record {
    memo = w.memo;
    grown = grown_two kept kept' kept'' v.grown w.grown;
    added = adds_two s s' (joined s s') set set' set'' v.added w.added (λ m b. joined_is s s' m);
    functions = λ h k. or_bit a b h ∙ ap₂ (λ p q. p || q) (v.functions h k) (w.functions h k) ∙ sym (called_two t s s' h);
    walked = λ h k e. ⊎_elim (λ p. w.grown.seen h (v.walked h k p)) (λ p. w.walked h k p)
        (or_out (called_in t s h) (called_in t s' h) (sym (called_two t s s' h) ∙ e));
    finds = λ m i e. ⊎_elim (λ p. w.grown.stays m i (v.finds m i p)) (λ p. w.finds m i p) (or_out (x m) (x' m) (sym
        (joined_is x x' m) ∙ e));
    met = λ m i e. ⊎_elim (λ p. met_stays kept' kept'' w.grown m i (v.met m i p)) (λ p. w.met m i p) (or_out (s m) (s' m) (sym
        (joined_is s s' m) ∙ e));
  }

  -- expressions side by side, walked into a set of their own
  module _ (es : Exprs) (once twice : ℕ) (own : List ℕ) (kept kept' : Kept) (ranged : (m : ℕ) → calls_at* t es m ≡ true → Range (nodes t) m)
      (w : Walk t (calls_at* t es) (conflicts_at* t es) once (replicate 8 0) own kept kept')
      (two : (h : ℕ) → Callee h → bit_at twice h ≡ twice_in t es h) where
    -- where nothing is called, nothing is to be joined
    pub walk_idle : (set : List ℕ) → once ≡ 0 → length set ≡ 8
        → Walk t (calls_at* t es) (joined (parallel_at t es) (conflicts_at* t es)) once set set kept kept'
    walk_idle set z l = record {
      memo = w.memo;
      grown = w.grown;
      added = adds_none (calls_at* t es) set l none;
      functions = w.functions;
      walked = w.walked;
      finds = λ m b e. ⊎_elim (λ p. absurd (true≢false (sym p ∙ apart m b))) (λ p. w.finds m b p)
          (or_out (parallel_at t es m) (conflicts_at* t es m) (sym (joined_is (parallel_at t es) (conflicts_at* t es) m) ∙ e));
      met = w.met;
    }
      where
        none : (m : ℕ) → Bit m → calls_at* t es m ≡ false
        none m b = go (calls_at* t es m) refl
          where
            go : (p : Bool) → calls_at* t es m ≡ p → p ≡ false
            go false e = refl
            go true e = absurd (true≢false (sym (member t (calls_at* t es) m (ranged m e) e)
                ∙ sym (w.functions (callee_of t m) (w.met m b e).0) ∙ ap (λ x. bit_at x (callee_of t m)) z ∙ zero_bit (callee_of t m)))

        apart : (m : ℕ) → Bit m → parallel_at t es m ≡ false
        apart m b = parallel_is t m es (ranged m) ∙ ap (λ p. p && twice_in t es (callee_of t m)) (none m b)

    -- their conflicts are found, and the set is joined
    pub walk_side : (set set' found : List ℕ) → ((m : ℕ) → parallel_at t es m ≡ true → listed t m ≡ true)
        → ((m : ℕ) → Bit m → packed found m ≡ packed kept'.conflicts m || (packed own m && shared_of own kept'.sites once twice m))
        → Adds (packed own) set set'
        → Walk t (calls_at* t es) (joined (parallel_at t es) (conflicts_at* t es)) once set set' kept (found_at kept' found)
    walk_side set set' found q bits added = record {
      memo = record {
        size_calls = w.memo.size_calls;
        size_sites = w.memo.size_sites;
        size_called = w.memo.size_called;
        sets = w.memo.sets;
        sited = w.memo.sited;
        masks = w.memo.masks;
        closed = w.memo.closed;
        whole = λ g m i s b e. more m b (w.memo.whole g m i s b e);
        sound = λ m b e. ⊎_elim (λ p. w.memo.sound m b p) (λ p. q m (sym (meets m b) ∙ p))
            (or_out (packed kept'.conflicts m) (packed own m && shared_of own kept'.sites once twice m) (sym (bits m b) ∙ e));
        sites = w.memo.sites;
      };
      grown = record { seen = w.grown.seen; stays = λ m b e. more m b (w.grown.stays m b e); stands = w.grown.stands };
      added = adds_same (packed own) (calls_at* t es) set set' added (λ m b. sym (members m b));
      functions = w.functions;
      walked = w.walked;
      finds = λ m b e. ⊎_elim
          (λ p. bits m b ∙ or_right (packed kept'.conflicts m) (packed own m && shared_of own kept'.sites once twice m) (meets m b ∙ p))
          (λ p. more m b (w.finds m b p))
          (or_out (parallel_at t es m) (conflicts_at* t es m) (sym (joined_is (parallel_at t es) (conflicts_at* t es) m) ∙ e));
      met = w.met;
    }
      where
        members : (m : ℕ) → Bit m → packed own m ≡ calls_at* t es m
        members m b = w.added.bits m b ∙ ap (λ p. p || calls_at* t es m) (none_packed 8 m)

        meets : (m : ℕ) → Bit m → packed own m && shared_of own kept'.sites once twice m ≡ parallel_at t es m
        meets m b =
            meet_parallel t m es own kept' once twice b (λ k i e. w.memo.sites k m i b e) (ranged m) (w.met m b) (members m b)
            w.functions two

        more : (m : ℕ) → Bit m → packed kept'.conflicts m ≡ true → packed found m ≡ true
        more m b e = bits m b ∙ or_left (packed kept'.conflicts m) (packed own m && shared_of own kept'.sites once twice m) e

  -- a call of another function: itself, and its callee's body, which has been walked
  module _ (n g : ℕ) (set set' set'' site : List ℕ) (kept kept' : Kept) (i : IsNode t n) (j : IsFunction t g) (low : Callee g)
      (e : callee_of t n ≡ g) (k : Memo t kept') (grow : Grown kept kept') (seen : Seen kept' g) (add : Adds (row kept'.calls g) set set')
      (put : Adds (eqb n) set' set'') (met : Adds (eqb n) (get_or kept'.sites g []) site) where
    none_there : (m : ℕ) → no_calls m ≡ false
    none_there = unfold no_calls in (λ m. refl)

    turn : (g h : ℕ) → eqb g h ≡ eqb h g
    turn g h = go (ℕ_discrete g h)
      where
        go : Dec (g ≡ h) → eqb g h ≡ eqb h g
        go (yes d) = eq-eqb g h d ∙ sym (eq-eqb h g (sym d))
        go (no d) = ne_eqb g h d ∙ sym (ne_eqb h g (λ z. d (sym z)))

    -- the callee's sites
    own_site : (m : ℕ) → Bit m → row (set_at kept'.sites g site) g m ≡ row kept'.sites g m || eqb n m
    own_site m b = row_same kept'.sites g site m (omega (arith, k.size_sites, low.1)) ∙ met.bits m b

    stands : (h m : ℕ) → Bit m → row kept'.sites h m ≡ true → row (set_at kept'.sites g site) h m ≡ true
    stands h m b x = go (ℕ_discrete h g)
      where
        go : Dec (h ≡ g) → row (set_at kept'.sites g site) h m ≡ true
        go (yes d) = rw d (own_site m b ∙ or_left (row kept'.sites g m) (eqb n m) (rw d at x))
        go (no d) = row_other kept'.sites g h site m d ∙ x

    still : (m : ℕ) → Bit m → Met t kept' m → Met t (met_at kept' g site) m
    still m b q = (q.0, stands (callee_of t m) m b q.1)

    -- a site is a call of its function
    sited : (h m : ℕ) → Callee h → Bit m → row (set_at kept'.sites g site) h m ≡ true → Dec (h ≡ g) → callee_of t m ≡ h
    sited h m q b x (no d) = k.sites h m q b (sym (row_other kept'.sites g h site m d) ∙ x)
    sited h m q b x (yes d) = ⊎_elim (λ p. k.sites h m q b (rw d p)) (λ p. ap (callee_of t) (sym (eqb-true n m p)) ∙ e ∙ sym d)
        (or_out (row kept'.sites g m) (eqb n m) (sym (own_site m b) ∙ (rw d at x)))

    own : (m : ℕ) → Bit m → n ≡ m → Met t (met_at kept' g site) m
    own m b z = (
      subst Callee (sym same) low,
      subst (λ h. row (set_at kept'.sites g site) h m ≡ true) (sym same)
          (own_site m b ∙ or_right (row kept'.sites g m) (eqb n m) (eq-eqb n m z)),
    )
      where
        same : callee_of t m ≡ g
        same = ap (callee_of t) (sym z) ∙ e

    pub walk_entry : Walk t (joined (eqb n) (calls_by t g)) no_calls (bit_or (get_or kept'.called g 0) (2 ^ g)) set set'' kept
        (met_at kept' g site)
    walk_entry = record {
      memo = record {
        size_calls = k.size_calls;
        size_sites = length-set kept'.sites g site ∙ k.size_sites;
        size_called = k.size_called;
        sets = k.sets;
        sited = λ h m q s b x. still m b (k.sited h m q s b x);
        masks = k.masks;
        closed = k.closed;
        whole = k.whole;
        sound = k.sound;
        sites = λ h m q b x. sited h m q b x (ℕ_discrete h g);
      };
      grown = record { seen = grow.seen; stays = grow.stays; stands = λ h m q b x. stands h m b (grow.stands h m q b x) };
      added = adds_two (calls_by t g) (eqb n) (joined (eqb n) (calls_by t g)) set set' set''
          (adds_same (row kept'.calls g) (calls_by t g) set set' add (λ m b. sym (k.sets g m j seen b))) put
          (λ m b. joined_is (eqb n) (calls_by t g) m ∙ or_swap (eqb n m) (calls_by t g m));
      functions = λ h q. or_bit (get_or kept'.called g 0) (2 ^ g) h
          ∙ ap₂ (λ p q. p || q) (k.masks g h j seen q) (pow_bit g h ∙ turn g h ∙ ap (eqb h) (sym e))
          ∙ or_swap (called_in t (calls_by t g) h) (eqb h (callee_of t n))
          ∙ ap (λ p. p || called_in t (calls_by t g) h) (sym (called_one t n h i))
          ∙ sym (called_two t (eqb n) (calls_by t g) h);
      walked = λ h q p. ⊎_elim (λ z. subst (Seen kept') (sym (eqb-true h g (ap (eqb h) (sym e) ∙ sym (called_one t n h i) ∙ z))) seen)
          (λ z. k.closed g h j seen q z)
          (or_out (called_in t (eqb n) h) (called_in t (calls_by t g) h) (sym (called_two t (eqb n) (calls_by t g) h) ∙ p));
      finds = λ m b q. absurd (true≢false (sym q ∙ none_there m));
      met = λ m b x. ⊎_elim (λ p. own m b (eqb-true n m p)) (λ p. still m b (k.sited g m j seen b p))
          (or_out (eqb n m) (calls_by t g m) (sym (joined_is (eqb n) (calls_by t g) m) ∙ x));
    }

  -- a body: its set and the functions called in it are kept
  pub walk_body : Taken t → (g mask : ℕ) (own : List ℕ) (kept kept' : Kept) → IsFunction t g → g ≤ 32
      → Walk t (calls_at t (body_of t g)) (conflicts_at t (body_of t g)) mask (replicate 8 0) own kept kept'
      → Memo t (walked_at kept' g own (bit_or mask 1)) × Grown kept (walked_at kept' g own (bit_or mask 1))
      × Seen (walked_at kept' g own (bit_or mask 1)) g
  walk_body ok g mask own kept kept' i l w = (
    record {
      size_calls = length-set kept'.calls g own ∙ w.memo.size_calls;
      size_sites = w.memo.size_sites;
      size_called = length-set kept'.called g (bit_or mask 1) ∙ w.memo.size_called;
      sets = λ h m j s b. sets h m j s b (ℕ_discrete h g);
      sited = λ h m j s b e. sited h m j s b e (ℕ_discrete h g);
      masks = λ h k j s b. masks h k j s b (ℕ_discrete h g);
      closed = λ h k j s r e. closed h k j s r e (ℕ_discrete h g);
      whole = λ h m j s b e. whole h m j s b e (ℕ_discrete h g);
      sound = w.memo.sound;
      sites = w.memo.sites;
    },
    record { seen = λ h s. now h (w.grown.seen h s) (ℕ_discrete h g); stays = w.grown.stays; stands = w.grown.stands },
    here,
  )
    where
      c' : List ℕ
      c' = kept'.called

      c'' : List ℕ
      c'' = set_at c' g (bit_or mask 1)

      at_g : get_or c'' g 0 ≡ bit_or mask 1
      at_g = get_or-set_same c' g (bit_or mask 1) 0 (omega (arith, w.memo.size_called))

      at_other : (h : ℕ) → (h ≡ g → ⊥) → get_or c'' h 0 ≡ get_or c' h 0
      at_other h d = get_or-set_other c' g h (bit_or mask 1) 0 d

      odd : bit_at (bit_or mask 1) 0 ≡ true
      odd = or_bit mask 1 0 ∙ or_right (bit_at mask 0) (bit_at 1 0) refl

      here : get_or c'' g 0 ≡ 0 → ⊥
      here z = true≢false (sym odd ∙ ap (λ x. bit_at x 0) (sym at_g ∙ z) ∙ zero_bit 0)

      now : (h : ℕ) → (get_or c' h 0 ≡ 0 → ⊥) → Dec (h ≡ g) → get_or c'' h 0 ≡ 0 → ⊥
      now h s (yes d) z = here (ap (λ k. get_or c'' k 0) (sym d) ∙ z)
      now h s (no d) z = s (sym (at_other h d) ∙ z)

      old : (h : ℕ) → (get_or c'' h 0 ≡ 0 → ⊥) → (h ≡ g → ⊥) → get_or c' h 0 ≡ 0 → ⊥
      old h s d z = s (at_other h d ∙ z)

      sited : (h m : ℕ) → IsFunction t h → (get_or c'' h 0 ≡ 0 → ⊥) → Bit m → calls_by t h m ≡ true → Dec (h ≡ g) → Met t kept' m
      sited h m j s b e (yes d) = w.met m b (sym (body_set t ok g m i) ∙ subst (λ k. calls_by t k m ≡ true) d e)
      sited h m j s b e (no d) = w.memo.sited h m j (old h s d) b e

      own_set : (m : ℕ) → Bit m → row (set_at kept'.calls g own) g m ≡ calls_by t g m
      own_set m b = row_same kept'.calls g own m (omega (arith, w.memo.size_calls, l))
          ∙ w.added.bits m b ∙ ap (λ p. p || calls_at t (body_of t g) m) (none_packed 8 m) ∙ sym (body_set t ok g m i)

      sets : (h m : ℕ) → IsFunction t h → (get_or c'' h 0 ≡ 0 → ⊥) → Bit m → Dec (h ≡ g)
          → row (set_at kept'.calls g own) h m ≡ calls_by t h m
      sets h m j s b (yes d) = subst (λ k. row (set_at kept'.calls g own) k m ≡ calls_by t k m) (sym d) (own_set m b)
      sets h m j s b (no d) = row_other kept'.calls g h own m d ∙ w.memo.sets h m j (old h s d) b

      one_bit : (k : ℕ) → Callee k → bit_at 1 k ≡ false
      one_bit k r = pow_bit 0 k ∙ ne_eqb 0 k (λ z. omega (arith, z, r.0))

      own_mask : (k : ℕ) → Callee k → bit_at (get_or c'' g 0) k ≡ called_in t (calls_by t g) k
      own_mask k r =
          ap (λ x. bit_at x k) at_g ∙ or_bit mask 1 k ∙ ap₂ (λ p q. p || q) (w.functions k r) (one_bit k r)
          ∙ or_no (called_in t (calls_at t (body_of t g)) k)
          ∙ called_same t (calls_at t (body_of t g)) (calls_by t g) k (λ m a b. sym (body_set t ok g m i))

      masks : (h k : ℕ) → IsFunction t h → (get_or c'' h 0 ≡ 0 → ⊥) → Callee k → Dec (h ≡ g)
          → bit_at (get_or c'' h 0) k ≡ called_in t (calls_by t h) k
      masks h k j s r (yes d) = subst (λ z. bit_at (get_or c'' z 0) k ≡ called_in t (calls_by t z) k) (sym d) (own_mask k r)
      masks h k j s r (no d) = ap (λ x. bit_at x k) (at_other h d) ∙ w.memo.masks h k j (old h s d) r

      closed : (h k : ℕ) → IsFunction t h → (get_or c'' h 0 ≡ 0 → ⊥) → Callee k → called_in t (calls_by t h) k ≡ true → Dec (h ≡ g)
          → get_or c'' k 0 ≡ 0 → ⊥
      closed h k j s r e (yes d) = now k (w.walked k r (called_same t (calls_at t (body_of t g)) (calls_by t g) k
          (λ m a b. sym (body_set t ok g m i)) ∙ subst (λ z. called_in t (calls_by t z) k ≡ true) d e)) (ℕ_discrete k g)
      closed h k j s r e (no d) = now k (w.memo.closed h k j (old h s d) r e) (ℕ_discrete k g)

      whole : (h m : ℕ) → IsFunction t h → (get_or c'' h 0 ≡ 0 → ⊥) → Bit m → conflicts_at t (body_of t h) m ≡ true → Dec (h ≡ g)
          → packed kept'.conflicts m ≡ true
      whole h m j s b e (yes d) = w.finds m b (subst (λ k. conflicts_at t (body_of t k) m ≡ true) d e)
      whole h m j s b e (no d) = w.memo.whole h m j (old h s d) b e
