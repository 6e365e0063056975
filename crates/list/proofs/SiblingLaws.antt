-- siblings walked one after the other: what has been walked of a chain, what is left, and what the whole walk comes to
use Rattle.std.proofs.Common.{◌≡◌, ℕ, ◌≤◌, Bool, true, false, ◌&&◌, ◌||◌, List, length, sym, refl, ap, ◌∙◌, subst, ap₂, true≢false, arith}
use lib.Bits.{bit_or, bit_and}
use Rattle.table.specs.declared.Node.{Node}
use Rattle.table.specs.Syntax.{Expr, Exprs, none, some}
use Rattle.table.specs.Bytes.{next}
use Rattle.table.specs.Naming.{owner}
use Rattle.table.specs.Expressions.{expr_at, final_at}
use Rattle.table.specs.Working.{IsNode}
use Rattle.list.specs.declared.kept.Kept.{Kept}
use Rattle.list.specs.declared.walk.Siblings.{Siblings}
use Rattle.list.specs.Arbiters.{Test, no_calls, joined}
use Rattle.list.specs.Working.{bit_at, Callee, calls_at, calls_at*, conflicts_at, conflicts_at*, called_in, twice_in, siblings}
use Rattle.list.specs.Working.{Memo, Walk, OntoNode, Within, Chained}
use Rattle.list.proofs.BitLaws.{or_bit, and_bit, zero_bit}
use Rattle.list.proofs.Meets.{or_no}
use Rattle.list.proofs.ParallelLaws.{called_none, called_same, called_two}
use Rattle.list.proofs.WalkLaws.{joined_is, walk_none, walk_same, walk_two}
use Rattle.list.proofs.OntoLaws.{onto_walk}
use Rattle.list.proofs.NodeLaws.{none_calls, none_conflicts, none_twice, some_calls, some_conflicts, some_twice}
use Rattle.list.proofs.NodeLaws.{ends_defs, ends_plain, goes_on, final_here, final_next, next_there}

-- of the expressions `all` those before `es` have been walked: they have the calls s and the conflicts x
pub record Ahead (t : List ℕ) (all es : Exprs) (once twice : ℕ) (set set' : List ℕ) (kept kept' : Kept) : Type 0 where
  pub s : Test
  pub x : Test
  pub walk : Walk t s x once set set' kept kept'
  pub calls : (m : ℕ) → calls_at* t all m ≡ s m || calls_at* t es m
  pub conflicts : (m : ℕ) → conflicts_at* t all m ≡ x m || conflicts_at* t es m
  pub twofold : (h : ℕ) → Callee h
      → twice_in t all h ≡ bit_at twice h || (twice_in t es h || (bit_at once h && called_in t (calls_at* t es) h))

assoc : (a b c : Bool) → a || (b || c) ≡ (a || b) || c
assoc true b c = refl
assoc false b c = refl

-- w twice before, o once before, m in the next one, v twice after it, k once after it
shuffle : (w o m v k : Bool) → w || ((v || (m && k)) || (o && (m || k))) ≡ (w || (o && m)) || (v || ((o || m) && k))
shuffle true o m v k = refl
shuffle false true true true k = refl
shuffle false true true false true = refl
shuffle false true true false false = refl
shuffle false true false true k = refl
shuffle false true false false true = refl
shuffle false true false false false = refl
shuffle false false true true k = refl
shuffle false false true false true = refl
shuffle false false true false false = refl
shuffle false false false true k = refl
shuffle false false false false k = refl

module _ (t : List ℕ) where
  left_all : (all : Exprs) (set : List ℕ) (kept : Kept) → length set ≡ 8 → Memo t kept → Ahead t all all 0 0 set set kept kept
  left_all all set kept l k = record {
    s = no_calls;
    x = no_calls;
    walk = walk_none t no_calls no_calls set kept none_there none_there l k;
    calls = λ m. sym (ap (λ p. p || calls_at* t all m) (none_there m));
    conflicts = λ m. sym (ap (λ p. p || conflicts_at* t all m) (none_there m));
    twofold = λ h c. sym
        (ap (λ p. p || (twice_in t all h || (p && called_in t (calls_at* t all) h))) (zero_bit h) ∙ or_no (twice_in t all h));
  }
    where
      none_there : (m : ℕ) → no_calls m ≡ false
      none_there = unfold no_calls in (λ m. refl)

  left_more : (all : Exprs) (e : Expr) (es : Exprs) (once twice mask : ℕ) (set set' set'' : List ℕ) (kept kept' kept'' : Kept)
      → Ahead t all (some e es) once twice set set' kept kept'
      → Walk t (calls_at t e) (conflicts_at t e) mask set' set'' kept' kept''
      → Ahead t all es (bit_or once mask) (bit_or twice (bit_and once mask)) set set'' kept kept''
  left_more all e es once twice mask set set' set'' kept kept' kept'' l w = record {
    s = joined l.s (calls_at t e);
    x = joined l.x (conflicts_at t e);
    walk = walk_two t l.s (calls_at t e) l.x (conflicts_at t e) once mask set set' set'' kept kept' kept'' l.walk w;
    calls = λ m. l.calls m
        ∙ ap (λ p. l.s m || p) (some_calls t e es m ∙ joined_is (calls_at t e) (calls_at* t es) m)
        ∙ assoc (l.s m) (calls_at t e m) (calls_at* t es m)
        ∙ ap (λ p. p || calls_at* t es m) (sym (joined_is l.s (calls_at t e) m));
    conflicts = λ m. l.conflicts m
        ∙ ap (λ p. l.x m || p) (some_conflicts t e es m ∙ joined_is (conflicts_at t e) (conflicts_at* t es) m)
        ∙ assoc (l.x m) (conflicts_at t e m) (conflicts_at* t es m)
        ∙ ap (λ p. p || conflicts_at* t es m) (sym (joined_is l.x (conflicts_at t e) m));
    twofold = λ h c.
        let m = called_in t (calls_at t e) h in
        let k = called_in t (calls_at* t es) h in
        let v = twice_in t es h in
        l.twofold h c
        ∙ ap₂ (λ a b. bit_at twice h || (a || (bit_at once h && b))) (some_twice t e es h)
        (called_same t (calls_at* t (some e es)) (joined (calls_at t e) (calls_at* t es)) h (λ m i j. some_calls t e es m)
        ∙ called_two t (calls_at t e) (calls_at* t es) h)
        ∙ shuffle (bit_at twice h) (bit_at once h) m v k
        ∙ ap₂ (λ a b. a || (v || (b && k)))
        (sym (or_bit twice (bit_and once mask) h ∙ ap (λ p. bit_at twice h || p) (and_bit once mask h
        ∙ ap (λ p. bit_at once h && p) (w.functions h c))))
        (sym (or_bit once mask h ∙ ap (λ p. bit_at once h || p) (w.functions h c)));
  }

  left_none : (all : Exprs) (once twice : ℕ) (set set' : List ℕ) (kept kept' : Kept) → Ahead t all none once twice set set' kept kept'
      → Walk t (calls_at* t all) (conflicts_at* t all) once set set' kept kept'
  left_none all once twice set set' kept kept' l =
      walk_same t l.s (calls_at* t all) l.x (conflicts_at* t all) once set set' kept kept'
      (λ m. l.calls m ∙ ap (λ p. l.s m || p) (none_calls t m) ∙ or_no (l.s m))
      (λ m. l.conflicts m ∙ ap (λ p. l.x m || p) (none_conflicts t m) ∙ or_no (l.x m)) l.walk

  twice_none : (all : Exprs) (once twice : ℕ) (set set' : List ℕ) (kept kept' : Kept) → Ahead t all none once twice set set' kept kept'
      → (h : ℕ) → Callee h → bit_at twice h ≡ twice_in t all h
  twice_none all once twice set set' kept kept' l h c =
      sym (l.twofold h c ∙ ap₂ (λ a b. bit_at twice h || (a || (bit_at once h && b))) (none_twice t h) (called_none t
      (calls_at* t none) h (none_calls t))
      ∙ no_calls_left (bit_at twice h) (bit_at once h))
    where
      no_calls_left : (w o : Bool) → w || (false || (o && false)) ≡ w
      no_calls_left true o = refl
      no_calls_left false true = refl
      no_calls_left false false = refl

-- the siblings from c on have been walked up to node n, which is next
pub record Along (t : List ℕ) (f c : ℕ) (defs : Bool) (n once twice : ℕ) (set set' : List ℕ) (kept kept' : Kept) : Type 0 where
  pub here : Within t f n
  pub low : c ≤ n
  pub final : final_at t c ≡ final_at t n
  pub left : Ahead t (siblings t defs c) (siblings t defs n) once twice set set' kept kept'

abbrev found : (once twice : ℕ) → Node → Siblings
found o w x = record { once = o; twice = w; last = x }

module _ (t : List ℕ) (f c : ℕ) (defs : Bool) where
  pub along_none : (set : List ℕ) (kept : Kept) → Within t f c → length set ≡ 8 → Memo t kept → Along t f c defs c 0 0 set set kept kept
  along_none set kept w l k = record { here = w; low = omega arith; final = refl; left = left_all t (siblings t defs c) set kept l k }

  module _ (n once twice : ℕ) (set set' : List ℕ) (kept kept' : Kept) (a : Along t f c defs n once twice set set' kept kept') where
    -- a node that is not the last
    pub along_more : (d mask : ℕ) (set'' : List ℕ) (kept'' : Kept) → (next t n ≡ 0 → ⊥) → d ≡ next t n
        → OntoNode t n 0 mask set' set'' kept' kept''
        → Along t f c defs d (bit_or once mask) (bit_or twice (bit_and once mask)) set set'' kept kept''
    along_more d mask set'' kept'' z y w =
        let u = next_there t f n a.here z in
        record {
          here = subst (Within t f) (sym y) u.0;
          low = omega (arith, a.low, u.1, y);
          final = a.final ∙ final_next t f n a.here z ∙ ap (final_at t) (sym y);
          left = left_more t (siblings t defs c) (expr_at t n) (siblings t defs d) once twice mask set set' set'' kept kept' kept''
              (subst (λ es. Ahead t (siblings t defs c) es once twice set set' kept kept')
              (goes_on t f n a.here defs z ∙ ap (λ k. some (expr_at t n) (siblings t defs k)) (sym y)) a.left)
              (onto_walk t (calls_at t (expr_at t n)) (conflicts_at t (expr_at t n)) mask set' set'' kept' kept'' w);
        }

    -- a let's body ends the definientia
    pub along_body : (x : Node) → defs ≡ true → x.0 ≡ n → next t n ≡ 0
        → Chained t f c defs (found once twice x) set set' kept kept'
    along_body x d e z = record {
      walk = left_none t (siblings t defs c) once twice set set' kept kept' l;
      twice = twice_none t (siblings t defs c) once twice set set' kept kept' l;
      last = λ p. subst (λ n. IsNode t n × (owner t n ≡ f) × (c ≤ n) × (final_at t c ≡ expr_at t n)) (sym e)
          (a.here.node, a.here.own, a.low, a.final ∙ final_here t f n a.here z);
    }
      where
        l : Ahead t (siblings t defs c) none once twice set set' kept kept'
        l = subst (λ es. Ahead t (siblings t defs c) es once twice set set' kept kept')
            (ap (λ b. siblings t b n) d ∙ ends_defs t f n a.here z) a.left

    -- the last sibling
    pub along_last : (x : Node) (mask : ℕ) (set'' : List ℕ) (kept'' : Kept) → defs ≡ false → next t n ≡ 0
        → OntoNode t n 0 mask set' set'' kept' kept''
        → Chained t f c defs (found (bit_or once mask) (bit_or twice (bit_and once mask)) x) set set'' kept kept''
    along_last x mask set'' kept'' d z w = record {
      walk = left_none t (siblings t defs c) (bit_or once mask) (bit_or twice (bit_and once mask)) set set'' kept kept'' l;
      twice = twice_none t (siblings t defs c) (bit_or once mask) (bit_or twice (bit_and once mask)) set set'' kept kept'' l;
      last = λ p. absurd (true≢false (sym p ∙ d));
    }
      where
        l : Ahead t (siblings t defs c) none (bit_or once mask) (bit_or twice (bit_and once mask)) set set'' kept kept''
        l = left_more t (siblings t defs c) (expr_at t n) none once twice mask set set' set'' kept kept' kept''
            (subst (λ es. Ahead t (siblings t defs c) es once twice set set' kept kept')
            (ap (λ b. siblings t b n) d ∙ ends_plain t f n a.here z) a.left)
            (onto_walk t (calls_at t (expr_at t n)) (conflicts_at t (expr_at t n)) mask set' set'' kept' kept'' w)
