-- what the walk over a node's children comes to, from what it called
use Rattle.std.proofs.Common.{◌≡◌, ℕ, Bool, false, ◌&&◌, ◌||◌, List, length, replicate, sym, ap, ◌∙◌, subst}
use Rattle.table.proofs.Tests.{and_no}
use Rattle.list.proofs.ParallelLaws.{parallel_is}
use Rattle.table.specs.Syntax.{none, some}
use Rattle.table.specs.Bytes.{first, next}
use Rattle.table.specs.Expressions.{expr_at}
use Rattle.list.specs.declared.kept.Kept.{Kept}
use Rattle.list.specs.declared.walk.Siblings.{Siblings}
use Rattle.list.specs.Arbiters.{joined}
use Rattle.list.specs.Tags.{callee_of}
use Rattle.list.specs.Working.{calls_at, calls_at*, conflicts_at, conflicts_at*, parallel_at, siblings, kids_at}
use Rattle.list.specs.Working.{packed, Adds, MetBy, Memo, Walk, WalkKids, Within, Chained, Beside, Sided}
use Rattle.list.proofs.WalkLaws.{walk_none, walk_same, walk_idle, walk_side}
use Rattle.list.proofs.NodeLaws.{none_calls, none_conflicts, none_parallel, lone_calls}
use Rattle.list.proofs.NodeLaws.{lone_conflicts, lone_twice, ends_plain}
use Rattle.list.proofs.NodeLaws.{no_child}

module _ (t : List ℕ) (f c : ℕ) (at : Within t f c) where
  -- no children
  pub kids_none : (set : List ℕ) (kept : Kept) → first t c ≡ 0 → length set ≡ 8 → Memo t kept
      → WalkKids t c false 0 set set kept kept
  kids_none set kept z l k =
      subst (λ es. Walk t (calls_at* t es) (joined (parallel_at t es) (conflicts_at* t es)) 0 set set kept kept)
      (sym (no_child t f c at z))
      (walk_none t (calls_at* t none) (joined (parallel_at t none) (conflicts_at* t none)) set kept
      (none_calls t) none_both l k)
    where
      none_both : (m : ℕ) → joined (parallel_at t none) (conflicts_at* t none) m ≡ false
      none_both = unfold joined in (λ m. rw (none_parallel t m, none_conflicts t m))

  -- the children, held against each other: in a set of their own, which is joined unless nothing is called
  module _ (defs : Bool) (d : ℕ) (r : Siblings) (own set : List ℕ) (kept kept' : Kept) (b : Beside t c defs) (y : d ≡ first t c)
      (v : Chained t f d defs r (replicate 8 0) own kept kept') where
    u : Chained t f (first t c) defs r (replicate 8 0) own kept kept'
    u = subst (λ k. Chained t f k defs r (replicate 8 0) own kept kept') y v

    pub side_idle : r.once ≡ 0 → length set ≡ 8 → Sided t f c defs r set set kept kept'
    side_idle z l = record {
      walk = walk_idle t (kids_at t defs c) r.once r.twice own kept kept' (λ m e. (b.calls m e).0) u.walk u.twice set z l;
      last = u.last;
    }

    pub side_all : (set' : List ℕ) (kept'' : Kept) → MetBy own r.once r.twice kept' kept'' → Adds (packed own) set set'
        → Sided t f c defs r set set' kept kept''
    side_all set' kept'' met add = record {
      walk = subst (λ k. WalkKids t c defs r.once set set' kept k) (sym met.others)
          (walk_side t (kids_at t defs c) r.once r.twice own kept kept' (λ m e. (b.calls m e).0) u.walk u.twice set set'
          kept''.conflicts b.conflicts met.bits add);
      last = u.last;
    }

  -- one child alone
  pub kids_one : (d mask : ℕ) (set set' : List ℕ) (kept kept' : Kept) → Beside t c false → Within t f d → d ≡ first t c → next t d ≡ 0
      → Walk t (calls_at t (expr_at t d)) (conflicts_at t (expr_at t d)) mask set set' kept kept'
      → WalkKids t c false mask set set' kept kept'
  kids_one d mask set set' kept kept' bs w y z v =
      subst (λ es. Walk t (calls_at* t es) (joined (parallel_at t es) (conflicts_at* t es)) mask set set' kept kept') (sym here)
      (walk_same t (calls_at t (expr_at t d)) (calls_at* t (some (expr_at t d) none)) (conflicts_at t (expr_at t d))
      (joined (parallel_at t (some (expr_at t d) none)) (conflicts_at* t (some (expr_at t d) none))) mask set set' kept kept'
      (lone_calls t (expr_at t d)) alone v)
    where
      here : kids_at t false c ≡ some (expr_at t d) none
      here = ap (siblings t false) (sym y) ∙ ends_plain t f d w z

      none_held : (m : ℕ) → parallel_at t (some (expr_at t d) none) m ≡ false
      none_held m =
          parallel_is t m (some (expr_at t d) none) (λ p. (bs.calls m (ap (λ es. calls_at* t es m) here ∙ p)).0)
          ∙ ap (λ p. calls_at* t (some (expr_at t d) none) m && p) (lone_twice t (expr_at t d) (callee_of t m))
          ∙ and_no (calls_at* t (some (expr_at t d) none) m)

      alone : (m : ℕ) → joined (parallel_at t (some (expr_at t d) none)) (conflicts_at* t (some (expr_at t d) none)) m ≡ conflicts_at t
          (expr_at t d) m
      alone = unfold joined in (λ m. ap (λ p. p || conflicts_at* t (some (expr_at t d) none) m) (none_held m)
          ∙ lone_conflicts t (expr_at t d) m)
