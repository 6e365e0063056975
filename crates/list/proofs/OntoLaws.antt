-- walks whose functions are put to those of a mask
use Rattle.std.proofs.Common.{◌≡◌, ℕ, Bool, true, false, ◌||◌, List, sym, refl, ap, ◌∙◌}
use lib.Bits.{bit_or}
use Rattle.list.specs.declared.kept.Kept.{Kept}
use Rattle.list.specs.Arbiters.{Test, joined}
use Rattle.list.specs.Working.{bit_at, Walk, Onto}
use Rattle.list.proofs.BitLaws.{or_bit, zero_bit}
use Rattle.list.proofs.Meets.{or_no}
use Rattle.list.proofs.WalkLaws.{walk_same, walk_two}

module _ (t : List ℕ) (s x : Test) (mask : ℕ) (set set' : List ℕ) (kept kept' : Kept) where
  pub onto_none : Walk t s x 0 set set' kept kept' → Onto t s x mask mask set set' kept kept'
  onto_none w = record {
    own = 0;
    walk = w;
    joins = λ h k. sym (ap (λ p. bit_at mask h || p) (zero_bit h) ∙ or_no (bit_at mask h));
  }

  pub onto_one : (own : ℕ) → Walk t s x own set set' kept kept' → Onto t s x mask (bit_or mask own) set set' kept kept'
  onto_one own w = record { own = own; walk = w; joins = λ h k. or_bit mask own h }

  pub onto_walk : Onto t s x 0 mask set set' kept kept' → Walk t s x mask set set' kept kept'
  onto_walk o = record {
    memo = o.walk.memo;
    grown = o.walk.grown;
    added = o.walk.added;
    functions = λ h k. o.joins h k ∙ ap (λ p. p || bit_at o.own h) (zero_bit h) ∙ o.walk.functions h k;
    walked = o.walk.walked;
    finds = o.walk.finds;
    met = o.walk.met;
  }

  pub onto_same : (s' x' : Test) (mask' : ℕ) → ((m : ℕ) → s' m ≡ s m) → ((m : ℕ) → x' m ≡ x m)
      → Onto t s x mask mask' set set' kept kept' → Onto t s' x' mask mask' set set' kept kept'
  onto_same s' x' mask' p q o = record {
    own = o.own;
    walk = walk_same t s s' x x' o.own set set' kept kept' p q o.walk;
    joins = o.joins;
  }

  -- one walk after the other
  pub onto_two : (s' x' : Test) (mask' mask'' : ℕ) (set'' : List ℕ) (kept'' : Kept) → Onto t s x mask mask' set set' kept kept'
      → Onto t s' x' mask' mask'' set' set'' kept' kept'' → Onto t (joined s s') (joined x x') mask mask'' set set'' kept kept''
  onto_two s' x' mask' mask'' set'' kept'' o u = record {
    own = bit_or o.own u.own;
    walk = walk_two t s s' x x' o.own u.own set set' set'' kept kept' kept'' o.walk u.walk;
    joins = λ h k. u.joins h k ∙ ap (λ p. p || bit_at u.own h) (o.joins h k)
        ∙ assoc (bit_at mask h) (bit_at o.own h) (bit_at u.own h)
        ∙ ap (λ p. bit_at mask h || p) (sym (or_bit o.own u.own h));
  }
    where
      assoc : (p q r : Bool) → (p || q) || r ≡ p || (q || r)
      assoc true q r = refl
      assoc false q r = refl
