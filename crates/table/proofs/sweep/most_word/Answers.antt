-- `sweep::most_word` meets its contract: what is not looked at is multiplied with 0.
use native.Mathlib.Omega.{arith}
use Prim.Native.Nat.{ℕ, ◌+◌, ◌*◌}
use mathlib.Core.Path.{◌≡◌, sym, ap, ◌∙◌}
use lib.Dec.{eqb}
use Rattle.table.specs.Sweep.{rule_of}
use Rattle.table.proofs.RuleLaws.{one_yes, one_most}
use Rattle.table.proofs.sweep.most_word.Goals as goal

-- of a call, and of all else
called : (k x m : ℕ) → (rule_of k).call ≡ 1 → x ≡ x * (rule_of k).call + (rule_of k).words * m
called k x m e = let z = one_yes k 4 e in rw z (omega arith)

other : (k x w m : ℕ) → ((rule_of k).call ≡ 1 → ⊥) → w ≡ (rule_of k).words → w * m ≡ x * (rule_of k).call + (rule_of k).words * m
other k x w m n e =
    let z : (rule_of k).call ≡ 0 = omega (arith, n, one_most (eqb k 4)) in
    rw (z, e) (omega arith)

pub returns-then-rule-eq1 : goal.returns-then-rule-eq1
returns-then-rule-eq1 c = called c.args.kind _ c.args.most (sym (ap (λ r. r.call) c.requires.0) ∙ c.if-rule-eq1.true)

pub returns-else-rule-eq1 : goal.returns-else-rule-eq1
returns-else-rule-eq1 c = let is = c.requires.0 in
    other c.args.kind _ _ _ (λ e. c.if-rule-eq1.false (ap (λ r. r.call) is ∙ e)) (ap (λ r. r.words) is)
