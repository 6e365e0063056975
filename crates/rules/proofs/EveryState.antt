-- what holds of every state, also one that no start leads to
use Prim.Native.Nat.{ℕ}
use mathlib.Core.List.{List}
use Rattle.rules.specs.Companions.{InAnyState}
use Rattle.rules.proofs.AnyState as AnyState
use Rattle.rules.proofs.RunFacts as RunFacts
use Rattle.rules.proofs.Fits as FitsProof

pub in_any_state : (t tags : List ℕ) → InAnyState t tags
in_any_state t tags = record {
  step_ignores = AnyState.step_ignores t tags;
  step_keeps = AnyState.step_keeps t tags;
  refused_unchanged = AnyState.refused_unchanged t tags;
  step_fits = FitsProof.step_fits t tags;
  query_over = RunFacts.query_over t tags;
  run_plays = RunFacts.run_plays t tags;
}
