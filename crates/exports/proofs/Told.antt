-- the call that tags lack, as a number: from what `list` promises to what the C function does
use Prim.Native.Nat.{ℕ, zero, suc}
use mathlib.Core.Path.{◌≡◌, refl, sym, ap, ◌∙◌}
use mathlib.Core.List.{List}
use Rattle.std.specs.Prelude.{Option, Result, Ok, Err, MatchResult}
use Rattle.table.specs.declared.Node.{Node}
use Rattle.table.specs.declared.refusals.Refusal.{Refusal}
use Rattle.table.specs.Refusals.{number_of}
use Rattle.table.specs.Check.{accepted, refused}
use Rattle.list.specs.declared.Coverage.{Coverage}
use Rattle.list.specs.Tags.{check_with, found, missing, missing_with, Covered}
use Rattle.list.proofs.HoldingLaws.{missing_told}
use Rattle.rules.specs.First.{found_at, query_after}
use Rattle.circuit.specs.Meaning.{found_of}
use Rattle.exports.specs.Codes.{refusal_code}
use Rattle.exports.specs.Answers.{found_code, missing_of}

-- what tags lack, by what the check of both says
module _ (t tags : List ℕ) where
  missing_refused : (k p : ℕ) → check_with t tags ≡ refused k p → refusal_code k p ≡ found_code (missing_of t tags)
  missing_refused k p e = sym (ap (λ v. found_code (query_after v (missing t tags))) e)

  missing_named : (F N : ℕ) → check_with t tags ≡ accepted F N → (o : Option Node) → o ≡ found (missing_with t tags)
      → found_code (found_of (Ok o)) ≡ found_code (missing_of t tags)
  missing_named F N e o q =
      ap (λ m. found_code (found_of (Ok m))) (q ∙ ap found (sym (missing_told t tags F N e))) ∙ named (missing t tags)
      ∙ sym (ap (λ v. found_code (query_after v (missing t tags))) e)
    where
      named : (n : ℕ) → found_code (found_of (Ok (found n))) ≡ found_code (found_at n)
      named zero = refl
      named (suc n) = refl

-- r is the number of an answer: of what an Ok holds, or of the refusal
abbrev pub Numbered : {A : Type 0} → (A → ℕ) → Result A Refusal → ℕ → Type 0
Numbered code a r = MatchResult a (λ x. r ≡ code x) (λ e. r ≡ refusal_code (number_of e.reason) e.place.0)

-- .. by what is known of each
pub numbered : {A : Type 0} (code : A → ℕ) (a : Result A Refusal) (r : ℕ) (P : A → Type 0) (Q : Refusal → Type 0) → MatchResult a P Q
    → ((x : A) → P x → r ≡ code x) → ((e : Refusal) → Q e → r ≡ refusal_code (number_of e.reason) e.place.0) → Numbered code a r
numbered code (Ok x) r P Q h f g = f x h
numbered code (Err e) r P Q h f g = g e h

-- it is the number of what is missing
pub missing_numbered : (t tags : List ℕ) (a : Result Coverage Refusal) (r : ℕ) → Covered t tags a
    → Numbered (λ c. found_code (found_of (Ok c.missing))) a r → r ≡ found_code (missing_of t tags)
missing_numbered t tags (Ok c) r h k = k ∙ missing_named t tags _ _ (sym h.told) c.missing h.missing
missing_numbered t tags (Err e) r h k = k ∙ missing_refused t tags _ _ (sym h.told)
