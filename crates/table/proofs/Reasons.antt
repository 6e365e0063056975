-- a reason's number says which reason it is
use Rattle.std.proofs.Common.{ℕ, ◌≡◌, refl, sym, ap, ◌∙◌, arith}
use lib.Dec.{eqb}
use Rattle.table.specs.declared.refusals.Reason.{Reason}
use Rattle.table.specs.declared.refusals.Reason.TheVariants.{
  Short,
  Sizes,
  Length,
  Links,
  Fields,
  Callee,
  Children,
  Scope,
  Tail,
  Tags,
  Arguments,
  NoNode,
  Done,
  NoStep,
  Waits,
  Collides,
  Astray,
  Constant,
  Untagged,
}
use Rattle.table.specs.Pick.{pick}
use Rattle.table.specs.Refusals.{number_of}

-- the reason with a number
reason_of : ℕ → Reason
reason_of k =
    (pick (eqb k 1) Short
    (pick (eqb k 2) Sizes
    (pick (eqb k 3) Length
    (pick (eqb k 4) Links
    (pick (eqb k 5) Fields
    (pick (eqb k 6) Callee
    (pick (eqb k 7) Children
    (pick (eqb k 8) Scope
    (pick (eqb k 9) Tail
    (pick (eqb k 10) Tags
    (pick (eqb k 11) Arguments
    (pick (eqb k 12) NoNode
    (pick (eqb k 20) Done
    (pick (eqb k 21) NoStep
    (pick (eqb k 22) Waits
    (pick (eqb k 23) Collides
    (pick (eqb k 24) Astray
    (pick (eqb k 25) Constant
    Untagged))))))))))))))))))

reason_back : (r : Reason) → reason_of (number_of r) ≡ r
unfolding reason_of
reason_back Short = refl
reason_back Sizes = refl
reason_back Length = refl
reason_back Links = refl
reason_back Fields = refl
reason_back Callee = refl
reason_back Children = refl
reason_back Scope = refl
reason_back Tail = refl
reason_back Tags = refl
reason_back Arguments = refl
reason_back NoNode = refl
reason_back Done = refl
reason_back NoStep = refl
reason_back Waits = refl
reason_back Collides = refl
reason_back Astray = refl
reason_back Constant = refl
reason_back Untagged = refl

pub reason_apart : (a b : Reason) → number_of a ≡ number_of b → a ≡ b
reason_apart a b e = sym (reason_back a) ∙ ap reason_of e ∙ reason_back b

-- no reason has the number 0
pub numbered : (r : Reason) → number_of r ≡ 0 → ⊥
numbered Short e = absurd (omega (arith, e))
numbered Sizes e = absurd (omega (arith, e))
numbered Length e = absurd (omega (arith, e))
numbered Links e = absurd (omega (arith, e))
numbered Fields e = absurd (omega (arith, e))
numbered Callee e = absurd (omega (arith, e))
numbered Children e = absurd (omega (arith, e))
numbered Scope e = absurd (omega (arith, e))
numbered Tail e = absurd (omega (arith, e))
numbered Tags e = absurd (omega (arith, e))
numbered Arguments e = absurd (omega (arith, e))
numbered NoNode e = absurd (omega (arith, e))
numbered Done e = absurd (omega (arith, e))
numbered NoStep e = absurd (omega (arith, e))
numbered Waits e = absurd (omega (arith, e))
numbered Collides e = absurd (omega (arith, e))
numbered Astray e = absurd (omega (arith, e))
numbered Constant e = absurd (omega (arith, e))
numbered Untagged e = absurd (omega (arith, e))
