-- what is promised of an intake: the bytes that it counts lie in the slice, and where it failed there was room left to read to. Which
-- bytes they are is promised apart, where the reader's are known.
use Rattle.std.specs.Prelude.{List, ◌≡◌, ℕ, ◌<◌, ◌≤◌, length, take, Result, Ok, Err, IfErr}
use Rattle.intake.specs.declared.ReadFailed.{ReadFailed}

-- how many bytes were put at the slice's start, also where a read failed
abbrev pub count_of : Result ℕ ReadFailed → ℕ
count_of (Ok n) = n
count_of (Err e) = e.count

-- `&xs[..n]` is in bounds and has n bytes; the second part follows from the first
abbrev pub IsPrefixLen : ℕ → List ℕ → Type 0
IsPrefixLen n xs = (n ≤ length xs) × (n ≡ length (take n xs))

abbrev pub Given : Result ℕ ReadFailed → List ℕ → Type 0
Given r xs = IsPrefixLen (count_of r) xs × IfErr r (λ e. e.count < length xs)
