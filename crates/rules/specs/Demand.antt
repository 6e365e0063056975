-- the third demand over bytes (document 01, "What the third demand speaks of"); the reading that it names is unique
use Rattle.std.specs.Prelude.{ℕ, ◌+◌, ◌≤◌, ◌≡◌, ◌⊎◌, List, length, take}
use Rattle.table.specs.Bytes.{functions}
use Rattle.rules.specs.Reading.{ReadsTo}
use Rattle.rules.specs.State.{State512, In}
use Rattle.rules.specs.Step.{answered, denied}
use Rattle.rules.specs.Play.{Log}
use Rattle.rules.specs.Circuit.{started, start_of, play_of, entries_of, leavings_of, Possible}

-- some step of the list answered, with value v
abbrev pub Answers : Log → ℕ → Type 0
Answers l v = In (answered v) l.answers

-- one claim about a whole list ns of asked numbers, any list of any numbers; s is the state of a start with these arguments
pub record DemandThree (t tags args : List ℕ) (s : State512) (ns : List ℕ) : Type 0 where
  -- no step is refused 23: no call that waits at an occupied resource is without an arbiter
  pub arbitrated : (place : ℕ) → In (denied 23 place) (play_of t tags s ns).answers → ⊥
  -- after every prefix of the list a resource was entered at most once more than it was left
  pub exclusive : (k f : ℕ) → 1 ≤ f → f ≤ functions t
      → entries_of t f (play_of t tags s (take k ns)).nodes ≤ leavings_of t f (play_of t tags s (take k ns)).nodes + 1
  -- main has answered, or "some step would be taken next"
  pub lively : ((v : ℕ) × Answers (play_of t tags s ns) v) ⊎ ((n : ℕ) × Possible t tags (play_of t tags s ns).state n)
  -- main's value is the reading's, and the reading's count is the number of steps taken
  pub right : (v : ℕ) → Answers (play_of t tags s ns) v → ReadsTo t args v (length (play_of t tags s ns).nodes)

-- the whole demand: its one premise is that start takes table, tags and arguments
abbrev pub ThirdDemand : Type 0
ThirdDemand = (t tags args : List ℕ) (s : State512) → start_of t tags args ≡ started s
    → (ns : List ℕ) → DemandThree t tags args s ns

-- what `right` names is one value and one count: a table and its arguments have no other reading
abbrev pub ReadingUnique : Type 0
ReadingUnique = (t args : List ℕ) (v w k l : ℕ) → ReadsTo t args v k → ReadsTo t args w l → (v ≡ w) × (k ≡ l)
