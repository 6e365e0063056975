-- bodies that main doesn't reach (document 02, Q-5), from a start on: they have no step, and their calls "may carry a tag without harm"
use Rattle.std.specs.Prelude.{ℕ, ◌≡◌, List}
use Rattle.table.specs.Pick.{Range}
use Rattle.table.specs.Bytes.{functions, nodes}
use Rattle.table.specs.Expressions.{body_of}
use Rattle.table.specs.Reach.{Reached, InReach}
use Rattle.list.specs.Tags.{tagged, InOrder, Holding}
use Rattle.rules.specs.State.{State512, view}
use Rattle.rules.specs.Step.{stuck}
use Rattle.rules.specs.Play.{Ask}
use Rattle.rules.specs.Circuit.{start_of, step_of, plays_of, play_of, act_of}
use Rattle.rules.specs.Runs.{run_of}
use Rattle.rules.specs.First.{query_of, drive_of}
use Rattle.rules.specs.Companions.{Agree}

-- two tag lists in order, with the same tags wherever main reaches; elsewhere each may have any calls tagged
pub record AlikeInReach (t tags tags' : List ℕ) : Type 0 where
  pub order : InOrder t tags
  pub order' : InOrder t tags'
  pub tag : (n : ℕ) → Range (nodes t) n → InReach t n → tagged tags n ≡ tagged tags' n

-- whatever is asked in state s, one tag list gets the same answer and leads to the same state as the other
pub record AskedAlike (t tags tags' : List ℕ) (s : State512) : Type 0 where
  pub step : (n : ℕ) → step_of t tags s n ≡ step_of t tags' s n
  pub play : (ns : List ℕ) → play_of t tags s ns ≡ play_of t tags' s ns
  pub run : (ns : List ℕ) → run_of t tags s ns ≡ run_of t tags' s ns
  pub query : query_of t tags s ≡ query_of t tags' s
  pub drive : (budget : ℕ) → drive_of t tags s budget ≡ drive_of t tags' s budget

-- after any steps from a start, asked under any tags; s is the state of that start
pub record SpareBodies (t : List ℕ) (s : State512) (asked : List (Ask (List ℕ))) : Type 0 where
  -- a node that main doesn't reach has no step
  pub still : (n : ℕ) → Range (nodes t) n → (InReach t n → ⊥) → act_of t (plays_of t s asked).state n ≡ stuck
  -- and all entries of such nodes and functions are as the start left them
  pub kept : Agree (λ n. Range (nodes t) n × (InReach t n → ⊥))
      (λ f. Range (functions t) f × (Reached (functions t) (body_of t) f → ⊥)) (view s) (view (plays_of t s asked).state)
  -- tags at such nodes change nothing
  pub alike : (tags tags' : List ℕ) → AlikeInReach t tags tags' → AskedAlike t tags tags' (plays_of t s asked).state

-- two tag lists that are alike in reach, of an accepted table
pub record SpareTags (t tags tags' args : List ℕ) : Type 0 where
  -- they start alike, refused or not
  pub start : start_of t tags args ≡ start_of t tags' args
  -- and the one holds the arbiter list where the other does
  pub holding : Holding t tags → Holding t tags'
