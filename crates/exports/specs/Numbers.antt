-- what is claimed of the numbers in C: every answer that a function can give has a number, and that number is no other answer's
use Rattle.std.specs.Prelude.{ℕ, ◌≤◌, ◌<◌, ◌≡◌, List}
use Rattle.table.specs.declared.Counts.{Counts}
use Rattle.table.specs.Check.{Verdict, accepted, refused, check_of, operation_counts}
use Rattle.list.specs.Tags.{check_with, fill_verdict}
use Rattle.list.specs.Records.{records_verdict}
use Rattle.rules.specs.State.{State512}
use Rattle.rules.specs.Step.{Reply, taken, answered, denied}
use Rattle.rules.specs.Circuit.{Started, started, turned, start_of, step_of}
use Rattle.rules.specs.Runs.{Halt, whole, stopped, run_of, Ended, gave, at_rest, spent, barred}
use Rattle.rules.specs.Runs.{Found, names, nothing, unasked}
use Rattle.rules.specs.First.{query_of, drive_of}
use Rattle.rules.specs.Companions.{Bytes, Fits}
use Rattle.exports.specs.Codes.{code_of, counts_code, Item, item, past, unlisted, item_of, item_code}
use Rattle.exports.specs.Codes.{Extent, bytes, unprinted, extent_of, extent_code}
use Rattle.exports.specs.Answers.{start_code, reply_code, found_code, missing_of, halt_code, ended_code}

-- what an answer holds where its number is its own: a refusal's number from 1 up in a byte, a place in 16 bits, a value in 32
abbrev pub Refusable : (number place : ℕ) → Type 0
Refusable number place = (1 ≤ number) × (number < 256) × (place < 65536)

abbrev pub Valued : ℕ → Type 0
Valued v = v < 4294967296

abbrev pub FitsVerdict : Verdict → Type 0
FitsVerdict (accepted F N) = Unit {0}
FitsVerdict (refused number place) = Refusable number place

abbrev pub FitsCounts : Counts → Type 0
FitsCounts c = (c.low < 65536) × (c.high < 65536)

abbrev pub FitsItem : Item → Type 0
FitsItem (item r) = (r.callee.0 < 256) × (r.caller.0 < 256) × (r.node.0 < 65536)
FitsItem past = Unit {0}
FitsItem (unlisted number place) = Refusable number place

abbrev pub FitsExtent : Extent → Type 0
FitsExtent (bytes n) = Valued n
FitsExtent (unprinted number place) = Refusable number place

abbrev pub FitsReply : Reply → Type 0
FitsReply taken = Unit {0}
FitsReply (answered v) = Valued v
FitsReply (denied number place) = Refusable number place

abbrev pub FitsFound : Found → Type 0
FitsFound nothing = Unit {0}
FitsFound (names n) = Valued n
FitsFound (unasked number place) = Refusable number place

abbrev pub FitsHalt : Halt → Type 0
FitsHalt whole = Unit {0}
FitsHalt (stopped number place) = Refusable number place

abbrev pub FitsEnded : Ended → Type 0
FitsEnded at_rest = Unit {0}
FitsEnded (gave v) = Valued v
FitsEnded (barred number place) = Refusable number place
FitsEnded spent = Unit {0}

-- an answer without what no number tells: F and N of an accepted table, and the state of a start, which is in the lent arrays
abbrev pub bare : Verdict → Verdict
bare (accepted F N) = accepted 0 0
bare (refused number place) = refused number place

abbrev pub verdict_of_start : Started → Verdict
verdict_of_start (started s) = accepted 0 0
verdict_of_start (turned number place) = refused number place

-- a code's numbers tell these answers apart
abbrev pub Tells : {A : Type 0} → (A → ℕ) → (A → Type 0) → Type 0
Tells {A} code fits = (a b : A) → fits a → fits b → code a ≡ code b → a ≡ b

pub record NumbersTell : Type 0 where
  -- table_check, list_fill_tags, list_check_tags, list_fill_records
  pub checks : (v w : Verdict) → FitsVerdict v → FitsVerdict w → code_of v ≡ code_of w → bare v ≡ bare w
  -- table_operation_counts
  pub counts : Tells counts_code FitsCounts
  -- list_record
  pub items : Tells item_code FitsItem
  -- sheet_fill
  pub extents : Tells extent_code FitsExtent
  -- circuit_start
  pub starts : (x y : Started) → FitsVerdict (verdict_of_start x) → FitsVerdict (verdict_of_start y) → start_code x ≡ start_code y
      → verdict_of_start x ≡ verdict_of_start y
  -- circuit_step, circuit_query and list_missing, circuit_run, circuit_drive
  pub replies : Tells reply_code FitsReply
  pub founds : Tells found_code FitsFound
  pub halts : Tells halt_code FitsHalt
  pub ends : Tells ended_code FitsEnded

-- whatever is handed in: a table is bytes and a state's values are words, as C's types have it; `list_total` answers its number itself
pub record AnswersFit (t tags : List ℕ) (s : State512) : Type 0 where
  -- table_check, list_check_tags, list_fill_tags, list_fill_records, list_record
  pub check : FitsVerdict (check_of t)
  pub with_tags : FitsVerdict (check_with t tags)
  pub filled : (len : ℕ) → FitsVerdict (fill_verdict t len)
  pub records : (len : ℕ) → FitsVerdict (records_verdict t len)
  pub item : (i : ℕ) → FitsItem (item_of t i)
  -- list_missing
  pub missing : FitsFound (missing_of t tags)
  -- table_operation_counts
  pub counts : (op : ℕ) → FitsCounts (operation_counts op)
  -- sheet_fill
  pub extent : FitsExtent (extent_of t)
  -- circuit_start, circuit_step, circuit_query, circuit_run, circuit_drive
  pub start : (args : List ℕ) → FitsVerdict (verdict_of_start (start_of t tags args))
  pub step : Bytes t → Fits s → (n : ℕ) → FitsReply (step_of t tags s n).answer
  pub query : FitsFound (query_of t tags s)
  pub run : (ns : List ℕ) → FitsHalt (run_of t tags s ns).halt
  pub drive : Bytes t → Fits s → (budget : ℕ) → FitsEnded (drive_of t tags s budget).ended
