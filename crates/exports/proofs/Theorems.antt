-- the theorems on the numbers in C, for a reader; that each C function returns the number of its entry's answer is its own promise (src)
use mathlib.Core.List.{List}
use Prim.Native.Nat.{ℕ}
use Rattle.rules.specs.State.{State512}
use Rattle.rules.specs.First.{query_of, drive_of}
use Rattle.rules.proofs.FirstFacts.{query_finds}
use Rattle.rules.proofs.FirstRuns.{drive_drives}
use Rattle.exports.specs.Numbers.{NumbersTell, AnswersFit}
use Rattle.exports.proofs.Apart as Apart
use Rattle.exports.proofs.Ranges as Ranges
use Rattle.exports.proofs.CircuitRanges as CircuitRanges

-- two answers of a function that have one number are one answer
pub numbers_tell : NumbersTell
numbers_tell = record {
  checks = Apart.checks_apart;
  counts = Apart.counts_apart;
  items = Apart.items_apart;
  extents = Apart.extents_apart;
  starts = Apart.starts_apart;
  replies = Apart.replies_apart;
  founds = Apart.founds_apart;
  halts = Apart.halts_apart;
  ends = Apart.ends_apart;
}

-- and every answer that an entry can give is one of those
pub answers_fit : (t tags : List ℕ) (s : State512) → AnswersFit t tags s
answers_fit t tags s = record {
  check = Ranges.check_fits t;
  with_tags = Ranges.with_fits t tags;
  filled = Ranges.fill_fits t;
  records = Ranges.records_fit t;
  item = Ranges.item_fits t;
  missing = CircuitRanges.missing_fits t tags;
  counts = Ranges.counts_fit;
  extent = Ranges.extent_fits t;
  start = CircuitRanges.start_fits t tags;
  step = λ b w n. CircuitRanges.step_answers t tags s n b w;
  query = CircuitRanges.query_fits t tags s (query_of t tags s) (query_finds t tags s);
  run = CircuitRanges.run_fits t tags s;
  drive = λ b w budget. CircuitRanges.drive_fits t tags b s w budget (drive_of t tags s budget) (drive_drives t tags s budget);
}
