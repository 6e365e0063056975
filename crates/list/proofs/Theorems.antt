-- the theorems on the arbiter list, for a reader: of every table that the check accepts
use Rattle.std.proofs.Common.{◌≡◌, ℕ, ◌%◌, ◌^◌, ◌≤◌, true, ◌↔◌, List, length, sym}
use Rattle.table.specs.Pick.{Range}
use Rattle.table.specs.Bytes.{functions, nodes}
use Rattle.table.specs.Check.{check_of, accepted}
use Rattle.table.specs.Expressions.{body_of}
use Rattle.table.specs.Reach.{Reached, InReach}
use Rattle.table.specs.Decoded.{decoded_into}
use Rattle.table.proofs.SurveyLaws.{taken_by, taken_small}
use Rattle.table.proofs.DecodedLaws.{decoded_read}
use Rattle.list.proofs.TagVerdicts.{held_read}
use Rattle.list.specs.Tags.{Holding, InOrder, Lacks, bits_set, check_with, held_by, is_call, reached, listed, missing, tagged, tags_of}
use Rattle.list.specs.Tags.{tags_refusal}
use Rattle.list.specs.Records.{records_of}
use Rattle.list.specs.PaperList.{Decides, PaperList}
use Rattle.list.proofs.PaperList as Paper
use Rattle.list.proofs.Callees as Callees
use Rattle.list.proofs.TagFacts as TagFacts
use Rattle.list.proofs.HoldingLaws as HoldingLaws
use Rattle.list.proofs.Totals as Totals

-- the list is the A of section 4.2, of the functions that main reaches: by its PC and by the one solution of its equations for C
pub paper_list : (t : List ℕ) (F N : ℕ) → check_of t ≡ accepted F N → PaperList t
paper_list = Paper.paper_list

-- `reached` decides, by C of main's body, which functions main reaches; they are defined without any set (table, specs/Reach) ..
pub reached_exactly : (t : List ℕ) (F N : ℕ) → check_of t ≡ accepted F N → (f : ℕ)
    → Decides (reached t f) (Reached (functions t) (body_of t) f)
reached_exactly = Callees.reached_exactly

-- .. and a listed call stands in such a body
pub listed_reached : (t : List ℕ) (F N : ℕ) → check_of t ≡ accepted F N → (n : ℕ) → listed t n ≡ true → InReach t n
listed_reached = Callees.listed_reached

-- what is listed is a call of another function
pub listed_call : (t : List ℕ) (F N : ℕ) → check_of t ≡ accepted F N → (n : ℕ) → listed t n ≡ true
    → Range (nodes t) n × (is_call t n ≡ true)
listed_call = TagFacts.listed_call

-- the tag bytes mark the list and nothing else
pub tags_mark : (t : List ℕ) (F N : ℕ) → check_of t ≡ accepted F N → (n : ℕ) → 1 ≤ n → n ≤ nodes t → tagged (tags_of t) n ≡ listed t n
tags_mark = TagFacts.tags_mark

pub tags_hold : (t : List ℕ) (F N : ℕ) → check_of t ≡ accepted F N → Holding t (tags_of t)
tags_hold = TagFacts.tags_hold

-- and are taken as tags
pub tags_taken : (t : List ℕ) (F N : ℕ) → check_of t ≡ accepted F N → check_with t (tags_of t) ≡ accepted (functions t) (nodes t)
tags_taken = TagFacts.tags_taken

-- 10 takes every tag list that is in order, a tag on a call that main doesn't reach included, and no other
pub order_taken : (t : List ℕ) (F N : ℕ) → check_of t ≡ accepted F N → (tags : List ℕ)
    → (check_with t tags ≡ accepted (functions t) (nodes t)) ↔ InOrder t tags
order_taken = TagFacts.order_taken

-- 26 (document 02, Q-7): tags lack nothing exactly if they hold the list ..
pub none_missing : (t tags : List ℕ) → (missing t tags ≡ 0) ↔ Holding t tags
none_missing = HoldingLaws.none_missing

-- .. and else what is told is the lowest listed call without a tag
pub missing_exactly : (t tags : List ℕ) (n : ℕ) → 1 ≤ n → (missing t tags ≡ n) ↔ Lacks t tags n
missing_exactly = HoldingLaws.missing_exactly

-- as many bits are set as there are records, and that is what `total` answers
pub total_records : (t : List ℕ) (F N : ℕ) → check_of t ≡ accepted F N → bits_set (tags_of t) ≡ length (records_of t)
total_records t F N e = Totals.total_records t (taken_by t F N (sym e)).0

pub total_whole : (t : List ℕ) (F N : ℕ) → check_of t ≡ accepted F N → bits_set (tags_of t) % 2 ^ 64 ≡ length (records_of t)
total_whole t F N e = Totals.total_whole t (taken_by t F N (sym e)).0

-- what `check_held` reads off the cells that the survey filled is refusal 10
pub tags_beside : (t cells tags : List ℕ) (F N : ℕ) → check_of t ≡ accepted F N → length cells ≡ 3270
    → held_by (decoded_into t cells) tags ≡ tags_refusal t tags
tags_beside t cells tags F N e z =
    let k = (taken_by t F N (sym e)).0 in
    held_read t (decoded_into t cells) tags (record { taken = k; told = decoded_read t cells (taken_small t k) z })
