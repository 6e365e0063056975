-- an answer as one number: of a check, and of tags and records that are filled, 0 or the refusal's number * 65536 + its place; of child
-- counts the fewest * 65536 + the most; of `list_record`, `sheet_fill` and the circuit's functions the kind of the answer * 2^32 + the
-- value, node, record, length or refusal that goes with it
use Rattle.std.specs.Prelude.{ℕ, ◌+◌, ◌*◌, List, ltb, length, get_or}
use Rattle.table.specs.declared.Counts.{Counts}
use Rattle.table.specs.Pick.{pick}
use Rattle.list.specs.declared.Record.{Record}
use Rattle.list.specs.Records.{no_record, records_of}
use Rattle.pages.specs.Sheet.{sheet_bytes}
use Rattle.table.specs.Check.{Verdict, accepted, refused, check_of}

abbrev pub code_of : Verdict → ℕ
code_of (accepted F N) = 0
code_of (refused number place) = number * 65536 + place

abbrev pub counts_code : Counts → ℕ
counts_code c = c.low * 65536 + c.high

abbrev pub value_code : ℕ → ℕ
value_code v = 4294967296 + v

abbrev pub refusal_code : (number place : ℕ) → ℕ
refusal_code number place = 8589934592 + code_of (refused number place)

-- what stands at a place of the list: a record, nothing past the last; or the table is refused
pub data Item : Type 0 where
  item : Record → Item
  past : Item
  unlisted : (number place : ℕ) → Item

abbrev pub item_after : Verdict → List Record → ℕ → Item
item_after (accepted F N) l i = pick (ltb i (length l)) (item (get_or l i no_record)) past
item_after (refused number place) l i = unlisted number place

-- the record at i, from 0
abbrev pub item_of : List ℕ → ℕ → Item
item_of t i = item_after (check_of t) (records_of t) i

-- callee and caller in a byte each, and the node
abbrev pub record_code : Record → ℕ
record_code r = r.callee.0 * 16777216 + (r.caller.0 * 65536 + r.node.0)

abbrev pub item_code : Item → ℕ
item_code (item r) = value_code (record_code r)
item_code past = 0
item_code (unlisted number place) = refusal_code number place

-- how many bytes of a text the sheet of a table took; or the table is refused
pub data Extent : Type 0 where
  bytes : ℕ → Extent
  unprinted : (number place : ℕ) → Extent

abbrev pub extent_after : Verdict → ℕ → Extent
extent_after (accepted F N) n = bytes n
extent_after (refused number place) n = unprinted number place

abbrev pub extent_of : List ℕ → Extent
extent_of t = extent_after (check_of t) (length (sheet_bytes t))

abbrev pub extent_code : Extent → ℕ
extent_code (bytes n) = value_code n
extent_code (unprinted number place) = refusal_code number place
