-- tag lists (document 01, "The arbiter list"): the bits of a tag list, a table's arbiter list and its tag bytes, refusal 10; and what 26
-- looks for (document 02, Q-7)
use Rattle.std.specs.Prelude.{◌≡◌, ℕ, zero, suc, ◌+◌, ◌-◌, ◌*◌, ◌/◌, ◌%◌, ◌^◌, ◌<◌, ◌≤◌, Bool, true, false, not, ◌&&◌, ◌||◌, List, [], ◌∷◌}
use Rattle.std.specs.Prelude.{length, ◌==◌, count_ones, nat_le, slice_index}
use Rattle.std.specs.Prelude.{Option, None, Some, Result, Ok, Err, IfOk}
use Rattle.table.specs.declared.Node.{Node}
use Rattle.table.specs.declared.Design.{Design}
use Rattle.table.specs.declared.refusals.Refusal.{Refusal}
use Rattle.table.specs.Survey.{verdict_of}
use Rattle.list.specs.declared.Coverage.{Coverage}
use Rattle.table.specs.Pick.{pick, Range}
use Rattle.list.specs.Arbiters.{Test, reached_in, listed_in}
use Rattle.table.specs.Bytes.{functions, nodes, kind, word}
use Rattle.table.specs.Find.{one, lowest, all}
use Rattle.table.specs.Naming.{owner}
use Rattle.table.specs.Check.{Verdict, accepted, refused, stage, if_accepted, check_of}
use Rattle.table.specs.Decoded.{cell_at, node_slot, table_slot}
use Rattle.table.specs.Expressions.{body_of}

-- the verdict of an answer that tells more than the design
abbrev pub verdict_by : {A : Type 0} → (A → Design) → Result A Refusal → Verdict
verdict_by design (Ok a) = verdict_of (Ok (design a))
verdict_by design (Err r) = verdict_of (Err r)

-- what a search for a node found: its number, or 0 where there is none
abbrev pub found : ℕ → Option Node
found zero = None
found (suc n) = Some (record { 0 = suc n })

-- nodes are counted from 1: node n + 1 is bit n mod 8 of byte n / 8, and 0 has none; past the end every byte reads 0
unfoldable pub tagged : List ℕ → Test
tagged tags zero = false
tagged tags (suc n) = slice_index tags (n / 8) / 2 ^ (n % 8) % 2 == 1

-- a call that is no self call, and its callee
unfoldable pub is_call : List ℕ → Test
is_call t n = kind t n == 4 && not (word t n == owner t n)

unfoldable pub callee_of : List ℕ → ℕ → ℕ
callee_of t n = pick (is_call t n) (word t n) 0

-- main, and what it reaches by calls
unfoldable pub reached : List ℕ → Test
reached t = reached_in (nodes t) (callee_of t) (body_of t) (functions t)

-- the arbiter list: the bodies of the functions reached count
unfoldable pub listed : List ℕ → Test
listed t = listed_in (nodes t) (callee_of t) (body_of t) (functions t)

-- k bits, of n and the numbers after it, the lowest bit first
unfoldable pub bits_from : Test → ℕ → ℕ → ℕ
bits_from s zero n = 0
bits_from s (suc k) n = one (s n) + 2 * bits_from s k (suc n)

unfoldable pub bytes_from : Test → ℕ → ℕ → List ℕ
bytes_from s zero n = []
bytes_from s (suc k) n = bits_from s 8 n ∷ bytes_from s k (n + 8)

-- the length of a tag list
unfoldable pub tag_length : List ℕ → ℕ
tag_length t = (nodes t + 7) / 8

-- the tag bytes of the arbiter list; bits past N are 0
unfoldable pub tags_of : List ℕ → List ℕ
tags_of t = bytes_from (λ n. nat_le n (nodes t) && listed t n) (tag_length t) 1

-- 10: the length; no bit past N; a tag only at a call that is no self call
unfoldable pub none_past : List ℕ → List ℕ → Bool
none_past t tags = all (λ i. not (tagged tags (nodes t + i))) (8 * length tags - nodes t)

unfoldable pub tag_fits : List ℕ → List ℕ → Test
tag_fits t tags n = not (tagged tags n) || is_call t n

unfoldable pub tags_refusal : List ℕ → List ℕ → Verdict
tags_refusal t tags =
    stage 10 (length tags == tag_length t && none_past t tags) (lowest (tag_fits t tags) (nodes t)) λ _.
    accepted (functions t) (nodes t)

-- the same, read off the cells of a table: of an accepted one it is the same (Theorems, tags_beside)
unfoldable pub cell_fits : (cells tags : List ℕ) → Test
cell_fits cells tags n =
    not (tagged tags n)
    || (cell_at cells (node_slot n) 0 == 4 && not (cell_at cells (node_slot n) 2 == cell_at cells (node_slot n) 6))

unfoldable pub held_by : (cells tags : List ℕ) → Verdict
held_by cells tags =
    let N = cell_at cells table_slot 2 in
    let none = all (λ i. not (tagged tags (N + i))) (8 * length tags - N) in
    stage 10 (length tags == (N + 7) / 8 && none) (lowest (cell_fits cells tags) N) λ _.
    accepted (cell_at cells table_slot 0) N

-- what comes after waits for what comes before
unfoldable pub after : Verdict → (Unit {0} → Verdict) → Verdict
after (accepted F N) rest = rest tt
after (refused number place) rest = refused number place

-- the table, then its tags
unfoldable pub check_with : List ℕ → List ℕ → Verdict
check_with t tags = after (check_of t) λ _. tags_refusal t tags

-- tags in order: as many bytes as the nodes ask for, no tag past N, and each at a call that is no self call, reached or not; 10 takes them
-- and no others (Theorems, order_taken)
pub record InOrder (t tags : List ℕ) : Type 0 where
  pub size : length tags ≡ tag_length t
  pub past : (n : ℕ) → nodes t < n → tagged tags n ≡ false
  pub calls : (n : ℕ) → Range (nodes t) n → tagged tags n ≡ true → is_call t n ≡ true

-- a tag list that is lent to be filled: 10 looks at its length alone
unfoldable pub fill_verdict : List ℕ → ℕ → Verdict
fill_verdict t len = after (check_of t) λ _. stage 10 (len == tag_length t) 0 λ _. accepted (functions t) (nodes t)

-- its bytes then: unchanged on any refusal
unfoldable pub filled_tags : List ℕ → List ℕ → List ℕ
filled_tags t tags = if_accepted (fill_verdict t (length tags)) (tags_of t) tags

-- the number of bits set in a list of bytes
unfoldable pub bits_set : List ℕ → ℕ
bits_set [] = 0
bits_set (x ∷ s) = count_ones x + bits_set s

-- the tags hold the list: of the nodes 1 to N, each that is listed is tagged
abbrev pub Holding : (t tags : List ℕ) → Type 0
Holding t tags = (n : ℕ) → Range (nodes t) n → listed t n ≡ true → tagged tags n ≡ true

-- number n is not in s, or it has a tag
unfoldable pub holds_at : Test → (tags : List ℕ) → Test
holds_at s tags n = not (s n) || tagged tags n

-- 26: the lowest listed call without a tag, 0 where the tags hold the list (Theorems, none_missing)
unfoldable pub missing : (t tags : List ℕ) → ℕ
missing t tags = lowest (holds_at (listed t) tags) (nodes t)

-- n is that call: listed and without a tag, and each listed one below it has its tag (Theorems, missing_exactly)
pub record Lacks (t tags : List ℕ) (n : ℕ) : Type 0 where
  pub there : Range (nodes t) n
  pub is_listed : listed t n ≡ true
  pub untagged : tagged tags n ≡ false
  pub below : (m : ℕ) → 1 ≤ m → m < n → listed t m ≡ true → tagged tags m ≡ true

-- what is told of it beside the check of table and tags: 0 where that refuses
unfoldable pub missing_with : (t tags : List ℕ) → ℕ
missing_with t tags = if_accepted (check_with t tags) (missing t tags) 0

-- so told, beside the check of table and tags
pub record Covered (t tags : List ℕ) (r : Result Coverage Refusal) : Type 0 where
  pub told : verdict_by (λ c. c.design) r ≡ check_with t tags
  pub missing : IfOk r (λ c. c.missing ≡ found (missing_with t tags))
