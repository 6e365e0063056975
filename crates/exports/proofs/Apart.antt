-- the numbers tell every answer apart, answer by answer
use Prim.Native.Nat.{ℕ, ◌+◌, ◌*◌, ◌<◌}
use mathlib.Core.Path.{◌≡◌, refl, ap₂, ap}
use native.Mathlib.Omega.{arith}
use Rattle.rules.specs.Step.{Reply, taken, answered, denied}
use Rattle.rules.specs.Runs.{Halt, whole, stopped, Ended, gave, at_rest, spent, barred, Found, names, nothing, unasked}
use Rattle.table.specs.declared.Counts.{Counts}
use Rattle.table.specs.Check.{Verdict, accepted, refused}
use Rattle.list.specs.declared.Record.{Record}
use Rattle.rules.specs.Circuit.{Started, started, turned}
use Rattle.exports.specs.Codes.{code_of, counts_code, refusal_code, record_code, Item, item, past, unlisted, item_code}
use Rattle.exports.specs.Codes.{Extent, bytes, unprinted, extent_code}
use Rattle.exports.specs.Answers.{start_code, reply_code, found_code, halt_code, ended_code}
use Rattle.exports.specs.Numbers.{Refusable, FitsVerdict, FitsCounts, FitsItem, FitsExtent, FitsReply, FitsFound, FitsHalt, FitsEnded}
use Rattle.exports.specs.Numbers.{bare, verdict_of_start}

same_refusal : {A : Type 0} (f : ℕ → ℕ → A) (k p k' p' : ℕ) → Refusable k p → Refusable k' p' → refusal_code k p ≡ refusal_code k' p'
    → f k p ≡ f k' p'
same_refusal f k p k' p' b b' e =
    let places : p ≡ p' = omega (arith, e, b.2, b'.2) in
    let numbers : k ≡ k' = omega (arith, e, b.2, b'.2) in
    ap₂ f numbers places

pub checks_apart : (v w : Verdict) → FitsVerdict v → FitsVerdict w → code_of v ≡ code_of w → bare v ≡ bare w
checks_apart (accepted F N) (accepted G O) b b' e = refl
checks_apart (accepted F N) (refused k p) b b' e = absurd (omega (arith, e, b'.0))
checks_apart (refused k p) (accepted F N) b b' e = absurd (omega (arith, e, b.0))
checks_apart (refused k p) (refused k' p') b b' e = same_refusal refused k p k' p' b b' (ap (λ c. 8589934592 + c) e)

pub starts_apart : (x y : Started) → FitsVerdict (verdict_of_start x) → FitsVerdict (verdict_of_start y) → start_code x ≡ start_code y
    → verdict_of_start x ≡ verdict_of_start y
starts_apart (started s) (started u) b b' e = refl
starts_apart (started s) (turned k p) b b' e = absurd (omega (arith, e))
starts_apart (turned k p) (started s) b b' e = absurd (omega (arith, e))
starts_apart (turned k p) (turned k' p') b b' e = same_refusal refused k p k' p' b b' e

-- a record's three numbers stand apart in one
high : (a x b y : ℕ) → x < 16777216 → y < 16777216 → a * 16777216 + x ≡ b * 16777216 + y → (a ≡ b) × (x ≡ y)
high a x b y p q e = (omega arith, omega arith)

low : (a x b y : ℕ) → x < 65536 → y < 65536 → a * 65536 + x ≡ b * 65536 + y → (a ≡ b) × (x ≡ y)
low a x b y p q e = (omega arith, omega arith)

same_record : (r r' : Record) → FitsItem (item r) → FitsItem (item r') → record_code r ≡ record_code r' → r ≡ r'
same_record r r' b b' e =
    let h = high r.callee.0 _ r'.callee.0 _ (omega (arith, b.1, b.2)) (omega (arith, b'.1, b'.2)) e in
    let l = low r.caller.0 _ r'.caller.0 _ b.2 b'.2 h.1 in
    λ i. record { callee = record { 0 = h.0 i }; caller = record { 0 = l.0 i }; node = record { 0 = l.1 i } }

pub counts_apart : (c d : Counts) → FitsCounts c → FitsCounts d → counts_code c ≡ counts_code d → c ≡ d
counts_apart c d b b' e =
    let p = low c.low c.high d.low d.high b.1 b'.1 e in
    λ i. record { low = p.0 i; high = p.1 i }

pub items_apart : (a b : Item) → FitsItem a → FitsItem b → item_code a ≡ item_code b → a ≡ b
items_apart (item r) (item r') b b' e = ap item (same_record r r' b b' (omega (arith, e)))
items_apart (item r) past b b' e = absurd (omega (arith, e))
items_apart (item r) (unlisted k p) b b' e = absurd (omega (arith, e, b.0, b.1, b.2))
items_apart past (item r) b b' e = absurd (omega (arith, e))
items_apart past past b b' e = refl
items_apart past (unlisted k p) b b' e = absurd (omega (arith, e))
items_apart (unlisted k p) (item r) b b' e = absurd (omega (arith, e, b'.0, b'.1, b'.2))
items_apart (unlisted k p) past b b' e = absurd (omega (arith, e))
items_apart (unlisted k p) (unlisted k' p') b b' e = same_refusal unlisted k p k' p' b b' e

pub extents_apart : (a b : Extent) → FitsExtent a → FitsExtent b → extent_code a ≡ extent_code b → a ≡ b
extents_apart (bytes n) (bytes m) b b' e = ap bytes (omega (arith, e))
extents_apart (bytes n) (unprinted k p) b b' e = absurd (omega (arith, e, b))
extents_apart (unprinted k p) (bytes n) b b' e = absurd (omega (arith, e, b'))
extents_apart (unprinted k p) (unprinted k' p') b b' e = same_refusal unprinted k p k' p' b b' e

pub replies_apart : (r r' : Reply) → FitsReply r → FitsReply r' → reply_code r ≡ reply_code r' → r ≡ r'
replies_apart taken taken b b' e = refl
replies_apart taken (answered v) b b' e = absurd (omega (arith, e))
replies_apart taken (denied k p) b b' e = absurd (omega (arith, e))
replies_apart (answered v) taken b b' e = absurd (omega (arith, e))
replies_apart (answered v) (answered w) b b' e = ap answered (omega (arith, e))
replies_apart (answered v) (denied k p) b b' e = absurd (omega (arith, e, b))
replies_apart (denied k p) taken b b' e = absurd (omega (arith, e))
replies_apart (denied k p) (answered v) b b' e = absurd (omega (arith, e, b'))
replies_apart (denied k p) (denied k' p') b b' e = same_refusal denied k p k' p' b b' e

pub founds_apart : (r r' : Found) → FitsFound r → FitsFound r' → found_code r ≡ found_code r' → r ≡ r'
founds_apart nothing nothing b b' e = refl
founds_apart nothing (names n) b b' e = absurd (omega (arith, e))
founds_apart nothing (unasked k p) b b' e = absurd (omega (arith, e))
founds_apart (names n) nothing b b' e = absurd (omega (arith, e))
founds_apart (names n) (names m) b b' e = ap names (omega (arith, e))
founds_apart (names n) (unasked k p) b b' e = absurd (omega (arith, e, b))
founds_apart (unasked k p) nothing b b' e = absurd (omega (arith, e))
founds_apart (unasked k p) (names n) b b' e = absurd (omega (arith, e, b'))
founds_apart (unasked k p) (unasked k' p') b b' e = same_refusal unasked k p k' p' b b' e

pub halts_apart : (r r' : Halt) → FitsHalt r → FitsHalt r' → halt_code r ≡ halt_code r' → r ≡ r'
halts_apart whole whole b b' e = refl
halts_apart whole (stopped k p) b b' e = absurd (omega (arith, e))
halts_apart (stopped k p) whole b b' e = absurd (omega (arith, e))
halts_apart (stopped k p) (stopped k' p') b b' e = same_refusal stopped k p k' p' b b' e

pub ends_apart : (r r' : Ended) → FitsEnded r → FitsEnded r' → ended_code r ≡ ended_code r' → r ≡ r'
ends_apart at_rest at_rest b b' e = refl
ends_apart at_rest (gave v) b b' e = absurd (omega (arith, e))
ends_apart at_rest spent b b' e = absurd (omega (arith, e))
ends_apart at_rest (barred k p) b b' e = absurd (omega (arith, e))
ends_apart (gave v) at_rest b b' e = absurd (omega (arith, e))
ends_apart (gave v) (gave w) b b' e = ap gave (omega (arith, e))
ends_apart (gave v) spent b b' e = absurd (omega (arith, e, b))
ends_apart (gave v) (barred k p) b b' e = absurd (omega (arith, e, b))
ends_apart spent at_rest b b' e = absurd (omega (arith, e))
ends_apart spent (gave v) b b' e = absurd (omega (arith, e, b'))
ends_apart spent spent b b' e = refl
ends_apart spent (barred k p) b b' e = absurd (omega (arith, e, b'.1, b'.2))
ends_apart (barred k p) at_rest b b' e = absurd (omega (arith, e))
ends_apart (barred k p) (gave v) b b' e = absurd (omega (arith, e, b'))
ends_apart (barred k p) spent b b' e = absurd (omega (arith, e, b.1, b.2))
ends_apart (barred k p) (barred k' p') b b' e = same_refusal barred k p k' p' b b' e
