-- `moves::begun` meets its contract, by whether the node is in first phase and has children.
use Rattle.std.proofs.Common.{◌≡◌, ℕ, false, eqb, sym, refl, ap, ◌∙◌, arith}
use Rattle.table.specs.Bytes.{first}
use Rattle.table.proofs.Reading.{told}
use Rattle.list.specs.Working.{packed, Bit}
use Rattle.rules.specs.State.{entry}
use Rattle.rules.specs.Sets.{Stays}
use Rattle.circuit.specs.declared.plan.Plan.{Plan}
use Rattle.circuit.specs.declared.sets.Sets.{Sets as SetsCode}
use Rattle.circuit.specs.Packed.{unpacked}
use Rattle.circuit.specs.Following.{Carries}
use Rattle.circuit.proofs.SortLaws.{is_yes}
use Rattle.circuit.proofs.ChainLaws.{ok}
use Rattle.circuit.proofs.FollowLaws.{begins_so, follows_anew}
use Rattle.circuit.proofs.NextLaws.{fresh_so, begun_self, begun_child, fresh_waiting, fresh_places}
use Rattle.circuit.proofs.TrackLaws.{marked_here, marked_other}
use Rattle.circuit.proofs.UpdateLaws.{node_bit}
use Rattle.circuit.proofs.moves.begun.Goals as goal
use Rattle.circuit.proofs.moves.begun.Lts as lts
use Rattle.circuit.proofs.moves.begun.Reads as reads
use Rattle.circuit.proofs.moves.begun.Tie as tie

abbrev Start : Type 0
Start = lts.Start tie.the-claims reads.Pre reads.Post

abbrev Then1 : Type 0
Then1 = lts.Then1 tie.the-claims reads.Pre reads.Post

-- the sets are those of the state after the move
abbrev Next : Start → SetsCode → Type 0
Next s y = Carries s.args.design.now.table.now s.args.n.0 Plan.Begins s.args.status.now s.args.second.now s.args.value.now
    (unpacked s.args.sets.now)
    (unpacked y)

-- in first phase, with children
fresh : (c : Then1) → (entry c.args.second.now false c.args.n.0 ≡ false)
    × (first c.args.design.now.table.now c.args.n.0 ≡ 0 → ⊥)
fresh c =
    fresh_so _ _ _ _ c.is_fresh.ensures c.if-is_fresh.true

pub mark-requires : goal.mark-requires
mark-requires c = node_bit _ c.args.design.now.read.taken _ c.requires.0

pub overflow_add-n : goal.overflow_add-n
overflow_add-n c = omega (arith, c.requires.0.1, (ok _ c.args.design.now.read.taken).n_high)

-- what the code makes of the sets, where the node waits for its children: it is in none of them
abbrev Marked : Type 0
Marked = lts.After-mark tie.the-claims reads.Pre reads.Post

others : (c : Marked) → (m : ℕ) → Bit m → (m ≡ c.args.n.0 → ⊥)
    → Stays (unpacked c.arm.new.sets) (unpacked (record c.arm.new.sets { armed = c.mark.new.set })) m
others c m b d = (marked_other _ false _ _ c.mark.ensures m b d, refl, refl)

kept : (c : Marked) → (m : ℕ) → packed c.arm.new.sets.held m ≡ packed c.args.sets.now.held m
kept c m = ap (λ l. packed l m) c.arm.ensures.1

off : (c : Marked) → packed c.mark.new.set c.args.n.0 ≡ false
off c = marked_here _ (node_bit _ c.args.design.now.read.taken _ c.requires.0) false _ _ c.mark.ensures

abbrev start : Marked → Start
start c = (search)

tracks : (c : Marked) → Next (start c) (record c.arm.new.sets { armed = c.mark.new.set })
tracks c d e s₀ sized q eq tr =
    let fair = c.args.design.now.read.taken in
    follows_anew _ fair _ c.requires.0 _ s₀ sized q _ eq _ _ tr _ (begins_so _ fair _ _ _ c.requires.1 c.arm.ensures.0 (kept c))
    c.requires.0 _ refl
    (fresh_places _ fair _ c.requires.0 (fresh (search)).1 s₀ sized q _ eq (fresh (search)).0 _ _ tr c.arm.ensures.0 _ (off c) refl refl
    (others c))

pub returns-then-c-n : goal.returns-then-c-n
returns-then-c-n c = let fair = c.args.design.now.read.taken in
    let read : c.first-c.result.0 ≡ first c.args.design.now.table.now c.args.n.0 =
    told _ _ c.args.design.now.read _ c.requires.0 4 _ (omega arith) c.first-c.ensures in
    λ d e s₀ sized q eq tr. (
      tracks (search) d e s₀ sized q eq tr,
      (
        begun_child _ fair _ c.requires.0 _ _ _ c.requires.2 c.arm.ensures.0 (others (search)) (kept (search)) (fresh (search)).1
            (off (search))
            (fresh_waiting _ fair _ c.requires.0 (fresh (search)).1 s₀ sized q _ eq (fresh (search)).0 _ _ tr c.arm.ensures.0)
            _ read c.if-c-n.true,
        omega (arith, c.if-c-n.true),
      ),
    )

pub returns-then-is_fresh : goal.returns-then-is_fresh
returns-then-is_fresh c = λ d e s₀ sized q eq tr. (tracks (search) d e s₀ sized q eq tr, tt)

-- .. where it is read anew
abbrev Anew : Type 0
Anew = lts.After-read_anew tie.the-claims reads.Pre reads.Post

abbrev start_anew : Anew → Start
start_anew c = (search)

anew : (c : Anew) → Next (start_anew c) c.read_anew-k.new.sets
anew c d e s₀ sized q eq tr =
    let fair = c.args.design.now.read.taken in
    follows_anew _ fair _ c.requires.0 _ s₀ sized q _ eq _ _ tr _
    (begins_so _ fair _ _ _ c.requires.1 c.arm.ensures.0 (λ m. ap (λ l. packed l m) c.arm.ensures.1)) c.requires.0 _
    (ap packed c.read_anew-k.ensures.2) (c.read_anew-k.ensures.1 d e)

pub returns-then-eq : goal.returns-then-eq
returns-then-eq c = let fair = c.args.design.now.read.taken in
    λ d e s₀ sized q eq tr. let z = c.read_anew-k.ensures.1 d e in (
      anew (search) d e s₀ sized q eq tr,
      (
        begun_self _ fair _ c.requires.0 _ _ _ c.requires.2 c.arm.ensures.0 z.others
            (λ m. ap (λ l. packed l m) (c.read_anew-k.ensures.2 ∙ c.arm.ensures.1))
            (z.here.0 ∙ ap (λ k. eqb k 2) (sym (c.read_anew-k.ensures.0 d e)) ∙ sym (is_yes _) ∙ sym c.eq.ensures ∙ c.if-eq.true),
        c.requires.0.0,
      ),
    )

pub returns : goal.returns
returns c = λ d e s₀ sized q eq tr. (anew (search) d e s₀ sized q eq tr, tt)
