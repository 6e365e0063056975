-- the starred designs of document 01 ("Designs to hold it against"), over the bytes of their tables: what the circuit answers,
-- and the reading's value and count
use Prim.Native.Nat.{ℕ, zero, suc}
use mathlib.Core.Path.{◌≡◌, refl, subst, sym, ap, ◌∙◌}
use mathlib.Core.List.{List, [], ◌∷◌, ◌++◌}
use mathlib.Core.Logic.{inl, inr}
use lib.ListN.{length, replicate}
use Rattle.list.specs.Tags.{tagged, tags_of, none_past, tag_fits, tags_refusal}
use Rattle.list.specs.Tags.{after, check_with, holds_at, missing}
use Rattle.rules.specs.Operations.{last_value, wrap, operate}
use Rattle.rules.specs.Arithmetic.{narrow}
use Rattle.rules.specs.State.{State512, entry, write, register, alter, fill, clear, opened, blank, circuit_start, In, zeros}
use Rattle.rules.specs.Step.{Reply, taken, answered, denied, over, Stepped, circuit_step}
use Rattle.rules.specs.Play.{Ask, asks, noted, played}
use Rattle.rules.specs.Circuit.{started, check_start, start_after, start_of, state_of, circuit_of, step_after, step_of, plays_of}
use Rattle.rules.specs.Circuit.{play_of}
use Rattle.rules.specs.Runs.{stopped, standing, run_from, run_of}
use Rattle.rules.specs.Reading.{ReadsTo}
use Rattle.table.specs.Designs.{twice, pair, mult}
use Rattle.table.proofs.CheckedDesigns.{check_open}
use Rattle.list.proofs.Designs.{list_open}
use Rattle.rules.proofs.Demands.{under_any_tags}

-- the state that a start makes, from one in which nothing is open
abbrev pub from : (t tags args : List ℕ) → State512
from t tags args = state_of (start_of t tags args) zeros

abbrev pub Starts : (t tags args : List ℕ) → Type 0
Starts t tags args = start_of t tags args ≡ started (from t tags args)

-- the answers of steps asked from a start, in order
abbrev pub says : (t tags args ns : List ℕ) → List Reply
says t tags args ns = (play_of t tags (from t tags args) ns).answers

-- k steps taken, and then the answer v
abbrev pub ends : (k v : ℕ) → List Reply
ends k v = replicate k taken ++ answered v ∷ []

-- how many steps were taken, by the answers
abbrev tally : List Reply → ℕ
tally [] = 0
tally (taken ∷ xs) = suc (tally xs)
tally (answered v ∷ xs) = suc (tally xs)
tally (denied k p ∷ xs) = tally xs

length_noted : (x : Reply) (n : ℕ) (ns : List ℕ) (xs : List Reply) → length ns ≡ tally xs → length (noted x n ns) ≡ tally (x ∷ xs)
length_noted taken n ns xs e = ap suc e
length_noted (answered v) n ns xs e = ap suc e
length_noted (denied k p) n ns xs e = e

played_tally : {T : Type 0} (step : T → State512 → ℕ → Stepped) (s : State512) (asked : List (Ask T))
    → length (played step s asked).nodes ≡ tally (played step s asked).answers
played_tally step s [] = refl
played_tally step s (a ∷ rest) =
    let r : Stepped = step a.tags s a.node in
    length_noted r.answer a.node (played step r.state rest).nodes (played step r.state rest).answers
    (played_tally step r.state rest)

tally_ends : (k v : ℕ) → tally (ends k v) ≡ suc k
tally_ends zero v = refl
tally_ends (suc k) v = ap suc (tally_ends k v)

in_ends : (k v : ℕ) → In (answered v) (ends k v)
in_ends zero v = inl refl
in_ends (suc k) v = inr (in_ends k v)

-- what such steps show of the reading
pub reads : (t tags args ns : List ℕ) (k v : ℕ) → Starts t tags args → says t tags args ns ≡ ends k v → ReadsTo t args v (suc k)
unfolding plays_of play_of
reads t tags args ns k v s e =
    subst (ReadsTo t args v) (played_tally (step_of t) (from t tags args) (asks tags ns) ∙ ap tally e ∙ tally_ends k v)
    ((under_any_tags t tags args (from t tags args) s (asks tags ns)).right v
    (subst (In (answered v)) (sym e) (in_ends k v)))

-- what closed evaluation has to see through
unfoldable pub circuit_open : Unit {0}
unfolding list_open check_open tagged none_past tag_fits tags_refusal after check_with holds_at missing check_start start_after start_of
    circuit_of step_after step_of plays_of play_of circuit_step circuit_start over entry write register alter fill clear
    opened blank last_value
    wrap operate narrow standing run_from run_of
circuit_open = tt

-- "f(x)=x; main(x)=f(f(x)) .. argument 9 gives 9 in 9 steps"
abbrev inside_out : List ℕ
inside_out = 2 ∷ 3 ∷ 4 ∷ 3 ∷ 1 ∷ 3 ∷ 2 ∷ 1 ∷ 2 ∷ []

twice_run : says twice (0 ∷ []) (9 ∷ []) inside_out ≡ ends 8 9
unfolding circuit_open
twice_run = refl

twice_reads : ReadsTo twice (9 ∷ []) 9 9
unfolding circuit_open
twice_reads = reads twice (0 ∷ []) (9 ∷ []) inside_out 8 9 refl twice_run

-- "main(x)=beside(f(x), f(x)) .. 12 steps", with the tags {3, 5}
abbrev pub both : List ℕ
both = 0b0001_0100 ∷ []

abbrev one_by_one : List ℕ
one_by_one = 2 ∷ 3 ∷ 4 ∷ 3 ∷ 1 ∷ 3 ∷ 5 ∷ 6 ∷ 5 ∷ 1 ∷ 5 ∷ 2 ∷ []

pair_run : says pair both (9 ∷ []) one_by_one ≡ ends 11 9
unfolding circuit_open
pair_run = refl

pair_reads : ReadsTo pair (9 ∷ []) 9 12
unfolding circuit_open
pair_reads = reads pair both (9 ∷ []) one_by_one 11 9 refl pair_run

-- "Steps 2, 3, 5, 4, 6, 3, then 5: 22 with both tags, 22 with 5 alone, 23 with none or 3 alone": the start has both tags, and so have the
-- first six steps (document 02, Q-7)
abbrev collision : List ℕ → List Reply
collision tags = (plays_of pair (from pair both (9 ∷ [])) (asks both (2 ∷ 3 ∷ 5 ∷ 4 ∷ 6 ∷ 3 ∷ []) ++ asks tags (5 ∷ []))).answers

abbrev six_then : (number : ℕ) → List Reply
six_then number = taken ∷ taken ∷ taken ∷ taken ∷ taken ∷ taken ∷ denied number 5 ∷ []

both_tags : collision both ≡ six_then 22
unfolding circuit_open
both_tags = refl

five_alone : collision (0b0001_0000 ∷ []) ≡ six_then 22
unfolding circuit_open
five_alone = refl

no_tag : collision (0 ∷ []) ≡ six_then 23
unfolding circuit_open
no_tag = refl

three_alone : collision (0b0000_0100 ∷ []) ≡ six_then 23
unfolding circuit_open
three_alone = refl

-- on from there to the answer, and past it: 20 at a node, 12 at 0 and above N
past_answer : says pair (tags_of pair) (9 ∷ []) (2 ∷ 3 ∷ 5 ∷ 4 ∷ 6 ∷ 3 ∷ 5 ∷ 1 ∷ 3 ∷ 5 ∷ 1 ∷ 5 ∷ 2 ∷ 2 ∷ 0 ∷ 7 ∷ [])
    ≡ six_then 22 ++ taken ∷ taken ∷ taken ∷ taken ∷ taken ∷ answered 9 ∷ denied 20 2 ∷ denied 12 0 ∷ denied 12 0 ∷ []
unfolding circuit_open
past_answer = refl

-- a run over a list goes on past the answer into 20, and stops there
run_past : (run_of pair both (from pair both (9 ∷ [])) (one_by_one ++ 2 ∷ 0 ∷ [])).halt ≡ stopped 20 2
unfolding circuit_open
run_past = refl

-- mult: the test, then its last value, or the arguments and the self call
abbrev tested : List ℕ
tested = 1 ∷ 2 ∷ 3 ∷ 4 ∷ 5 ∷ 3 ∷ 6 ∷ 7 ∷ 8 ∷ 6 ∷ 2 ∷ 1 ∷ []

abbrev stops : List ℕ
stops = tested ++ 9 ∷ 1 ∷ []

abbrev loops : List ℕ
loops = tested ++ 10 ∷ 11 ∷ 12 ∷ 11 ∷ 13 ∷ 14 ∷ 13 ∷ 15 ∷ 16 ∷ 17 ∷ 16 ∷ 15 ∷ 18 ∷ 19 ∷ 20 ∷ 18 ∷ 15 ∷ 10 ∷ []

abbrev untagged : List ℕ
untagged = 0 ∷ 0 ∷ 0 ∷ []

-- "(3, 0, 7) gives 7 in 14 steps"
stops_run : says mult untagged (3 ∷ 0 ∷ 7 ∷ []) stops ≡ ends 13 7
unfolding circuit_open
stops_run = refl

stops_reads : ReadsTo mult (3 ∷ 0 ∷ 7 ∷ []) 7 14
unfolding circuit_open
stops_reads = reads mult untagged (3 ∷ 0 ∷ 7 ∷ []) stops 13 7 refl stops_run

-- "(5, 1, 0) gives 5 in 44"
loops_run : says mult untagged (5 ∷ 1 ∷ 0 ∷ []) (loops ++ stops) ≡ ends 43 5
unfolding circuit_open
loops_run = refl

loops_reads : ReadsTo mult (5 ∷ 1 ∷ 0 ∷ []) 5 44
unfolding circuit_open
loops_reads = reads mult untagged (5 ∷ 1 ∷ 0 ∷ []) (loops ++ stops) 43 5 refl loops_run
