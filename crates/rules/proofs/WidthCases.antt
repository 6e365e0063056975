-- widths over the bytes of small tables: what the circuit answers, and the reading's value and count
use mathlib.Core.Path.{◌≡◌, refl}
use mathlib.Core.List.{List, [], ◌∷◌, ◌++◌}
use Prim.Native.Nat.{ℕ}
use Rattle.rules.specs.State.{State512, entry, register, write, fill}
use Rattle.rules.specs.Step.{taken}
use Rattle.rules.specs.Circuit.{step_of}
use Rattle.rules.specs.Reading.{ReadsTo}
use Rattle.rules.specs.WidthDesigns.{binary, passing, halving, doubling, counting}
use Rattle.rules.proofs.Cases.{circuit_open, from, says, ends, reads}

-- both operands, then the result
abbrev in_order : List ℕ
in_order = 1 ∷ 2 ∷ 3 ∷ 1 ∷ []

-- 4 bits: 9 + 9 gives 2
adds : says (binary 4 0) (0 ∷ []) (9 ∷ 9 ∷ []) in_order ≡ ends 3 2
unfolding circuit_open
adds = refl

adds_reads : ReadsTo (binary 4 0) (9 ∷ 9 ∷ []) 2 4
unfolding circuit_open
adds_reads = reads (binary 4 0) (0 ∷ []) (9 ∷ 9 ∷ []) in_order 3 2 refl adds

-- 0 - 1 gives 15
subtracts : says (binary 4 1) (0 ∷ []) (0 ∷ 1 ∷ []) in_order ≡ ends 3 15
unfolding circuit_open
subtracts = refl

subtracts_reads : ReadsTo (binary 4 1) (0 ∷ 1 ∷ []) 15 4
unfolding circuit_open
subtracts_reads = reads (binary 4 1) (0 ∷ []) (0 ∷ 1 ∷ []) in_order 3 15 refl subtracts

-- main's arguments are reduced at the start: in 4 bits 25 is 9, which is less than 10; with the bytes 0 and 32 it is not
starting : (says (binary 4 9) (0 ∷ []) (25 ∷ 10 ∷ []) in_order ≡ ends 3 1) × (says (binary 0 9) (0 ∷ []) (25 ∷ 10 ∷ []) in_order ≡ ends 3 0)
    × (says (binary 32 9) (0 ∷ []) (25 ∷ 10 ∷ []) in_order ≡ ends 3 0)
unfolding circuit_open
starting = (refl, refl, refl)

starting_reads : ReadsTo (binary 4 9) (25 ∷ 10 ∷ []) 1 4
unfolding circuit_open
starting_reads = reads (binary 4 9) (0 ∷ []) (25 ∷ 10 ∷ []) in_order 3 1 refl starting.0

-- the argument, the callee's parameter, and out
abbrev through : List ℕ
through = 2 ∷ 3 ∷ 2 ∷ 1 ∷ 2 ∷ []

-- a 32-bit caller of a 4-bit function: 25 arrives as 9
wide_caller : says (passing 4 0) (0 ∷ []) (25 ∷ []) through ≡ ends 4 9
unfolding circuit_open
wide_caller = refl

wide_caller_reads : ReadsTo (passing 4 0) (25 ∷ []) 9 5
unfolding circuit_open
wide_caller_reads = reads (passing 4 0) (0 ∷ []) (25 ∷ []) through 4 9 refl wide_caller

-- reduced before the callee's body and not after it: half of 2 * 25 is 9 in 5 bits, of which 50 is 18
abbrev half_way : List ℕ
half_way = 3 ∷ 4 ∷ 5 ∷ 6 ∷ 4 ∷ 3 ∷ 1 ∷ 2 ∷ 1 ∷ 3 ∷ []

wide_argument : says (halving 5 0) (0 ∷ []) (25 ∷ []) half_way ≡ ends 9 9
unfolding circuit_open
wide_argument = refl

wide_argument_reads : ReadsTo (halving 5 0) (25 ∷ []) 9 10
unfolding circuit_open
wide_argument_reads = reads (halving 5 0) (0 ∷ []) (25 ∷ []) half_way 9 9 refl wide_argument

-- the argument, the callee's body, and out
abbrev round_about : List ℕ
round_about = 4 ∷ 5 ∷ 4 ∷ 1 ∷ 2 ∷ 3 ∷ 1 ∷ 4 ∷ []

-- a 4-bit caller of a 32-bit function: of the answer 18 it keeps 2
narrow_caller : says (doubling 0 4) (0 ∷ []) (9 ∷ []) round_about ≡ ends 7 2
unfolding circuit_open
narrow_caller = refl

narrow_caller_reads : ReadsTo (doubling 0 4) (9 ∷ []) 2 8
unfolding circuit_open
narrow_caller_reads = reads (doubling 0 4) (0 ∷ []) (9 ∷ []) round_about 7 2 refl narrow_caller

-- a round of the self call, and the one that ends it
abbrev round : List ℕ
round = 1 ∷ 2 ∷ 1 ∷ 3 ∷ 4 ∷ 5 ∷ 6 ∷ 4 ∷ 3 ∷ []

abbrev last_round : List ℕ
last_round = 1 ∷ 2 ∷ 1 ∷ 7 ∷ 1 ∷ []

-- a loop of self calls whose counter wraps: from 14 by 15 to 0
wraps : says (counting 4) (0 ∷ []) (14 ∷ []) (round ++ round ++ last_round) ≡ ends 22 0
unfolding circuit_open
wraps = refl

wraps_reads : ReadsTo (counting 4) (14 ∷ []) 0 23
unfolding circuit_open
wraps_reads = reads (counting 4) (0 ∷ []) (14 ∷ []) (round ++ round ++ last_round) 22 0 refl wraps

-- in states that no start leads to: a self call, its argument done with 25, starts its function again with 9 ..
abbrev waiting : State512
waiting =
    let s : State512 = from (counting 4) (0 ∷ []) (14 ∷ []) in
    record {
      status = write (write s.status 3 2) 4 3;
      second = s.second;
      value = write s.value 4 25;
      registers = s.registers;
      occupant = s.occupant;
    }

again_kept : ((step_of (counting 4) (0 ∷ []) waiting 3).answer ≡ taken)
    × (register (step_of (counting 4) (0 ∷ []) waiting 3).state.registers 1 0 ≡ 9)
unfolding circuit_open
again_kept = (refl, refl)

-- .. and a register that holds 25 passes through a parameter as it is
abbrev wide_register : State512
wide_register =
    let s : State512 = from (counting 4) (0 ∷ []) (14 ∷ []) in
    record {
      status = write s.status 2 1;
      second = s.second;
      value = s.value;
      registers = fill 1 (25 ∷ []) s.registers;
      occupant = s.occupant;
    }

parameter_passes : entry (step_of (counting 4) (0 ∷ []) wide_register 2).state.value 0 2 ≡ 25
unfolding circuit_open
parameter_passes = refl
