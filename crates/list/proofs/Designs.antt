-- the arbiter lists of document 01's designs, as tag bytes and as records
use Rattle.std.proofs.Common.{◌≡◌, ℕ, [], ◌∷◌, refl}
use Rattle.table.specs.Designs.{twice, pair, layered, fir}
use Rattle.table.proofs.CheckedDesigns.{syntax_open}
use Rattle.list.specs.declared.Record.{Record}
use Rattle.list.specs.Arbiters.{no_calls, joined, any_up_to, calls_in, meeting, parallel, conflicts, calls_of, reached_in}
use Rattle.list.specs.Arbiters.{listed_in}
use Rattle.list.specs.Tags.{is_call, callee_of, listed, bits_from, bytes_from, tag_length, tags_of}
use Rattle.list.specs.Records.{calls_from, records_from, records_of}

-- what closed evaluation has to see through
unfoldable pub list_open : Unit {0}
unfolding syntax_open no_calls joined any_up_to calls_in meeting parallel conflicts calls_of reached_in listed_in is_call
    callee_of listed bits_from
    bytes_from tag_length tags_of calls_from records_from records_of
list_open = tt

-- f(f(x)): empty
pub twice_list : tags_of twice ≡ 0b0000_0000 ∷ []
unfolding list_open
twice_list = refl

-- beside(f(x), f(x)): {3, 5}
pub pair_list : tags_of pair ≡ 0b0001_0100 ∷ []
unfolding list_open
pair_list = refl

-- main beside: {2, 5, 7}
pub layered_list : tags_of layered ≡ 0b0101_0010 ∷ []
unfolding list_open
layered_list = refl

-- and its records: callee, caller's function, node
abbrev entry : (callee caller node : ℕ) → Record
entry g f n = record { callee = record { 0 = g }; caller = record { 0 = f }; node = record { 0 = n } }

pub layered_records : records_of layered ≡ entry 1 2 2 ∷ entry 2 3 5 ∷ entry 2 3 7 ∷ []
unfolding list_open
layered_records = refl

-- the FIR shape of section 5.1: empty
pub fir_list : tags_of fir ≡ 0 ∷ 0 ∷ 0 ∷ 0 ∷ 0 ∷ []
unfolding list_open
fir_list = refl
