-- `list_record` meets its contract: by what the check of the table says, then by whether there is a record at the place.
use Rattle.std.proofs.Common.{◌≡◌, ◌<◌, List, map, length, take, get_or, sym, ap, ◌∙◌, arith, rules, length-take, get_or-take}
use Rattle.std.proofs.lemmas.List.{length-map}
use Rattle.list.specs.Records.{no_record}
use Rattle.exports.specs.Codes.{value_code, record_code}
use Rattle.exports.proofs.Records.{few, item_at}
use Rattle.exports.proofs.list_record.Goals as goal
use Rattle.exports.proofs.list_record.Goals.{In-Ok}

length_mapped : {X Y : Type 0} (f : X → Y) (l : List X) (n : _) → length (map f l) ≡ n → length l ≡ n
length_mapped f l n p = sym (length-map l f) ∙ p

-- the list by value has room for 512 records
size : (c : In-Ok) → length c.in-Ok.listing.items ≡ 512
size c = search (rules, length_mapped)

pub shared_ref_as_front-get : goal.shared_ref_as_front-get
shared_ref_as_front-get c = few _ c.in-Ok.listing c.in-Ok.ensures.listing (size (goal.at.shared_ref_as_front-get c).In-Ok)

pub returns-in-Some : goal.returns-in-Some
returns-in-Some c = let l = c.in-Ok.listing in
    let i = c.args.index in
    let inside : i < length (take l.count l.items) = search rules in
    let is : c.in-Some.record.now ≡ get_or (take l.count l.items) i no_record = search rules in
    let below : i < l.count = omega (arith, length-take l.count l.items) in
    item_at _ l c.in-Ok.ensures.listing _ _ (sym c.in-Ok.ensures.told) i _
    (c.record.ensures ∙ ap (λ r. value_code (record_code r)) (is ∙ get_or-take l.count l.items i no_record below)) below
