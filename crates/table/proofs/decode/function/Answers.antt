-- `decode::function` meets its contract: the record's bytes are put two by two into the function's slot.
use mathlib.Core.Path.{refl}
use Rattle.table.proofs.DecodeLaws.{function_put}
use Rattle.table.proofs.decode.function.Goals as goal

pub returns : goal.returns
returns c = function_put c.args.table.now _ _ c.requires.1 refl _ _ _ _ _ _ c.function_slot-slot.ensures.0 c.put.ensures
    c.two_at.ensures c.put-2.ensures c.two_at-2.ensures
