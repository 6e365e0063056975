-- the table of what was decoded
use Rattle.std.specs.Prelude.{ℕ, List}
use Rattle.table.specs.declared.decoded.Decoded.{Decoded}

abbrev pub bytes : Decoded → List ℕ
bytes d = d.table.now
