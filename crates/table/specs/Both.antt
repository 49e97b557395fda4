-- What there is for the voltage and for the current.
use Rattle.std.specs.Prelude.{Bool, Float}
use Rattle.table.specs.declared.records.Both.{Both}

abbrev pub Amounts : Type 0
Amounts = Both Float

abbrev pub Flags : Type 0
Flags = Both Bool
