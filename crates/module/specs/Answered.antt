-- The levels of a stage as a record of twelve.
use Rattle.std.specs.Prelude.{ℕ, ◌-◌, List, ◌++◌, length, replicate}
use Rattle.module.specs.declared.levels.Levels.{Levels}

abbrev pub answered : List ℕ → Levels
answered ls = record { count = length ls; steps = ls ++ replicate (12 - length ls) 0 }
