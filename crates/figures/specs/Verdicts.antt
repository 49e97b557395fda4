-- When an outcome is right.
use Rattle.std.specs.Prelude.{◌≡◌, Ok, Err, Result, ◌≢◌}
use Rattle.figures.specs.declared.figure.Outcome.{Outcome}

-- right exactly if what came is what is expected; else the error is what came
abbrev pub Judged : Outcome → Outcome → Result Unit Outcome → Type 0
Judged came expected (Ok u) = came ≡ expected
Judged came expected (Err shown) = (shown ≡ came) × (came ≢ expected)
