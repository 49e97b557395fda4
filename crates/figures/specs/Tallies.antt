-- A count that has reached what 64 bits hold stays there.
use Rattle.std.specs.Prelude.{ℕ, ◌+◌, ◌-◌, ◌^◌, min, Bool, true, false}
use Rattle.figures.specs.declared.tally.Tally.{Tally}

abbrev pub next : ℕ → ℕ
next n = min (n + 1) (2 ^ 64 - 1)

abbrev pub counted : Tally → Bool → Tally
counted t true = record { right = next t.right; wrong = t.wrong }
counted t false = record { right = t.right; wrong = next t.wrong }
