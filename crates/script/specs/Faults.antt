-- A bad line: its number, and what is wrong with it.
use Rattle.std.specs.Prelude.{◌≡◌, ℕ, ◌+◌, List, take, Ok, Err, Result, ◌==◌}
use Rattle.std.specs.List.{count_by}
use Rattle.std.specs.Str.{IsValidUpTo}
use Rattle.script.specs.declared.fault.ScriptFault.{ScriptFault}
use Rattle.script.specs.declared.fault.Wrong.{Wrong}
use Rattle.script.specs.declared.fault.Wrong.TheVariants.{NoMemory, NotText}

abbrev pub bad_line : ℕ → Wrong → ScriptFault
bad_line n w = record { line = n; wrong = w }

abbrev pub at_line : {T : Type 0} → ℕ → Result T Wrong → Result T ScriptFault
at_line n (Ok x) = Ok x
at_line n (Err w) = Err (bad_line n w)

abbrev pub out_of_memory : Wrong
out_of_memory = NoMemory

abbrev pub not_text : Wrong
not_text = NotText

-- how many newlines are among some bytes
abbrev pub newlines : List ℕ → ℕ
newlines bs = count_by (λ b. b == 10) bs

-- the line of the byte at n, counted from 1
abbrev pub line_of : List ℕ → ℕ → ℕ
line_of bs n = newlines (take n bs) + 1

-- the fault of bytes that are not UTF-8, of which the first n are: it names the line of the first that is not
abbrev pub NotTextAt : List ℕ → ScriptFault → Type 0
NotTextAt bs f = (n : ℕ) × IsValidUpTo bs n × (f ≡ bad_line (line_of bs n) NotText)
