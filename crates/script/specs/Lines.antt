-- How a text is cut into lines, and what it says line by line.
use Rattle.std.specs.Prelude.{◌≡◌, ℕ, ◌+◌, List, [], ◌∷◌, Ok, Err, Result, MatchResult}
use Rattle.std.specs.Borrow.{Bor}
use Rattle.std.specs.Str.Lines.{lines}
use Rattle.script.specs.declared.fault.ScriptFault.{ScriptFault}
use Rattle.script.specs.declared.fault.Wrong.{Wrong}
use Rattle.script.specs.declared.reader.Script.{Script}
use Rattle.script.specs.Faults.{at_line}
use Rattle.script.specs.Progress.{Progress, Reads, taken, Whole, whole_of, ended}
use Rattle.script.specs.Words.{spelt, words_of}

-- the lines of a text, without the newlines and the carriage returns before them
abbrev pub lines_of : List ℕ → List (List ℕ)
lines_of text = lines text

abbrev pub Keeps : Progress → Result Progress ScriptFault → Type 0
Keeps p (Ok q) = q ≡ p
Keeps p (Err f) = ⊥

-- the line n with the words ws after p: without words it says nothing
abbrev pub LineBy : Progress → ℕ → List (Bor (List ℕ)) → Result Progress ScriptFault → Type 0
LineBy p n [] r = Keeps p r
LineBy p n (w ∷ ws) r = (x : Result Progress Wrong) × Reads x (taken p (w ∷ ws)) × (r ≡ at_line n x)

abbrev pub LineRead : Progress → ℕ → List ℕ → Result Progress ScriptFault → Type 0
LineRead p n line r = (ws : List (Bor (List ℕ))) × (spelt ws ≡ words_of line) × LineBy p n ws r

abbrev pub whole_at : Result Script ScriptFault → Result Whole ScriptFault
whole_at (Ok x) = Ok (whole_of x)
whole_at (Err f) = Err f

-- the lines from n on, after p: each adds what it says, the first that is wrong is the answer, and the script may end after the last
abbrev pub Parses : ℕ → Progress → List (List ℕ) → Result Script ScriptFault → Type 0
Parses n p [] r = whole_at r ≡ at_line n (ended p)
Parses n p (l ∷ ls) r = (x : Result Progress ScriptFault) × LineRead p n l x × MatchResult x (λ q. Parses (n + 1) q ls r) (λ f. r ≡ Err f)
