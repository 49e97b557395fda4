use Rattle.std.proofs.Common.{ℕ, ◌+◌, List, [], length, drop, None, Result, Bor}
use Rattle.std.proofs.lemmas.Iterator.{YieldsList}
use Rattle.std.specs.List.{enumerate_from}
use Rattle.script.specs.declared.fault.ScriptFault.{ScriptFault}
use Rattle.script.specs.declared.reader.Script.{Script}
use Rattle.script.specs.Lines.{lines_of, Parses}
use Rattle.script.specs.Progress.{progress, nothing}
use Rattle.script.proofs.parsing.parse.Given as goal

abbrev pub invariant-loop-index : goal.invariant-loop-index
invariant-loop-index l =
    ((r : Result Script ScriptFault)
    → Parses (length l.yielded + 1) l.reader (drop (length l.yielded) (lines_of l.text)) r
    → Parses 1 (progress None [] nothing) (lines_of l.text) r)
    × YieldsList (goal.iterator-loop-index).next_gives (λ (p : ℕ × Bor (List ℕ)). (p.0, p.1.now)) l.initial.index-iterator (enumerate_from 0 (lines_of l.text))
