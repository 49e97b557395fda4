use Rattle.std.proofs.Common.{◌≡◌, ℕ, List, take, Bor}
use Rattle.std.proofs.lemmas.Iterator.{YieldsList}
use Rattle.script.specs.Words.{words_of}
use Rattle.script.proofs.words.Words.of.Given as goal

abbrev pub invariant-loop-word : goal.invariant-loop-word
invariant-loop-word l =
    (take l.words.count l.words.list ≡ l.yielded)
    × YieldsList (goal.iterator-loop-word).next_gives (λ (w : Bor (List ℕ)). w.now) l.initial.word-iterator (words_of l.line)
