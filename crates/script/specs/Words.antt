-- How a line is cut into words.
use Rattle.std.specs.Prelude.{ℕ, not, List, map, length, take, filter, ◌==◌}
use Rattle.std.specs.Borrow.{Bor}
use Rattle.std.specs.List.{before_first, flat_map, slice_split}

-- the bytes of some words
abbrev pub spelt : List (Bor (List ℕ)) → List (List ℕ)
spelt ws = map (λ w. w.now) ws

-- a comment begins at the first #
abbrev pub before_comment : List ℕ → List ℕ
before_comment line = before_first (λ b. b == 35) line

-- what stands between spaces and tabs
abbrev pub pieces : List ℕ → List (List ℕ)
pieces text = flat_map (slice_split (λ b. b == 9)) (slice_split (λ b. b == 32) text)

-- the words of a line stand between spaces and tabs, before its comment; the first eight are kept
abbrev pub words_of : List ℕ → List (List ℕ)
words_of line = take 8 (filter (λ w. not (length w == 0)) (pieces (before_comment line)))
