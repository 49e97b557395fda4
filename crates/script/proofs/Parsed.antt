-- Lemmas on what a text says line by line.
use Rattle.std.proofs.Common.{◌≡◌, ℕ, ◌+◌, ◌<◌, ◌≤◌, List, [], ◌∷◌, length, get_or, drop, Ok, Err, Result, sym, refl, ap, ◌∙◌, subst, arith, MatchResult, IfErr}
use Rattle.std.specs.Borrow.{Bor}
use Rattle.std.proofs.lemmas.List.{drop_more}
use Rattle.std.proofs.lemmas.List.FromFn.{get_or-enumerate_from, length-enumerate_from}
use Rattle.std.specs.List.{enumerate_from}
use Rattle.script.specs.declared.fault.ScriptFault.{ScriptFault}
use Rattle.script.specs.declared.fault.Wrong.{Wrong}
use Rattle.script.specs.declared.reader.Script.{Script}
use Rattle.script.specs.Faults.{bad_line, at_line}
use Rattle.script.specs.Lines.{LineBy, LineRead, whole_at, Parses}
use Rattle.script.specs.Progress.{Progress, whole_by, ended}

-- where the k-th line is among the numbered lines
numbered : (ls : List (List ℕ)) (k i : ℕ) (l : List ℕ) → (k < length (enumerate_from 0 ls)) × ((i, l) ≡ get_or (enumerate_from 0 ls) k (i, l)) → (k < length ls) × (i ≡ k) × (l ≡ get_or ls k l)
numbered ls k i l turn =
    let below : k < length ls = omega (arith, turn.0, length-enumerate_from 0 ls) in
    let same = turn.1 ∙ get_or-enumerate_from 0 ls k (i, l) below in
    (below, ap (λ (x : ℕ × List ℕ). x.0) same ∙ omega arith, ap (λ (x : ℕ × List ℕ). x.1) same)

-- one line more after the first k
pub line_parsed :
    (ls : List (List ℕ)) (k i : ℕ) (l : List ℕ) → (k < length (enumerate_from 0 ls)) × ((i, l) ≡ get_or (enumerate_from 0 ls) k (i, l)) → (p : Progress) (x : Result Progress ScriptFault) → LineRead p (i + 1) l x
    → (r : Result Script ScriptFault) → MatchResult x (λ q. Parses (k + 1 + 1) q (drop (k + 1) ls) r) (λ f. r ≡ Err f) → Parses (k + 1) p (drop k ls) r
line_parsed ls k i l turn p x read r more =
    let here = numbered ls k i l turn in
    let left : l ∷ drop (k + 1) ls ≡ drop k ls = ap (λ (m : List ℕ). m ∷ drop (k + 1) ls) here.2 ∙ sym (drop_more ls k l here.0) in
    let read_here : LineRead p (k + 1) l x = subst (λ (n : ℕ). LineRead p (n + 1) l x) here.1 read in
    subst (λ (ms : List (List ℕ)). Parses (k + 1) p ms r) left (x, read_here, more)

whole_of : (n : ℕ) (x : Result Script Wrong) → whole_at (at_line n x) ≡ at_line n (whole_by x)
whole_of n (Ok x) = refl
whole_of n (Err w) = refl

pub ends : (n : ℕ) (p : Progress) (x : Result Script Wrong) (r : Result Script ScriptFault) → r ≡ at_line n x → whole_by x ≡ ended p → Parses n p [] r
ends n p x r e f = ap whole_at e ∙ whole_of n x ∙ ap (at_line n) f

-- a fault of the line n names it
fault_line : {T : Type 0} (n : ℕ) (x : Result T Wrong) (f : ScriptFault) (r : Result T ScriptFault) → r ≡ Err f → r ≡ at_line n x → f.line ≡ n
fault_line n (Ok y) f r is e = cc
fault_line n (Err w) f r is e = let same : f ≡ bad_line n w = cc in ap (λ (g : ScriptFault). g.line) same

named_by : (p : Progress) (n : ℕ) (ws : List (Bor (List ℕ))) (f : ScriptFault) → LineBy p n ws (Err f) → f.line ≡ n
named_by p n [] f h = absurd h
named_by p n (w ∷ ws) f h = fault_line n h.0 f (Err f) refl h.2

by_line : (n : ℕ) (p : Progress) (l : List ℕ) (ls : List (List ℕ)) (r : Result Script ScriptFault) → ((q : Progress) → Parses (n + 1) q ls r → IfErr r (λ f. 0 < f.line)) → 1 ≤ n → (x : Result Progress ScriptFault) → LineRead p n l x → MatchResult x (λ q. Parses (n + 1) q ls r) (λ f. r ≡ Err f) → IfErr r (λ f. 0 < f.line)
by_line n p l ls r ih low (Ok q) read k = ih q k
by_line n p l ls r ih low (Err f) read e = subst (λ (s : Result Script ScriptFault). IfErr s (λ g. 0 < g.line)) (sym e) (omega (arith, named_by p n read.0 f read.2))

-- lines are counted from 1
pub parses_numbered : (n : ℕ) (p : Progress) (ls : List (List ℕ)) (r : Result Script ScriptFault) → 1 ≤ n → Parses n p ls r → IfErr r (λ f. 0 < f.line)
parses_numbered n p [] (Ok x) low h = tt
parses_numbered n p [] (Err f) low h = omega (arith, fault_line n (ended p) f (Err f) refl h)
parses_numbered n p (l ∷ ls) r low h = by_line n p l ls r (λ q k. parses_numbered (n + 1) q ls r (omega arith) k) low h.0 h.1 h.2
