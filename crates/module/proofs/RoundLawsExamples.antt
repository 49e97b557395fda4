-- The worked examples, by computation.
use Rattle.std.proofs.Common.{◌≡◌, ℕ, ◌*◌, ◌<◌, ◌≤◌, Bool, true, ◌&&◌, eqb, pos, sym, refl, subst, inl, inr, arith}
use lib.Ieee.{binary32, of_bits, of_int, le, lt, sub, mul, div, neg}
use Rattle.std.proofs.lemmas.Bool.{eqb-true, and_parts, cases_eq}
use Rattle.values.specs.Ranges.{stored_maximum}
use Rattle.values.specs.Steps.{limit_steps}
use Rattle.module.specs.RoundLawsExamples.{PercentIsPercent, RisesByHundreds, StopsAtQuarter, FirstRounds}

-- the test f passes at each number below n
abbrev all_below : (ℕ → Bool) → ℕ → Bool
all_below f ℕ.zero = true
all_below f (ℕ.suc n) = f n && all_below f n

each_below : (f : ℕ → Bool) (n k : ℕ) → all_below f n ≡ true → k < n → f k ≡ true
each_below f ℕ.zero k t h = absurd (omega arith)
each_below f (ℕ.suc n) k t h =
    elim (cases_eq k n) [
      | inl e ↦ subst (λ (j : ℕ). f j ≡ true) (sym e) (and_parts (f n) (all_below f n) t).0
      | inr d ↦ each_below f n k (and_parts (f n) (all_below f n) t).1 (omega (arith, d))
    ]

thousands : ℕ → Bool
thousands n = eqb (limit_steps (stored_maximum (of_int binary32 (pos n)))) (n * 1000)

all_thousands : all_below thousands 101 ≡ true
unfolding thousands of_int of_bits le
all_thousands = refl

steps_of : (n : ℕ) → n ≤ 100 → limit_steps (stored_maximum (of_int binary32 (pos n))) ≡ n * 1000
unfolding thousands
steps_of n h = eqb-true (limit_steps (stored_maximum (of_int binary32 (pos n)))) (n * 1000) (each_below thousands 101 n all_thousands (omega arith))

quarter_pattern : of_int binary32 (pos 25) ≡ of_bits binary32 0x41C8_0000
unfolding of_int of_bits
quarter_pattern = refl

pub percent_is_percent : PercentIsPercent
percent_is_percent = record { steps = steps_of; quarter = quarter_pattern }

rises_by_hundreds : (regulates : Bool) → RisesByHundreds regulates
unfolding of_bits le lt sub mul div neg
rises_by_hundreds regulates = record { goal = refl; once = refl; twice = refl }

stops_at_quarter : (regulates : Bool) → StopsAtQuarter regulates (of_bits binary32 0x41C8_0000)
unfolding of_bits le lt sub mul div neg
stops_at_quarter regulates = record { goal = refl; no_status = refl; no_event = refl; arrives = refl; stops = refl }

pub first_rounds : FirstRounds
first_rounds = record { rises = rises_by_hundreds; quarter = stops_at_quarter }
