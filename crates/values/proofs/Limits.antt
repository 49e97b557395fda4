-- A stored maximum is within 0 to 100 per cent, so its limit is at most 100,000 steps.
use Rattle.std.proofs.Common.{◌≡◌, ◌≤◌, Bool, true, false, cond, T, sym, refl, subst}
use lib.Ieee.{Float, le, of_bits}
use Rattle.values.specs.Steps.{limit_steps}
use Rattle.values.specs.Ranges.{zero, percent_admitted, stored_maximum}
use Rattle.values.proofs.Last.{limit_last}

by_test : (x : Float) (b : Bool) → percent_admitted x ≡ b → T (percent_admitted (cond b x zero))
unfolding le of_bits
by_test x true e = subst T (sym e) tt
by_test x false e = tt

pub stored_admitted : (x : Float) → T (percent_admitted (stored_maximum x))
stored_admitted x = by_test x (percent_admitted x) refl

pub limit_steps_stored : (x : Float) → limit_steps (stored_maximum x) ≤ 100000
limit_steps_stored x = (limit_last (stored_maximum x) (limit_steps (stored_maximum x)) refl (stored_admitted x)).at_most

pub limit_steps_of_stored : (x r : Float) → r ≡ stored_maximum x → limit_steps r ≤ 100000
limit_steps_of_stored x r e = subst (λ (y : Float). limit_steps y ≤ 100000) (sym e) (limit_steps_stored x)
