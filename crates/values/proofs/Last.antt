-- The count of a value between two bounds is the last step that the value reaches.
use Rattle.std.proofs.Common.{◌≡◌, ℕ, ◌+◌, ◌-◌, ◌*◌, ◌/◌, ◌^◌, ◌<◌, ◌≤◌, min, true, false, T, eqb, ℤ, ap, mod-lt, eq-zero-or-pos, mul-pos, arith, lit<, lit≤, eqb→eq}
use native.Mathlib.Nat.{div-add-mod}
use lib.Ieee.{Float, nan, inf, fin, up, down, le, of_bits}
use lib.Ieee.Fits.{down_pos, and_l, and_r}
use Rattle.values.specs.declared.model.Model.{Model}
use Rattle.values.specs.Model.{nominal_volts, nominal_voltage}
use Rattle.values.specs.Steps.{rounded_down, set_steps, limit_steps, ramp_step, LastStep}
use Rattle.values.specs.Ranges.{zero, hundred, lowest_speed, highest_speed, within, voltage_admitted, percent_admitted, speed_admitted}
use Rattle.values.proofs.Nominal.{each_model}
use Rattle.values.proofs.Order.{order_kept}

abbrev NotNegative : Float → Type 0
NotNegative nan = ⊥
NotNegative (inf s) = ⊥
NotNegative (fin true m e) = ⊥
NotNegative (fin false m e) = Unit {0}

no_factor : (k d : ℕ) → 0 < d → k * d ≡ 0 → k ≡ 0
no_factor k d D h = grind (arith, eq-zero-or-pos, mul-pos)

minus_zero : (low : Float) (m : ℕ) (e : ℤ) → NotNegative low → T (le low (fin true m e)) → m * up e ≡ 0
unfolding le
minus_zero nan m e p h = absurd p
minus_zero (inf s) m e p h = absurd p
minus_zero (fin true n d) m e p h = absurd p
minus_zero (fin false n d) m e p h =
    let x = n * up d * down e in
    let y = m * up e * down d in
    let same : y ≡ 0 = omega (arith, eqb→eq x y (and_l (eqb x y) (eqb x 0) h), eqb→eq x 0 (and_r (eqb x y) (eqb x 0) h)) in
    no_factor (m * up e) (down d) (down_pos d) same

no_nan : (high : Float) → T (le nan high) → ⊥
unfolding le
no_nan high h = h

no_minus_infinity : (low : Float) → NotNegative low → T (le low (inf true)) → ⊥
unfolding le
no_minus_infinity nan p h = p
no_minus_infinity (inf s) p h = p
no_minus_infinity (fin true n d) p h = p
no_minus_infinity (fin false n d) p h = h

divided : (x d n : ℕ) → 0 < d → n < 2 ^ 32 - 1 → n ≡ min (x / d) (2 ^ 32 - 1) → (n * d ≤ x) × ((n + 1) * d ≤ x → ⊥)
divided x d n D W e =
    let q = x / d in
    let same : n ≡ q = omega arith in
    let whole : n * d ≡ d * q = omega (arith, ap (λ (k : ℕ). d * k) same) in
    (omega (arith, div-add-mod x d), λ h. omega (arith, div-add-mod x d, mod-lt x D))

module _ (a b first last : ℕ) (B : 0 < b) (W : last < 2 ^ 32 - 1) (low high : Float) (P : NotNegative low) (F : first ≤ rounded_down a b low) (L : rounded_down a b high ≤ last) where
  bounds : (x : Float) (n : ℕ) → n ≡ rounded_down a b x → T (within low x high) → (first ≤ n) × (n ≤ last)
  bounds x n e w =
      let above = order_kept a b low x B (and_l (le low x) (le x high) w) in
      let below = order_kept a b x high B (and_r (le low x) (le x high) w) in
      (omega (arith, e, above, F), omega (arith, e, below, L))

  pub last_step : (x : Float) (n : ℕ) → n ≡ rounded_down a b x → T (within low x high) → LastStep a b first last x n
  last_step nan n e w = absurd (no_nan high (and_r (le low nan) (le nan high) w))
  last_step (inf true) n e w = absurd (no_minus_infinity low P (and_l (le low (inf true)) (le (inf true) high) w))
  last_step (inf false) n e w = absurd (omega (arith, (bounds (inf false) n e w).1))
  last_step (fin true m d) n e w =
      let at = bounds (fin true m d) n e w in
      let z = minus_zero low m d P (and_l (le low (fin true m d)) (le (fin true m d) high) w) in
      record {
        at_least = at.0;
        at_most = at.1;
        reached = omega (arith, ap (λ (k : ℕ). k * b * down d) e, ap (λ (k : ℕ). k * a) z);
        next = λ g. omega (arith, ap (λ (k : ℕ). (k + 1) * b * down d) e, mul-pos B (down_pos d));
      }
  last_step (fin false m d) n e w =
      let at = bounds (fin false m d) n e w in
      let all = divided (m * up d * a) (down d * b) n (mul-pos (down_pos d) B) (omega arith) e in
      record { at_least = at.0; at_most = at.1; reached = omega (arith, all.0); next = λ g. all.1 (omega (arith, g)) }

some_volts : (model : Model) → 0 < nominal_volts model
some_volts = each_model (λ m. 0 < nominal_volts m) (lit< tt) (lit< tt) (lit< tt) (lit< tt) (lit< tt) (lit< tt)

nominal_top : (model : Model) → set_steps model (nominal_voltage model) ≤ 100000
unfolding of_bits
nominal_top = each_model (λ m. set_steps m (nominal_voltage m) ≤ 100000) (lit≤ tt) (lit≤ tt) (lit≤ tt) (lit≤ tt) (lit≤ tt) (lit≤ tt)

pub set_last : (model : Model) (x : Float) (n : ℕ) → n ≡ set_steps model x → T (voltage_admitted model x) → LastStep 100000 (nominal_volts model) 0 100000 x n
unfolding of_bits
set_last model = last_step 100000 (nominal_volts model) 0 100000 (some_volts model) (omega arith) zero (nominal_voltage model) tt (omega arith) (nominal_top model)

pub limit_last : (x : Float) (n : ℕ) → n ≡ limit_steps x → T (percent_admitted x) → LastStep 1000 1 0 100000 x n
unfolding of_bits
limit_last = last_step 1000 1 0 100000 (lit< tt) (omega arith) zero hundred tt (lit≤ tt) (lit≤ tt)

pub ramp_last : (x : Float) (n : ℕ) → n ≡ ramp_step x → T (speed_admitted x) → LastStep 100 1 3 1000 x n
unfolding of_bits
ramp_last = last_step 100 1 3 1000 (lit< tt) (omega arith) lowest_speed highest_speed tt (lit≤ tt) (lit≤ tt)
