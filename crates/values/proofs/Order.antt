-- A greater value is never fewer steps.
use Rattle.std.proofs.Common.{◌≡◌, ℕ, ◌-◌, ◌*◌, ◌/◌, ◌^◌, ◌<◌, ◌≤◌, min, true, false, ◌&&◌, ◌||◌, T, eqb, ltb, sym, ap, ◌∙◌, subst, inl, inr, mul-le-mul_right, eq-zero-or-pos, mul-pos, zero-mul, arith, eqb→eq}
use native.Mathlib.Nat.{zero-div}
use lib.Ieee.{Float, nan, inf, fin, up, down, le}
use lib.Ieee.Fits.{down_pos, and_r}
use lib.Ieee.Nearest.{div_mono}
use Rattle.std.proofs.lemmas.Grind.{common_steps}
use Rattle.values.specs.Steps.{rounded_down}

no_more : (a b : ℕ) → T (ltb a b || (eqb a b && true)) → a ≤ b
no_more a b t = grind (arith, common_steps)

capped : (p q cap : ℕ) → p ≤ q → min p cap ≤ min q cap
capped p q cap h = omega arith

scaled : (x d y g a b : ℕ) → x * g ≤ y * d → x * a * (g * b) ≤ y * a * (d * b)
scaled x d y g a b h = omega (arith, mul-le-mul_right (a * b) h)

nothing : (x g a c : ℕ) → 0 < g → x * g ≡ 0 → min (x * a / c) (2 ^ 32 - 1) ≤ 0
nothing x g a c G h = elim (eq-zero-or-pos x) [
  | inl z ↦ subst (λ (k : ℕ). min (k / c) (2 ^ 32 - 1) ≤ 0) (sym (ap (λ (k : ℕ). k * a) z ∙ zero-mul a)) (omega (arith, zero-div c))
  | inr p ↦ absurd (omega (arith, mul-pos p G))
]

pub order_kept : (a b : ℕ) (x y : Float) → 0 < b → T (le x y) → rounded_down a b x ≤ rounded_down a b y
unfolding le
order_kept a b nan y B h = absurd h
order_kept a b (inf true) y B h = omega arith
order_kept a b (inf false) nan B h = absurd h
order_kept a b (inf false) (inf true) B h = absurd h
order_kept a b (inf false) (inf false) B h = omega arith
order_kept a b (inf false) (fin t n g) B h = absurd h
order_kept a b (fin true m e) y B h = omega arith
order_kept a b (fin false m e) nan B h = absurd h
order_kept a b (fin false m e) (inf true) B h = absurd h
order_kept a b (fin false m e) (inf false) B h = omega arith
order_kept a b (fin false m e) (fin true n g) B h =
    let x = m * up e * down g in
    nothing (m * up e) (down g) a (down e * b) (down_pos g) (eqb→eq x 0 (and_r (eqb x (n * up g * down e)) (eqb x 0) h))
order_kept a b (fin false m e) (fin false n g) B h =
    capped (m * up e * a / (down e * b)) (n * up g * a / (down g * b)) (2 ^ 32 - 1)
    (div_mono (m * up e * a) (down e * b) (n * up g * a) (down g * b) (mul-pos (down_pos e) B) (mul-pos (down_pos g) B) (scaled (m * up e) (down e) (n * up g) (down g) a b (no_more (m * up e * down g) (n * up g * down e) h)))
