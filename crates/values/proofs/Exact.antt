-- A binary32 number times a whole number of at most 29 bits is exact in binary64, so the conversion through binary64 rounds the exact value down.
use Rattle.std.proofs.Common.{◌≡◌, ℕ, zero, suc, ◌+◌, ◌-◌, ◌*◌, ◌/◌, ◌%◌, ◌^◌, ◌<◌, ◌≤◌, min, Bool, true, false, cond, ◌&&◌, T, eqb, ltb, leb, ℤ, pos, negsuc, sym, ap, ◌∙◌, subst, inl, inr, le_trans, le_of_eq, lt_of_lt_of_le, le_of_suc-le-suc, lt_irrefl, mul-le-mul_right, eq-zero-or-pos, lt_of_mul-lt-mul_right, mul-le-mul_left, mul-lt-mul_of_pos_right, mul-pos, one-mul, lt_of_not-le, zero-mul, mul-one, mul_right_comm, arith, lit≤, eqb→eq, ltb→lt, leb→le, pow_pos, pow-add, ne_eqb}
use native.Mathlib.Nat.{div-div-eq-div-mul, zero-div}
use lib.Pow.{pow-lt}
use Rattle.std.proofs.lemmas.Nat.{le-div}
use lib.Ieee.{Float, nan, inf, fin, binary32, binary64, up, down, unlike, round, mul, of_int, to_unsigned, fits}
use lib.Ieee.Digits.{back}
use lib.Ieee.Fits.{down_pos, up_pos, and_l, and_r}
use lib.Ieee.Exact.{HasValue, round_exact}
use lib.Ieee.Nearest.{div_same}
use lib.Ieee.Scale.{round_same}
use lib.Ieee.Back.{round_whole}
use Rattle.values.specs.Steps.{rounded_down}

-- ---- the product is exact

exponent_le : (k l : ℕ) → 2 ^ k ≤ 2 ^ l → k ≤ l
exponent_le k l h = le_of_suc-le-suc (lt_of_not-le (λ (g : suc l ≤ k). lt_irrefl (2 ^ l) (lt_of_lt_of_le (pow-lt g) h)))

-- 2 ^ e is a whole multiple 2 ^ j of 2 ^ -l
multiple : (l : ℕ) (e : ℤ) → down e ≤ 2 ^ l → (j : ℕ) × (up e * 2 ^ l ≡ 2 ^ j * down e)
multiple l (pos k) h = (k + l, sym (pow-add 2 k l) ∙ sym (mul-one (2 ^ (k + l))))
multiple l (negsuc k) h =
    (l - suc k, one-mul (2 ^ l) ∙ ap (λ (x : ℕ). 2 ^ x) (sym (back l (suc k) (exponent_le (suc k) l h))) ∙ pow-add 2 (l - suc k) (suc k))

moved : (m u a l t d : ℕ) → u * l ≡ t * d → m * u * a * l ≡ m * a * t * d
moved m u a l t d h = omega (arith, ap (λ (x : ℕ). m * a * x) h)

few_digits : (m a : ℕ) → m < 2 ^ 24 → a ≤ 2 ^ 29 → m * a < 2 ^ 53
few_digits m a M A = omega (arith, mul-le-mul_left m A)

below_product : (x a d : ℕ) → x < 2 ^ 128 * d → a ≤ 2 ^ 29 → x * a < 2 ^ 157 * d
below_product x a d X A = omega (arith, mul-le-mul_left x A)

-- by hand, since omega takes no number of more than 154 digits
in_range : (x a d : ℕ) → x < 2 ^ 128 * d → a ≤ 2 ^ 29 → x * a * 2 ^ 1074 < 2 ^ 2098 * d
in_range x a d X A =
    lt_of_lt_of_le (mul-lt-mul_of_pos_right {k = 2 ^ 1074} (below_product x a d X A) (pow_pos 1074))
    (le_trans (le_of_eq (mul_right_comm (2 ^ 157) d (2 ^ 1074))) (mul-le-mul_right d (lit≤ tt)))

module _ (s : Bool) (m : ℕ) (e : ℤ) (a : ℕ) (M : m < 2 ^ 24) (D : down e ≤ 2 ^ 149) (U : m * up e < 2 ^ 128 * down e) (A : a ≤ 2 ^ 29) where
  exact : HasValue (round binary64 s (m * up e * a) (down e)) s (m * up e * a) (down e)
  exact =
      let p = multiple 1074 e (le_trans D (lit≤ tt)) in
      let same = moved m (up e) a (2 ^ 1074) (2 ^ p.0) (down e) p.1 in
      round_exact binary64 s (m * up e * a) (down e) (m * a) p.0 (down_pos e) (few_digits m a M A)
      (lt_of_mul-lt-mul_right (down e) (subst (λ (x : ℕ). x < 2 ^ 2098 * down e) same (in_range (m * up e) a (down e) U A)))
      same

across : (x d n u g a : ℕ) → n * u * 1 ≡ a * g → x * (n * u) * d ≡ x * a * (d * g)
across x d n u g a h = omega (arith, ap (λ (k : ℕ). x * d * k) h)

product : (s : Bool) (m : ℕ) (e : ℤ) (y : Float) (a : ℕ) → HasValue y false a 1 → mul binary64 (fin s m e) y ≡ round binary64 (unlike s false) (m * up e * a) (down e)
unfolding mul
product s m e nan a v = absurd v
product s m e (inf t) a v = absurd v
product s m e (fin t n d) a v =
    round_same binary64 (unlike s t) (m * up e * (n * up d)) (down e * down d) (m * up e * a) (down e) (mul-pos (down_pos e) (down_pos d)) (down_pos e)
    (across (m * up e) (down e) n (up d) (down d) a v.1)
    ∙ ap (λ (t' : Bool). round binary64 (unlike s t') (m * up e * a) (down e)) v.0

-- ---- its whole part, the division and the largest count

whole_part : (z : Float) (s : Bool) (n d : ℕ) → 0 < d → HasValue z s n d → to_unsigned 64 z ≡ cond s 0 (min (n / d) (2 ^ 64 - 1))
unfolding to_unsigned
whole_part nan s n d D v = absurd v
whole_part (inf t) s n d D v = absurd v
whole_part (fin t m e) s n d D v =
    (λ i. cond (v.0 i) 0 (min (m * up e / down e) (2 ^ 64 - 1)))
    ∙ ap (λ (k : ℕ). cond s 0 (min k (2 ^ 64 - 1))) (div_same (m * up e) (down e) n d (down_pos e) D v.1)

module _ (b : ℕ) (B : 0 < b) (W : b < 2 ^ 32) where
  abbrev count : ℕ → ℕ
  count whole = min (whole / b) (2 ^ 32 - 1)

  beyond : (q : ℕ) → 2 ^ 64 - 1 ≤ q → 2 ^ 32 - 1 ≤ q / b
  beyond q h = le-div (2 ^ 32 - 1) q b B (omega arith)

  capped : (q : ℕ) → count (min q (2 ^ 64 - 1)) ≡ count q
  capped q = elim (eq-zero-or-pos (q - (2 ^ 64 - 1))) [
    | inl z ↦ let h : min q (2 ^ 64 - 1) ≡ q = omega arith in ap count h
    | inr p ↦
        let h : min q (2 ^ 64 - 1) ≡ 2 ^ 64 - 1 = omega arith in
        ap count h ∙ omega (arith, beyond q (omega arith), beyond (2 ^ 64 - 1) (omega arith))
  ]

  none : count 0 ≡ 0
  none = ap (λ (k : ℕ). min k (2 ^ 32 - 1)) (zero-div b)

  module _ (a : ℕ) (P : 0 < a) (A : a ≤ 2 ^ 29) where
    abbrev factor : Float
    factor = of_int binary64 (pos a)

    factor_value : HasValue factor false a 1
    unfolding of_int
    factor_value = round_whole binary64 false a (omega arith)

    finite : (s : Bool) (m : ℕ) (e : ℤ) → m < 2 ^ 24 → down e ≤ 2 ^ 149 → m * up e < 2 ^ 128 * down e → count (to_unsigned 64 (mul binary64 (fin s m e) factor)) ≡ rounded_down a b (fin s m e)
    finite s m e M D U = ap (λ (x : Float). count (to_unsigned 64 x)) (product s m e factor a factor_value) ∙ by_sign s
      where
        by_sign : (s : Bool) → count (to_unsigned 64 (round binary64 (unlike s false) (m * up e * a) (down e))) ≡ rounded_down a b (fin s m e)
        by_sign true = ap count (whole_part _ true _ _ (down_pos e) (exact true m e a M D U A)) ∙ none
        by_sign false =
            ap count (whole_part _ false _ _ (down_pos e) (exact false m e a M D U A))
            ∙ capped (m * up e * a / down e)
            ∙ ap (λ (x : ℕ). min x (2 ^ 32 - 1)) (div-div-eq-div-mul (m * up e * a) (down e) b)

    not_zero : (n u d : ℕ) → n * u * 1 ≡ a * d → 0 < d → n ≡ 0 → ⊥
    not_zero n u d h p z = omega (arith, ap (λ (k : ℕ). k * u) z, mul-pos P p)

    infinite : (s : Bool) (y : Float) → HasValue y false a 1 → count (to_unsigned 64 (mul binary64 (inf s) y)) ≡ rounded_down a b (inf s)
    unfolding mul to_unsigned
    infinite s nan v = absurd v
    infinite s (inf t) v = absurd v
    infinite s (fin t n d) v =
        (λ i. count (to_unsigned 64 (cond (ne_eqb n 0 (not_zero n (up d) (down d) v.1 (down_pos d)) i) nan (inf (unlike s (v.0 i)))))) ∙ by_sign s
      where
        by_sign : (s : Bool) → count (to_unsigned 64 (inf (unlike s false))) ≡ rounded_down a b (inf s)
        by_sign true = none
        by_sign false = omega (arith, beyond (2 ^ 64 - 1) (omega arith))

    pub rounded_down_lem : (x : Float) → T (fits binary32 x) → count (to_unsigned 64 (mul binary64 x factor)) ≡ rounded_down a b x
    unfolding mul to_unsigned fits
    rounded_down_lem nan f = none
    rounded_down_lem (inf s) f = infinite s factor factor_value
    rounded_down_lem (fin s zero e) f =
        finite s 0 e (omega arith) (omega (arith, mul-le-mul_left (down e) (up_pos e), eqb→eq (up e * down e) 1 f)) (omega (arith, zero-mul (up e), down_pos e))
    rounded_down_lem (fin s (suc m) e) f =
        let odd? = eqb (suc m % 2) 1 in
        let few? = ltb (suc m) (2 ^ 24) in
        let low? = leb (down e) (2 ^ 149) in
        let top? = ltb (suc m * up e) (2 ^ 128 * down e) in
        let first = and_l (odd? && few? && low?) top? f in
        finite s (suc m) e
        (ltb→lt (suc m) (2 ^ 24) (and_r odd? few? (and_l (odd? && few?) low? first)))
        (leb→le (down e) (2 ^ 149) (and_r (odd? && few?) low? first))
        (ltb→lt (suc m * up e) (2 ^ 128 * down e) (and_r (odd? && few? && low?) top? f))
