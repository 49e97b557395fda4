use Rattle.std.proofs.Common.{◌≡◌, ℕ, ◌^◌, ◌<◌, Bool, true, false, cond, not, T, sym, refl, ap, ◌∙◌, subst, true≢false, arith}
use lib.Ieee.{Float, nan, inf, fin, binary32, of_bits, to_bits, nan_bits, is_nan, fits}
use lib.Ieee.Bits.{to_bits-of_bits, of_bits-to_bits, nan_bits_is}
use Rattle.values.specs.Words.{pattern, value_of, upper_word, lower_word, SplitJoined}
use Rattle.values.proofs.words.words_return.Goals as goal

split_nan : (x : Float) → is_nan x ≡ true → (upper_word x ≡ 0x7FC0) × (lower_word x ≡ 0)
unfolding to_bits is_nan
split_nan nan e = (refl, refl)
split_nan (inf s) e = absurd (true≢false (sym e))
split_nan (fin s m d) e = absurd (true≢false (sym e))

split_joined : (upper lower : ℕ) → upper < 2 ^ 16 → lower < 2 ^ 16 → SplitJoined upper lower
split_joined upper lower U L = by_kind (nan_bits binary32 (pattern upper lower)) refl
  where
    by_kind : (b : Bool) → nan_bits binary32 (pattern upper lower) ≡ b → (upper_word (value_of upper lower) ≡ cond b 0x7FC0 upper) × (lower_word (value_of upper lower) ≡ cond b 0 lower)
    by_kind true e = split_nan (value_of upper lower) (sym (nan_bits_is binary32 (pattern upper lower)) ∙ e)
    by_kind false e =
        let same : to_bits binary32 (value_of upper lower) ≡ (pattern upper lower) = to_bits-of_bits binary32 (pattern upper lower) (omega arith) (subst (λ (b : Bool). T (not b)) (sym e ∙ nan_bits_is binary32 (pattern upper lower)) tt) in
        (omega (arith, same), omega (arith, same))

joined_split : (x : Float) → T (fits binary32 x) → value_of (upper_word x) (lower_word x) ≡ x
joined_split x f = ap (of_bits binary32) whole ∙ of_bits-to_bits binary32 x f
  where
    whole : pattern (upper_word x) (lower_word x) ≡ to_bits binary32 x
    whole = omega arith

pub returns : goal.returns
returns c = record { split_joined = split_joined; joined_split = joined_split }
