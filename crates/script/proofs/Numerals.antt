-- Lemmas on texts of digits, and on the numbers that they write.
use Rattle.std.proofs.Common.{◌≡◌, ℕ, ◌^◌, ◌<◌, ◌≤◌, min, true, cond, List, [], ◌∷◌, ◌++◌, length, take, drop, codes, from_bits, Some, Ok, Err, Result, sym, refl, ap, ◌∙◌, subst, inl, inr, arith, ltb-true, ne_eqb}
use native.Mathlib.Nat.{pow-le-pow_right, min-eq_left, min-eq_right}
use lib.Ieee.{Float, binary32}
use Rattle.std.proofs.lemmas.Bool.{and_from, and_parts, cases_lt, cond-false, cond-true, eq-eqb, false_from_ne_true, le-leb}
use Rattle.std.proofs.lemmas.Int.Digits.{digits_value-lt}
use Rattle.std.proofs.lemmas.List.{take-append-drop}
use Rattle.std.proofs.lemmas.Slice.Eq.{bytes_eq-Decides}
use Rattle.std.specs.Float.Parse.{IsParseFloatResult, parse_float}
use Rattle.std.specs.Option.{option_map}
use Rattle.std.specs.Result.{OkIff, result_ok, result_unwrap_or}
use Rattle.std.specs.Str.Parse.{AllDigits, IsNumeral, ParsesUnsigned, without_leading_plus, digits_value}
use Rattle.std.specs.Char.{digit_value}
use Rattle.script.specs.Numbers.{digits_only, numeral, largest, hex_word, decimal_number, bit_pattern, amount_of}

digits_from : (radix : ℕ) (cs : List ℕ) → digits_only radix cs ≡ true → AllDigits radix cs
digits_from radix [] e = tt
digits_from radix (c ∷ cs) e = let both = and_parts _ _ e in (ltb-true _ _ both.0, digits_from radix cs both.1)

numeral_from : (radix : ℕ) (cs : List ℕ) → numeral radix cs ≡ true → IsNumeral radix cs
numeral_from radix cs e = let both = and_parts (digits_only radix cs) _ e in (ltb-true 0 (length cs) both.1, digits_from radix cs both.0)

-- a text of digits begins with no plus
plain : (radix : ℕ) (cs : List ℕ) → radix ≤ 36 → numeral radix cs ≡ true → without_leading_plus cs ≡ cs
plain radix [] h e = refl
plain radix (c ∷ cs) h e =
    let low : digit_value c < radix = (numeral_from radix (c ∷ cs) e).1.0 in
    ap (λ (b : _). drop (cond b 1 0) (c ∷ cs)) (ne_eqb c 43 (λ same. let l : 36 < radix = subst (λ (x : ℕ). digit_value x < radix) same low in omega arith))

converted : {E : Type 0} {P : Type 0} {v : ℕ} (r : Result ℕ E) → OkIff r P v → P → result_ok r ≡ Some v
converted (Ok x) h p = ap Some h.1
converted (Err e) h p = absurd (h p)

module _ {E : Type 0} (r : Result ℕ E) (cs : List ℕ) where
  -- what is read of a text of digits, which begins with no plus
  read_plain : (k radix : ℕ) → radix ≤ 36 → numeral radix cs ≡ true → ParsesUnsigned k radix cs r → OkIff r (IsNumeral radix cs × (digits_value radix cs < 2 ^ k)) (digits_value radix cs)
  read_plain k radix h e reads = subst (λ (ds : List ℕ). OkIff r (IsNumeral radix ds × (digits_value radix ds < 2 ^ k)) (digits_value radix ds)) (plain radix cs h e) reads

  hex_fits : (n : ℕ) → numeral 16 cs ≡ true → length cs ≤ n → digits_value 16 cs < 16 ^ n
  hex_fits n e h =
      let less = digits_value-lt 16 cs (numeral_from 16 cs e).1 in
      let more : 16 ^ length cs ≤ 16 ^ n = pow-le-pow_right (omega arith) h in
      omega arith

  pub hex_word_read : ParsesUnsigned 16 16 cs r → numeral 16 cs ≡ true → length cs ≤ 4 → result_ok r ≡ hex_word cs
  hex_word_read reads e h =
      converted r (read_plain 16 16 (omega arith) e reads) (numeral_from 16 cs e, hex_fits 4 e h) ∙ sym (cond-true _ _ _ (and_from _ _ (le-leb (length cs) 4 h) e))

  pub bit_pattern_read : ParsesUnsigned 32 16 cs r → numeral 16 cs ≡ true → length cs ≡ 8 → result_ok r ≡ bit_pattern cs
  bit_pattern_read reads e h =
      converted r (read_plain 32 16 (omega arith) e reads) (numeral_from 16 cs e, hex_fits 8 e (omega arith)) ∙ sym (cond-true _ _ _ (and_from _ _ (eq-eqb (length cs) 8 h) e))

saturated : {E : Type 0} (r : Result ℕ E) (cs : List ℕ) → OkIff r (IsNumeral 10 cs × (digits_value 10 cs < 2 ^ 64)) (digits_value 10 cs) → IsNumeral 10 cs → result_unwrap_or r largest ≡ min (digits_value 10 cs) largest
saturated (Ok x) cs h e = h.1 ∙ sym (min-eq_left (omega (arith, h.0.1)))
saturated (Err f) cs h e =
    sym (min-eq_right (elim (cases_lt (digits_value 10 cs) (2 ^ 64)) [ inl low ↦ absurd (h (e, low)) | inr high ↦ omega arith ]))

pub decimal_read : {E : Type 0} (r : Result ℕ E) (cs : List ℕ) → ParsesUnsigned 64 10 cs r → numeral 10 cs ≡ true → Some (result_unwrap_or r largest) ≡ decimal_number cs
decimal_read r cs reads e =
    ap Some (saturated r cs (read_plain r cs 64 10 (omega arith) e reads) (numeral_from 10 cs e)) ∙ sym (cond-true _ _ _ e)

-- after `0x` a text is read as bits, any other as a decimal number
pub amount_bits : (cs ds : List ℕ) → cs ≡ 48 ∷ 120 ∷ ds → amount_of cs ≡ option_map (from_bits binary32) (bit_pattern ds)
unfolding amount_of
amount_bits cs ds e = ap amount_of e

pub amount_decimal : (cs : List ℕ) → ((ds : List ℕ) → cs ≡ 48 ∷ 120 ∷ ds → ⊥) → amount_of cs ≡ parse_float binary32 cs
unfolding amount_of
amount_decimal cs h =
    cond-false _ _ _ (false_from_ne_true _ (λ e. h (drop 2 cs) (sym (take-append-drop 2 cs) ∙ ap (λ (l : List ℕ). l ++ drop 2 cs) ((bytes_eq-Decides (take 2 cs) (codes "0x")).0 e))))

pub read_decimal : {E : Type 0} (r : Result Float E) (cs : List ℕ) → IsParseFloatResult binary32 cs r → result_ok r ≡ parse_float binary32 cs
read_decimal (Ok x) cs h = sym h
read_decimal (Err e) cs h = sym h
