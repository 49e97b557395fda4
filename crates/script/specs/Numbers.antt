-- The numbers that the words of a script write.
use Rattle.std.specs.Prelude.{ℕ, ◌-◌, ◌^◌, min, Bool, cond, ◌&&◌, List, length, take, drop, Some, None, codes, Option, ◌==◌, from_bits, nat_le, nat_lt, Float}
use Rattle.std.specs.Float.{binary32}
use Rattle.std.specs.Float.Parse.{parse_float}
use Rattle.std.specs.List.{list_all}
use Rattle.std.specs.Str.{bytes_eq}
use Rattle.std.specs.Option.{option_map}
use Rattle.std.specs.Str.Parse.{digits_value}
use Rattle.std.specs.Char.{digit_value}

abbrev pub digits_only : ℕ → List ℕ → Bool
digits_only radix cs = list_all (λ c. nat_lt (digit_value c) radix) cs

-- one digit or more, and nothing else
abbrev pub numeral : ℕ → List ℕ → Bool
numeral radix cs = digits_only radix cs && nat_lt 0 (length cs)

-- one to four hexadecimal digits
abbrev pub hex_word : List ℕ → Option ℕ
hex_word cs = cond (nat_le (length cs) 4 && numeral 16 cs) (Some (digits_value 16 cs)) None

-- the largest usize
abbrev pub largest : ℕ
largest = 2 ^ 64 - 1

abbrev pub decimal_number : List ℕ → Option ℕ
decimal_number cs = cond (numeral 10 cs) (Some (min (digits_value 10 cs) largest)) None

-- eight hexadecimal digits
abbrev pub bit_pattern : List ℕ → Option ℕ
bit_pattern cs = cond (length cs == 8 && numeral 16 cs) (Some (digits_value 16 cs)) None

-- the bits of a binary32 after `0x`, or the binary32 that decimal text is nearest to
unfoldable pub amount_of : List ℕ → Option Float
amount_of cs = cond (bytes_eq (take 2 cs) (codes "0x")) (option_map (from_bits binary32) (bit_pattern (drop 2 cs))) (parse_float binary32 cs)
