-- Lemmas on `passing`, for a loop that has come to channel k.
use Rattle.std.proofs.Common.{◌≡◌, ℕ, zero, suc, ◌+◌, ◌*◌, ◌^◌, ◌%◌, ◌<◌, ◌≤◌, min, Bool, true, false, List, [], ◌∷◌, ◌++◌, length, get_or, take, sym, refl, ap, ◌∙◌, ap₂, arith, pow_mono}
use native.Mathlib.Nat.{pow-succ'}
use lib.Bits.{bit_or, or_zero_r}
use Rattle.std.specs.List.{list_any}
use Rattle.std.proofs.Math.Pow.{shl_exact}
use Rattle.std.proofs.lemmas.Grind.{take_at_read}
use Rattle.std.proofs.lemmas.List.{length-take}
use Rattle.std.proofs.lemmas.Bool.{or_parts}
use Rattle.table.specs.declared.records.Channel.{Channel}
use Rattle.table.specs.declared.records.Table.{Table}
use Rattle.table.specs.Changes.{event_passes}
use Rattle.table.specs.Parts.{with_channel_events}
use Rattle.table.specs.Reads.{no_channel}
use Rattle.table.specs.Words.{bit}
use Rattle.table.specs.Writes.{passing, collected}

bit_small : (b : Bool) → bit 1 b ≤ 1
bit_small true = omega arith
bit_small false = omega arith

passing_small : (cs : List Channel) → passing cs < 2 ^ length cs
passing_small [] = omega arith
passing_small (c ∷ cs) = omega (arith, passing_small cs, bit_small (event_passes c), pow-succ' 2 (length cs))

bit_twice : (w : ℕ) (b : Bool) → bit (2 * w) b ≡ bit w b * 2
bit_twice w true = omega arith
bit_twice w false = refl

passing_end : (cs : List Channel) (c : Channel) → passing (cs ++ c ∷ []) ≡ passing cs + bit (2 ^ length cs) (event_passes c)
passing_end [] c = refl
passing_end (a ∷ cs) c =
    omega (arith, passing_end cs c, bit_twice (2 ^ length cs) (event_passes c), ap (λ (w : ℕ). bit w (event_passes c)) (pow-succ' 2 (length cs)))

-- b is whether channel k has an event that passes its mask, and x its bit
module _ (cs : List Channel) (few : length cs ≤ 12) (word k : ℕ) (inv : word ≡ passing (take k cs)) (h : k < length cs) (b : Bool) (x : ℕ) (passes : b ≡ event_passes (get_or cs k no_channel)) (weighs : x ≡ bit ((1 * 2 ^ k) % 65536) b) where
  pub passing_more : word + x ≡ passing (take (k + 1) cs)
  passing_more =
      let more : take (k + 1) cs ≡ take k cs ++ get_or cs k no_channel ∷ [] = (take_at_read cs k no_channel h).1 in
      let len : length (take k cs) ≡ k = length-take k cs ∙ omega arith in
      let weight : (1 * 2 ^ k) % 65536 ≡ 2 ^ length (take k cs) = rw len (shl_exact 1 k 16 (omega arith) (omega arith) ∙ omega arith) in
      ap₂ (λ (n m : ℕ). n + m) inv (weighs ∙ ap₂ (λ (w : ℕ) (e : Bool). bit w e) weight passes)
      ∙ sym (passing_end (take k cs) (get_or cs k no_channel))
      ∙ ap passing (sym more)

  pub passing_fits : word + x < 65536
  passing_fits =
      let l : length (take (k + 1) cs) ≤ 12 = simp length-take (omega arith) in
      omega (arith, passing_more, passing_small (take (k + 1) cs), pow_mono l)

none_passes : (k : ℕ) (cs : List Channel) → list_any event_passes cs ≡ false → passing (take k cs) ≡ 0
none_passes zero cs e = refl
none_passes (suc k) [] e = refl
none_passes (suc k) (c ∷ cs) e =
    let parts = or_parts (event_passes c) (list_any event_passes cs) e in
    ap₂ (λ (n : ℕ) (b : Bool). n * 2 + bit 1 b) (none_passes k cs parts.1) parts.0

-- where no channel has an event that passes its mask, there is nothing to collect
pub nothing_collected : (n : ℕ) (t : Table) → list_any event_passes t.channels ≡ false → collected n t ≡ t
nothing_collected n t e = ap (λ (x : ℕ). with_channel_events t (bit_or t.channel_events x)) (none_passes (min n 12) t.channels e) ∙ ap (with_channel_events t) (or_zero_r t.channel_events)
