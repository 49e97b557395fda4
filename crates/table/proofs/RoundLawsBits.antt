-- No bit of a word is lost where others are added.
use Rattle.std.proofs.Common.{◌≡◌, ℕ, sym, ap, ◌∙◌}
use lib.Bits.{bit_and, bit_or, and_self, or_comm}
use Rattle.std.proofs.lemmas.Nat.{and_assoc, and_comm, and_or_self}
use Rattle.table.specs.RoundLaws.{Kept}

pub kept_or : (x y z : ℕ) → Kept x y → Kept x (bit_or y z)
kept_or x y z h =
    let absorbs : bit_and y (bit_or y z) ≡ y = and_comm y (bit_or y z) ∙ ap (λ (n : ℕ). bit_and n y) (or_comm y z) ∙ and_or_self y z in
    ap (λ (n : ℕ). bit_and n (bit_or y z)) (sym h) ∙ and_assoc (bit_or y z) x y ∙ ap (bit_and x) absorbs ∙ h

pub kept_self : (x : ℕ) → Kept x x
kept_self x = and_self x
