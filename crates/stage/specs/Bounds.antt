-- No level is above the highest: the lemmas that the two stages of this crate cite where they prove that law.
use Rattle.std.specs.Prelude.{ℕ, zero, suc, ◌≤◌, List, [], ◌∷◌, take}
use Rattle.std.proofs.Common.{zero-le, arith}
use Rattle.stage.specs.Levels.{AtMost}
use Rattle.stage.specs.Drops.{minus_each, levels_of}

pub at_most_take : {b : ℕ} (n : ℕ) (xs : List ℕ) → AtMost b xs → AtMost b (take n xs)
at_most_take zero xs h k = zero-le
at_most_take (suc n) [] h k = h k
at_most_take (suc n) (y ∷ ys) h zero = h zero
at_most_take (suc n) (y ∷ ys) h (suc k) = at_most_take n ys (λ j. h (suc j)) k

pub minus_each_at_most : (c : ℕ) (xs : List ℕ) → AtMost c (minus_each c xs)
minus_each_at_most c [] k = zero-le
minus_each_at_most c (x ∷ xs) zero = omega arith
minus_each_at_most c (x ∷ xs) (suc k) = minus_each_at_most c xs k

pub levels_at_most : (n b c : ℕ) (ds : List ℕ) → c ≤ b → AtMost b (levels_of n c ds)
levels_at_most n b c ds l = at_most_take n (minus_each c ds) (λ k. omega (arith, minus_each_at_most c ds k))
