-- How a distributor keeps its levels: the common level, and the drop of each channel below it.
use Rattle.std.specs.Prelude.{◌≡◌, ℕ, ◌-◌, max, List, [], ◌∷◌, map, take, slice_set}

-- the highest of some levels
abbrev pub highest : List ℕ → ℕ
highest [] = 0
highest (x ∷ xs) = max x (highest xs)

-- the common level minus each number: the levels where xs are drops, and the drops where xs are levels
abbrev pub minus_each : ℕ → List ℕ → List ℕ
minus_each common xs = map (λ x. common - x) xs

-- the levels of a distributor of n channels
abbrev pub levels_of : ℕ → ℕ → List ℕ → List ℕ
levels_of n common drops = take n (minus_each common drops)

-- the highest level stays common where channel k is driven to the level x
abbrev pub KeepsTop : ℕ → List ℕ → ℕ → ℕ → Type 0
KeepsTop common drops k x = highest (minus_each common drops) ≡ common → highest (slice_set (minus_each common drops) k x) ≡ common
