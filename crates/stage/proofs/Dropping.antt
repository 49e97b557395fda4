-- Lemmas on the definitions of specs/Drops.
use Rattle.std.proofs.Common.{◌≡◌, ℕ, zero, suc, ◌-◌, ◌<◌, ◌≤◌, max, true, ◌≢◌, List, [], ◌∷◌, length, get_or, fold, take, set, sym, refl, ap, ◌∙◌, zero-le, arith}
use Rattle.std.proofs.lemmas.List.{length-map, length-take-le, length-set, get_or-map, take-map, get_or-set_other, map-set}
use Rattle.stage.specs.declared.distributor.DistributorStage.{DistributorStage}
use Rattle.stage.specs.Levels.{highest_level, most_channels, AtMost, drivable}
use Rattle.stage.specs.Drops.{highest, minus_each, levels_of, KeepsTop}
use Rattle.stage.specs.Bounds.{at_most_take, minus_each_at_most, levels_at_most}
use Rattle.stage.proofs.Driving.{DrivenTo, take_of_set, at_most_set, level_at_most, first_driven}

pub at_most_highest : (xs : List ℕ) → AtMost (highest xs) xs
at_most_highest [] k = zero-le
at_most_highest (x ∷ xs) zero = omega arith
at_most_highest (x ∷ xs) (suc k) = omega (arith, at_most_highest xs k)

pub highest_at_most : (b : ℕ) (xs : List ℕ) → AtMost b xs → highest xs ≤ b
highest_at_most b [] h = zero-le
highest_at_most b (x ∷ xs) h = omega (arith, h zero, highest_at_most b xs (λ k. h (suc k)))

pub fold_highest_from : (a : ℕ) (xs : List ℕ) → fold max a xs ≡ max a (highest xs)
fold_highest_from a [] = omega arith
fold_highest_from a (x ∷ xs) = omega (arith, fold_highest_from (max a x) xs)

pub fold_highest : (xs : List ℕ) → fold max 0 xs ≡ highest xs
fold_highest xs = omega (arith, fold_highest_from 0 xs)

pub length_levels : (n c : ℕ) (ds : List ℕ) → n ≤ length ds → length (levels_of n c ds) ≡ n
length_levels n c ds h = length-take-le n (minus_each c ds) (simp length-map h)

-- levels to drops and back, in the first n places
pub minus_each_twice : (c n : ℕ) (xs : List ℕ) → AtMost c (take n xs) → levels_of n c (minus_each c xs) ≡ take n xs
minus_each_twice c zero xs h = refl
minus_each_twice c (suc n) [] h = refl
minus_each_twice c (suc n) (y ∷ ys) h =
    let e : c - (c - y) ≡ y = omega (arith, h zero) in
    ap (λ z. z ∷ levels_of n c (minus_each c ys)) e ∙ ap (λ zs. y ∷ zs) (minus_each_twice c n ys (λ k. h (suc k)))

pub highest_zeros : (n : ℕ) (ds : List ℕ) → highest (levels_of n 0 ds) ≡ 0
highest_zeros n ds = omega (arith, highest_at_most 0 (levels_of n 0 ds) (levels_at_most n 0 0 ds zero-le))

-- the stage s, with the common level c and the drops ds, means what s did with channel k driven to x
pub record Redropped (s : DistributorStage) (k x c : ℕ) (ds : List ℕ) : Type 0 where
  pub whole : length ds ≡ most_channels
  pub counted : length (levels_of s.count c ds) ≡ s.count
  pub bounded : c ≤ highest_level
  pub within : AtMost c ds
  pub top : highest (levels_of s.count c ds) ≡ c
  pub means : DrivenTo (levels_of s.count s.common s.drops) k x (levels_of s.count c ds)

-- it does where ls are its levels, c is the highest of them with x in place k, and ds are the drops below c
pub redropped : (s : DistributorStage) (k x : ℕ) → true ≡ drivable s.count k x → {ls : List ℕ} → ls ≡ minus_each s.common s.drops → {c : ℕ} → c ≡ highest (take (s.count - 0) (set ls k x)) → {ds : List ℕ} → ds ≡ minus_each c (set ls k x) → Redropped s k x c ds
redropped s k x can {ls} is-ls {c} is_c {ds} is-ds =
    let n = s.count in
    let old : List ℕ = minus_each s.common s.drops in
    let new : List ℕ = set ls k x in
    let fits : n ≤ length old = simp length-map (omega arith) in
    let z : n - 0 ≡ n = omega arith in
    let top_is : c ≡ highest (take n new) = is_c ∙ ap (λ m. highest (take m new)) z in
    let before : AtMost highest_level ls = rw is-ls (λ j. omega (arith, minus_each_at_most s.common s.drops j)) in
    let after : AtMost highest_level (take n new) = at_most_take n new (at_most_set ls k x (level_at_most n k x can) before) in
    let back : levels_of n c ds ≡ take n new = rw is-ds (minus_each_twice c n new (rw top_is (at_most_highest (take n new)))) in
    let to = first_driven n old k fits x can in
    let whole : length ds ≡ most_channels = simp (is-ds, length-map, length-set, is-ls, s.whole) in
    record {
      whole = whole;
      counted = length_levels n c ds (omega arith);
      bounded = omega (arith, top_is, highest_at_most highest_level (take n new) after);
      within = rw is-ds (minus_each_at_most c new);
      top = ap highest back ∙ sym top_is;
      means = record { answer = to.answer; state = back ∙ ap (λ zs. take n (set zs k x)) is-ls ∙ to.state };
    }

-- an element that is there does not depend on the default
pub get_or_again : {T : Type 0} (xs : List T) (i : ℕ) (d : T) → get_or xs i d ≡ get_or xs i (get_or xs i d)
get_or_again [] i d = refl
get_or_again (x ∷ xs) zero d = refl
get_or_again (x ∷ xs) (suc i) d = get_or_again xs i d

pub highest_unset : (xs : List ℕ) (k x : ℕ) → highest xs ≤ max (get_or xs k 0) (highest (set xs k x))
highest_unset [] k x = zero-le
highest_unset (y ∷ ys) zero x = omega arith
highest_unset (y ∷ ys) (suc k) x = omega (arith, highest_unset ys k x)

-- channel k is driven to the level x, not above the common level c of the drops ds
module _ (c : ℕ) (ds : List ℕ) (k x : ℕ) (l : x ≤ c) where
  pub highest_set_at_most : highest (set (minus_each c ds) k x) ≤ c
  highest_set_at_most = highest_at_most c _ (at_most_set (minus_each c ds) k x l (minus_each_at_most c ds))

  -- it was below the common level, so that another channel is at it
  pub keeps_top_below : k < length ds → get_or ds k 0 ≢ 0 → KeepsTop c ds k x
  keeps_top_below h d t = omega (arith, d, get_or-map (λ z. c - z) ds k 0 0 h, highest_unset (minus_each c ds) k x, highest_set_at_most)

  -- another channel j is at the common level
  pub keeps_top_other : (j : ℕ) → j < length ds → j ≢ k → get_or ds j 0 ≡ 0 → KeepsTop c ds k x
  keeps_top_other j h n d t =
      let new = set (minus_each c ds) k x in
      omega (arith, get_or-map (λ z. c - z) ds j 0 0 h, get_or-set_other (minus_each c ds) k j x 0 n, at_most_highest new j, highest_set_at_most)

-- the stage s means so too where only the drop of channel k is written, and the highest level stays
pub drop_written : (s : DistributorStage) (k x : ℕ) → true ≡ drivable s.count k x → x ≤ s.common → KeepsTop s.common (take (s.count - 0) s.drops) k x → Redropped s k x s.common (set s.drops k (s.common - x))
drop_written s k x can l keeps =
    let n = s.count in
    let c = s.common in
    let old : List ℕ = minus_each c s.drops in
    let ds : List ℕ = set s.drops k (c - x) in
    let fits : n ≤ length old = simp length-map (omega arith) in
    let z : n - 0 ≡ n = omega arith in
    let first : take n old ≡ minus_each c (take (n - 0) s.drops) = rw z (take-map (λ y. c - y) n s.drops) in
    let twice : c - (c - x) ≡ x = omega (arith, l) in
    let back : levels_of n c ds ≡ take n (set old k x) = ap (take n) (map-set (λ y. c - y) s.drops k (c - x) ∙ ap (set old k) twice) in
    let to = first_driven n old k fits x can in
    let whole : length ds ≡ most_channels = simp (length-set, s.whole) in
    record {
      whole = whole;
      counted = length_levels n c ds (omega arith);
      bounded = s.bounded;
      within = at_most_set s.drops k (c - x) (omega arith) s.within;
      top = ap highest (back ∙ take_of_set n old k x ∙ ap (λ zs. set zs k x) first) ∙ keeps (ap highest (sym first) ∙ s.top);
      means = record { answer = to.answer; state = back ∙ to.state };
    }
