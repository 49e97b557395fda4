-- Lemmas on the definitions of specs/Levels.
use Rattle.std.specs.Prelude.{◌≡◌, ℕ, zero, suc, ◌<◌, ◌≤◌, true, false, List, [], ◌∷◌, length, take, replicate, Ok, Err, slice_index, slice_set, refl}
use Rattle.std.proofs.Common.{sym, ap, ◌∙◌, inl, inr, length-set, arith}
use Rattle.std.proofs.lemmas.List.{length-take-le, get_or-take, take-replicate}
use Rattle.std.proofs.lemmas.Bool.{lt-ltb, le-ltb, le-leb, lt-leb, and_parts, and_from, and_left, and_right, leb-true, ltb-true, cond-true, cond-false, cond_both}
use Rattle.stage.specs.Levels.{highest_level, most_channels, AtMost, stage_fault, drivable, taken, level_answer, drive_answer, driven}
use Rattle.stage.specs.Laws.{Outside}

-- channel k of the levels ls was driven to the level x, and they became ms
pub record DrivenTo (ls : List ℕ) (k x : ℕ) (ms : List ℕ) : Type 0 where
  pub answer : Ok tt ≡ drive_answer ls k x
  pub state : ms ≡ driven ls k x

pub take_of_set : (n : ℕ) (ls : List ℕ) (i x : ℕ) → take n (slice_set ls i x) ≡ slice_set (take n ls) i x
take_of_set zero ls i x = refl
take_of_set (suc n) [] i x = refl
take_of_set (suc n) (y ∷ ys) zero x = refl
take_of_set (suc n) (y ∷ ys) (suc i) x = ap (λ zs. y ∷ zs) (take_of_set n ys i x)

pub at_most_set : {b : ℕ} (xs : List ℕ) (i x : ℕ) → x ≤ b → AtMost b xs → AtMost b (slice_set xs i x)
at_most_set [] i x l h k = h k
at_most_set (y ∷ ys) zero x l h zero = l
at_most_set (y ∷ ys) zero x l h (suc k) = h (suc k)
at_most_set (y ∷ ys) (suc i) x l h zero = h zero
at_most_set (y ∷ ys) (suc i) x l h (suc k) = at_most_set ys i x l (λ j. h (suc j)) k

pub taken_zeros : (n count : ℕ) → n ≡ taken count → take {A = ℕ} n (replicate most_channels 0) ≡ replicate (taken count) 0
taken_zeros n count e = take-replicate {X = ℕ} n most_channels 0 (omega arith) ∙ ap (λ m. replicate m 0) e

module _ (ls : List ℕ) (k x : ℕ) where
  pub drivable_can : k < length ls → x ≤ highest_level → drivable (length ls) k x ≡ true
  drivable_can h l = and_from _ _ (lt-ltb _ _ h) (le-leb _ _ l)

  pub drivable_cannot : Outside ls k x → drivable (length ls) k x ≡ false
  drivable_cannot (inl h) = and_left _ _ (le-ltb _ _ h)
  drivable_cannot (inr h) = and_right _ _ (lt-leb _ _ h)

  pub drive_answer_can : k < length ls → x ≤ highest_level → drive_answer ls k x ≡ Ok tt
  drive_answer_can h l = cond-true _ _ _ (drivable_can h l)

  pub driven_can : k < length ls → x ≤ highest_level → driven ls k x ≡ slice_set ls k x
  driven_can h l = cond-true _ _ _ (drivable_can h l)

  pub drive_answer_cannot : Outside ls k x → drive_answer ls k x ≡ Err (stage_fault k)
  drive_answer_cannot h = cond-false _ _ _ (drivable_cannot h)

  pub driven_cannot : Outside ls k x → driven ls k x ≡ ls
  driven_cannot h = cond-false _ _ _ (drivable_cannot h)

  pub length_driven : length (driven ls k x) ≡ length ls
  length_driven = cond_both (drivable (length ls) k x) (slice_set ls k x) ls (λ zs. length zs ≡ length ls) (λ _. length-set ls k x) (λ _. refl)

  pub at_most_driven : {b : ℕ} → x ≤ b → AtMost b ls → AtMost b (driven ls k x)
  at_most_driven {b} l h = cond_both (drivable (length ls) k x) (slice_set ls k x) ls (AtMost b) (λ _. at_most_set ls k x l h) (λ _. h)

module _ (ls : List ℕ) (k : ℕ) where
  pub level_answer_can : k < length ls → level_answer ls k ≡ Ok (slice_index ls k)
  level_answer_can h = cond-true _ _ _ (lt-ltb _ _ h)

  pub level_answer_cannot : length ls ≤ k → level_answer ls k ≡ Err (stage_fault k)
  level_answer_cannot h = cond-false _ _ _ (le-ltb _ _ h)

module _ (n k x : ℕ) (can : true ≡ drivable n k x) where
  pub channel_below : k < n
  channel_below = ltb-true _ _ (and_parts _ _ (sym can)).0

  pub level_at_most : x ≤ highest_level
  level_at_most = leb-true _ _ (and_parts _ _ (sym can)).1

-- a stage whose levels are the first n of xs
module _ (n : ℕ) (xs : List ℕ) (k : ℕ) (fits : n ≤ length xs) where
  pub first_level : k < n → Ok (slice_index xs k) ≡ level_answer (take n xs) k
  first_level h = sym (level_answer_can (take n xs) k (rw (length-take-le n xs fits) h) ∙ ap Ok (get_or-take n xs k 0 h))

  pub first_driven : (x : ℕ) → true ≡ drivable n k x → DrivenTo (take n xs) k x (take n (slice_set xs k x))
  first_driven x can =
      let h : k < length (take n xs) = rw (length-take-le n xs fits) (channel_below n k x can) in
      let l : x ≤ highest_level = level_at_most n k x can in
      record {
        answer = sym (drive_answer_can (take n xs) k x h l);
        state = take_of_set n xs k x ∙ sym (driven_can (take n xs) k x h l);
      }
