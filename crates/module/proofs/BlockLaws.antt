-- A block stops at the first refusal, and answers its index, else the number of its accesses.
use Rattle.std.proofs.Common.{◌≡◌, ℕ, zero, suc, ◌+◌, ◌<◌, ◌≤◌, List, [], ◌∷◌, length, get_or, Ok, Err, Result, sym, refl, ap, ◌∙◌, subst, arith}
use Rattle.registers.specs.declared.fault.ModuleFault.{ModuleFault}
use Rattle.module.specs.declared.block.Access.{Access}
use Rattle.module.specs.declared.block.BlockFault.{BlockFault}
use Rattle.module.specs.State.{State}
use Rattle.module.specs.Blocks.{BlockEnd, block_fault, end_of, behind, goes_on, access_state, access_answer, block_end}
use Rattle.module.specs.BlockLaws.{no_access, state_after, Leaves, Done, BlockLaw}

-- the law of the accesses from index j on
abbrev From : ℕ → State → List Access → BlockEnd → Result ℕ BlockFault → Type 0
From j s xs e (Ok n) = (n ≡ j + length xs) × Done s xs e.records (length xs) × (e.state ≡ state_after s xs (length xs))
From j s xs e (Err f) =
    (d : ℕ) × (f.index ≡ j + d) × (d < length xs) × (access_answer (state_after s xs d) (get_or xs d no_access) ≡ Err f.fault) × Done s xs e.records d × (e.state ≡ state_after s xs (d + 1))

done_more : (s : State) (a b : Access) (xs ys : List Access) (n : ℕ) → access_answer s a ≡ Ok b → Done (access_state s a) xs ys n → Done s (a ∷ xs) (b ∷ ys) (suc n)
done_more s a b xs ys n said h = record {
  long = ap suc h.long;
  first = first_more;
  later = later_more;
}
  where
    first_more : (i : ℕ) → i < suc n → Leaves s (a ∷ xs) i (get_or (b ∷ ys) i no_access)
    first_more zero l = said
    first_more (suc i) l = h.first i (omega arith)

    later_more : (i : ℕ) → suc n ≤ i → get_or (b ∷ ys) i no_access ≡ get_or (a ∷ xs) i no_access
    later_more zero l = absurd (omega arith)
    later_more (suc i) l = h.later i (omega arith)

done_none : (s : State) (xs : List Access) → Done s xs xs 0
done_none s xs = record { long = refl; first = λ i l. absurd (omega arith); later = λ i l. refl }

-- one access in front, which was accepted
goes_on_lem : (j : ℕ) (s : State) (a b : Access) (xs : List Access) (e : BlockEnd) → access_answer s a ≡ Ok b
    → (r : Result ℕ BlockFault) → From (j + 1) (access_state s a) xs e r → From j s (a ∷ xs) (behind b e) r
goes_on_lem j s a b xs e said (Ok n) h = (omega (arith, h.0), done_more s a b xs e.records (length xs) said h.1, h.2)
goes_on_lem j s a b xs e said (Err f) h =
    let step : state_after (access_state s a) xs (h.0 + 1) ≡ state_after s (a ∷ xs) (suc h.0 + 1) = ap (state_after s (a ∷ xs)) (let q : suc (h.0 + 1) ≡ suc h.0 + 1 = omega arith in q) in
    (suc h.0, omega (arith, h.1), omega (arith, h.2), h.3, done_more s a b xs e.records h.0 said h.4, h.5 ∙ step)

stops : (j : ℕ) (s : State) (a : Access) (xs : List Access) (f : ModuleFault) → access_answer s a ≡ Err f → From j s (a ∷ xs) (end_of (access_state s a) (a ∷ xs) (Err (block_fault j f))) (Err (block_fault j f))
stops j s a xs f said = (0, omega arith, omega arith, said, done_none s (a ∷ xs), refl)

-- one access in front, whatever it is answered
by_answer : (j : ℕ) (s : State) (a : Access) (xs : List Access) (e : BlockEnd) (r : Result Access ModuleFault) → access_answer s a ≡ r → From (j + 1) (access_state s a) xs e e.answer
    → From j s (a ∷ xs) (goes_on j (access_state s a) a xs e r) (goes_on j (access_state s a) a xs e r).answer
by_answer j s a xs e (Ok b) said h = goes_on_lem j s a b xs e said e.answer h
by_answer j s a xs e (Err f) said h = stops j s a xs f said

from : (j : ℕ) (s : State) (xs : List Access) → From j s xs (block_end j s xs) (block_end j s xs).answer
from j s [] = (omega arith, done_none s [], refl)
from j s (a ∷ xs) = by_answer j s a xs (block_end (j + 1) (access_state s a) xs) (access_answer s a) refl (from (j + 1) (access_state s a) xs)

at_zero : (s : State) (xs : List Access) (e : BlockEnd) (r : Result ℕ BlockFault) → From 0 s xs e r → BlockLaw s xs e r
at_zero s xs e (Ok n) h =
    let is : length xs ≡ n = omega (arith, h.0) in
    record { number = omega arith; records = subst (Done s xs e.records) is h.1; left = h.2 ∙ ap (state_after s xs) is }
at_zero s xs e (Err f) h =
    let is : h.0 ≡ f.index = omega (arith, h.1) in
    record {
      index = omega (arith, h.2);
      refused = subst (λ (i : ℕ). access_answer (state_after s xs i) (get_or xs i no_access) ≡ Err f.fault) is h.3;
      records = subst (Done s xs e.records) is h.4;
      left = h.5 ∙ ap (λ (i : ℕ). state_after s xs (i + 1)) is;
    }

pub block_law : (s : State) (xs : List Access) → BlockLaw s xs (block_end 0 s xs) (block_end 0 s xs).answer
block_law s xs = at_zero s xs (block_end 0 s xs) (block_end 0 s xs).answer (from 0 s xs)

-- the law of what a block left, given that it is what the definition says
pub block_lawful : (s : State) (xs : List Access) (e : BlockEnd) → e ≡ block_end 0 s xs → BlockLaw s xs e e.answer
block_lawful s xs e is = subst (λ (x : BlockEnd). BlockLaw s xs x x.answer) (sym is) (block_law s xs)
