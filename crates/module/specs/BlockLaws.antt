-- What holds of every block: s is the state before it, xs its accesses, e what it leaves.
use Rattle.std.specs.Prelude.{◌≡◌, ℕ, zero, suc, ◌+◌, ◌<◌, ◌≤◌, List, [], ◌∷◌, length, Ok, Err, Result, slice_index_or}
use Rattle.module.specs.declared.block.Access.{Access}
use Rattle.module.specs.declared.block.BlockFault.{BlockFault}
use Rattle.module.specs.declared.block.Kind.TheVariants.{Read}
use Rattle.module.specs.State.{State}
use Rattle.module.specs.Blocks.{BlockEnd, access_state, access_answer}

abbrev pub no_access : Access
no_access = record { kind = Read; offset = 0; word = 0 }

-- the state after the first i accesses
abbrev pub state_after : State → List Access → ℕ → State
state_after s xs zero = s
state_after s [] (suc i) = s
state_after s (a ∷ xs) (suc i) = state_after (access_state s a) xs i

-- the access at place i is accepted and leaves the record b
abbrev pub Leaves : State → List Access → ℕ → Access → Type 0
Leaves s xs i b = access_answer (state_after s xs i) (slice_index_or xs i no_access) ≡ Ok b

-- the first n accesses are accepted, and their records are those that they leave; later records keep their words
pub record Done (s : State) (xs ys : List Access) (n : ℕ) : Type 0 where
  pub long : length ys ≡ length xs
  pub first : (i : ℕ) → i < n → Leaves s xs i (slice_index_or ys i no_access)
  pub later : (i : ℕ) → n ≤ i → slice_index_or ys i no_access ≡ slice_index_or xs i no_access

-- all accesses were done, and their number is answered
pub record DoneAll (s : State) (xs : List Access) (e : BlockEnd) (n : ℕ) : Type 0 where
  pub number : n ≡ length xs
  pub records : Done s xs e.records n
  pub left : e.state ≡ state_after s xs n

-- the access at the index was the first that was refused, and its fault is answered whole
pub record Stopped (s : State) (xs : List Access) (e : BlockEnd) (f : BlockFault) : Type 0 where
  pub index : f.index < length xs
  pub refused : access_answer (state_after s xs f.index) (slice_index_or xs f.index no_access) ≡ Err f.fault
  pub records : Done s xs e.records f.index
  pub left : e.state ≡ state_after s xs (f.index + 1)

abbrev pub BlockLaw : State → List Access → BlockEnd → Result ℕ BlockFault → Type 0
BlockLaw s xs e (Ok n) = DoneAll s xs e n
BlockLaw s xs e (Err f) = Stopped s xs e f
