-- What the loop of a round leaves of one channel: its own step, taken from its own record, reading and level.
use Rattle.std.proofs.Common.{◌≡◌, ℕ, ◌+◌, ◌<◌, List, [], ◌∷◌, length, refl, ◌∙◌, subst, ap₂, arith}
use Rattle.std.proofs.lemmas.List.{length-set, get_or-set_same, get_or-set_other}
use Rattle.table.specs.declared.records.Channel.{Channel}
use Rattle.table.specs.declared.round.Pass.{Pass}
use Rattle.table.specs.declared.round.Reading.{Reading}
use Rattle.table.specs.Reads.{channel_of, no_channel}
use Rattle.table.specs.Round.{channel_after, level_after}
use Rattle.module.specs.State.{State, count, level_of}
use Rattle.module.specs.Rounds.{reading_of, stepped, stepped_from}
use Rattle.module.specs.RoundLaws.{Placed}

-- channel k has the same record and the same level in two states of the same size
pub record Alike (k : ℕ) (s u : State) : Type 0 where
  pub same_record : channel_of s.table k ≡ channel_of u.table k
  pub same_level : level_of s k ≡ level_of u k
  pub records : length s.table.channels ≡ length u.table.channels
  pub levels : count s ≡ count u

alike_again : (k : ℕ) (s u v : State) → Alike k s u → Alike k u v → Alike k s v
alike_again k s u v a b = record {
  same_record = a.same_record ∙ b.same_record;
  same_level = a.same_level ∙ b.same_level;
  records = a.records ∙ b.records;
  levels = a.levels ∙ b.levels;
}

module _ (p : Pass) where
  -- a step of another channel
  step_other : (s : State) (j k : ℕ) (r : Reading) → (k ≡ j → ⊥) → Alike k (stepped p s j r) s
  step_other s j k r d = record {
    same_record = get_or-set_other s.table.channels j k _ no_channel d;
    same_level = get_or-set_other s.levels j k _ 0 d;
    records = length-set s.table.channels j _;
    levels = length-set s.levels j _;
  }

  -- the steps of later channels
  steps_later : (rs : List Reading) (s : State) (j k : ℕ) → k < j → Alike k (stepped_from p s j rs) s
  steps_later [] s j k h = record { same_record = refl; same_level = refl; records = refl; levels = refl }
  steps_later (r ∷ rs) s j k h =
      alike_again k (stepped_from p (stepped p s j r) (j + 1) rs) (stepped p s j r) s
      (steps_later rs (stepped p s j r) (j + 1) k (omega arith))
      (step_other s j k r (λ e. omega (arith, e)))

  -- the state in which the loop comes to channel k, with its reading r
  pub record Turn (s : State) (k : ℕ) (r : Reading) (u : State) : Type 0 where
    pub came : State
    pub before : Alike k came s
    pub after : Alike k u (stepped p came k r)

  turn_here : (rs : List Reading) (s : State) (j : ℕ) (r : Reading) → Turn s j r (stepped_from p s j (r ∷ rs))
  turn_here rs s j r = record {
    came = s;
    before = steps_later [] s (j + 1) j (omega arith);
    after = steps_later rs (stepped p s j r) (j + 1) j (omega arith);
  }

  turn_from : (rs : List Reading) (s : State) (j i k : ℕ) → k ≡ j + i → i < length rs → Turn s k (reading_of rs i) (stepped_from p s j rs)
  turn_from [] s j i k e h = absurd (omega arith)
  turn_from (r ∷ rs) s j ℕ.zero k e h =
      let here : j ≡ k = omega arith in
      subst (λ (q : ℕ). Turn s q r (stepped_from p s j (r ∷ rs))) here (turn_here rs s j r)
  turn_from (r ∷ rs) s j (ℕ.suc i) k e h =
      let t = turn_from rs (stepped p s j r) (j + 1) i k (omega arith) (omega arith) in
      record {
        came = t.came;
        before = alike_again k t.came (stepped p s j r) s t.before (step_other s j k r (λ d. omega (arith, d)));
        after = t.after;
      }

  pub turn_of : (rs : List Reading) (s : State) (k : ℕ) → k < length rs → Turn s k (reading_of rs k) (stepped_from p s 0 rs)
  turn_of rs s k h = turn_from rs s 0 k k (omega arith) h

  module _ (s : State) (k : ℕ) (r : Reading) (u : State) (t : Turn s k r u) where
    pub level_at : k < count s → level_of u k ≡ level_after p (channel_of s.table k) r (level_of s k)
    level_at h =
        t.after.same_level
        ∙ get_or-set_same t.came.levels k (level_after p (channel_of t.came.table k) r (level_of t.came k)) 0 (omega (arith, t.before.levels))
        ∙ ap₂ (λ (c : Channel) (n : ℕ). level_after p c r n) t.before.same_record t.before.same_level

    pub record_at : k < length s.table.channels → channel_of u.table k ≡ channel_after p (channel_of s.table k) r (level_of s k)
    record_at h =
        t.after.same_record
        ∙ get_or-set_same t.came.table.channels k (channel_after p (channel_of t.came.table k) r (level_of t.came k)) no_channel (omega (arith, t.before.records))
        ∙ ap₂ (λ (c : Channel) (n : ℕ). channel_after p c r n) t.before.same_record t.before.same_level

    pub placed_at : Placed s k → Placed u k
    placed_at h = (
      omega (arith, h.0, t.after.levels, t.before.levels, length-set t.came.levels k (level_after p (channel_of t.came.table k) r (level_of t.came k))),
      omega (arith, h.1, t.after.records, t.before.records, length-set t.came.table.channels k (channel_after p (channel_of t.came.table k) r (level_of t.came k))),
    )

  -- the steps leave the module's own events
  pub module_events_at : (rs : List Reading) (s : State) (j : ℕ) → (stepped_from p s j rs).table.events ≡ s.table.events
  module_events_at [] s j = refl
  module_events_at (r ∷ rs) s j = module_events_at rs (stepped p s j r) (j + 1)

  pub collected_events_at : (rs : List Reading) (s : State) (j : ℕ) → (stepped_from p s j rs).table.channel_events ≡ s.table.channel_events
  collected_events_at [] s j = refl
  collected_events_at (r ∷ rs) s j = collected_events_at rs (stepped p s j r) (j + 1)

  -- and the held half
  pub held_at : (rs : List Reading) (s : State) (j : ℕ) → (stepped_from p s j rs).table.held ≡ s.table.held
  held_at [] s j = refl
  held_at (r ∷ rs) s j = held_at rs (stepped p s j r) (j + 1)
