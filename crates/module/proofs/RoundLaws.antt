-- The laws of a round, for each channel.
use Rattle.std.proofs.Common.{◌≡◌, ℕ, ◌<◌, Bool, List, length, sym, ◌∙◌, subst, arith}
use Rattle.std.proofs.lemmas.Bool.{eq-eqb, cond-true}
use Rattle.table.specs.declared.records.Channel.{Channel}
use Rattle.table.specs.declared.records.Conditions.{Conditions}
use Rattle.table.specs.declared.round.Pass.{Pass}
use Rattle.table.specs.declared.round.Reading.{Reading}
use Rattle.table.specs.Reads.{channel_of, placed}
use Rattle.table.specs.Round.{channel_after, level_after, condition_events}
use Rattle.table.specs.RoundLaws.{Kept, ChannelLaws}
use Rattle.table.specs.Writes.{passing}
use Rattle.table.proofs.Ramping.{level_within}
use Rattle.table.proofs.RoundLawsBits.{kept_self, kept_or}
use Rattle.table.proofs.RoundLawsChannel.{channel_laws}
use Rattle.module.specs.State.{State, count, level_of}
use Rattle.module.specs.Rounds.{reading_of, stepped_from, one_each, begun_state, round_pass, accepted, round_state}
use Rattle.module.specs.RoundLaws.{Placed, RoundLaws, EventsStay}
use Rattle.module.proofs.RoundLawsSteps.{Turn, turn_of, level_at, record_at, placed_at, module_events_at, collected_events_at, held_at}

module _ (regulates : Bool) (s : State) (x : Conditions) (rs : List Reading) where
  abbrev pass : Pass
  pass = round_pass regulates s x

  abbrev began : State
  began = begun_state s x

  abbrev left : State
  left = stepped_from pass began 0 rs

  module _ (each : length rs ≡ count s) where
    turn : (k : ℕ) → k < count s → Turn pass began k (reading_of rs k) left
    turn k h = turn_of pass rs began k (omega (arith, each))

    -- channel k and its level have taken their part of the round
    pub level_stepped : (k : ℕ) → k < count s → level_of (accepted regulates s x rs) k ≡ level_after pass (channel_of s.table k) (reading_of rs k) (level_of s k)
    level_stepped k h = level_at pass began k (reading_of rs k) left (turn k h) h

    pub record_stepped : (k : ℕ) → Placed s k → channel_of (accepted regulates s x rs).table k ≡ channel_after pass (channel_of s.table k) (reading_of rs k) (level_of s k)
    record_stepped k h = record_at pass began k (reading_of rs k) left (turn k h.0) h.1

    laws_at : (k : ℕ) → Placed s k → ChannelLaws pass (channel_of s.table k) (reading_of rs k) (level_of s k) (channel_of (accepted regulates s x rs).table k) (level_of (accepted regulates s x rs) k)
    laws_at k h =
        subst (λ (d : Channel). ChannelLaws pass (channel_of s.table k) (reading_of rs k) (level_of s k) d (level_of (accepted regulates s x rs) k)) (sym (record_stepped k h))
        (subst (λ (m : ℕ). ChannelLaws pass (channel_of s.table k) (reading_of rs k) (level_of s k) (channel_after pass (channel_of s.table k) (reading_of rs k) (level_of s k)) m) (sym (level_stepped k h.0))
        (channel_laws pass (channel_of s.table k) (reading_of rs k) (level_of s k)))

    accepted_laws : RoundLaws regulates s x rs (accepted regulates s x rs)
    accepted_laws = record {
      within_limit = λ k h. omega (arith, level_stepped k h, level_within pass (channel_of s.table k) (reading_of rs k) (level_of s k));
      each_channel = laws_at;
    }

    accepted_stays : EventsStay s (accepted regulates s x rs)
    accepted_stays = record {
      module_events = subst (Kept s.table.events) (sym (module_events_at pass rs began 0)) (kept_or s.table.events s.table.events (condition_events x) (kept_self s.table.events));
      collected_events =
          kept_or s.table.channel_events left.table.channel_events (passing (placed (count left) left.table))
          (subst (Kept s.table.channel_events) (sym (collected_events_at pass rs began 0)) (kept_self s.table.channel_events));
      channel_events = λ k h. (laws_at k h).events_stay;
      kills = λ k h. (laws_at k h).killed_is_at_zero.kept;
      channels = λ k h. placed_at pass began k (reading_of rs k) left (turn k h.0) h;
      half = held_at pass rs began 0;
    }

    -- u is what the round left
    module _ (u : State) (left_is : u ≡ round_state regulates s x rs) where
      is_accepted : accepted regulates s x rs ≡ u
      is_accepted = sym (left_is ∙ cond-true (one_each s rs) (accepted regulates s x rs) s (eq-eqb (length rs) (count s) each))

      pub round_laws : RoundLaws regulates s x rs u
      round_laws = subst (RoundLaws regulates s x rs) is_accepted accepted_laws

      pub round_stays : EventsStay s u
      round_stays = subst (EventsStay s) is_accepted accepted_stays
