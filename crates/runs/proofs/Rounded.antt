-- What an accepted round does to channel k, to the held half and to the number of channels.
use Rattle.std.proofs.Common.{◌≡◌, ℕ, zero, suc, ◌+◌, ◌<◌, ◌≤◌, Bool, true, false, cond, not, ◌&&◌, ◌||◌, ◌⊎◌, List, [], ◌∷◌, length, get_or, Ok, Err, Result, refl, ap, ◌∙◌, inl, inr, arith, length-set}
use Rattle.std.proofs.lemmas.Bool.{eq-eqb, eqb-true, cond-true, cond-false, cases_lt, or_cases}
use Rattle.values.specs.Ranges as Ranges
use Rattle.registers.specs.declared.fault.ModuleFault.{ModuleFault}
use Rattle.registers.specs.Faults.{refusal_7}
use Rattle.table.specs.declared.records.Channel.{Channel}
use Rattle.table.specs.declared.records.Conditions.{Conditions}
use Rattle.table.specs.declared.round.Pass.{Pass}
use Rattle.table.specs.declared.round.Reading.{Reading}
use Rattle.table.specs.Changes.{with_voltage}
use Rattle.table.specs.Reads.{channel_of}
use Rattle.table.specs.Round.{excess_of, setpoint_after, shut_off}
use Rattle.table.specs.RoundLaws.{ChannelLaws, OverSome, Killed}
use Rattle.module.specs.State.{State, count, level_of}
use Rattle.module.specs.Rounds.{reading_of, stepped, stepped_from, one_each, begun_state, round_pass, accepted, round_state, round_answer}
use Rattle.module.specs.RoundLaws.{Placed, RoundLaws}
use Rattle.module.specs.WriteLaws.{Whole}
use Rattle.module.proofs.RoundLaws.{round_laws, round_stays, record_stepped}
use Rattle.runs.specs.Law.{voltage_set, limit_of, found_blocked, over_any}

-- ---- what the steps of all channels keep

module _ (p : Pass) where
  steps_count : (rs : List Reading) (s : State) (j : ℕ) → count (stepped_from p s j rs) ≡ count s
  steps_count [] s j = refl
  steps_count (r ∷ rs) s j = steps_count rs (stepped p s j r) (j + 1) ∙ length-set s.levels j _

  steps_records : (rs : List Reading) (s : State) (j : ℕ) → length (stepped_from p s j rs).table.channels ≡ length s.table.channels
  steps_records [] s j = refl
  steps_records (r ∷ rs) s j = steps_records rs (stepped p s j r) (j + 1) ∙ length-set s.table.channels j _

past_end : (ls : List ℕ) (k : ℕ) → length ls ≤ k → get_or ls k 0 ≡ 0
past_end [] k h = refl
past_end (x ∷ ls) zero h = absurd (omega arith)
past_end (x ∷ ls) (suc k) h = past_end ls k (omega arith)

-- ---- refused and accepted rounds

module _ (b : Bool) (s : State) (x : Conditions) (rs : List Reading) where
  pub round_refused : (f : ModuleFault) → Err f ≡ round_answer s rs → round_state b s x rs ≡ s
  round_refused f e = by_test (one_each s rs) refl e
    where
      by_test : (t : Bool) → one_each s rs ≡ t → ◌≡◌ {A = Result (Unit {0}) ModuleFault} (Err f) (cond t (Ok tt) (Err (refusal_7 (length rs)))) → round_state b s x rs ≡ s
      by_test true t e = let z : ◌≡◌ {A = ℕ} 0 1 = cc in absurd (omega arith)
      by_test false t e = cond-false (one_each s rs) (accepted b s x rs) s t

  pub round_each : (u : Unit {0}) → Ok u ≡ round_answer s rs → length rs ≡ count s
  round_each u e = by_test (one_each s rs) refl e
    where
      by_test : (t : Bool) → one_each s rs ≡ t → ◌≡◌ {A = Result (Unit {0}) ModuleFault} (Ok u) (cond t (Ok tt) (Err (refusal_7 (length rs)))) → length rs ≡ count s
      by_test true t e = eqb-true (length rs) (count s) t
      by_test false t e = let z : ◌≡◌ {A = ℕ} 0 1 = cc in absurd (omega arith)

  module _ (each : length rs ≡ count s) where
    pub is_accepted : round_state b s x rs ≡ accepted b s x rs
    is_accepted = cond-true (one_each s rs) (accepted b s x rs) s (eq-eqb (length rs) (count s) each)

    pub round_held : (round_state b s x rs).table.held ≡ s.table.held
    round_held = (round_stays b s x rs each (round_state b s x rs) refl).half

    pub round_count : count (round_state b s x rs) ≡ count s
    round_count = ap count is_accepted ∙ steps_count (round_pass b s x) rs (begun_state s x) 0

    pub round_whole : Whole s → Whole (round_state b s x rs)
    round_whole w = record {
      few = omega (arith, w.few, round_count);
      records = ap (λ (u : State). length u.table.channels) is_accepted ∙ steps_records (round_pass b s x) rs (begun_state s x) 0 ∙ w.records;
    }

    laws : RoundLaws b s x rs (round_state b s x rs)
    laws = round_laws b s x rs each (round_state b s x rs) refl

    -- no level is above the limit of the round
    pub round_limited : (k : ℕ) → level_of (round_state b s x rs) k ≤ limit_of x
    round_limited k = elim (cases_lt k (count s)) [
      | inl h ↦ laws.within_limit k h
      | inr h ↦ omega (arith, past_end (round_state b s x rs).levels k (omega (arith, round_count)))
    ]

    module _ (whole : Whole s) (k : ℕ) (low : k < count s) where
      placed : Placed s k
      placed = (low, omega (arith, whole.few, whole.records))

      at : ChannelLaws (round_pass b s x) (channel_of s.table k) (reading_of rs k) (level_of s k) (channel_of (round_state b s x rs).table k) (level_of (round_state b s x rs) k)
      at = laws.each_channel k placed

      -- the set voltage stays, or is 0 where the loop is open
      pub round_voltage : (voltage_set (round_state b s x rs) k ≡ voltage_set s k) ⊎ (voltage_set (round_state b s x rs) k ≡ Ranges.zero)
      round_voltage = by_loop (round_pass b s x).loop_closed refl
        where
          is : voltage_set (round_state b s x rs) k ≡ (setpoint_after (round_pass b s x) (channel_of s.table k)).voltage
          is = ap (λ (u : State). voltage_set u k) is_accepted ∙ ap (λ (c : Channel). c.setpoint.voltage) (record_stepped b s x rs each k placed)

          by_loop : (t : Bool) → (round_pass b s x).loop_closed ≡ t → (voltage_set (round_state b s x rs) k ≡ voltage_set s k) ⊎ (voltage_set (round_state b s x rs) k ≡ Ranges.zero)
          by_loop true t = inl (is ∙ ap (λ (a : Bool). (cond a (channel_of s.table k).setpoint (with_voltage (channel_of s.table k).setpoint Ranges.zero)).voltage) t)
          by_loop false t = inr (is ∙ ap (λ (a : Bool). (cond a (channel_of s.table k).setpoint (with_voltage (channel_of s.table k).setpoint Ranges.zero)).voltage) t)

      -- a stored kill stays, and a channel that is off stays off, where it is
      pub round_kill : (channel_of s.table k).kill ≡ true → (channel_of (round_state b s x rs).table k).kill ≡ true
      round_kill = at.killed_is_at_zero.kept

      pub round_off : (channel_of s.table k).on ≡ false → (channel_of (round_state b s x rs).table k).on ≡ false
      round_off off = at.reads_on ∙ ap (λ (a : Bool). a && not (shut_off (round_pass b s x) (channel_of s.table k) (reading_of rs k))) off

      pub round_down : (channel_of s.table k).on ≡ false → level_of s k ≡ 0 → level_of (round_state b s x rs) k ≡ 0
      round_down off low-level = omega (arith, low-level, at.off_never_rises.stays_low (inl off))

      -- a reading over a limit with KillEnable on
      pub round_kills : s.table.kill_enable ≡ true → over_any (excess_of (round_pass b s x) (channel_of s.table k) (reading_of rs k)) ≡ true → Killed (channel_of (round_state b s x rs).table k) (level_of (round_state b s x rs) k)
      round_kills enabled over =
          let e = excess_of (round_pass b s x) (channel_of s.table k) (reading_of rs k) in
          let some : OverSome (round_pass b s x) (channel_of s.table k) (reading_of rs k) =
          elim (or_cases e.voltage_limit (e.current_limit || e.current_set) over) [
            | inl v ↦ inl v
            | inr z ↦ inr (or_cases e.current_limit e.current_set z)
          ] in
          at.killed_is_at_zero.killed enabled some

      -- a level that rose had leave
      pub round_rises : level_of s k < level_of (round_state b s x rs) k → (found_blocked b s x rs k ≡ false) × (level_of (round_state b s x rs) k ≤ level_of s k + (round_pass b s x).ramp_step)
      round_rises up = let leave = at.rises_with_leave up in (leave.not_blocked, leave.by_step)

    -- a channel that is not placed has no level
    pub round_absent : (k : ℕ) → count s ≤ k → level_of (round_state b s x rs) k ≡ 0
    round_absent k h = past_end (round_state b s x rs).levels k (omega (arith, round_count))
