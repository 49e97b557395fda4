-- The status, the events and what a round leaves of one channel.
use Rattle.std.proofs.Common.{◌≡◌, ℕ, Bool, true, false, not, ◌&&◌, sym, refl, ap, subst, ap₂}
use lib.Bits.{bit_or, or_comm}
use Rattle.std.proofs.lemmas.Bool.{and_from, and_left, not_from_true, not_from_false, cond-true, cond-false, cond_both}
use Rattle.values.specs.Ranges.{zero}
use Rattle.table.specs.Both.{Amounts, Flags}
use Rattle.table.specs.declared.records.Channel.{Channel}
use Rattle.table.specs.declared.round.Pass.{Pass}
use Rattle.table.specs.declared.round.Reading.{Reading}
use Rattle.table.specs.Changes.{with_voltage}
use Rattle.table.specs.New.{neither}
use Rattle.table.specs.Round.{over, excess_of, trips, shut_off, on_after, limiting, found_events, found, events_found, judged, ramping_after, start_level, channel_after}
use Rattle.table.specs.RoundLaws.{Has, Signals, Left}
use Rattle.table.specs.Words.{bit}
use Rattle.table.proofs.RoundLawsBits.{kept_or}

has_right : (x y z : ℕ) → Has x z → Has x (bit_or y z)
has_right x y z h = subst (Has x) (or_comm z y) (kept_or x z y h)

has_bit : (x : ℕ) (b : Bool) → Has x x → b ≡ true → Has x (bit x b)
has_bit x b self e = subst (λ (f : Bool). Has x (bit x f)) (sym e) self

abbrev flags : Bool → Bool → Flags
flags v i = record { voltage = v; current = i }

-- channel c at the level n, with the reading r
module _ (p : Pass) (c : Channel) (r : Reading) (n : ℕ) where
  abbrev on : Bool
  on = on_after p c r

  off_both : (v i : Bool) → on ≡ false → flags (on && v) (on && i) ≡ neither
  off_both v i e = ap₂ flags (and_left on v e) (and_left on i e)

  hidden : (v i : Bool) → p.kill_enable ≡ true → flags (not p.kill_enable && v) (not p.kill_enable && i) ≡ neither
  hidden v i e = let off = not_from_true p.kill_enable e in ap₂ flags (and_left (not p.kill_enable) v off) (and_left (not p.kill_enable) i off)

  shown : (v : Bool) → p.kill_enable ≡ false → (not p.kill_enable && v) ≡ v
  shown v e = ap (λ (k : Bool). not k && v) e

  fell : c.on ≡ true → on ≡ false → Has 0x0008 (events_found p c r)
  fell was now =
      kept_or 0x0008 _ (found_events (found p c r) (trips p (excess_of p c r)) c.emergency)
      (has_right 0x0008 c.events (bit 0x0008 (c.on && not on))
      (has_bit 0x0008 (c.on && not on) refl (and_from c.on (not on) was (not_from_false on now))))

  ended : (b : Bool) → c.ramping ≡ true → b ≡ false → shut_off p c r ≡ false → (c.ramping && (not b && not (shut_off p c r))) ≡ true
  ended b was now stays = and_from c.ramping _ was (and_from (not b) _ (not_from_false b now) (not_from_false (shut_off p c r) stays))

  pub signals : Signals p c r (channel_after p c r n)
  signals = record {
    limits_hidden = hidden (over r.voltage p.limits.voltage) (over r.current p.limits.current);
    voltage_limit = shown (over r.voltage p.limits.voltage);
    current_limit = shown (over r.current p.limits.current);
    inhibit = refl;
    one_mode = λ e. ap (λ (b : Bool). b && not (limiting p (excess_of p c r) on)) e;
    off_modes = off_both _ _;
    off_bounds = off_both _ _;
    on_to_off = λ was now. kept_or 0x0008 (events_found p c r) _ (fell was now);
    end_of_ramp = λ was now stays.
        let after = ramping_after p (judged p c r) (start_level p c r n) in
        has_right 0x0010 (events_found p c r) _ (has_bit 0x0010 _ refl (ended after was now stays));
    measured_voltage = refl;
    measured_current = refl;
  }

  pub left : Left p c (channel_after p c r n)
  left = record {
    mask = refl;
    error = refl;
    emergency = refl;
    bounds = refl;
    current_set = cond_both p.loop_closed c.setpoint (with_voltage c.setpoint zero) (λ (a : Amounts). a.current ≡ c.setpoint.current) (λ t. refl) (λ f. refl);
    voltage_set = λ e. ap (λ (a : Amounts). a.voltage) (cond-true p.loop_closed c.setpoint (with_voltage c.setpoint zero) e);
    loop_open = λ e. ap (λ (a : Amounts). a.voltage) (cond-false p.loop_closed c.setpoint (with_voltage c.setpoint zero) e);
  }
