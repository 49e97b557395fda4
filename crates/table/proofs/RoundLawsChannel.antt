-- The laws of one channel over a round.
use Rattle.std.proofs.Common.{◌≡◌, ℕ, ◌+◌, ◌-◌, ◌<◌, ◌≤◌, min, Bool, true, false, cond, not, ◌||◌, eqb, ltb, ◌⊎◌, refl, ap, ◌∙◌, subst, inl, inr, arith}
use Rattle.std.proofs.lemmas.Bool.{cases_lt, lt-ltb, le-ltb, eq-eqb, ne_eqb, and_parts, and_from, and_left, and_right, or_left, or_right, not-true, not_from_true, not_from_false, cond-true, cond-false, cond_both, or_parts, not-false}
use Rattle.values.specs.Ranges.{zero}
use Rattle.values.specs.Steps.{set_steps}
use Rattle.table.specs.Both.{Amounts}
use Rattle.table.specs.declared.records.Channel.{Channel}
use Rattle.table.specs.declared.round.Pass.{Pass}
use Rattle.table.specs.declared.round.Reading.{Reading}
use Rattle.table.specs.Changes.{event_passes, with_voltage}
use Rattle.table.specs.Round.{over, excess_of, kills, trips, shut_off, on_after, setpoint_after, judged, moved_level, start_level, channel_after, level_after}
use Rattle.table.specs.RoundLaws.{held_back, goal_after, Kept, RisesWithLeave, OverSome, KilledIsAtZero, Rising, Falling, Arrives, ChannelLaws}
use Rattle.table.proofs.Ramping.{moved_at_most, level_within}
use Rattle.table.proofs.RoundLawsBits.{kept_self, kept_or}
use Rattle.table.proofs.RoundLawsSignals.{signals, left}

-- where a level at l with the goal g moves
module _ (l g step : ℕ) (held : Bool) where
  moved_down : g < l → moved_level l g step held ≡ l - min step (l - g)
  moved_down h = cond-true (ltb g l) (l - min step (l - g)) (cond held l (l + min step (g - l))) (lt-ltb g l h)

  not_down : l ≤ g → moved_level l g step held ≡ cond held l (l + min step (g - l))
  not_down h = cond-false (ltb g l) (l - min step (l - g)) (cond held l (l + min step (g - l))) (le-ltb g l h)

  moved_held : l ≤ g → held ≡ true → moved_level l g step held ≡ l
  moved_held h e = not_down h ∙ cond-true held l (l + min step (g - l)) e

  moved_up : l ≤ g → held ≡ false → moved_level l g step held ≡ l + min step (g - l)
  moved_up h e = not_down h ∙ cond-false held l (l + min step (g - l)) e

  moved_by_step : moved_level l g step held ≤ l + step
  moved_by_step =
      cond_both (ltb g l) (l - min step (l - g)) (cond held l (l + min step (g - l))) (λ (m : ℕ). m ≤ l + step)
      (λ t. omega arith)
      (λ f. cond_both held l (l + min step (g - l)) (λ (m : ℕ). m ≤ l + step) (λ t. omega arith) (λ f. omega arith))

  held_low : held ≡ true → moved_level l g step held ≤ l
  held_low e =
      cond_both (ltb g l) (l - min step (l - g)) (cond held l (l + min step (g - l))) (λ (m : ℕ). m ≤ l)
      (λ t. omega arith)
      (λ f. omega (arith, cond-true held l (l + min step (g - l)) e))

  pub rising : l ≤ g → held ≡ false → Rising step g l (moved_level l g step held)
  rising h e = let m = moved_up h e in record { there = λ d. omega (arith, m, d); nearer = λ d. omega (arith, m, d) }

  at_goal : g ≡ l → moved_level l g step held ≡ g
  at_goal h =
      not_down (omega arith)
      ∙ cond_both held l (l + min step (g - l)) (λ (m : ℕ). m ≡ g) (λ t. omega arith) (λ f. omega arith)

  pub falling : g ≤ l → Falling step g l (moved_level l g step held)
  falling h = record {
    there = λ d. elim (cases_lt g l) [ inl low ↦ omega (arith, moved_down low) | inr same ↦ at_goal (omega arith) ];
    nearer = λ d. omega (arith, moved_down (omega arith));
  }

-- channel c at the level n, with the reading r
module _ (p : Pass) (c : Channel) (r : Reading) (n : ℕ) where
  started : shut_off p c r ≡ false → start_level p c r n ≡ n
  started = cond-false (shut_off p c r) 0 n

  start_zero : shut_off p c r ≡ true → start_level p c r n ≡ 0
  start_zero = cond-true (shut_off p c r) 0 n

  start_low : start_level p c r n ≤ n
  start_low = cond_both (shut_off p c r) 0 n (λ (l : ℕ). l ≤ n) (λ t. omega arith) (λ f. omega arith)

  on_open : on_after p c r ≡ true → shut_off p c r ≡ false
  on_open e = not-true (shut_off p c r) (and_parts c.on (not (shut_off p c r)) e).1

  off_shut : shut_off p c r ≡ true → on_after p c r ≡ false
  off_shut e = and_right c.on (not (shut_off p c r)) (not_from_true (shut_off p c r) e)

  off_either : (c.on ≡ false) ⊎ (shut_off p c r ≡ true) → on_after p c r ≡ false
  off_either (inl e) = and_left c.on (not (shut_off p c r)) e
  off_either (inr e) = off_shut e

  goal_off : on_after p c r ≡ false → goal_after p c r ≡ 0
  goal_off = cond-false (on_after p c r) (min (set_steps p.model (setpoint_after p c).voltage) p.limit_steps) 0

  open_parts : shut_off p c r ≡ false → (p.loop_closed ≡ true) × (r.inhibit_low ≡ false)
  open_parts e =
      let parts = or_parts (not p.loop_closed) (r.inhibit_low || trips p (excess_of p c r)) e in
      (not-false p.loop_closed parts.0, (or_parts r.inhibit_low (trips p (excess_of p c r)) parts.1).0)

  goal_on : on_after p c r ≡ true → goal_after p c r ≡ min (set_steps p.model c.setpoint.voltage) p.limit_steps
  goal_on e =
      cond-true (on_after p c r) (min (set_steps p.model (setpoint_after p c).voltage) p.limit_steps) 0 e
      ∙ ap (λ (a : Amounts). min (set_steps p.model a.voltage) p.limit_steps) (cond-true p.loop_closed c.setpoint (with_voltage c.setpoint zero) (open_parts (on_open e)).0)

  -- the level as it comes to move
  abbrev cut : ℕ
  cut = min (start_level p c r n) p.limit_steps

  cut_open : shut_off p c r ≡ false → cut ≡ min n p.limit_steps
  cut_open e = ap (λ (l : ℕ). min l p.limit_steps) (started e)

  cut_low : on_after p c r ≡ true → n ≤ goal_after p c r → cut ≡ n
  cut_low e h = cut_open (on_open e) ∙ omega (arith, goal_on e)

  off_low : on_after p c r ≡ false → level_after p c r n ≤ n
  off_low e = omega (arith, start_low, moved_at_most cut cut (goal_after p c r) p.ramp_step (held_back p c r) (omega arith) (omega (arith, goal_off e)))

  shut_zero : shut_off p c r ≡ true → level_after p c r n ≡ 0
  shut_zero e =
      omega (arith, moved_at_most 0 cut (goal_after p c r) p.ramp_step (held_back p c r) (omega (arith, start_zero e)) (omega (arith, goal_off (off_shut e))))

  leave : (on held : Bool) → on_after p c r ≡ on → held_back p c r ≡ held → RisesWithLeave p c r n (channel_after p c r n) (level_after p c r n)
  leave false held e b h = absurd (omega (arith, off_low e))
  leave true true e b h = absurd (omega (arith, start_low, held_low cut (goal_after p c r) p.ramp_step (held_back p c r) b))
  leave true false e b h = record {
    was_on = (and_parts c.on (not (shut_off p c r)) e).0;
    closed = (open_parts (on_open e)).0;
    not_inhibited = (open_parts (on_open e)).1;
    is_on = e;
    no_kill = (or_parts (judged p c r).kill (event_passes (judged p c r) || p.module_passes) b).0;
    not_blocked = b;
    by_step = omega (arith, start_low, moved_by_step cut (goal_after p c r) p.ramp_step (held_back p c r));
  }

  any_over : OverSome p c r → (over r.voltage p.limits.voltage || (over r.current p.limits.current || over r.current c.setpoint.current)) ≡ true
  any_over (inl e) = or_left (over r.voltage p.limits.voltage) _ e
  any_over (inr (inl e)) = or_right (over r.voltage p.limits.voltage) _ (or_left (over r.current p.limits.current) _ e)
  any_over (inr (inr e)) = or_right (over r.voltage p.limits.voltage) _ (or_right (over r.current p.limits.current) _ e)

  kills_now : p.kill_enable ≡ true → OverSome p c r → kills p (excess_of p c r) ≡ true
  kills_now e o = and_from p.kill_enable _ e (any_over o)

  kill_shuts : kills p (excess_of p c r) ≡ true → shut_off p c r ≡ true
  kill_shuts e = or_right (not p.loop_closed) _ (or_right r.inhibit_low _ (or_left (kills p (excess_of p c r)) _ e))

  killed_zero : KilledIsAtZero p c r (channel_after p c r n) (level_after p c r n)
  killed_zero = record {
    killed = λ e o. let k = kills_now e o in record { at_zero = shut_zero (kill_shuts k); is_off = off_shut (kill_shuts k); stored = or_right c.kill _ k };
    kept = or_left c.kill (kills p (excess_of p c r));
  }

  arrival : Arrives p c r n (channel_after p c r n) (level_after p c r n)
  arrival = record {
    goal_on = goal_on;
    goal_off = goal_off;
    rises = λ e b h. subst (λ (l : ℕ). Rising p.ramp_step (goal_after p c r) l (level_after p c r n)) (cut_low e h) (rising cut (goal_after p c r) p.ramp_step (held_back p c r) (omega (arith, cut_low e h)) b);
    waits = λ e b h. moved_held cut (goal_after p c r) p.ramp_step (held_back p c r) (omega (arith, cut_low e h)) b ∙ cut_low e h;
    falls = λ e h. subst (λ (l : ℕ). Falling p.ramp_step (goal_after p c r) l (level_after p c r n)) (cut_open e) (falling cut (goal_after p c r) p.ramp_step (held_back p c r) (omega (arith, cut_open e)));
    reached = λ e. not_from_true (eqb (level_after p c r n) (goal_after p c r)) (eq-eqb (level_after p c r n) (goal_after p c r) e);
    underway = λ e. not_from_false (eqb (level_after p c r n) (goal_after p c r)) (ne_eqb (level_after p c r n) (goal_after p c r) e);
  }

  events_kept : Kept c.events (channel_after p c r n).events
  events_kept = kept_or c.events _ _ (kept_or c.events _ _ (kept_or c.events c.events _ (kept_self c.events)))

  pub channel_laws : ChannelLaws p c r n (channel_after p c r n) (level_after p c r n)
  channel_laws = record {
    reads_on = refl;
    within_limit = level_within p c r n;
    rises_with_leave = leave (on_after p c r) (held_back p c r) refl refl;
    off_never_rises = record { stays_low = λ e. off_low (off_either e); at_zero = shut_zero };
    killed_is_at_zero = killed_zero;
    arrives = arrival;
    events_stay = events_kept;
    signals = signals p c r n;
    left = left p c r n;
  }
