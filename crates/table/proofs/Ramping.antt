-- Where a round can move a level.
use Rattle.std.proofs.Common.{ℕ, ◌+◌, ◌-◌, ◌≤◌, min, Bool, cond, ltb, arith}
use Rattle.std.proofs.lemmas.Bool.{ltb-false, cond_both}
use Rattle.values.specs.Steps.{set_steps}
use Rattle.table.specs.declared.records.Channel.{Channel}
use Rattle.table.specs.declared.round.Pass.{Pass}
use Rattle.table.specs.declared.round.Reading.{Reading}
use Rattle.table.specs.Round.{goal_of, moved_level, level_after, judged, start_level}

-- what is at most b, and moves to a goal that is, stays at most b
pub moved_at_most : (b level goal step : ℕ) (held : Bool) → level ≤ b → goal ≤ b → moved_level level goal step held ≤ b
moved_at_most b level goal step held l h =
    cond_both (ltb goal level) (level - min step (level - goal)) (cond held level (level + min step (goal - level))) (λ (n : ℕ). n ≤ b)
    (λ t. omega arith)
    (λ f. cond_both held level (level + min step (goal - level)) (λ (n : ℕ). n ≤ b) (λ t. l) (λ g. omega (arith, ltb-false goal level f)))

pub goal_at_most : (p : Pass) (c : Channel) → goal_of p c ≤ p.limit_steps
goal_at_most p c =
    cond_both c.on (min (set_steps p.model c.setpoint.voltage) p.limit_steps) 0 (λ (n : ℕ). n ≤ p.limit_steps) (λ t. omega arith) (λ f. omega arith)

-- no round leaves a level above the limit steps
pub level_within : (p : Pass) (c : Channel) (r : Reading) (level : ℕ) → level_after p c r level ≤ p.limit_steps
level_within p c r level =
    moved_at_most p.limit_steps (min (start_level p c r level) p.limit_steps) (goal_of p (judged p c r)) p.ramp_step _ (omega arith) (goal_at_most p (judged p c r))
