-- The records of a new module.
use Rattle.std.specs.Prelude.{true, false, replicate, None, from_bits, Float}
use Rattle.std.specs.Float.{binary32}
use Rattle.values.specs.declared.model.Model.{Model}
use Rattle.values.specs.Model.{nominal_current}
use Rattle.table.specs.Both.{Amounts, Flags}
use Rattle.table.specs.declared.records.Findings.{Findings}
use Rattle.table.specs.declared.records.Channel.{Channel}
use Rattle.table.specs.declared.records.Conditions.{Conditions}
use Rattle.table.specs.declared.records.Groups.{Groups}
use Rattle.table.specs.declared.records.Table.{Table}

abbrev pub zero : Float
zero = from_bits binary32 0

abbrev pub one : Float
one = from_bits binary32 0x3F80_0000

abbrev pub nothing : Amounts
nothing = record { voltage = zero; current = zero }

abbrev pub neither : Flags
neither = record { voltage = false; current = false }

abbrev pub no_findings : Findings
no_findings = record { over = neither; inhibited = false; outside = neither; control = neither }

-- CurrentSet is CurrentNominal; everything else is 0 or off
abbrev pub new_channel : Model → Channel
new_channel m = record {
  findings = no_findings;
  kill = false;
  emergency = false;
  ramping = false;
  on = false;
  error = false;
  events = 0;
  mask = 0;
  setpoint = record { voltage = zero; current = nominal_current m };
  bounds = nothing;
  measured = nothing;
}

-- supply and loop count as good, and so does a temperature of 0
abbrev pub new_conditions : Conditions
new_conditions = record { temperature = zero; supply_good = true; loop_closed = true; maxima = nothing }

abbrev pub new_groups : Groups
new_groups = record { setpoint = nothing; bounds = nothing; emergency = 0; on_off = 0 }

-- VoltageRampSpeed is 1; everything else is 0, off or absent
abbrev pub new_table : Model → Table
new_table m = record {
  model = m;
  channels = replicate 12 (new_channel m);
  held = None;
  kill_enable = false;
  events = 0;
  mask = 0;
  channel_events = 0;
  channel_mask = 0;
  speed = one;
  conditions = new_conditions;
  groups = new_groups;
}
