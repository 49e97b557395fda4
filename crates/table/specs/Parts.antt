-- A table in which one part is another.
use Rattle.std.specs.Prelude.{ℕ, Bool, List, Option, slice_set, Float}
use Rattle.table.specs.declared.records.Channel.{Channel}
use Rattle.table.specs.declared.records.Conditions.{Conditions}
use Rattle.table.specs.declared.records.Groups.{Groups}
use Rattle.table.specs.declared.records.Half.{Half}
use Rattle.table.specs.declared.records.Table.{Table}

-- the upper half u, held for the lower half at the offset a
abbrev pub half : ℕ → ℕ → Half
half a u = record { awaited = a; word = u }

abbrev pub with_channels : Table → List Channel → Table
with_channels t x = record { model = t.model; channels = x; held = t.held; kill_enable = t.kill_enable; events = t.events; mask = t.mask; channel_events = t.channel_events; channel_mask = t.channel_mask; speed = t.speed; conditions = t.conditions; groups = t.groups }

abbrev pub with_held : Table → Option Half → Table
with_held t x = record { model = t.model; channels = t.channels; held = x; kill_enable = t.kill_enable; events = t.events; mask = t.mask; channel_events = t.channel_events; channel_mask = t.channel_mask; speed = t.speed; conditions = t.conditions; groups = t.groups }

abbrev pub with_kill_enable : Table → Bool → Table
with_kill_enable t x = record { model = t.model; channels = t.channels; held = t.held; kill_enable = x; events = t.events; mask = t.mask; channel_events = t.channel_events; channel_mask = t.channel_mask; speed = t.speed; conditions = t.conditions; groups = t.groups }

abbrev pub with_events : Table → ℕ → Table
with_events t x = record { model = t.model; channels = t.channels; held = t.held; kill_enable = t.kill_enable; events = x; mask = t.mask; channel_events = t.channel_events; channel_mask = t.channel_mask; speed = t.speed; conditions = t.conditions; groups = t.groups }

abbrev pub with_mask : Table → ℕ → Table
with_mask t x = record { model = t.model; channels = t.channels; held = t.held; kill_enable = t.kill_enable; events = t.events; mask = x; channel_events = t.channel_events; channel_mask = t.channel_mask; speed = t.speed; conditions = t.conditions; groups = t.groups }

abbrev pub with_channel_events : Table → ℕ → Table
with_channel_events t x = record { model = t.model; channels = t.channels; held = t.held; kill_enable = t.kill_enable; events = t.events; mask = t.mask; channel_events = x; channel_mask = t.channel_mask; speed = t.speed; conditions = t.conditions; groups = t.groups }

abbrev pub with_channel_mask : Table → ℕ → Table
with_channel_mask t x = record { model = t.model; channels = t.channels; held = t.held; kill_enable = t.kill_enable; events = t.events; mask = t.mask; channel_events = t.channel_events; channel_mask = x; speed = t.speed; conditions = t.conditions; groups = t.groups }

abbrev pub with_speed : Table → Float → Table
with_speed t x = record { model = t.model; channels = t.channels; held = t.held; kill_enable = t.kill_enable; events = t.events; mask = t.mask; channel_events = t.channel_events; channel_mask = t.channel_mask; speed = x; conditions = t.conditions; groups = t.groups }

abbrev pub with_conditions : Table → Conditions → Table
with_conditions t x = record { model = t.model; channels = t.channels; held = t.held; kill_enable = t.kill_enable; events = t.events; mask = t.mask; channel_events = t.channel_events; channel_mask = t.channel_mask; speed = t.speed; conditions = x; groups = t.groups }

abbrev pub with_groups : Table → Groups → Table
with_groups t x = record { model = t.model; channels = t.channels; held = t.held; kill_enable = t.kill_enable; events = t.events; mask = t.mask; channel_events = t.channel_events; channel_mask = t.channel_mask; speed = t.speed; conditions = t.conditions; groups = x }

abbrev pub with_channel : Table → ℕ → Channel → Table
with_channel t k c = with_channels t (slice_set t.channels k c)
