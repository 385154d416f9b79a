-- When TimeSensors wait: as long as one is inactive, a tick before it starts does nothing.
use Rattle.std.specs.Prelude.{◌≡◌, ◌≤ℤ◌, ◌<ℤ◌, ℤ, pos, Bool, false, List}
use Rattle.std.specs.Option.{option_map_or}
use Rattle.x3d_values.specs.declared.fields.Fields.{Fields}
use Rattle.sensor_core.specs.Ticks.{is_started}
use Rattle.sensor_core.specs.Timing.{timing_of}
use Rattle.cascade_world.specs.Blocks.{AreMarked}
use Rattle.cascade_world.specs.declared.idle.Idle.{Idle}

-- an inactive TimeSensor with these fields starts at that time; no other node does
abbrev pub starts_at : Fields → ℤ → Bool
starts_at fields t = option_map_or (λ timing. is_started timing t) (timing_of fields) false

-- a node with these fields starts at no time of this time span
abbrev pub IsIdle : Fields → Idle → Type 0
IsIdle fields idle = (t : ℤ) → idle.from ≤ℤ t → t <ℤ idle.until → starts_at fields t ≡ false

-- the empty time span
abbrev pub no_time : Idle
no_time = record { from = pos 0; until = pos 0 }

-- no node starts in the time span of its block
abbrev pub AreIdle : List Fields → List Idle → Type 0
AreIdle nodes idles = AreMarked IsIdle nodes idles
