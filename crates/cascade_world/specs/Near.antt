-- The blocks of 32 nodes that have a sensor that a pointer is inside of.
use Rattle.std.specs.Prelude.{ℕ, ◌/◌, ◌==◌, Bool}
use Rattle.cascade_world.specs.declared.aim.Inside.{Inside}

-- the sensor is in that block
abbrev pub is_near : ℕ → Inside → Bool
is_near block i = (i.sensor / 32) == block
