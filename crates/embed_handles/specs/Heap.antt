-- The heap that a handle's block lies on.
use Rattle.std.specs.declared.alloc.Global.{Global}

-- the heap; there is only one
abbrev pub heap : Global
heap = record { memory = record { seal = tt } }
