-- A stage that holds a world, and one that doesn't.
use Rattle.std.proofs.Common.{◌≡◌, Some, None}
use Rattle.cascade_world.specs.declared.world.WorldData.{WorldData}
use Rattle.cascade_core.specs.Course.{Scripted}
use Rattle.cascade_core.specs.Held.{Held, IfRunning, IfSpoiled, Running, Spoiled, world_in}

pub not_spoiled : (A : Type 0) (held : Held) (w : WorldData) → Some w ≡ world_in held → IfSpoiled held A
not_spoiled A (Running s) w e = tt
not_spoiled A (Spoiled n) w e = absurd cc

pub not_running : (P : Scripted → Type 0) (held : Held) → None ≡ world_in held → IfRunning held P
not_running P (Running s) e = absurd cc
not_running P (Spoiled n) e = tt
