use Rattle.std.proofs.Common.{◌≡◌, take}
use Rattle.std.specs.Prelude.{flat_map}
use Rattle.scene_text.specs.Places.{ends_of}
use Rattle.scene_text.proofs.places.ends.Given as goal

abbrev pub invariant-loop-route : goal.invariant-loop-route
invariant-loop-route l = l.found.items ≡ flat_map ends_of (take l.route-index l.routes)
