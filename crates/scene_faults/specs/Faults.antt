-- All faults of an expanded document that a node or a route alone tells.
use Rattle.std.specs.Prelude.{List, ◌++◌}
use Rattle.proto_flat.specs.declared.flat.Flat.{Flat}
use Rattle.scene_faults.specs.Ends.{all_routes}
use Rattle.scene_faults.specs.Fields.{scene_blames}
use Rattle.scene_faults.specs.declared.blame.Blame.{Blame}

abbrev pub flat_blames : Flat → List Blame
flat_blames flat = scene_blames flat ++ all_routes flat
