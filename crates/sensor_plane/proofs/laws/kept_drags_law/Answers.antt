use Rattle.std.proofs.Common.{rules}
use Rattle.sensor_plane.specs.Planes.{point, disable, translation}
use Rattle.sensor_plane.specs.Examples.{sent_at_each}
use Rattle.sensor_plane.proofs.laws.kept_drags_law.Goals as goal

pub returns : goal.returns
unfolding point disable translation sent_at_each
returns c = search rules
