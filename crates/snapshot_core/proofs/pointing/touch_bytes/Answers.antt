use Rattle.std.proofs.Common.{rules}
use Rattle.sensor_core.specs.Parts.{parts_of_touch}
use Rattle.snapshot_core.proofs.pointing.touch_bytes.Goals as goal

pub returns : goal.returns
unfolding parts_of_touch
returns c = search rules
