use Rattle.std.proofs.Common.{rules}
use Rattle.cascade_core.proofs.boxes.put_boxes.Goals as goal

pub returns : goal.returns
returns c = search rules
