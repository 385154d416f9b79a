use Rattle.script_boxes.proofs.OneFit.{one_fit}
use Rattle.script_boxes.proofs.laws.fitting_boxes_are_one.Goals as goal

pub returns : goal.returns
returns c = one_fit
