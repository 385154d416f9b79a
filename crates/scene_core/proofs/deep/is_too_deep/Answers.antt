use Rattle.scene_core.proofs.Heights.{too-deep}
use Rattle.scene_core.proofs.deep.is_too_deep.Goals as goal

pub returns : goal.returns
returns c = rw (c.is_any_over.ensures, c.as_slice.ensures.value) (too-deep _ _ c.in_ok-heights.ensures)
