use Rattle.std.proofs.Common.{◌∙◌, ap}
use Rattle.pick_core.specs.Sites.{touches}
use Rattle.pick_core.proofs.Growing.{on_ok-by}
use Rattle.pick_core.proofs.renewal.add_at.Goals as goal

pub returns-clause-added : goal.returns-clause-added
returns-clause-added c = on_ok-by c.add_trail.result c.add_trail.ensures.added (λ f n t. f n (ap (touches n) c.as_slice.ensures.value ∙ t))
