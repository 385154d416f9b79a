use Rattle.scene_core.specs.Places.{places_below}
use Rattle.scene_core.proofs.Counts.{counted-together}
use Rattle.scene_core.proofs.places.has_too_many_places.Goals as goal

pub returns : goal.returns
returns c =
    rw (c.together.ensures, c.as_slice.ensures.value)
    (counted-together c.in_ok-counts.counts.items (places_below c.args.nodes.now 64) c.args.roots.now c.in_ok-counts.ensures)
