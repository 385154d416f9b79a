use Rattle.std.proofs.Common.{refl}
use Rattle.std.proofs.lemmas.Option.{slice_get_past}
use Rattle.scene_core.proofs.BehindLemmas.{found}
use Rattle.scene_core.proofs.places.is_sensor.Goals as goal

pub returns-in-Some : goal.returns-in-Some
returns-in-Some c =
    let look = c.in-Some.ensures.lookup in
    rw (found c.args.nodes.now c.args.n c.in-Some.node.now look.3.0 look.1) c.is_pointing.ensures

pub returns-in-None : goal.returns-in-None
returns-in-None c = rw (slice_get_past c.args.nodes.now c.args.n c.in-None.ensures.lookup.3) refl
