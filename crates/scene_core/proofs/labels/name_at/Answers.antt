use Rattle.std.proofs.Common.{refl}
use Rattle.std.proofs.lemmas.Option.{slice_get_past}
use Rattle.scene_core.proofs.BehindLemmas.{found}
use Rattle.scene_core.proofs.labels.name_at.Goals as goal

pub returns-in_default : goal.returns-in_default
returns-in_default c = rw (slice_get_past c.args.nodes.now c.args.n c.in_default.ensures.lookup.3) refl

pub returns : goal.returns
returns c =
    let look = c.in-Some.ensures.lookup in
    rw (found c.args.nodes.now c.args.n c.in-Some.node.now look.3.0 look.1) c.as_ref.ensures.value
