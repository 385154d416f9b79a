use Rattle.std.proofs.Common.{◌∙◌, ap, set-set, List}
use Rattle.std.specs.Prelude.{slice_set}
use Rattle.sensor_plane.specs.declared.pointing.PointingState.{PointingState}
use Rattle.cascade_world.proofs.pointing.keep.Goals as goal

pub returns : goal.returns
returns c =
    let pointing = c.args.pointing.now in
    let node = c.args.node in
    c.set.ensures
    ∙ ap (λ (all : List PointingState). slice_set all node c.keep.new.self) c.replace-slot.ensures.after
    ∙ set-set pointing node c.empty.result c.keep.new.self
    ∙ ap (slice_set pointing node) c.keep.ensures
