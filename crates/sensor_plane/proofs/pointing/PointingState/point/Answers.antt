use Rattle.std.proofs.Common.{◌∙◌, ap, sym}
use Rattle.std.proofs.lemmas.Int.{to_z-of_z}
use Rattle.std.specs.Prelude.{FitsSigned}
use mir.Syntax.{w64}
use Rattle.sensor_plane.specs.declared.pointing.PointingState.{PointingState}
use Rattle.sensor_plane.specs.Meeting.{pointed}
use Rattle.sensor_plane.proofs.pointing.PointingState.point.Goals as goal

pub returns-in-Touch-clause-state : goal.returns-in-Touch-clause-state
unfolding pointed
returns-in-Touch-clause-state c =
    let fits : FitsSigned w64 c.args.time = c.ranges.time in
    let met = rw (to_z-of_z w64 c.args.time fits) at c.touch.ensures.state c.args.fields.now in
    met ∙ ap (λ (s : PointingState). (pointed s c.args.fields.now c.args.pointer.now c.args.time).state) (sym c.in-Touch.is)

pub returns-in-Touch-clause-replies : goal.returns-in-Touch-clause-replies
unfolding pointed
returns-in-Touch-clause-replies c =
    let fits : FitsSigned w64 c.args.time = c.ranges.time in
    let sent = rw (to_z-of_z w64 c.args.time fits) at c.touch.ensures.replies c.args.fields.now in
    sent ∙ ap (λ (s : PointingState). (pointed s c.args.fields.now c.args.pointer.now c.args.time).replies) (sym c.in-Touch.is)
