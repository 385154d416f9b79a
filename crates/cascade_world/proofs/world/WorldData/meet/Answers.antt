use Rattle.std.proofs.Common.{rules, ◌≡◌, ◌∙◌, ap, sym, Some, true}
use Rattle.std.specs.Prelude.{FitsSigned, option_copied, slice_get}
use Rattle.std.proofs.lemmas.Int.{to_z-of_z}
use mir.Syntax.{w64}
use Rattle.sensor_plane.specs.declared.meeting.SensorPointer.{SensorPointer}
use Rattle.cascade_world.specs.Answers.{answered, is_met, met}
use Rattle.cascade_world.proofs.Sensing.{met-world, no_sensor_stays}
use Rattle.cascade_world.proofs.world.WorldData.meet.Goals as goal

pub returns-clause-world : goal.returns-clause-world
returns-clause-world c =
    let w = c.args.self.now in
    let scene = c.args.scene.now in
    let node = c.args.concerned.sensor in
    let state = c.state-state.result in
    let here : slice_get w.pointing node ≡ Some state = sym c.get.ensures ∙ ap option_copied c.in-Some.is ∙ ap Some (sym c.state-state.ensures) in
    let on : is_met scene w node state ≡ true = sym c.is_met.ensures ∙ c.if-not-is_met.false in
    let fits : FitsSigned w64 w.last_time = search rules in
    let fields = rw (to_z-of_z w64 w.last_time fits) at c.point.ensures.fields in
    let is = rw (to_z-of_z w64 w.last_time fits) at c.point.ensures.state in
    met-world scene w node c.at-pointer.result state here on c.point.new.state c.point.new.self c.keep.new.pointing fields is c.keep.ensures
    ∙ ap (λ (at : SensorPointer). answered w (met scene w node at)) c.at-pointer.ensures.value

pub keep-requires-clause-sensor : goal.keep-requires-clause-sensor
keep-requires-clause-sensor c kept is none =
    let w = c.args.self.now in
    let node = c.args.concerned.sensor in
    let state = c.state-state.result in
    let here : slice_get w.pointing node ≡ Some state = sym c.get.ensures ∙ ap option_copied c.in-Some.is ∙ ap Some (sym c.state-state.ensures) in
    no_sensor_stays (slice_get w.pointing node) state kept c.point.new.state (slice_get w.fields node) _ _ here is c.point.ensures.state none
