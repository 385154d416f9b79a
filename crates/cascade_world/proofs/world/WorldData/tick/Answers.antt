use Rattle.std.proofs.Common.{◌≡◌, ◌∙◌, ℤ, ap, sym, Some, None}
use Rattle.std.proofs.lemmas.Int.{to_z-of_z}
use Rattle.std.proofs.lemmas.Option.{slice_get_within}
use Rattle.std.specs.Prelude.{slice_get, slice_set}
use Rattle.std.specs.Option.{option_copied}
use mir.Syntax.{w64}
use Rattle.sensor_core.specs.Ticks.{tick}
use Rattle.sensor_core.specs.Timing.{timing_of}
use Rattle.cascade_world.specs.Answers.{NodeAnswer, answered}
use Rattle.cascade_world.proofs.Sensing.{tick-nowhere, tick-replies, tick-unlisted, tick-untimed, tick-world, timely}
use Rattle.cascade_world.proofs.world.WorldData.tick.Goals as goal

pub returns-in_default-clause-world : goal.returns-in_default-clause-world
returns-in_default-clause-world c =
    let none : slice_get c.args.self.now.fields c.args.node ≡ None = sym c.get.ensures ∙ ap option_copied c.in_default.is in
    ap (answered c.args.self.now) (tick-nowhere c.args.self.now c.args.node c.args.input.now.time none)

pub returns-in_default-clause-replies : goal.returns-in_default-clause-replies
returns-in_default-clause-replies c =
    let none : slice_get c.args.self.now.fields c.args.node ≡ None = sym c.get.ensures ∙ ap option_copied c.in_default.is in
    c.requires.empty ∙ ap (λ (a : NodeAnswer). a.replies) (tick-nowhere c.args.self.now c.args.node c.args.input.now.time none)

pub returns-in_default-from_fields-clause-world : goal.returns-in_default-from_fields-clause-world
returns-in_default-from_fields-clause-world c =
    let here : slice_get c.args.self.now.fields c.args.node ≡ Some c.in-Some.fields.now = sym c.get.ensures ∙ ap option_copied c.in-Some.is in
    let none : timing_of c.in-Some.fields.now ≡ None = sym c.from_fields.ensures ∙ c.in_default-from_fields.is in
    ap (answered c.args.self.now) (tick-untimed c.args.self.now c.args.node c.args.input.now.time c.in-Some.fields.now here none)

pub returns-in_default-from_fields-clause-replies : goal.returns-in_default-from_fields-clause-replies
returns-in_default-from_fields-clause-replies c =
    let here : slice_get c.args.self.now.fields c.args.node ≡ Some c.in-Some.fields.now = sym c.get.ensures ∙ ap option_copied c.in-Some.is in
    let none : timing_of c.in-Some.fields.now ≡ None = sym c.from_fields.ensures ∙ c.in_default-from_fields.is in
    c.requires.empty
    ∙ ap (λ (a : NodeAnswer). a.replies) (tick-untimed c.args.self.now c.args.node c.args.input.now.time c.in-Some.fields.now here none)

pub returns-in_default-get-clause-world : goal.returns-in_default-get-clause-world
returns-in_default-get-clause-world c =
    let here : slice_get c.args.self.now.fields c.args.node ≡ Some c.in-Some.fields.now = sym c.get.ensures ∙ ap option_copied c.in-Some.is in
    let timed : timing_of c.in-Some.fields.now ≡ Some c.in-Some-from_fields.timing = sym c.from_fields.ensures ∙ c.in-Some-from_fields.is in
    let none : slice_get c.args.self.now.sensors c.args.node ≡ None = sym c.get-2.ensures ∙ ap option_copied c.in_default-get.is in
    ap (answered c.args.self.now)
    (tick-unlisted c.args.self.now c.args.node c.args.input.now.time c.in-Some.fields.now here c.in-Some-from_fields.timing timed none)

pub returns-in_default-get-clause-replies : goal.returns-in_default-get-clause-replies
returns-in_default-get-clause-replies c =
    let here : slice_get c.args.self.now.fields c.args.node ≡ Some c.in-Some.fields.now = sym c.get.ensures ∙ ap option_copied c.in-Some.is in
    let timed : timing_of c.in-Some.fields.now ≡ Some c.in-Some-from_fields.timing = sym c.from_fields.ensures ∙ c.in-Some-from_fields.is in
    let none : slice_get c.args.self.now.sensors c.args.node ≡ None = sym c.get-2.ensures ∙ ap option_copied c.in_default-get.is in
    c.requires.empty
    ∙ ap (λ (a : NodeAnswer). a.replies)
    (tick-unlisted c.args.self.now c.args.node c.args.input.now.time c.in-Some.fields.now here c.in-Some-from_fields.timing timed none)

pub tick-requires-clause-after : goal.tick-requires-clause-after
tick-requires-clause-after c =
    let timed = timely c.time.result c.time.ensures.fits in
    rw (to_z-of_z w64 c.time.result timed.fits) timed.after

pub tick-requires-clause-late : goal.tick-requires-clause-late
tick-requires-clause-late c =
    let timed = timely c.time.result c.time.ensures.fits in
    rw (to_z-of_z w64 c.time.result timed.fits) timed.late

pub tick-requires-clause-empty : goal.tick-requires-clause-empty
tick-requires-clause-empty c = c.requires.empty

pub set-requires : goal.set-requires
set-requires c =
    slice_get_within c.args.self.now.sensors c.args.node c.in-Some-get.state.now (sym c.get-2.ensures ∙ ap option_copied c.in-Some-get.is)

pub returns-clause-world : goal.returns-clause-world
returns-clause-world c =
    let w = c.args.self.now in
    let here : slice_get c.args.self.now.fields c.args.node ≡ Some c.in-Some.fields.now = sym c.get.ensures ∙ ap option_copied c.in-Some.is in
    let timed : timing_of c.in-Some.fields.now ≡ Some c.in-Some-from_fields.timing = sym c.from_fields.ensures ∙ c.in-Some-from_fields.is in
    let listed : slice_get c.args.self.now.sensors c.args.node ≡ Some c.in-Some-get.state.now = sym c.get-2.ensures ∙ ap option_copied c.in-Some-get.is in
    let time = timely c.time.result c.time.ensures.fits in
    let ticks : c.tick.new.self ≡ (tick c.in-Some-get.state.now c.in-Some-from_fields.timing c.args.input.now.time).cycle =
    (rw (to_z-of_z w64 c.time.result time.fits) at c.tick.ensures.state)
    ∙ ap (λ (t : ℤ). (tick c.in-Some-get.state.now c.in-Some-from_fields.timing t).cycle) c.time.ensures.value in
    tick-world w c.args.node c.args.input.now.time c.in-Some.fields.now here c.in-Some-from_fields.timing timed c.in-Some-get.state.now listed
    c.set.new.self (c.set.ensures ∙ ap (slice_set w.sensors c.args.node) ticks)

pub returns-clause-replies : goal.returns-clause-replies
returns-clause-replies c =
    let here : slice_get c.args.self.now.fields c.args.node ≡ Some c.in-Some.fields.now = sym c.get.ensures ∙ ap option_copied c.in-Some.is in
    let timed : timing_of c.in-Some.fields.now ≡ Some c.in-Some-from_fields.timing = sym c.from_fields.ensures ∙ c.in-Some-from_fields.is in
    let listed : slice_get c.args.self.now.sensors c.args.node ≡ Some c.in-Some-get.state.now = sym c.get-2.ensures ∙ ap option_copied c.in-Some-get.is in
    let time = timely c.time.result c.time.ensures.fits in
    let sent : c.tick.new.out.items ≡ (tick c.in-Some-get.state.now c.in-Some-from_fields.timing c.args.input.now.time).replies =
    (rw (to_z-of_z w64 c.time.result time.fits) at c.tick.ensures.replies)
    ∙ ap (λ (t : ℤ). (tick c.in-Some-get.state.now c.in-Some-from_fields.timing t).replies) c.time.ensures.value in
    tick-replies c.args.self.now c.args.node c.args.input.now.time c.in-Some.fields.now here c.in-Some-from_fields.timing timed c.in-Some-get.state.now listed
    c.tick.new.out.items sent
