use Rattle.std.proofs.Common.{◌≡◌, ◌∙◌, ap, sym, Some, None}
use Rattle.std.specs.Prelude.{slice_get, slice_set}
use Rattle.std.specs.Option.{option_copied}
use Rattle.std.proofs.lemmas.Option.{slice_get_within}
use Rattle.sensor_core.specs.Timing.{timing_of}
use Rattle.cascade_world.specs.Answers.{NodeAnswer, answered}
use Rattle.cascade_world.proofs.Sensing.{set-nowhere, set-replies, set-unlisted, set-untimed, set-world}
use Rattle.cascade_world.proofs.world.WorldData.set_sensor.Goals as goal

pub returns-in_default-clause-world : goal.returns-in_default-clause-world
returns-in_default-clause-world c =
    let none : slice_get c.args.self.now.fields c.args.target.node ≡ None = sym c.get.ensures ∙ ap option_copied c.in_default.is in
    ap (answered c.args.self.now) (set-nowhere c.args.self.now c.args.target c.args.value.now none)

pub returns-in_default-clause-replies : goal.returns-in_default-clause-replies
returns-in_default-clause-replies c =
    let none : slice_get c.args.self.now.fields c.args.target.node ≡ None = sym c.get.ensures ∙ ap option_copied c.in_default.is in
    c.requires.empty ∙ ap (λ (a : NodeAnswer). a.replies) (set-nowhere c.args.self.now c.args.target c.args.value.now none)

pub returns-in_default-from_fields-clause-world : goal.returns-in_default-from_fields-clause-world
returns-in_default-from_fields-clause-world c =
    let here : slice_get c.args.self.now.fields c.args.target.node ≡ Some c.in-Some.fields.now = sym c.get.ensures ∙ ap option_copied c.in-Some.is in
    let none : timing_of c.in-Some.fields.now ≡ None = sym c.from_fields.ensures ∙ c.in_default-from_fields.is in
    ap (answered c.args.self.now) (set-untimed c.args.self.now c.args.target c.args.value.now c.in-Some.fields.now here none)

pub returns-in_default-from_fields-clause-replies : goal.returns-in_default-from_fields-clause-replies
returns-in_default-from_fields-clause-replies c =
    let here : slice_get c.args.self.now.fields c.args.target.node ≡ Some c.in-Some.fields.now = sym c.get.ensures ∙ ap option_copied c.in-Some.is in
    let none : timing_of c.in-Some.fields.now ≡ None = sym c.from_fields.ensures ∙ c.in_default-from_fields.is in
    c.requires.empty
    ∙ ap (λ (a : NodeAnswer). a.replies) (set-untimed c.args.self.now c.args.target c.args.value.now c.in-Some.fields.now here none)

pub returns-in_default-get-clause-world : goal.returns-in_default-get-clause-world
returns-in_default-get-clause-world c =
    let here : slice_get c.args.self.now.fields c.args.target.node ≡ Some c.in-Some.fields.now = sym c.get.ensures ∙ ap option_copied c.in-Some.is in
    let timed : timing_of c.in-Some.fields.now ≡ Some c.in-Some-from_fields.timing = sym c.from_fields.ensures ∙ c.in-Some-from_fields.is in
    let none : slice_get c.args.self.now.sensors c.args.target.node ≡ None = sym c.get-2.ensures ∙ ap option_copied c.in_default-get.is in
    ap (answered c.args.self.now)
    (set-unlisted c.args.self.now c.args.target c.args.value.now c.in-Some.fields.now here c.in-Some-from_fields.timing timed none)

pub returns-in_default-get-clause-replies : goal.returns-in_default-get-clause-replies
returns-in_default-get-clause-replies c =
    let here : slice_get c.args.self.now.fields c.args.target.node ≡ Some c.in-Some.fields.now = sym c.get.ensures ∙ ap option_copied c.in-Some.is in
    let timed : timing_of c.in-Some.fields.now ≡ Some c.in-Some-from_fields.timing = sym c.from_fields.ensures ∙ c.in-Some-from_fields.is in
    let none : slice_get c.args.self.now.sensors c.args.target.node ≡ None = sym c.get-2.ensures ∙ ap option_copied c.in_default-get.is in
    c.requires.empty
    ∙ ap (λ (a : NodeAnswer). a.replies)
    (set-unlisted c.args.self.now c.args.target c.args.value.now c.in-Some.fields.now here c.in-Some-from_fields.timing timed none)

pub set-requires : goal.set-requires
set-requires c = record { empty = c.requires.empty }

pub set-requires-2 : goal.set-requires-2
set-requires-2 c =
    slice_get_within c.args.self.now.sensors c.args.target.node c.in-Some-get.state.now (sym c.get-2.ensures ∙ ap option_copied c.in-Some-get.is)

pub returns-clause-world : goal.returns-clause-world
returns-clause-world c =
    let w = c.args.self.now in
    let here : slice_get c.args.self.now.fields c.args.target.node ≡ Some c.in-Some.fields.now = sym c.get.ensures ∙ ap option_copied c.in-Some.is in
    let timed : timing_of c.in-Some.fields.now ≡ Some c.in-Some-from_fields.timing = sym c.from_fields.ensures ∙ c.in-Some-from_fields.is in
    let listed : slice_get c.args.self.now.sensors c.args.target.node ≡ Some c.in-Some-get.state.now = sym c.get-2.ensures ∙ ap option_copied c.in-Some-get.is in
    set-world w c.args.target c.args.value.now c.in-Some.fields.now here c.in-Some-from_fields.timing timed c.in-Some-get.state.now listed
    c.set.new.fields c.keep_timing.new.self c.set-2.new.self c.keep_timing.ensures c.set.ensures.fields
    (c.set-2.ensures ∙ ap (slice_set w.sensors c.args.target.node) c.set.ensures.state)

pub returns-clause-replies : goal.returns-clause-replies
returns-clause-replies c =
    let here : slice_get c.args.self.now.fields c.args.target.node ≡ Some c.in-Some.fields.now = sym c.get.ensures ∙ ap option_copied c.in-Some.is in
    let timed : timing_of c.in-Some.fields.now ≡ Some c.in-Some-from_fields.timing = sym c.from_fields.ensures ∙ c.in-Some-from_fields.is in
    let listed : slice_get c.args.self.now.sensors c.args.target.node ≡ Some c.in-Some-get.state.now = sym c.get-2.ensures ∙ ap option_copied c.in-Some-get.is in
    set-replies c.args.self.now c.args.target c.args.value.now c.in-Some.fields.now here c.in-Some-from_fields.timing timed c.in-Some-get.state.now listed
    c.set.new.out.items c.set.ensures.replies
