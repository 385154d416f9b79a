use Rattle.std.proofs.Common.{◌≡◌, ◌∙◌, List, ap, refl, sym, length}
use Rattle.std.proofs.lemmas.List.{length-map}
use Rattle.cascade_core.specs.Apply.{after_input, begin, begun}
use Rattle.cascade_core.specs.Course.{CourseView, ended, wiring_at, wiring_of, seen}
use Rattle.cascade_trace.specs.declared.trace.TraceLine.{TraceLine}
use Rattle.cascade_core.proofs.Gains.{IsGain}
use Rattle.pick_core.specs.Sites.{rows_of}
use Rattle.cascade_core.proofs.Inputs.{after-same, begun-scripts, gained-by, happen-fresh, input-done, input-world, settled-once}
use Rattle.cascade_core.proofs.Resting.{has_scripts_then, scripts_then}
use Rattle.cascade_core.proofs.SoundLemmas.{has_scripts-counted}
use Rattle.cascade_core.proofs.input.advance.Goals as goal

pub settle-requires-clause-fresh : goal.settle-requires-clause-fresh
settle-requires-clause-fresh g c =
    ap (λ (d : CourseView). d.settling.settled) c.in_ok-happen.ensures.course
    ∙ happen-fresh c.args.routed.now.scene (wiring_at c.args.routed.now) c.args.input.now.time (seen c.begin.new.self) c.args.input.now.cause
    (ap (λ (d : CourseView). d.settling.settled) c.begin.ensures.course)

pub deliveries-requires : goal.deliveries-requires
deliveries-requires g c =
    let scene = c.args.routed.now.scene in
    let wiring = wiring_at c.args.routed.now in
    let start : List TraceLine = c.args.course.now.live.world.trace in
    let is : seen c.settle.new.course ≡ after_input scene wiring (seen c.begin.new.self) c.args.input.now =
    after-same scene wiring (seen c.begin.new.self) (seen c.happen.new.course) (seen c.settle.new.course) c.args.input.now c.in_ok-happen.ensures.course c.in_ok-settle.ensures.course in
    let gain : IsGain start c.settle.new.course.live =
    gained-by scene wiring start (seen c.begin.new.self) (seen c.settle.new.course) c.args.input.now
    (ap (λ (d : CourseView). d.live.sent) c.begin.ensures.course) (ap (λ (d : CourseView). d.live.world.trace) c.begin.ensures.course) is in
    record { differ = rw c.as_slice-sent.ensures gain.differ }

pub returns-clause-work : goal.returns-clause-work
returns-clause-work g c =
    let scene = c.args.routed.now.scene in
    let wiring = wiring_at c.args.routed.now in
    let start : List TraceLine = c.args.course.now.live.world.trace in
    let is : seen c.settle.new.course ≡ after_input scene wiring (seen c.begin.new.self) c.args.input.now =
    after-same scene wiring (seen c.begin.new.self) (seen c.happen.new.course) (seen c.settle.new.course) c.args.input.now c.in_ok-happen.ensures.course c.in_ok-settle.ensures.course in
    let gain : IsGain start c.settle.new.course.live =
    gained-by scene wiring start (seen c.begin.new.self) (seen c.settle.new.course) c.args.input.now
    (ap (λ (d : CourseView). d.live.sent) c.begin.ensures.course) (ap (λ (d : CourseView). d.live.world.trace) c.begin.ensures.course) is in
    let all : seen c.settle.new.course ≡ after_input scene (wiring_of scene c.args.routed.now.routes) (begun scene (ended (seen c.args.course.now)) c.args.input.now) c.args.input.now =
    input-done c.args.routed.now (seen c.args.course.now) (seen c.begin.new.self) (seen c.happen.new.course) (seen c.settle.new.course) c.args.input.now
    c.requires.scene.runs c.begin.ensures.course c.begin.ensures.begun c.requires.scene.kinds c.in_ok-happen.ensures.course c.in_ok-settle.ensures.course in
    record {
      lines = gain.lines;
      gained = gain.gained;
      differ = rw gain.sources gain.differ;
      sends = ap length c.as_slice-sent.ensures ∙ sym (ap length gain.sources) ∙ length-map gain.lines (λ (l : TraceLine). l.source);
      deliveries = rw gain.sources (rw c.as_slice-sent.ensures at c.deliveries.ensures);
      once = settled-once scene (wiring_of scene c.args.routed.now.routes) (begun scene (ended (seen c.args.course.now)) c.args.input.now) c.args.input.now refl;
      settles = c.settles.ensures ∙ ap (λ (d : CourseView). length d.settling.settled) all;
    }

pub begin-requires-clause-counted : goal.begin-requires-clause-counted
begin-requires-clause-counted g c =
    has_scripts-counted (wiring_at c.args.routed.now) (seen c.args.course.now) c.requires.has_scripts

pub happen-requires : goal.happen-requires
happen-requires g c = record {
  rest = record {
    empty = c.clear.ensures.items;
    none = c.clear-2.ensures;
    boxes = c.requires.boxes ∙ ap (λ (d : CourseView). rows_of c.args.routed.now.scene d.live.world.fields) (sym c.begin.ensures.course);
    has_scripts =
        has_scripts_then
        (begun-scripts (wiring_at c.args.routed.now) (seen c.args.course.now) (seen c.begin.new.self) (begin c.args.course.now.live.world c.args.input.now) c.begin.ensures.course c.requires.has_scripts)
        c.requires.has_scripts;
  };
}

pub returns-in_err-happen-clause-scripts : goal.returns-in_err-happen-clause-scripts
returns-in_err-happen-clause-scripts g c = scripts_then (begun-scripts (wiring_at c.args.routed.now) (seen c.args.course.now) (seen c.begin.new.self) (begin c.args.course.now.live.world c.args.input.now) c.begin.ensures.course c.requires.has_scripts) c.happen.ensures.scripts

pub returns-in_err-settle-clause-scripts : goal.returns-in_err-settle-clause-scripts
returns-in_err-settle-clause-scripts g c = scripts_then (scripts_then (begun-scripts (wiring_at c.args.routed.now) (seen c.args.course.now) (seen c.begin.new.self) (begin c.args.course.now.live.world c.args.input.now) c.begin.ensures.course c.requires.has_scripts) c.happen.ensures.scripts) c.settle.ensures.scripts

pub returns-clause-world : goal.returns-clause-world
returns-clause-world g c =
    input-world c.args.routed.now.scene c.args.routed.now.routes (ended (seen c.args.course.now)) (seen c.settle.new.course) c.args.input.now
    (input-done c.args.routed.now (seen c.args.course.now) (seen c.begin.new.self) (seen c.happen.new.course) (seen c.settle.new.course) c.args.input.now
    c.requires.scene.runs c.begin.ensures.course c.begin.ensures.begun c.requires.scene.kinds c.in_ok-happen.ensures.course c.in_ok-settle.ensures.course)

pub returns-clause-rest : goal.returns-clause-rest
returns-clause-rest g c = c.in_ok-settle.ensures.rest

pub returns-clause-scripts : goal.returns-clause-scripts
returns-clause-scripts g c = scripts_then (scripts_then (begun-scripts (wiring_at c.args.routed.now) (seen c.args.course.now) (seen c.begin.new.self) (begin c.args.course.now.live.world c.args.input.now) c.begin.ensures.course c.requires.has_scripts) c.happen.ensures.scripts) c.settle.ensures.scripts
