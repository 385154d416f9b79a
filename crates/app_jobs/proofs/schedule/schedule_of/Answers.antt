use Rattle.std.proofs.Common.{rules, ◌≡◌, ◌<◌, ◌++◌, ◌∷◌, [], length, Some, None, inr, false, true}
use Rattle.app_jobs.specs.Job.{is_scene}
use Rattle.app_jobs.specs.Schedule.{step_of}
use Rattle.app_jobs.proofs.ScheduleLemmas.{at_start, at_end, scene_found, step_refused, step_taken, found}
use Rattle.app_jobs.proofs.schedule.schedule_of.Goals as goal

pub loop-rest-init : goal.loop-rest-init
loop-rest-init c = rw c.new-steps.ensures (at_start c.args.bytes.now)

pub returns-then-is_scene-clause-exact : goal.returns-then-is_scene-clause-exact
returns-then-is_scene-clause-exact c =
    let some : 0 < length c.loop-rest.rest.now = search rules in
    let passes : is_scene c.cut_line.result.0.now ≡ true = search rules in
    let scene : c.in_ok-scene.scene ≡ c.cut_line.result.1.now = c.in_ok-scene.ensures in
    rw scene (scene_found _ _ _ _ _ c.loop-rest.invariant some c.cut_line.ensures.line c.cut_line.ensures.behind passes)

pub returns-then-is_scene-clause-found : goal.returns-then-is_scene-clause-found
returns-then-is_scene-clause-found c = found _ _ (returns-then-is_scene-clause-exact c)

pub returns-in_default-clause-exact : goal.returns-in_default-clause-exact
returns-in_default-clause-exact c =
    let some : 0 < length c.loop-rest.rest.now = search rules in
    let fails : is_scene c.cut_line.result.0.now ≡ false = search rules in
    let bad : step_of c.cut_line.result.0.now ≡ None = search rules in
    rw (c.line_behind.ensures, c.len.ensures) (inr (step_refused _ _ _ _ c.loop-rest.invariant some c.cut_line.ensures.line fails bad))

pub loop-rest-preserved : goal.loop-rest-preserved
loop-rest-preserved c =
    let some : 0 < length c.loop-rest.rest.now = search rules in
    let fails : is_scene c.cut_line.result.0.now ≡ false = search rules in
    let good : step_of c.cut_line.result.0.now ≡ Some c.in-Some.step = search rules in
    let more : c.push.new.self ≡ c.loop-rest.steps ++ c.in-Some.step ∷ [] = c.in_ok-push.ensures.ok in
    rw more (step_taken _ _ _ _ _ _ c.loop-rest.invariant some c.cut_line.ensures.line c.cut_line.ensures.behind fails good)

pub returns-clause-exact : goal.returns-clause-exact
returns-clause-exact c =
    let none : length c.loop-rest.rest.now ≡ 0 = search rules in
    rw (c.line_behind-2.ensures, c.len-2.ensures) (inr (at_end _ _ _ c.loop-rest.invariant none))
