use Rattle.std.proofs.Common.{rules, ◌≡◌, ◌<◌, ◌++◌, ◌∷◌, [], length, Some, None, ◌∙◌, inr, arith, false, true}
use Rattle.app_jobs.specs.Job.{is_scene, next_input}
use Rattle.app_jobs.proofs.JobLemmas.{at_start, at_end, scene_found, step_refused, step_taken, few_more, IsNext, next_is, in_order_more}
use Rattle.app_jobs.proofs.FoundLemmas.{found}
use Rattle.app_jobs.proofs.job.job_of.Goals as goal

pub loop-rest-init : goal.loop-rest-init
loop-rest-init c = rw c.new-inputs.ensures (record { answer = at_start c.args.bytes.now; in_order = tt; few = omega arith })

pub returns-then-is_scene-clause-exact : goal.returns-then-is_scene-clause-exact
returns-then-is_scene-clause-exact c =
    let some : 0 < length c.loop-rest.rest.now = search rules in
    let passes : is_scene c.cut_line.result.0.now ≡ true = search rules in
    rw c.new.ensures (scene_found _ _ _ _ _ c.loop-rest.invariant.answer some c.cut_line.ensures.line c.cut_line.ensures.behind passes)

pub returns-then-is_scene-clause-found : goal.returns-then-is_scene-clause-found
returns-then-is_scene-clause-found c = found _ _ (returns-then-is_scene-clause-exact c)

pub returns-in_default-clause-exact : goal.returns-in_default-clause-exact
returns-in_default-clause-exact c =
    let some : 0 < length c.loop-rest.rest.now = search rules in
    let fails : is_scene c.cut_line.result.0.now ≡ false = search rules in
    let bad : next_input c.loop-rest.inputs c.cut_line.result.0.now ≡ None = search rules in
    rw c.len.ensures (inr (step_refused _ _ _ _ c.loop-rest.invariant.answer some c.cut_line.ensures.line fails bad))

pub loop-rest-preserved : goal.loop-rest-preserved
loop-rest-preserved c =
    let some : 0 < length c.loop-rest.rest.now = search rules in
    let fails : is_scene c.cut_line.result.0.now ≡ false = search rules in
    let good : next_input c.loop-rest.inputs c.cut_line.result.0.now ≡ Some c.in-Some.input = search rules in
    let next : IsNext c.loop-rest.inputs c.in-Some.input = next_is _ _ _ good in
    let more : c.push.new.self ≡ c.loop-rest.inputs ++ c.in-Some.input ∷ [] = c.in_ok-push.ensures.ok in
    rw more (record {
      answer = step_taken _ _ _ _ _ _ c.loop-rest.invariant.answer some c.cut_line.ensures.line c.cut_line.ensures.behind fails good;
      in_order = in_order_more _ _ c.loop-rest.invariant.in_order next;
      few = few_more _ _ next;
    })

pub returns-clause-exact : goal.returns-clause-exact
returns-clause-exact c =
    let none : length c.loop-rest.rest.now ≡ 0 = search rules in
    rw c.len-2.ensures (inr (c.loop-rest.invariant.answer ∙ at_end _ _ none))
