use Rattle.std.proofs.Common.{◌≡◌, ◌≤◌, length}
use Rattle.x3d_values.specs.Ranges.{max_inputs}
use Rattle.cascade_core.specs.InOrder.{AreInOrder}
use Rattle.app_jobs.specs.Job.{job_lines}
use Rattle.app_jobs.proofs.JobLemmas.{left_of}
use Rattle.app_jobs.proofs.job.job_of.Given as goal

abbrev pub invariant-loop-rest : goal.invariant-loop-rest
invariant-loop-rest l = record {
  answer : job_lines l.bytes ≡ left_of l.inputs l.rest;
  in_order : AreInOrder l.inputs;
  few : length l.inputs ≤ max_inputs;
}

abbrev pub decreases-loop-rest : goal.decreases-loop-rest
decreases-loop-rest l = length l.rest
