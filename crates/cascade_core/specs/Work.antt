-- The work that an input caused, by the lines that the trace gained.
use Rattle.std.specs.Prelude.{ℕ, ◌≡◌, true, ◌++◌, List, length, map, count_by}
use Rattle.scene_core.specs.declared.scene.End.{End}
use Rattle.scene_core.specs.declared.scene.Route.{Route}
use Rattle.cascade_trace.specs.Ends.{all_differ, has_sent}
use Rattle.script_slots.specs.Settling.{all_differ as scripts_differ}
use Rattle.cascade_core.specs.declared.work.Work.{Work}
use Rattle.cascade_trace.specs.declared.trace.TraceLine.{TraceLine}

-- the outputs that sent
abbrev pub sources_of : List TraceLine → List End
sources_of lines = map (λ line. line.source) lines

-- the trace gained these lines, of different outputs; the work counts the lines, the routes whose
-- source sent, and the scripts that were settled, each once
pub record IsWork (routes : List Route) (old new : List TraceLine) (settled : List ℕ) (work : Work)
    : Type 0 where
  pub lines : List TraceLine
  pub gained : new ≡ old ++ lines
  pub differ : all_differ (sources_of lines) ≡ true
  pub sends : work.sends ≡ length lines
  pub deliveries : work.deliveries ≡ count_by (λ r. has_sent (sources_of lines) r.source) routes
  pub once : scripts_differ settled ≡ true
  pub settles : work.settles ≡ length settled
