use Rattle.std.proofs.Common.{◌≡◌, ◌-◌}
use Rattle.std.specs.List.{fold, range_with_len}
use Rattle.scene_core.specs.Scene.{types_of}
use Rattle.cascade_core.specs.Course.{seen}
use Rattle.cascade_core.specs.Resting.{HasSameScripts, IsAtRest}
use Rattle.cascade_world.specs.Nodes.{is_of}
use Rattle.cascade_core.specs.Walks.{where_passes}
use Rattle.cascade_core.proofs.walk.walk_range.Given as goal

-- the course now, after the nodes that are left, is what the definition gives for all of them
abbrev pub invariant-loop-node : goal.invariant-loop-node
invariant-loop-node g l = record {
  rest : IsAtRest l.routed l.buffers (seen l.course);
  scripts : HasSameScripts (seen l.fn.course) (seen l.course);
  done :
      fold (where_passes (is_of g.V.VisitsNodes.wanted (types_of l.routed.scene)) (g.V.VisitsNodes.step l.visitor l.routed)) (seen l.course) (range_with_len l.node (l.end - l.node))
      ≡ fold (where_passes (is_of g.V.VisitsNodes.wanted (types_of l.routed.scene)) (g.V.VisitsNodes.step l.visitor l.routed)) (seen l.fn.course) (range_with_len l.start (l.end - l.start));
}
