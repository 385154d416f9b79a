use Rattle.std.proofs.Common.{◌≡◌, ◌∙◌, ap, arith, length, get_or}
use Rattle.std.specs.Prelude.{count_by}
use Rattle.scene_core.specs.declared.scene.End.{End}
use Rattle.scene_core.specs.declared.scene.Route.{Route}
use Rattle.cascade_trace.specs.Ends.{same_end}
use Rattle.cascade_trace.proofs.RoutePlaces.{length-places}
use Rattle.cascade_trace.proofs.Counting.{followed-none, followed-more}
use Rattle.cascade_trace.proofs.followed.deliveries.Goals as goal

pub loop-source-init : goal.loop-source-init
loop-source-init c = followed-none c.args.routes.now

pub loop-source-preserved : goal.loop-source-preserved
loop-source-preserved c =
    let source : End = get_or c.args.sent.now c.loop-source.source-index (record { node = 0; field = 0 }) in
    let one : length c.from_output.result.now ≡ count_by (λ (r : Route). same_end r.source source) c.args.routes.now =
    ap length c.from_output.ensures ∙ length-places c.args.routes.now source in
    omega (
      arith,
      one,
      c.loop-source.invariant,
      followed-more c.args.routes.now c.args.sent.now c.loop-source.source-index (record { node = 0; field = 0 }) c.requires.differ c.loop-source-test.true,
    )
