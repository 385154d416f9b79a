use Rattle.std.proofs.Common.{ℕ}
use Rattle.scene_core.specs.Deep.{linked}
use Rattle.scene_core.specs.Scene.{value_at}
use Rattle.scene_text.proofs.Ranges.{flat_map_range_more}
use Rattle.scene_text.proofs.places.push_nodes_within.Goals as goal

pub loop-number-preserved : goal.loop-number-preserved
loop-number-preserved c =
    let more = flat_map_range_more c.args.out.now.items (λ (number : ℕ). linked (value_at c.args.scene.now c.args.node number)) c.loop-number.number in
    cc (c.in_ok-push_nodes_at.ensures, c.loop-number.invariant)
