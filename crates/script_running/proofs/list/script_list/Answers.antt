use Rattle.std.proofs.Common.{◌∙◌}
use Rattle.script_running.proofs.Listing.{next_listed}
use Rattle.script_running.proofs.list.script_list.Goals as goal

pub loop-node-preserved : goal.loop-node-preserved
loop-node-preserved c =
    rw c.in_ok-push_script.ensures (next_listed _ _ _ _ c.loop-node-test.true ∙ c.loop-node.invariant)
