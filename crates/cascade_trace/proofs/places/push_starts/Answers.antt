use Rattle.std.proofs.Common.{length}
use Rattle.cascade_trace.proofs.Marks.{rising-push}
use Rattle.cascade_trace.proofs.places.push_starts.Goals as goal

pub loop-node-init : goal.loop-node-init
loop-node-init c = record { rising = c.requires.rising; unset = c.requires.unset }

pub loop-node-preserved : goal.loop-node-preserved
loop-node-preserved c = record {
  rising = c.in_ok-push_node.ensures.rising;
  unset = c.in_ok-push_node.ensures.unset;
}

pub returns-clause-rising : goal.returns-clause-rising
returns-clause-rising c =
    rw (c.in_ok-push.ensures.items, c.len.ensures, c.loop-node.bits.ok.0)
    (rising-push c.loop-node.starts.items (length c.loop-node.bits.items) c.loop-node.invariant.rising)

pub returns-clause-unset : goal.returns-clause-unset
returns-clause-unset c = c.loop-node.invariant.unset
