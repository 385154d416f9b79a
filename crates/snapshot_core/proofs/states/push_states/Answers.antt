use Rattle.std.proofs.Common.{take}
use Rattle.std.specs.List.{flat_map}
use Rattle.snapshot_codec.specs.Parts.{state_codec}
use Rattle.snapshot_core.proofs.Growing.{grown, same_on}
use Rattle.snapshot_core.proofs.states.push_states.Goals as goal

pub returns-in_err-push_state-clause-kept : goal.returns-in_err-push_state-clause-kept
returns-in_err-push_state-clause-kept c = same_on c.args.out.now.items c.loop-state.out.items _ (grown c.args.out.now.items (flat_map state_codec.write (take c.loop-state.state-index c.args.states.now)) c.loop-state.out.items c.loop-state.invariant) c.in_err-push_state.ensures.err

pub returns-clause-kept : goal.returns-clause-kept
returns-clause-kept c = grown c.args.out.now.items (flat_map state_codec.write (take c.loop-state.state-index c.args.states.now)) c.loop-state.out.items c.loop-state.invariant
