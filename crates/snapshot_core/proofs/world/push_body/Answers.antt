use Rattle.std.proofs.Common.{length, rules}
use Rattle.cascade_core.specs.Scripts.{kinds_in}
use Rattle.scene_core.specs.Scene.{shapes_of}
use Rattle.snapshot_core.proofs.Growing.{extends_on, grown, same_on}
use Rattle.snapshot_core.proofs.WorldLaws.{body_written}
use Rattle.snapshot_core.proofs.world.push_body.Goals as goal

pub returns-clause-ok : goal.returns-clause-ok
returns-clause-ok c =
    let scene = c.args.scene.now in
    body_written c.args.version scene c.args.boot (record { world = c.args.world.now; states = c.args.states.now }) c.args.out.now.items c.push_progress.new.out.items c.push_nodes.new.out.items c.push_buttons.new.out.items c.push_states.new.out.items c.push_lines.new.out.items
    (search rules) c.in_ok-push_nodes.ensures.ok (search rules) (c.in_ok-push_states.ensures.ok (length (kinds_in scene))) (c.in_ok-push_lines.ensures.ok (shapes_of scene))

pub returns-in_err-push_nodes-clause-kept : goal.returns-in_err-push_nodes-clause-kept
returns-in_err-push_nodes-clause-kept c = extends_on _ _ _ (grown c.args.out.now.items _ c.push_progress.new.out.items c.in_ok-push_progress.ensures.ok) c.in_err-push_nodes.ensures.kept

pub returns-in_err-push_buttons-clause-kept : goal.returns-in_err-push_buttons-clause-kept
returns-in_err-push_buttons-clause-kept c = same_on _ _ _ (extends_on _ _ _ (grown c.args.out.now.items _ c.push_progress.new.out.items c.in_ok-push_progress.ensures.ok) c.in_ok-push_nodes.ensures.kept) c.in_err-push_buttons.ensures.err

pub returns-in_err-push_states-clause-kept : goal.returns-in_err-push_states-clause-kept
returns-in_err-push_states-clause-kept c =
    extends_on _ _ _ (extends_on _ _ _ (extends_on _ _ _ (grown c.args.out.now.items _ c.push_progress.new.out.items c.in_ok-push_progress.ensures.ok) c.in_ok-push_nodes.ensures.kept) (grown c.push_nodes.new.out.items _ c.push_buttons.new.out.items c.in_ok-push_buttons.ensures.ok)) c.in_err-push_states.ensures.kept

pub returns-in_err-push_lines-clause-kept : goal.returns-in_err-push_lines-clause-kept
returns-in_err-push_lines-clause-kept c =
    extends_on _ _ _ (extends_on _ _ _ (extends_on _ _ _ (extends_on _ _ _ (grown c.args.out.now.items _ c.push_progress.new.out.items c.in_ok-push_progress.ensures.ok) c.in_ok-push_nodes.ensures.kept) (grown c.push_nodes.new.out.items _ c.push_buttons.new.out.items c.in_ok-push_buttons.ensures.ok)) c.in_ok-push_states.ensures.kept) c.in_err-push_lines.ensures.kept

pub returns-clause-kept : goal.returns-clause-kept
returns-clause-kept c =
    extends_on _ _ _ (extends_on _ _ _ (extends_on _ _ _ (extends_on _ _ _ (grown c.args.out.now.items _ c.push_progress.new.out.items c.in_ok-push_progress.ensures.ok) c.in_ok-push_nodes.ensures.kept) (grown c.push_nodes.new.out.items _ c.push_buttons.new.out.items c.in_ok-push_buttons.ensures.ok)) c.in_ok-push_states.ensures.kept) c.in_ok-push_lines.ensures.kept
