use Rattle.snapshot_core.proofs.Growing.{extends_on, grown}
use Rattle.snapshot_core.proofs.saving.push_shot.Goals as goal

pub returns-in_err-push_body-clause-kept : goal.returns-in_err-push_body-clause-kept
returns-in_err-push_body-clause-kept c = extends_on _ _ _ (grown c.args.out.now.items _ c.push_front.new.out.items c.in_ok-push_front.ensures.ok) c.in_err-push_body.ensures.kept
