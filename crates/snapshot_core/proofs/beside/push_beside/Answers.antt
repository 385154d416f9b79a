use Rattle.snapshot_core.proofs.Growing.{extends_on, grown, same_on}
use Rattle.snapshot_core.proofs.beside.push_beside.Goals as goal

pub returns-in_err-push_pointing-clause-kept : goal.returns-in_err-push_pointing-clause-kept
returns-in_err-push_pointing-clause-kept c = same_on _ _ _ (grown c.args.out.now.items _ c.push_time.new.out.items c.in_ok-push_time.ensures.ok) c.in_err-push_pointing.ensures.err

pub returns-in_err-push_place-clause-kept : goal.returns-in_err-push_place-clause-kept
returns-in_err-push_place-clause-kept c =
    same_on _ _ _ (extends_on _ _ _ (grown c.args.out.now.items _ c.push_time.new.out.items c.in_ok-push_time.ensures.ok) (grown c.push_time.new.out.items _ c.push_pointing.new.out.items c.in_ok-push_pointing.ensures.ok)) c.in_err-push_place.ensures.err

pub returns-clause-kept : goal.returns-clause-kept
returns-clause-kept c =
    extends_on _ _ _ (extends_on _ _ _ (grown c.args.out.now.items _ c.push_time.new.out.items c.in_ok-push_time.ensures.ok) (grown c.push_time.new.out.items _ c.push_pointing.new.out.items c.in_ok-push_pointing.ensures.ok)) (grown c.push_pointing.new.out.items _ c.push_place.new.out.items c.in_ok-push_place.ensures.ok)
