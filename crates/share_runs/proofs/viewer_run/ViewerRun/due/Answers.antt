use Rattle.share_runs.proofs.viewer_run.ViewerRun.due.Goals as goal

pub returns : goal.returns
returns c = (c.release.new.self, c.release.ensures, c.take_due.ensures.exact)
