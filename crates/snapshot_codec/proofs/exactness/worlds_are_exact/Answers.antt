use Rattle.snapshot_codec.proofs.HeadLaws.{progress_exact}
use Rattle.snapshot_codec.proofs.PartLaws.{viewer_set_exact}
use Rattle.snapshot_codec.proofs.TraceLaws.{entry_exact, trace_exact}
use Rattle.snapshot_codec.proofs.exactness.worlds_are_exact.Goals as goal

pub returns-clause-progress : goal.returns-clause-progress
returns-clause-progress c = progress_exact

pub returns-clause-viewers : goal.returns-clause-viewers
returns-clause-viewers c = viewer_set_exact

pub returns-clause-entry : goal.returns-clause-entry
returns-clause-entry c = entry_exact

pub returns-clause-trace : goal.returns-clause-trace
returns-clause-trace c = trace_exact
