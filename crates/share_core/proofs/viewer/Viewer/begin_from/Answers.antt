use Rattle.std.proofs.Common.{refl}
use Rattle.share_core.proofs.Joins.{begun_from, begun_not}
use Rattle.share_core.proofs.viewer.Viewer.begin_from.Goals as goal

pub returns-clause-step : goal.returns-clause-step
returns-clause-step g c =
    begun_from c.args.self.now c.args.pieces.now c.args.boot c.in-Some.bytes.now c.begin_again.result c.joined.result c.begin_again.new.self.state (rw c.in-Some.is at c.whole.ensures) c.begin_again.ensures.step c.joined.ensures

pub returns-in_default-clause-step : goal.returns-in_default-clause-step
returns-in_default-clause-step g c = begun_not c.args.self.now c.args.pieces.now c.args.boot c.args.self.now.state (rw c.in_default.is at c.whole.ensures) refl
