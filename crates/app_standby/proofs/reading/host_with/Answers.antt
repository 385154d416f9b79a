use Rattle.app_standby.proofs.Readings.{begun, followed}
use Rattle.app_standby.proofs.reading.host_with.Goals as goal

pub returns-in-Hosting-clause-log : goal.returns-in-Hosting-clause-log
returns-in-Hosting-clause-log g c =
    followed c.args.origin.now c.args.now c.in-Hosting.hosting (g.L.Log.known c.args.log.now) c.args.new.now (g.L.Log.is_clean c.args.log.now) c.follow.result c.in-Hosting.is c.follow.ensures.log

pub returns-in-Behind-clause-log : goal.returns-in-Behind-clause-log
returns-in-Behind-clause-log g c =
    begun c.args.origin.now c.args.now c.entries.result.now (g.L.Log.known c.args.log.now) c.args.new.now (g.L.Log.is_clean c.args.log.now) c.begin.result
    c.entries.ensures c.begin.ensures.log
