use Rattle.app_standby.proofs.Readings.{from-base, of-all}
use Rattle.app_standby.proofs.origin.begin.Goals as goal

pub returns-in-None-clause-log : goal.returns-in-None-clause-log
returns-in-None-clause-log c =
    of-all c.args.origin.now.mark c.args.origin.now.viewers c.args.origin.now.base c.args.entries.now c.resume.result c.in-None.is c.resume.ensures.host c.resume.ensures.log

pub returns-in-Some-clause-log : goal.returns-in-Some-clause-log
returns-in-Some-clause-log c =
    from-base c.args.origin.now.viewers c.args.origin.now.base c.in-Some.base c.args.entries.now c.resume_from.result c.in-Some.is c.resume_from.ensures.log
