use Rattle.std.proofs.Common.{rules, arith}
use Rattle.embed_logs.proofs.Refused.{reading_fails}
use Rattle.embed_logs.proofs.held.EmbeddedLog.append.Goals as goal

pub returns-in-Err-clause-refused : goal.returns-in-Err-clause-refused
returns-in-Err-clause-refused g c =
    let log = c.args.self.now in
    reading_fails log.head.mark log.is_open log.entries.items c.args.bytes.now _ c.in-Err.fault (search rules) (omega (arith, c.from-first.ensures, c.count.ensures)) c.in-Err.ensures.refused
