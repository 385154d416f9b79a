use Rattle.app_logs.specs.Beginning.{IsNotResumed}
use Rattle.app_logs.proofs.Recalls.{not_written}
use Rattle.app_logs.proofs.recalling.written_in.Goals as goal

pub returns-in-Err-clause-refused : goal.returns-in-Err-clause-refused
returns-in-Err-clause-refused c =
    let f = c.in_ok-found.ensures.found in
    let why : IsNotResumed c.in_ok-found.found.head.viewers c.in_ok-found.found.base c.in_ok-found.found.entries.items c.in-Err.fault = c.in-Err.ensures.refused in
    not_written c.args.bytes.now f.0 c.in-Err.fault f.1 (rw (f.2, f.3, f.4) why)
