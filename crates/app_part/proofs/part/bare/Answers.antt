use Rattle.std.proofs.Common.{rules}
use Rattle.app_part.proofs.Empty.{bare_fails}
use Rattle.app_part.proofs.part.bare.Goals as goal

pub returns-in-Err-clause-refused : goal.returns-in-Err-clause-refused
returns-in-Err-clause-refused c =
    bare_fails c.args.document.now c.args.mends.now c.push_blames-pushed.new.mends c.as_slice-2.result.now c.in-Err.refused.fault c.in-Err.refused.blames
    (search rules) c.as_slice-2.ensures c.in-Err.ensures.refused
